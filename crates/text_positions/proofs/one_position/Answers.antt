use Rattle.text_positions.proofs.PositionLemmas.{one_place}
use Rattle.text_positions.proofs.one_position.Goals as goal

pub returns : goal.returns
returns c = one_place
