use Rattle.readers.proofs.TrailLemmas.{value_told}
use Rattle.readers.proofs.ini.parts.value_text.Goals as goal

pub returns : goal.returns
returns c = value_told _ _ _ c.without_trailing.ensures c.text.ensures
