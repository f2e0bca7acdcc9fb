use Rattle.winnow_escapes.specs.Controls.{literal_settles}
use Rattle.winnow_escapes.proofs.laws.a_byte_control_is_settled.Goals as goal

pub returns : goal.returns
returns g c never = literal_settles g.I.Stream.reading g.I.Compare.spells (λ s slice. s) never
