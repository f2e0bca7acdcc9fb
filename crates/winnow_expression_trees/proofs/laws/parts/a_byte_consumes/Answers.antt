use Rattle.std.specs.Prelude.{◌≡◌, ◌∷◌, []}
use Rattle.winnow_expression_trees.proofs.PremisesDecidedLemmas.{byte_moves}
use Rattle.winnow_expression_trees.proofs.laws.parts.a_byte_consumes.Goals as goal

pub returns : goal.returns
returns g c b = byte_moves (λ b xs. xs ≡ b ∷ []) (λ b xs is. is) (λ s _. s) g.E.HasKind.form b
