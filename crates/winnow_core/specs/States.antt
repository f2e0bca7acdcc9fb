-- States of two parts.
use Rattle.std.specs.Prelude.{◌≡◌}
use Rattle.std.proofs.Common.{ap, ◌∙◌}

pub pair_is : {A B : Type 0} {t s : A × B} → t.0 ≡ s.0 → t.1 ≡ s.1 → t ≡ s
pair_is {t = t} {s = s} e f = ap (λ x. (x, t.1)) e ∙ ap (λ y. (s.0, y)) f
