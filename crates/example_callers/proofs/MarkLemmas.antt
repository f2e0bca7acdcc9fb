-- A byte, with which a closure is called, and another byte.
use Rattle.std.specs.Prelude.{◌≡◌, ℕ}
use Rattle.std.proofs.Common.{ap, subst, ◌∙◌}
use Rattle.example_callers.specs.Marks.{StepsOnce}
use Rattle.winnow.specs.EqualDefinition.{AlikePairs, MadeAlike, StepsAlike}
use Rattle.winnow.specs.Shown.{SeenSame}

module _ {G : Type 0} (step : G → ℕ → ℕ → G → Type 0) (once : StepsOnce step) where
  -- bytes that are seen as equal are equal
  pub steps_alike : StepsAlike (SeenSame (λ (k : ℕ). k)) step
  steps_alike f o p u v g h same a b =
      (once f p u v g h (subst (λ z. step f z u g) same a) b).1

  -- so are outputs for equal bytes
  pub marks_alike : (o p : ℕ × ℕ)
      → AlikePairs (MadeAlike (SeenSame (λ (k : ℕ). k)) step) (SeenSame (λ (k : ℕ). k)) o p → o ≡ p
  marks_alike o p ((f, k, l, g, h, same, a, b), e) =
      ap (λ x. (x, o.1)) (once f l o.0 p.0 g h (subst (λ z. step f z o.0 g) same a) b).0
      ∙ ap (λ y. (p.0, y)) e
