-- Lemmas about one step of the search for an element that is no transfer coding.
use Rattle.std.specs.Prelude.{◌≡◌, ◌↔◌, ◌<◌, ℕ, List, ◌∷◌, length}
use Rattle.std.proofs.Common.{inl, inr, subst, sym}
use Rattle.format_http.specs.Bodies.Codings.{HasInvalid, IsCoding}
use Rattle.format_http.specs.Bodies.Lists.{IsElement}

module _ (part : List ℕ) (more : List (List ℕ)) (coding : List ℕ)
    (el : (e : List ℕ) → IsElement e part ↔ coding ≡ e)
    (valid : 0 < length coding → (IsCoding coding → ⊥) → ⊥) where
  -- a part whose element is empty or a coding changes nothing
  pub valid_part : HasInvalid more ↔ HasInvalid (part ∷ more)
  valid_part = (there, back)
    where
      there : HasInvalid more → HasInvalid (part ∷ more)
      there (e, x, some, none) = (e, inr x, some, none)

      back : HasInvalid (part ∷ more) → HasInvalid more
      back (e, inl is, some, none) =
          let P : List ℕ → Type 0 = λ l. 0 < length l in
          let Q : List ℕ → Type 0 = λ l. IsCoding l → ⊥ in
          let same = sym ((el e).0 is) in absurd (valid (subst P same some) (subst Q same none))
      back (e, inr x, some, none) = (e, x, some, none)
