-- The length that Content-Length fields say, by the texts that they have.
use Rattle.std.specs.Prelude.{◌↔◌, ℕ, List, Option, Some, None, Err}
use Rattle.std.specs.Borrow.{Bor}
use Rattle.std.proofs.Common.{refl, sym, subst, ◌∙◌, inl, inr}
use Rattle.parser_definitions.specs.Digits.{value_in}
use Rattle.format_http.specs.Bodies.Framing.{Answer, IsDeclaredLength, IsSameLength}
use Rattle.format_http.specs.Bodies.Framing.{IsTextLength}
use Rattle.format_http.specs.Bodies.Lengths.{HasLength}
use Rattle.format_http.specs.Bodies.Lists.{IsThe}
use Rattle.format_http.specs.Bodies.Fields.{IsNumber}
use Rattle.format_http.specs.Heads.Head.{Pair}
use Rattle.format_http.specs.declared.bodies.framing.FramingError.TheVariants.{LengthIsNoNumber}

-- The fields have these texts.
abbrev pub Tell : List Pair → Option (Bor (List ℕ)) → Type 0
Tell fields found = (text : List ℕ) → HasLength text fields ↔ IsThe found text

-- where there is one text, it says the length
pub one_declared : (fields : List Pair) (slice : Bor (List ℕ)) (answer : Answer)
    → Tell fields (Some slice) → IsTextLength slice.now answer → IsDeclaredLength fields answer
one_declared fields slice answer told is = inl (
  (λ text other x y. sym ((told text).0 x) ∙ (told other).0 y),
  by is,
)
  where
    by : IsTextLength slice.now answer → IsSameLength fields answer
    by (inl (number, x)) =
        inl (value_in 10 slice.now, (slice.now, (told slice.now).1 refl, number, refl), x)
    by (inr (not, e)) = inr (
      (λ n (text, has, number, value). not (subst IsNumber (sym ((told text).0 has)) number)),
      e,
    )

pub none_declared : (fields : List Pair) → Tell fields None
    → IsDeclaredLength fields (Err LengthIsNoNumber)
none_declared fields told = inl (
  (λ text other x y. absurd ((told text).0 x)),
  inr ((λ n (text, has, number, value). absurd ((told text).0 has)), refl),
)
