-- One byte more of a number, or of a word, in front of the rest.
use Rattle.std.specs.Prelude.{◌≡◌, ◌==◌, ◌||◌, ◌∷◌, ℕ, [], List, None, Option, Some, false, true}
use Rattle.std.specs.List.{All}
use Rattle.std.proofs.Common.{arith, inl, inr, refl, sym}
use Rattle.std.proofs.lemmas.Bool.Decides.{nat_tests}
use Rattle.std.proofs.lemmas.List.Elements.{All-cons, All-nil}
use Rattle.streams.specs.Equal.{true_is_false}
use Rattle.format_json_texts.specs.Number.{ContinuesNumber}
use Rattle.format_json_extents.proofs.Matching.{one_byte_text, then_of_parts}
use Rattle.format_json_extents.specs.Number.{IsDigit, IsDigits, IsExponent, IsSign}
use Rattle.format_json_extents.specs.Texts.{IsByte, Maybe, Then}
use Rattle.format_json_pieces.proofs.Completions.{AfterInteger, CompletesFigure, in_front}
use Rattle.format_json_pieces.proofs.Completions.Strings.{if_by_cases}
use Rattle.format_json_pieces.specs.Inside.{continues_number, figure_behind, is_digit}
use Rattle.format_json_pieces.specs.Inside.{is_exponent_letter, may_be_last}
use Rattle.format_json_pieces.specs.declared.inside.Figure.{Figure}
use Rattle.format_json_pieces.specs.declared.inside.Figure.TheVariants as figures

-- `text` is the rest of a number, if the number goes on
abbrev pub CompletesNext : Option Figure → List ℕ → Type 0
CompletesNext None text = ⊥
CompletesNext (Some figure) text = CompletesFigure figure text

digit : (b : ℕ) → is_digit b ≡ true → IsDigit b
digit b e = grind (arith, nat_tests, e)

module _ (b : ℕ) (text : List ℕ) where
  abbrev Next : Option Figure → Type 0
  Next next = CompletesNext next text

  exponent : is_exponent_letter b ≡ true → Then (Maybe (IsByte IsSign)) IsDigits text
      → IsExponent (b ∷ text)
  exponent e x = then_of_parts (b ∷ []) text (one_byte_text (grind (arith, nat_tests, e)) refl)
      x refl

  digits : {R : List ℕ → Type 0} → is_digit b ≡ true → Then (All IsDigit) R text
      → Then (All IsDigit) R (b ∷ text)
  digits e = in_front (b ∷ []) (λ l all. All-cons IsDigit b l (digit b e) all)

  some_digits : is_digit b ≡ true → (l : List ℕ) → All IsDigit l → IsDigits (b ∷ l)
  some_digits e l all = then_of_parts (b ∷ []) l (one_byte_text (digit b e) refl) all refl

  parts_behind : (is_exponent_letter b ≡ true → Then (Maybe (IsByte IsSign)) IsDigits text
      → AfterInteger (b ∷ text))
      × (b == 46 ≡ true → Then IsDigits (Maybe IsExponent) text → AfterInteger (b ∷ text))
  parts_behind = (
    λ e x. then_of_parts [] (b ∷ text) (inl refl) (inr (exponent e x)) refl,
    λ e x. in_front (b ∷ [])
        (λ l d. inr (then_of_parts (b ∷ []) l (one_byte_text (grind (arith, nat_tests, e)) refl)
        d refl)) x,
  )

  no_digits : AfterInteger (b ∷ text) → Then (All IsDigit) AfterInteger (b ∷ text)
  no_digits x = then_of_parts [] (b ∷ text) (All-nil IsDigit) x refl

  pub figure_back : (figure : Figure) → Next (figure_behind figure b)
      → CompletesFigure figure (b ∷ text)
  figure_back figures.Minus =
      if_by_cases (λ n. Next n → CompletesFigure figures.Minus (b ∷ text)) (b == 48) _ _
      (λ e x. then_of_parts (b ∷ []) text
      (inl (one_byte_text (grind (arith, nat_tests, e)) refl)) x refl) (λ zero.
      if_by_cases (λ n. Next n → CompletesFigure figures.Minus (b ∷ text)) (is_digit b) _ _
      (λ e x. in_front (b ∷ []) (λ l all. inr (then_of_parts (b ∷ []) l
      (one_byte_text (grind (arith, nat_tests, e, zero)) refl) all refl)) x) (λ e x. absurd x))
  figure_back figures.Zero =
      if_by_cases (λ n. Next n → AfterInteger (b ∷ text)) (b == 46) _ _
      (λ e x. parts_behind.1 e x) (λ f.
      if_by_cases (λ n. Next n → AfterInteger (b ∷ text)) (is_exponent_letter b) _ _
      (λ e x. parts_behind.0 e x)
      (λ e x. absurd x))
  figure_back figures.Whole =
      if_by_cases (λ n. Next n → CompletesFigure figures.Whole (b ∷ text)) (is_digit b) _ _
      (λ e x. digits e x) (λ d.
      if_by_cases (λ n. Next n → CompletesFigure figures.Whole (b ∷ text)) (b == 46) _ _
      (λ e x. no_digits (parts_behind.1 e x)) (λ f.
      if_by_cases (λ n. Next n → CompletesFigure figures.Whole (b ∷ text))
      (is_exponent_letter b) _ _
      (λ e x. no_digits (parts_behind.0 e x)) (λ e x. absurd x)))
  figure_back figures.Point =
      if_by_cases (λ n. Next n → CompletesFigure figures.Point (b ∷ text)) (is_digit b) _ _
      (λ e x. in_front (b ∷ []) (some_digits e) x) (λ e x. absurd x)
  figure_back figures.Fraction =
      if_by_cases (λ n. Next n → CompletesFigure figures.Fraction (b ∷ text)) (is_digit b) _ _
      (λ e x. digits e x) (λ d.
      if_by_cases (λ n. Next n → CompletesFigure figures.Fraction (b ∷ text))
      (is_exponent_letter b) _ _
      (λ e x. then_of_parts [] (b ∷ text) (All-nil IsDigit) (inr (exponent e x)) refl)
      (λ e x. absurd x))
  figure_back figures.Exponent =
      if_by_cases (λ n. Next n → CompletesFigure figures.Exponent (b ∷ text))
      (b == 43 || b == 45) _ _
      (λ e x. then_of_parts (b ∷ []) text
      (inr (one_byte_text (grind (arith, nat_tests, e)) refl)) x refl) (λ s.
      if_by_cases (λ n. Next n → CompletesFigure figures.Exponent (b ∷ text)) (is_digit b) _ _
      (λ e x. then_of_parts [] (b ∷ text) (inl refl) (some_digits e text x) refl) (λ e x. absurd x))
  figure_back figures.Sign =
      if_by_cases (λ n. Next n → IsDigits (b ∷ text)) (is_digit b) _ _ (λ e x. some_digits e text x)
      (λ e x. absurd x)
  figure_back figures.Power =
      if_by_cases (λ n. Next n → All IsDigit (b ∷ text)) (is_digit b) _ _
      (λ e x. All-cons IsDigit b text (digit b e) x) (λ e x. absurd x)

false_true : false ≡ true → ⊥
false_true e = true_is_false (sym e)

-- A number may be complete.
pub figure_done : (figure : Figure) → may_be_last figure ≡ true → CompletesFigure figure []
figure_done figures.Zero e = then_of_parts [] [] (inl refl) (inl refl) refl
figure_done figures.Whole e =
    then_of_parts [] [] (All-nil IsDigit) (then_of_parts [] [] (inl refl) (inl refl) refl) refl
figure_done figures.Fraction e = then_of_parts [] [] (All-nil IsDigit) (inl refl) refl
figure_done figures.Power e = All-nil IsDigit
figure_done _ e = absurd (false_true e)

-- A byte that does not continue a number is none that may.
pub goes_not : (b : ℕ) → continues_number b ≡ false → ContinuesNumber b → ⊥
goes_not b e is = grind (arith, nat_tests, e, is)
