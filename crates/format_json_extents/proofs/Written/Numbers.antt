-- Numbers are the texts of some slice.
use Rattle.std.proofs.Common.{◌++◌, ◌<◌, ◌∙◌, ◌∷◌, ◌≡◌, ◌⊎◌, [], ℕ, List, ap, append_assoc}
use Rattle.std.proofs.Common.{arith, inl, inr, refl, sym}
use Rattle.format_json_extents.proofs.Matching.{one_byte_text, then_of_parts}
use Rattle.format_json_extents.proofs.Written.{Written, either_written, in_written, maybe_written}
use Rattle.format_json_extents.proofs.Written.{one_written, run_one_written, run_written}
use Rattle.format_json_extents.proofs.Written.{shown_written, then_written}
use Rattle.format_json_extents.specs.Number.{IsDigit, IsDigits, IsExponent, IsExponentLetter}
use Rattle.format_json_extents.specs.Number.{IsNonzeroDigit, IsNumber, IsSign}
use Rattle.format_json_extents.specs.Texts.{Either, IsByte, Maybe, Then}
use Rattle.format_json_texts.specs.Number.{ExponentText, NumberText}
use Rattle.format_parts.specs.Words.{Run, latter, pair, to_four}

-- ---- numbers

abbrev pub Same : (List ℕ → Type 0) → (List ℕ → Type 0) → Type 0
Same P Q = ((cs : List ℕ) → P cs → Q cs) × ((cs : List ℕ) → Q cs → P cs)

pub as_written : {A O : Type 0} {P Q : List ℕ → Type 0} {text : O → List ℕ → Type 0} → Same P Q
    → Written A P text → Written A Q text
as_written (there, back) p = record {
  set = λ e o cs x. there (e.on cs) (p.set e o cs x);
  value = λ cs front rest fits is. p.value cs front rest fits (back front is);
}

either_byte : (P Q : ℕ → Type 0) → Same (Either (IsByte P) (IsByte Q)) (IsByte (λ b. P b ⊎ Q b))
either_byte P Q = (there, λ cs is. back cs is.byte is.is_byte is.alone)
  where
    there : (cs : List ℕ) → Either (IsByte P) (IsByte Q) cs → IsByte (λ b. P b ⊎ Q b) cs
    there cs (inl is) = one_byte_text (inl is.is_byte) is.alone
    there cs (inr is) = one_byte_text (inr is.is_byte) is.alone

    back : (cs : List ℕ) (b : ℕ) → P b ⊎ Q b → cs ≡ b ∷ [] → Either (IsByte P) (IsByte Q) cs
    back cs b (inl is) e = inl (one_byte_text is e)
    back cs b (inr is) e = inr (one_byte_text is e)

pub swap : {X Y : Type 0} → X ⊎ Y → Y ⊎ X
swap (inl x) = inr x
swap (inr y) = inl y

swap_byte : (P Q : ℕ → Type 0) → Same (IsByte (λ b. P b ⊎ Q b)) (IsByte (λ b. Q b ⊎ P b))
swap_byte P Q = (
  λ cs is. one_byte_text (swap is.is_byte) is.alone,
  λ cs is. one_byte_text (swap is.is_byte) is.alone,
)

then_assoc : (P Q R : List ℕ → Type 0) → Same (Then (Then P Q) R) (Then P (Then Q R))
then_assoc P Q R = (
  λ cs is.
      let front = is.is_first in
      then_of_parts front.first (front.second ++ is.second) front.is_first
      (then_of_parts front.second is.second front.is_second is.is_second refl)
      (is.joins ∙ ap (λ l. l ++ is.second) front.joins
      ∙ append_assoc front.first front.second is.second),
  λ cs is.
      let rest = is.is_second in
      then_of_parts (is.first ++ rest.first) rest.second
      (then_of_parts is.first rest.first is.is_first rest.is_first refl) rest.is_second
      (is.joins ∙ ap (λ l. is.first ++ l) rest.joins
      ∙ sym (append_assoc is.first rest.first rest.second)),
)

digit_low : (b : ℕ) → IsDigit b → b < 128
digit_low b is = omega (arith, is)

digits_written : {A : Type 0} → Written A IsDigits (Run IsDigit 1)
digits_written = run_one_written IsDigit digit_low

exponent_written : {A : Type 0} → Written A IsExponent ExponentText
exponent_written =
    as_written (then_assoc (IsByte IsExponentLetter) (Maybe (IsByte IsSign)) IsDigits)
    (then_written latter (then_written pair (as_written (swap_byte (λ b. b ≡ 101) (λ b. b ≡ 69))
    (as_written (either_byte (λ b. b ≡ 101) (λ b. b ≡ 69))
    (either_written (one_written 101 (omega arith)) (one_written 69 (omega arith)))))
    (maybe_written (as_written (either_byte (λ b. b ≡ 43) (λ b. b ≡ 45))
    (either_written (one_written 43 (omega arith)) (one_written 45 (omega arith))))))
    digits_written)

pub number_written : {A : Type 0} → Written A IsNumber NumberText
number_written =
    shown_written (then_written to_four (maybe_written (one_written 45 (omega arith)))
    (then_written pair (either_written (shown_written (one_written 48 (omega arith)))
    (shown_written (then_written pair (in_written IsNonzeroDigit (λ b is. omega (arith, is)))
    (run_written IsDigit IsDigit digit_low (λ c is. is) (λ c is. is)))))
    (then_written pair
    (maybe_written (then_written latter (one_written 46 (omega arith)) digits_written))
    (maybe_written exponent_written))))
