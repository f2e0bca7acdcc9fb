-- Numbers of JSON (RFC 8259, section 6): what is read, and what is written.
use Rattle.std.specs.Prelude.{◌≡◌, ◌⊎◌, ◌≤◌, ℕ, List, [], ◌++◌, Option, Some, None}
use Rattle.std.proofs.Common.{sym, subst, inl, inr, ◌∙◌, arith}
use Rattle.streams.specs.Text.{text_reading}
use Rattle.stream_sets.specs.AsChar.{IsDecDigit}
use Rattle.grammars.specs.Grammar.{Both, Either, Grammar, Optional, Taken}
use Rattle.grammars.specs.Grammar.Tuples.{Four}
use Rattle.grammars.specs.Texts.{Anything, StartsWith, TextsStartWith, BothText, EitherText}
use Rattle.grammars.specs.Texts.{InFront}
use Rattle.grammars.specs.Texts.{IsGrammarOf, NotFirst, OptionalText, TakenText, Text}
use Rattle.grammars.specs.Texts.Fronts.{begins_more, begins_wider, both_front, either_front}
use Rattle.grammars.specs.Texts.Fronts.{front_any, front_begins, front_behind, front_whole}
use Rattle.grammars.specs.Texts.Fronts.{none_begins, not_first, optional_front, spelled_begins}
use Rattle.grammars.specs.Texts.Fronts.{taken_front}
use Rattle.grammars.specs.Texts.Parts.{behind_less, both_of, either_apart, optional_of, same_of}
use Rattle.grammars.specs.Texts.Parts.{taken_of}
use Rattle.format_parts.specs.Words.{Char, FourTexts, In, One, OneIn, Run, RunOf, char_of}
use Rattle.format_parts.specs.Words.{four_same, in_begins, in_of, latter, pair, run_begins, run_of}
use Rattle.format_parts.specs.Words.{to_four}
use Rattle.format_parts.specs.Words.{Slice}

-- a digit from 1 to 9
abbrev pub IsNonzeroDigit : ℕ → Type 0
IsNonzeroDigit c = (49 ≤ c) × (c ≤ 57)

-- the letter E or e
abbrev pub IsExponentLetter : ℕ → Type 0
IsExponentLetter c = (c ≡ 101) ⊎ (c ≡ 69)

-- ---- what is written

-- int = zero / ( digit1-9 *DIGIT )
abbrev pub IntegerText : Text ℕ Slice
IntegerText =
    EitherText (TakenText text_reading (One 48))
    (TakenText text_reading (BothText pair (In IsNonzeroDigit) (Run IsDecDigit 0)))

-- frac = decimal-point 1*DIGIT
abbrev pub FractionText : Text ℕ Slice
FractionText = BothText latter (One 46) (Run IsDecDigit 1)

-- exp = e [ minus / plus ] 1*DIGIT
abbrev pub ExponentText : Text ℕ Slice
ExponentText =
    BothText latter (BothText pair (EitherText (One 101) (One 69))
    (OptionalText (EitherText (One 43) (One 45))))
    (Run IsDecDigit 1)

-- number = [ minus ] int [ frac ] [ exp ]
abbrev pub NumberText : Text ℕ Slice
NumberText =
    TakenText text_reading
    (FourTexts (OptionalText (One 45)) IntegerText (OptionalText FractionText)
    (OptionalText ExponentText))

-- ---- what is read

-- a zero, or a digit from 1 on and all digits after it
abbrev pub Integer : Grammar ℕ Slice
Integer =
    Either (Taken text_reading (Char 48))
    (Taken text_reading (Both pair (OneIn IsNonzeroDigit) (RunOf IsDecDigit 0)))

-- a point, and all digits after it, at least one
abbrev pub Fraction : Grammar ℕ Slice
Fraction = Both latter (Char 46) (RunOf IsDecDigit 1)

-- an E, an optional sign, and all digits after it, at least one
abbrev pub Exponent : Grammar ℕ Slice
Exponent =
    Both latter (Both pair (Either (Char 101) (Char 69)) (Optional (Either (Char 43) (Char 45))))
    (RunOf IsDecDigit 1)

-- an optional minus, digits, an optional fraction and an optional exponent
abbrev pub Number : Grammar ℕ Slice
Number =
    Taken text_reading (Four (Optional (Char 45)) Integer (Optional Fraction) (Optional Exponent))

-- ---- the one reads the other

-- a character that can continue a number: a digit, a point or an E
abbrev pub ContinuesNumber : ℕ → Type 0
ContinuesNumber c = IsDecDigit c ⊎ ((c ≡ 46) ⊎ IsExponentLetter c)

integer_of : IsGrammarOf Integer IntegerText (NotFirst IsDecDigit)
integer_of =
    either_apart (taken_of text_reading (behind_less (λ rest b. tt) (char_of 48)))
    (taken_of text_reading (both_of pair (in_of IsNonzeroDigit) (run_of IsDecDigit 0)
    front_any)) (taken_front text_reading (spelled_begins 48 [] 48))
    (taken_front text_reading (both_front pair
    (front_begins (λ c is zero. absurd (omega (arith, is, zero))) (in_begins IsNonzeroDigit))
    front_any))

integer_begins : TextsStartWith IsDecDigit IntegerText
integer_begins =
    either_front (taken_front text_reading
    (front_whole (begins_more _ _ (λ c is. omega (arith, is)))
    (spelled_begins 48 [] 48)))
    (taken_front text_reading (both_front pair
    (front_whole (begins_more _ _ (λ c is. omega (arith, is))) (in_begins IsNonzeroDigit))
    front_any))

fraction_of : IsGrammarOf Fraction FractionText (NotFirst IsDecDigit)
fraction_of = both_of latter (char_of 46) (run_of IsDecDigit 1) front_any

fraction_begins : TextsStartWith (λ c. c ≡ 46) FractionText
fraction_begins = both_front latter (spelled_begins 46 [] 46) front_any

-- one of two characters
one_or_other : (c d : ℕ) → (c ≡ d → ⊥)
    → IsGrammarOf (Either (Char c) (Char d)) (EitherText (One c) (One d)) Anything
one_or_other c d apart =
    either_apart (char_of c) (char_of d) (spelled_begins c [] c)
    (front_begins (λ x e f. apart (sym f ∙ e)) (spelled_begins d [] d))

one_or_other_begins : (c d : ℕ) → TextsStartWith (λ x. (x ≡ c) ⊎ (x ≡ d))
    (EitherText (One c) (One d))
one_or_other_begins c d =
    either_front (begins_wider (λ x e. inl e) (spelled_begins c [] c))
    (begins_wider (λ x e. inr e) (spelled_begins d [] d))

exponent_of : IsGrammarOf Exponent ExponentText (NotFirst IsDecDigit)
exponent_of =
    both_of latter
    (both_of pair (one_or_other 101 69 (λ e. absurd (omega (arith, e))))
    (optional_of (behind_less (λ rest b. tt) sign)
    (none_begins sign (one_or_other_begins 43 45))) front_any) (run_of IsDecDigit 1)
    (front_begins no_sign (run_begins IsDecDigit))
  where
    sign : IsGrammarOf (Either (Char 43) (Char 45)) (EitherText (One 43) (One 45)) Anything
    sign = one_or_other 43 45 (λ e. absurd (omega (arith, e)))

    no_sign : (c : ℕ) → IsDecDigit c → (c ≡ 43) ⊎ (c ≡ 45) → ⊥
    no_sign c is (inl e) = absurd (omega (arith, is, e))
    no_sign c is (inr e) = absurd (omega (arith, is, e))

exponent_begins : TextsStartWith IsExponentLetter ExponentText
exponent_begins = both_front latter (both_front pair (one_or_other_begins 101 69) front_any)
    front_any

pub number_of : IsGrammarOf Number NumberText (NotFirst ContinuesNumber)
number_of =
    taken_of text_reading
    (same_of (four_same (Optional (Char 45)) Integer (Optional Fraction) (Optional Exponent))
    (both_of to_four minus
    (both_of pair integer_of
    (both_of pair fraction exponent before_exponent) behind_integer) behind_minus))
  where
    IsPoint : ℕ → Type 0
    IsPoint c = IsDecDigit c ⊎ (c ≡ 46)

    minus : IsGrammarOf (Optional (Char 45)) (OptionalText (One 45)) (NotFirst (λ c. c ≡ 45))
    minus = optional_of (behind_less (λ rest b. tt) (char_of 45))
        (none_begins (char_of 45) (spelled_begins 45 [] 45))

    fraction : IsGrammarOf (Optional Fraction) (OptionalText FractionText) (NotFirst IsPoint)
    fraction = optional_of (behind_less (not_first _ _ (λ c is. inl is)) fraction_of)
        (λ rest not. none_begins fraction_of fraction_begins rest
        (not_first _ _ (λ c is. inr is) rest not))

    exponent : IsGrammarOf (Optional Exponent) (OptionalText ExponentText)
        (NotFirst ContinuesNumber)
    exponent = optional_of (behind_less (not_first _ _ (λ c is. inl is)) exponent_of)
        (λ rest not. none_begins exponent_of exponent_begins rest
        (not_first _ _ (λ c is. inr (inr is)) rest not))

    no_point : (c : ℕ) → IsExponentLetter c → IsPoint c → ⊥
    no_point c (inl e) (inl d) = absurd (omega (arith, e, d))
    no_point c (inr e) (inl d) = absurd (omega (arith, e, d))
    no_point c (inl e) (inr d) = absurd (omega (arith, e, d))
    no_point c (inr e) (inr d) = absurd (omega (arith, e, d))

    less : (c : ℕ) → IsPoint c → ContinuesNumber c
    less c (inl d) = inl d
    less c (inr d) = inr (inl d)

    before_exponent : InFront (OptionalText ExponentText) (NotFirst ContinuesNumber)
        (NotFirst IsPoint)
    before_exponent = front_behind (not_first IsPoint ContinuesNumber less)
        (optional_front (front_begins no_point exponent_begins))

    behind_integer : InFront (BothText pair (OptionalText FractionText) (OptionalText ExponentText))
        (NotFirst ContinuesNumber) (NotFirst IsDecDigit)
    behind_integer = both_front pair
        (optional_front (front_begins (λ c is d. absurd (omega (arith, is, d))) fraction_begins))
        (front_whole (not_first _ _ (λ c is. inl is)) before_exponent)

    behind_minus : InFront (BothText pair IntegerText
        (BothText pair (OptionalText FractionText) (OptionalText ExponentText)))
        (NotFirst ContinuesNumber) (NotFirst (λ c. c ≡ 45))
    behind_minus = both_front pair
        (front_begins (λ c is e. absurd (omega (arith, is, e))) integer_begins) front_any

-- what begins in a set, where a text may be left out, begins in a larger one
pub number_begins : TextsStartWith (λ c. (c ≡ 45) ⊎ IsDecDigit c) NumberText
unfolding OptionalText
number_begins =
    taken_front text_reading (both_front to_four (record { makes = minus })
    (both_front pair integer_begins front_any))
  where
    minus : (o : Option ℕ) (xs rest : List ℕ) → OptionalText (One 45) o xs
        → StartsWith IsDecDigit rest
        → StartsWith (λ c. (c ≡ 45) ⊎ IsDecDigit c) (xs ++ rest)
    minus None xs rest e b =
        let P : List ℕ → Type 0 = λ l. StartsWith (λ c. (c ≡ 45) ⊎ IsDecDigit c) (l ++ rest) in
        subst P (sym e)
        (begins_more IsDecDigit (λ c. (c ≡ 45) ⊎ IsDecDigit c) (λ c is. inr is) rest b)
    minus (Some o) xs rest x b =
        begins_more (λ c. c ≡ 45) (λ c. (c ≡ 45) ⊎ IsDecDigit c) (λ c is. inl is) (xs ++ rest)
        ((spelled_begins 45 [] 45).makes o xs rest x tt)
