-- The grammar of the parser of versions is that of versions.
use Rattle.std.specs.Prelude.{◌≡◌, ◌^◌, ℕ, List, [], None, Option}
use Rattle.std.specs.declared.vec.Vec.{Vec}
use Rattle.std.proofs.Common.{refl, inl, inr, arith}
use Rattle.examples.specs.Version.Version.{InWord, Number, Numbers, Slice, Version, Words}
use Rattle.winnow.specs.AsChar.{IsDecDigit}
use Rattle.winnow.specs.Counted.{counted_reading}
use Rattle.winnow.specs.Grammar.{Both, Optional}
use Rattle.winnow.specs.Grammar.Inversion.{Byte}
use Rattle.winnow.specs.Numeral.Texts.{number_of}
use Rattle.winnow.specs.Range.{from_to}
use Rattle.winnow.specs.Texts.{Anything, AtEnd, TextsStartWith, BothText, InFront, IsGrammarOf}
use Rattle.winnow.specs.Texts.{Itself, Members, NotFirst, OptionalText}
use Rattle.winnow.specs.Texts.Fronts.{both_front, front_any, front_begins, front_may}
use Rattle.winnow.specs.Texts.Fronts.{may_begin_none, none_begins, optional_front, spelled_begins}
use Rattle.winnow.specs.Texts.Parts.{both_of, optional_of, three_of}
use Rattle.winnow.specs.Texts.Rows.{list_of, parted_of}
use Rattle.winnow.specs.Texts.Tokens.{byte_of, class_of}
use Rattle.examples.specs.Version.Read.{DottedRead, NumberRead, NumbersRead, VersionRead, WordRead}
use Rattle.examples.specs.Version.Read.{WordsRead}

number : IsGrammarOf (NumberRead counted_reading (λ b. b) Byte) Number (NotFirst IsDecDigit)
number = number_of (2 ^ 64) (omega arith)

dotted_of : IsGrammarOf (DottedRead counted_reading (λ b. b) Byte)
    (BothText (λ n dot. n) Number (Itself 46)) Anything
dotted_of = both_of (λ n dot. n) number (byte_of 46)
    (front_begins (λ t e is. omega (arith, e, is.0)) (spelled_begins 46 [] 46))

numbers_of : IsGrammarOf (NumbersRead counted_reading (λ b. b) Byte) Numbers
    (NotFirst IsDecDigit)
numbers_of = three_of (λ major (others : ℕ × ℕ). (major, others.0, others.1))
    (λ minor patch. (minor, patch)) dotted_of dotted_of number front_any front_any

word_of : IsGrammarOf (WordRead counted_reading (λ b. b) Byte) (Members counted_reading InWord 1)
    (NotFirst InWord)
word_of = class_of counted_reading InWord (λ b. b) 1

dot_ends : (b : ℕ) → b ≡ 46 → InWord b → ⊥
dot_ends b e (inl (inl (inl (low, high)))) = omega (arith, e, low)
dot_ends b e (inl (inl (inr (low, high)))) = omega (arith, e, low)
dot_ends b e (inl (inr (low, high))) = omega (arith, e, low)
dot_ends b e (inr hyphen) = omega (arith, e, hyphen)

words_of : {A : Type 0}
    → IsGrammarOf (WordsRead counted_reading (λ b. b) Byte {A = A}) Words AtEnd
words_of = list_of (parted_of word_of (byte_of 46) (front_begins dot_ends (spelled_begins 46 [] 46))
    front_any (from_to 1 None) 1 refl (λ rest end. may_begin_none (λ b. InWord b → ⊥) rest end)
    (λ rest end. none_begins (byte_of 46) (spelled_begins 46 [] 46) rest
    (may_begin_none (λ b. b ≡ 46 → ⊥) rest end))
    (λ rest none end. absurd (omega (arith, none))))

-- a hyphen and words, or nothing
abbrev Rest : {A : Type 0} → Option (Vec Slice A) → List ℕ → Type 0
Rest {A} = OptionalText (BothText (λ hyphen words. words) (Itself 45) (Words {A = A}))

hyphen_begins : {A : Type 0}
    → TextsStartWith (λ b. b ≡ 45) (BothText (λ hyphen words. words) (Itself 45) (Words {A = A}))
hyphen_begins = both_front (λ hyphen words. words) (spelled_begins 45 [] 45) front_any

rest_of : {A : Type 0} → IsGrammarOf (Optional (Both (λ hyphen words. words) (Byte 45)
    (WordsRead counted_reading (λ b. b) Byte {A = A}))) Rest AtEnd
rest_of =
    let some = both_of (λ hyphen words. words) (byte_of 45) words_of front_any in
    optional_of some (λ rest end. none_begins some hyphen_begins rest
    (may_begin_none (λ b. b ≡ 45 → ⊥) rest end))

-- neither begins with a digit
no_digit_first : {A : Type 0} → InFront (Rest {A = A}) AtEnd (NotFirst IsDecDigit)
no_digit_first = front_may {these = λ b. b ≡ 45} (λ b e is. omega (arith, e, is.0))
    (λ rest end. may_begin_none (λ d. IsDecDigit d → ⊥) rest end)
    (optional_front (front_begins (λ b is. is) hyphen_begins))

pub version_of : {A : Type 0}
    → IsGrammarOf (VersionRead counted_reading (λ b. b) Byte {A = A}) Version AtEnd
unfolding Version
version_of = both_of (λ numbers words. (numbers, words)) numbers_of rest_of no_digit_first
