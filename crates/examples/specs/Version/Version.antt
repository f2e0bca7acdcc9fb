-- A version.
use Rattle.std.specs.Prelude.{◌≡◌, ◌⊎◌, ◌^◌, ℕ, List, Option}
use Rattle.std.specs.Borrow.{Bor}
use Rattle.std.specs.declared.vec.Vec.{Vec}
use Rattle.winnow.specs.AsChar.{IsAlphanum}
use Rattle.winnow.specs.Counted.{counted_reading}
use Rattle.winnow.specs.Numeral.Texts.{NumberText}
use Rattle.winnow.specs.Texts.{AtLeast, BothText, InList, Itself, Members, OptionalText, PartedText}
use Rattle.winnow.specs.Texts.{Text}

-- a slice of the bytes
abbrev pub Slice : Type 0
Slice = Bor (List ℕ)

-- number = what `{}` writes of a number below 2 ^ 64
abbrev pub Number : Text ℕ ℕ
Number = NumberText (2 ^ 64)

-- numbers = number "." number "." number
abbrev pub Numbers : Text ℕ (ℕ × ℕ × ℕ)
Numbers = BothText (λ major (others : ℕ × ℕ). (major, others.0, others.1))
    (BothText (λ n dot. n) Number (Itself 46))
    (BothText (λ minor patch. (minor, patch)) (BothText (λ n dot. n) Number (Itself 46)) Number)

-- word = 1*(ALPHA / DIGIT / "-")
abbrev pub InWord : ℕ → Type 0
InWord b = IsAlphanum b ⊎ (b ≡ 45)

-- words = word *("." word)
abbrev pub Words : {A : Type 0} → Text ℕ (Vec Slice A)
Words = InList (AtLeast 1 (PartedText (Itself 46) (Members counted_reading InWord 1)))

-- version = numbers [ "-" words ]
unfoldable pub Version : {A : Type 0} → Text ℕ ((ℕ × ℕ × ℕ) × Option (Vec Slice A))
Version = BothText (λ numbers words. (numbers, words)) Numbers
    (OptionalText (BothText (λ hyphen words. words) (Itself 45) Words))
