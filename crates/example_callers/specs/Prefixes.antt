-- Prefixes of signs, times and lists of numbers.
use Rattle.std.specs.Prelude.{◌≡◌, ◌⊎◌, ◌≤◌, ℕ, List, [], ◌∷◌, ◌++◌, length}
use Rattle.std.specs.Borrow.{Bor}
use Rattle.std.specs.List.{All}
use Rattle.winnow.specs.AsChar.{IsDecDigit}
use Rattle.winnow.specs.Texts.{AtLeast, EitherText, Itself, PartedText, Text}
use Rattle.example_callers.specs.Times.{Digits}

-- a plus or a minus
abbrev pub SignText : Text ℕ ℕ
SignText = EitherText (Itself 43) (Itself 45)

-- numbers with commas between them
abbrev pub NumbersText : Text ℕ (List (Bor (List ℕ)))
NumbersText = PartedText (Itself 44) Digits

-- no tokens, or the mark followed by digits, possibly none
abbrev pub IsMarkedPrefix : ℕ → List ℕ → Type 0
IsMarkedPrefix mark tokens =
    (tokens ≡ []) ⊎ ((digits : List ℕ) × All IsDecDigit digits × (tokens ≡ mark ∷ digits))

-- digits, possibly none; or one or more digits, a colon and digits, possibly none
abbrev pub IsTimePrefix : List ℕ → Type 0
IsTimePrefix tokens =
    All IsDecDigit tokens ⊎ ((hours : List ℕ) × (minutes : List ℕ) × All IsDecDigit hours
    × (1 ≤ length hours) × All IsDecDigit minutes × (tokens ≡ hours ++ 58 ∷ minutes))

-- a list of numbers; or a list of at least one number, followed by a comma
abbrev pub IsListPrefix : List ℕ → Type 0
IsListPrefix tokens =
    ((numbers : List (Bor (List ℕ))) × NumbersText numbers tokens)
    ⊎ ((numbers : List (Bor (List ℕ))) × (list : List ℕ) × AtLeast 1 NumbersText numbers list
    × (tokens ≡ list ++ 44 ∷ []))

-- a digit, or the mark
abbrev pub IsDigitOr : ℕ → ℕ → Type 0
IsDigitOr mark t = IsDecDigit t ⊎ (t ≡ mark)
