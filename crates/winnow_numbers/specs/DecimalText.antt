-- Texts of decimal numbers, and the numbers of a type that they are read as.
use Rattle.std.specs.Prelude.{◌≡◌, ◌<◌, ◌≤◌, ℕ, ℤ, List, [], ◌∷◌, ◌++◌, Option, IsSome}
use Rattle.std.specs.Prelude.{MatchOption, ◌⊎◌}
use Rattle.parser_definitions.specs.Digits.{value_in}
use Rattle.parser_definitions.specs.Number.{signed_value}
use Rattle.parser_definitions.specs.NumberGrammar.{AreDigits}
use Rattle.parser_definitions.specs.Numeral.{IsSign}

-- The text is digits, with '+' before them or nothing.
abbrev pub IsUnsignedText : List ℕ → List ℕ → Type 0
IsUnsignedText text digits = AreDigits digits × ((text ≡ digits) ⊎ (text ≡ 43 ∷ digits))

-- The number of a type, below `bound`, that a text is parsed as. It is `None` if and only if the
-- text is not digits, or their number does not fit.
pub record ReadsUnsigned {N : Type 0} (number : N → ℕ) (bound : ℕ) (text : List ℕ)
    (answer : Option N) : Type 0 where
  pub reads : (digits : List ℕ) → IsUnsignedText text digits
      → MatchOption answer (bound ≤ value_in 10 digits)
      (λ n. (value_in 10 digits < bound) × (number n ≡ value_in 10 digits))
  pub only : IsSome answer → (digits : List ℕ) × IsUnsignedText text digits

-- The text is digits after a sign, '+' or '-' or none.
abbrev pub IsSignedText : List ℕ → List ℕ → List ℕ → Type 0
IsSignedText text sign digits =
    AreDigits digits × (text ≡ sign ++ digits)
    × ((sign ≡ []) ⊎ ((c : ℕ) × IsSign c × (sign ≡ c ∷ [])))

-- The number of a type, of those that fit it, that a text is parsed as. It is `None` if and only if
-- the text is not digits after a sign, or their number does not fit.
pub record ReadsSigned {N : Type 0} (number : N → ℤ) (fits : ℤ → Type 0) (text : List ℕ)
    (answer : Option N) : Type 0 where
  pub reads : (sign digits : List ℕ) → IsSignedText text sign digits
      → MatchOption answer (fits (signed_value sign digits) → ⊥)
      (λ n. fits (signed_value sign digits) × (number n ≡ signed_value sign digits))
  pub only : IsSome answer
      → (sign : List ℕ) × (digits : List ℕ) × IsSignedText text sign digits
