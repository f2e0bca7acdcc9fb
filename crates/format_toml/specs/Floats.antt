-- TOML 1.0 (Float): what is written for floats, by its ABNF.
use Rattle.std.specs.Borrow.{Bor}
use Rattle.std.specs.List.{All, filter}
use Rattle.std.specs.Prelude.{◌≡◌, ◌⊎◌, ◌==◌, ℕ, List, [], ◌∷◌, ◌++◌, Option, Some, None, not}
use Rattle.std.specs.Prelude.{string_bytes}
use Rattle.format_toml.specs.Numbers.{DigitsText, IsLone}
use Rattle.format_toml_tree.specs.declared.value.Float.{Float}
use Rattle.grammars.specs.Texts.{Text}

-- ---- its parts

-- zero-prefixable-int = DIGIT *( DIGIT / underscore DIGIT )
unfoldable pub AreDigits : List ℕ → Type 0
AreDigits tokens = (digits : List ℕ) × DigitsText 10 digits tokens

-- unsigned-dec-int = DIGIT / digit1-9 1*( DIGIT / underscore DIGIT )
unfoldable pub IsWhole : List ℕ → Type 0
IsWhole tokens = AreDigits tokens × IsLone tokens

-- minus / plus
abbrev pub IsSign : ℕ → Type 0
IsSign c = (c ≡ 45) ⊎ (c ≡ 43)

-- a text with a sign before it or none
unfoldable pub Signed : (List ℕ → Type 0) → List ℕ → Type 0
Signed text tokens =
    text tokens ⊎ ((sign : ℕ) × (rest : List ℕ) × IsSign sign × (tokens ≡ sign ∷ rest) × text rest)

-- float-int-part frac without a sign, with float-int-part = dec-int and frac = decimal-point
-- zero-prefixable-int
unfoldable pub IsDecimal : List ℕ → Type 0
IsDecimal tokens =
    (whole : List ℕ) × (digits : List ℕ) × IsWhole whole × AreDigits digits
    × (tokens ≡ whole ++ 46 ∷ digits)

-- the letter "e", of either case as in each string of an ABNF
abbrev pub IsLetterE : ℕ → Type 0
IsLetterE c = (c ≡ 101) ⊎ (c ≡ 69)

-- float-int-part [ frac ] exp without a sign, with exp = "e" float-exp-part and float-exp-part =
-- [ minus / plus ] zero-prefixable-int
unfoldable pub IsScientific : List ℕ → Type 0
IsScientific tokens =
    (number : List ℕ) × (letter : ℕ) × (power : List ℕ) × (IsWhole number ⊎ IsDecimal number)
    × IsLetterE letter × Signed AreDigits power × (tokens ≡ number ++ letter ∷ power)

-- float = float-int-part ( exp / frac [ exp ] ), without a sign
abbrev pub IsMagnitude : List ℕ → Type 0
IsMagnitude tokens = IsDecimal tokens ⊎ IsScientific tokens

-- inf = %x69.6e.66, nan = %x6e.61.6e
abbrev pub inf_word : List ℕ
inf_word = 105 ∷ 110 ∷ 102 ∷ []

abbrev pub nan_word : List ℕ
nan_word = 110 ∷ 97 ∷ 110 ∷ []

abbrev pub Unsigned : List ℕ → Type 0
Unsigned tokens = (tokens ≡ inf_word) ⊎ ((tokens ≡ nan_word) ⊎ IsMagnitude tokens)

-- float, with special-float = [ minus / plus ] ( inf / nan )
abbrev pub IsFloat : List ℕ → Type 0
IsFloat tokens = Signed Unsigned tokens

-- the same for its text without underscores
unfoldable pub FloatText : {A : Type 0} → Text ℕ (Float A)
FloatText float tokens =
    IsFloat tokens × (string_bytes float.text ≡ filter (λ c. not (c == 95)) tokens)

-- ---- what functions answer of them

-- The parts before and after the first occurrence of either token; `None` if neither occurs.
unfoldable pub SplitsAt : ℕ → ℕ → List ℕ → Option (Bor (List ℕ) × Bor (List ℕ)) → Type 0
SplitsAt one other text None = All (λ c. ((c ≡ one) ⊎ (c ≡ other)) → ⊥) text
SplitsAt one other text (Some parts) =
    (c : ℕ) × ((c ≡ one) ⊎ (c ≡ other)) × (text ≡ parts.0.now ++ c ∷ parts.1.now)
    × All (λ c. ((c ≡ one) ⊎ (c ≡ other)) → ⊥) parts.0.now

-- `rest` is the text without its leading sign, or all of it if there is none.
unfoldable pub SignsOff : List ℕ → List ℕ → Type 0
SignsOff text rest =
    ((sign : ℕ) × IsSign sign × (text ≡ sign ∷ rest))
    ⊎ ((rest ≡ text) × ((sign : ℕ) (others : List ℕ) → IsSign sign → text ≡ sign ∷ others → ⊥))
