-- Values of JSON (RFC 8259, sections 2 to 5).
use Rattle.std.specs.Prelude.{◌≡◌, ◌⊎◌, ℕ, zero, suc, Bool, true, false, List, [], ◌∷◌}
use Rattle.std.specs.List.{All}
use Rattle.grammars.specs.Texts.{StartsWith, NotFirst}
use Rattle.format_json_texts.specs.Number.{ContinuesNumber}
use Rattle.format_json_texts.specs.Values.Texts.{BeginsNumber}
use Rattle.format_json_extents.specs.Number.{ExtendsNumber, IsNumber}
use Rattle.format_json_extents.specs.Strings.{IsString}
use Rattle.format_json_extents.specs.Texts.{CommaSeparated, Either, IsByte, Then}

-- A byte of whitespace: a space, a tab, a line feed or a carriage return.
abbrev pub IsWhitespaceByte : ℕ → Type 0
IsWhitespaceByte b = (b ≡ 32) ⊎ ((b ≡ 9) ⊎ ((b ≡ 10) ⊎ (b ≡ 13)))

-- whitespace, or nothing
abbrev pub IsWhitespace : List ℕ → Type 0
IsWhitespace = All IsWhitespaceByte

-- this word
abbrev pub Exactly : List ℕ → List ℕ → Type 0
Exactly word text = text ≡ word

-- the words null, true and false
abbrev pub IsWord : List ℕ → Type 0
IsWord =
    Either (Exactly (110 ∷ 117 ∷ 108 ∷ 108 ∷ [])) (Either (Exactly (116 ∷ 114 ∷ 117 ∷ 101 ∷ []))
    (Exactly (102 ∷ 97 ∷ 108 ∷ 115 ∷ 101 ∷ [])))

-- A value that has no others in it.
abbrev pub IsScalar : List ℕ → Type 0
IsScalar = Either IsString (Either IsNumber IsWord)

-- a colon
abbrev pub IsColon : ℕ → Type 0
IsColon b = b ≡ 58

-- A value, with whitespace round it.
abbrev pub IsElement : (List ℕ → Type 0) → List ℕ → Type 0
IsElement V = Then IsWhitespace (Then V IsWhitespace)

-- A name and a colon, with whitespace round the name.
abbrev pub IsKey : List ℕ → Type 0
IsKey = Then IsWhitespace (Then IsString (Then IsWhitespace (IsByte IsColon)))

-- A name, a colon and a value.
abbrev pub IsMember : (List ℕ → Type 0) → List ℕ → Type 0
IsMember V = Then IsKey (IsElement V)

-- The name and the colon before a value that an object has in it; nothing before one of an array.
abbrev pub IsName : Bool → List ℕ → Type 0
IsName true = IsKey
IsName false = Exactly []

-- A member of an object (`true`), or an element of an array (`false`).
abbrev pub IsItem : Bool → (List ℕ → Type 0) → List ℕ → Type 0
IsItem true V = IsMember V
IsItem false V = IsElement V

-- the opening bracket of an object (`true`) or of an array (`false`)
abbrev pub opening_bracket : Bool → ℕ
opening_bracket true = 123
opening_bracket false = 91

-- the bracket after it
abbrev pub closing_bracket : Bool → ℕ
closing_bracket true = 125
closing_bracket false = 93

-- the closing bracket
abbrev pub IsClosing : Bool → ℕ → Type 0
IsClosing keyed b = b ≡ closing_bracket keyed

-- Whitespace at most, and the closing bracket.
abbrev pub IsEmptyTail : Bool → List ℕ → Type 0
IsEmptyTail keyed = Then IsWhitespace (IsByte (IsClosing keyed))

-- Items with commas between them, and the closing bracket.
abbrev pub IsItemsTail : Bool → (List ℕ → Type 0) → List ℕ → Type 0
IsItemsTail keyed V = Then (CommaSeparated (IsItem keyed V)) (IsByte (IsClosing keyed))

-- The bytes after the opening bracket.
abbrev pub IsNestedTail : Bool → (List ℕ → Type 0) → List ℕ → Type 0
IsNestedTail keyed V = Either (IsEmptyTail keyed) (IsItemsTail keyed V)

-- An array of values, or an object of them.
abbrev pub IsNested : (List ℕ → Type 0) → List ℕ → Type 0
IsNested V =
    Either (Then (IsByte (λ b. b ≡ opening_bracket false)) (IsNestedTail false V))
    (Then (IsByte (λ b. b ≡ opening_bracket true)) (IsNestedTail true V))

-- A value whose arrays and objects are nested at most `level` deep.
abbrev pub IsValue : ℕ → List ℕ → Type 0
IsValue zero text = IsScalar text
IsValue (suc level) text = Either IsScalar (IsNested (IsValue level)) text

-- ---- what follows a value

-- A byte that can extend the number that these bytes start with.
abbrev pub ExtendsNumberOf : List ℕ → ℕ → Type 0
ExtendsNumberOf bytes b = StartsWith BeginsNumber bytes × ExtendsNumber b

-- `IsNotContinued text rest`: if `text` starts as a number does, `rest` does not start with a byte
-- that can continue a number: a digit, a point or an E.
abbrev pub IsNotContinued : List ℕ → List ℕ → Type 0
IsNotContinued text rest = StartsWith BeginsNumber text → NotFirst ContinuesNumber rest

-- a JSON text, if it is UTF-8: a value with whitespace around it
abbrev pub IsText : ℕ → List ℕ → Type 0
IsText level = IsElement (IsValue level)
