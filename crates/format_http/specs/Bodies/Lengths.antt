-- The values of the Content-Length fields of a message (RFC 9112, section 6.3, and RFC 9110,
-- section 8.6).
use Rattle.std.specs.Prelude.{◌≡◌, ◌⊎◌, ℕ, List, [], ◌∷◌}
use Rattle.parser_definitions.specs.Digits.{value_in}
use Rattle.format_http.specs.Bodies.Lists.{HasElement, parts_of}
use Rattle.format_http.specs.Bodies.Fields.{IsNumber, content_length}
use Rattle.format_http.specs.Heads.Named.{IsNamed}
use Rattle.format_http.specs.Heads.Head.{Pair}

-- One of the elements of the Content-Length fields is this text. All fields of the name are one
-- list. Empty elements count, so that those of `,4` are different: the value is 1*DIGIT, or one
-- numeral repeated (RFC 9110, section 8.6), which has no empty elements.
abbrev pub HasLength : List ℕ → List Pair → Type 0
HasLength text [] = ⊥
HasLength text (field ∷ fields) =
    (IsNamed content_length field.0 × HasElement text (parts_of field.1)) ⊎ HasLength text fields

-- All values in the list are the same.
abbrev pub AreOne : List Pair → Type 0
AreOne fields = (text other : List ℕ) → HasLength text fields → HasLength other fields
    → text ≡ other

-- One of the values is the decimal numeral of this number: Content-Length = 1*DIGIT.
abbrev pub IsLength : List Pair → ℕ → Type 0
IsLength fields n =
    (text : List ℕ) × HasLength text fields × IsNumber text × (value_in 10 text ≡ n)
