-- The fields that determine the length of a body (RFC 9112, section 6).
use Rattle.std.specs.Prelude.{◌<◌, ◌⊎◌, ℕ, List, [], ◌∷◌, codes, length}
use Rattle.std.specs.List.{AllByRecursion}
use Rattle.format_http.specs.Heads.Bytes.{IsDigit}
use Rattle.format_http.specs.Heads.Head.{Pair}
use Rattle.format_http.specs.Heads.Named.{IsNamed}

abbrev pub content_length : List ℕ
content_length = codes "content-length"

abbrev pub transfer_encoding : List ℕ
transfer_encoding = codes "transfer-encoding"

-- A field has the name.
abbrev pub HasOne : List ℕ → List Pair → Type 0
HasOne name [] = ⊥
HasOne name (field ∷ fields) = IsNamed name field.0 ⊎ HasOne name fields

-- Content-Length = 1*DIGIT
abbrev pub IsNumber : List ℕ → Type 0
IsNumber value = (0 < length value) × AllByRecursion IsDigit value
