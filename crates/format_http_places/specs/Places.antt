-- The offsets of the parts of a head.
use Rattle.std.specs.Prelude.{◌≡◌, ◌≤◌, ◌+◌, ℕ, List, [], ◌∷◌, ◌++◌, length, take}
use Rattle.std.specs.List.{All}
use Rattle.format_http.specs.Heads.Bytes.{IsWhite, line_end}
use Rattle.format_http.specs.Heads.FieldLine.{BeginsBare, EndsBare, IsFieldLine}
use Rattle.format_http.specs.Heads.Head.{AreFields, IsHead, Pair, Request}
use Rattle.format_http.specs.Heads.RequestLine.{IsRequestLine, digits, protocol}
use Rattle.format_http_places.specs.declared.line.FieldLine.{FieldLine}
use Rattle.format_http_places.specs.declared.line.RequestLine.{RequestLine}
use Rattle.format_http_places.specs.declared.places.Field.{Field}
use Rattle.format_http_places.specs.declared.places.Head.{Head}
use Rattle.format_http_places.specs.declared.places.Span.{Span}

-- `StandsAt input place bytes rest`: the span `place` of `input` holds `bytes`, followed by `rest`.
-- If `bytes` occurs several times, `rest` determines the occurrence.
pub record StandsAt (input : List ℕ) (place : Span) (bytes rest : List ℕ) : Type 0 where
  pub before : List ℕ
  pub splits : input ≡ before ++ (bytes ++ rest)
  pub begins : place.offset ≡ length before
  pub ends : place.length ≡ length bytes

-- the bytes of a request line after the target, followed by `rest`
abbrev pub version_on : ℕ → ℕ → List ℕ → List ℕ
version_on major minor rest = protocol ++ (digits major minor ++ (line_end ++ rest))

-- `ShowsField input place field line rest`: `line` starts with the line of `field`, followed by
-- `rest`. `place` holds the positions of its name and value in the input; an empty value is at the
-- end of the line.
pub record ShowsField (input : List ℕ) (place : Field) (field : Pair) (line rest : List ℕ)
    : Type 0 where
  pub is_line : IsFieldLine field.0 field.1 line rest
  pub name : StandsAt input place.name field.0
      (58 ∷ (is_line.before ++ (field.1 ++ (is_line.behind ++ (line_end ++ rest)))))
  pub value : StandsAt input place.value field.1 (is_line.behind ++ (line_end ++ rest))
  pub at_end : field.1 ≡ [] → is_line.behind ≡ []

-- The bytes are consecutive lines of these fields, followed by `rest`. Each field has its positions
-- in its own line.
abbrev pub AreShown : List ℕ → List ℕ → List Field → List Pair → List ℕ → Type 0
AreShown input lines [] [] rest = lines ≡ rest
AreShown input lines [] (f ∷ fields) rest = ⊥
AreShown input lines (p ∷ places) [] rest = ⊥
AreShown input lines (p ∷ places) (f ∷ fields) rest =
    (behind : List ℕ) × ShowsField input p f lines behind
    × AreShown input behind places fields rest

-- The input starts with a head, whose parts are at these positions: the method before a space and
-- the target, the target before the version, and each field in its own line, after these.
pub record ShowsHead (input : List ℕ) (head : Head) (places : List Field) : Type 0 where
  pub line : Request
  pub fields : List Pair
  pub rest : List ℕ
  pub is_head : IsHead line fields input rest
  pub method : StandsAt input head.method line.method
      (32 ∷ (line.target ++ version_on line.major line.minor is_head.behind))
  pub target : StandsAt input head.target line.target
      (version_on line.major line.minor is_head.behind)
  pub major : head.major ≡ line.major
  pub minor : head.minor ≡ line.minor
  pub count : head.fields ≡ length fields
  pub are_shown : AreShown input is_head.behind places fields (line_end ++ rest)
  pub ends : head.length + length rest ≡ length input

-- The input starts with a head of `count` fields.
pub record IsWanted (input : List ℕ) (count : ℕ) : Type 0 where
  pub line : Request
  pub fields : List Pair
  pub rest : List ℕ
  pub is_head : IsHead line fields input rest
  pub counts : count ≡ length fields

-- `place` is the position in the text of its part without whitespace at both ends; an empty part is
-- at the end.
pub record IsBare (text : List ℕ) (place : Span) : Type 0 where
  pub before : List ℕ
  pub value : List ℕ
  pub behind : List ℕ
  pub splits : text ≡ before ++ (value ++ behind)
  pub white_before : All IsWhite before
  pub white_behind : All IsWhite behind
  pub begins_bare : BeginsBare value
  pub ends_bare : EndsBare value
  pub begins : place.offset ≡ length before
  pub ends : place.length ≡ length value
  pub at_end : value ≡ [] → behind ≡ []

-- ---- lines

-- The input begins with this request line.
pub record ShowsLine (input : List ℕ) (line : RequestLine) : Type 0 where
  pub method : List ℕ
  pub target : List ℕ
  pub is_line : IsRequestLine method target line.major line.minor input line.rest.now
  pub method_at : StandsAt input line.method method
      (32 ∷ (target ++ version_on line.major line.minor line.rest.now))
  pub target_at : StandsAt input line.target target
      (version_on line.major line.minor line.rest.now)

-- `bytes` are the end of an input of length `whole`, and start with `count` fields and an empty
-- line. If there is room, the first entries hold the positions of the fields.
pub record ShowsFields (whole : ℕ) (bytes : List ℕ) (count : ℕ) (places : List Field)
    (rest : List ℕ) : Type 0 where
  pub fields : List Pair
  pub are_fields : AreFields fields bytes rest
  pub counts : count ≡ length fields
  pub shows : count ≤ length places → (input before : List ℕ) → input ≡ before ++ bytes
      → length input ≡ whole → AreShown input bytes (take count places) fields (line_end ++ rest)

-- `bytes` are the end of an input of length `whole`, and start with this field line.
pub record ShowsFieldLine (whole : ℕ) (bytes : List ℕ) (line : FieldLine) : Type 0 where
  pub field : Pair
  pub is_line : IsFieldLine field.0 field.1 bytes line.rest.now
  pub shows : (input before : List ℕ) → input ≡ before ++ bytes → length input ≡ whole
      → ShowsField input line.field field bytes line.rest.now
