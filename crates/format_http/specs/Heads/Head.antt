-- The head of a request of HTTP/1.1 (RFC 9112, section 2.1): a request line, field lines, and an
-- empty line.
use Rattle.std.specs.Prelude.{◌≡◌, ℕ, List, [], ◌∷◌, ◌++◌, map}
use Rattle.std.specs.declared.vec.Vec.{Vec}
use Rattle.format_http.specs.Heads.Bytes.{line_end}
use Rattle.format_http.specs.Heads.FieldLine.{IsFieldLine}
use Rattle.format_http.specs.Heads.RequestLine.{IsRequestLine}
use Rattle.format_http.specs.declared.heads.field_line.Field.{Field}
use Rattle.format_http.specs.declared.heads.head.Head.{Head}
use Rattle.format_http.specs.declared.heads.request_line.RequestLine.{RequestLine}
use Rattle.grammars.specs.Grammar.{Grammar}

-- The contents of a request line, independent of its address: the method, the target, and the two
-- numbers of the version.
pub record Request : Type 0 where
  pub method : List ℕ
  pub target : List ℕ
  pub major : ℕ
  pub minor : ℕ

-- what a request line that was read says
abbrev pub request : RequestLine → Request
request line = record {
  method = line.method.now;
  target = line.target.now;
  major = line.major;
  minor = line.minor;
}

-- A field without its place: its name, and its value.
abbrev pub Pair : Type 0
Pair = List ℕ × List ℕ

-- what a field that was read is
abbrev pub pair : Field → Pair
pair field = (field.name.now, field.value.now)

-- `AreFieldLines fields bytes rest`: `bytes` starts with consecutive field lines of these fields,
-- followed by `rest`.
abbrev pub AreFieldLines : List Pair → List ℕ → List ℕ → Type 0
AreFieldLines [] bytes rest = bytes ≡ rest
AreFieldLines (f ∷ fields) bytes rest =
    (behind : List ℕ) × IsFieldLine f.0 f.1 bytes behind × AreFieldLines fields behind rest

-- The bytes are field lines of these fields and an empty line, and then the rest.
pub record AreFields (fields : List Pair) (bytes rest : List ℕ) : Type 0 where
  pub end : List ℕ
  pub lines : AreFieldLines fields bytes end
  pub ended : end ≡ line_end ++ rest

-- The bytes are the head of this request with these fields, and then the rest.
pub record IsHead (line : Request) (fields : List Pair) (bytes rest : List ℕ) : Type 0 where
  pub behind : List ℕ
  pub is_line : IsRequestLine line.method line.target line.major line.minor bytes behind
  pub are_fields : AreFields fields behind rest

-- The bytes start with these fields and an empty line.
abbrev pub FieldsStand : {A : Type 0} → Grammar ℕ (Vec Field A)
FieldsStand bytes fields rest = AreFields (map pair fields.items) bytes rest

-- The bytes start with this head.
abbrev pub HeadStands : {A : Type 0} → Grammar ℕ (Head A)
HeadStands bytes head rest = IsHead (request head.line) (map pair head.fields.items) bytes rest

-- Whatever comes after the bytes, they begin with no head.
abbrev pub NoHead : List ℕ → Type 0
NoHead bytes =
    (line : Request) (fields : List Pair) (more rest : List ℕ)
    → IsHead line fields (bytes ++ more) rest → ⊥

-- With more after them the bytes are a head.
abbrev pub BeginsHead : List ℕ → Type 0
BeginsHead bytes =
    (line : Request) × (fields : List Pair) × (more : List ℕ)
    × IsHead line fields (bytes ++ more) []
