-- The transfer codings of a message (RFC 9110, section 10.1.4): `Transfer-Encoding` is
-- `#transfer-coding`, a list (section 5.6.1). Only the last may be `chunked` (RFC 9112, section
-- 6.1).
use Rattle.std.specs.Prelude.{◌≡◌, ◌<◌, ◌⊎◌, ◌++◌, ℕ, List, [], ◌∷◌, Bool, IsTrue, length, codes}
use Rattle.format_http.specs.Bodies.Lists.{HasElement, IsElement, quoted_parts_of}
use Rattle.format_http.specs.Bodies.Fields.{transfer_encoding}
use Rattle.format_http.specs.Heads.Bytes.{IsTokenByte, IsWhite}
use Rattle.format_http.specs.Heads.Head.{Pair}
use Rattle.format_http.specs.Heads.Named.{IsNamed}
use Rattle.format_http_chunked.specs.Bodies.{Spaced, Value}
use Rattle.format_http_chunked.specs.Words.{Some, Star}

-- ---- a coding, by its grammar, in the combinators with a continuation of format_http_chunked

-- nothing remains
abbrev pub AtEnd : List ℕ → Type 0
AtEnd rest = rest ≡ []

-- transfer-parameter = token BWS "=" BWS ( token / quoted-string )
abbrev pub Parameter : (List ℕ → Type 0) → List ℕ → Type 0
Parameter next = Some IsTokenByte (Spaced 61 (Value next))

-- *( OWS ";" OWS transfer-parameter )
abbrev pub Parameters : (List ℕ → Type 0) → List ℕ → Type 0
Parameters = Star (λ next. Spaced 59 (Parameter next))

-- transfer-coding = token *( OWS ";" OWS transfer-parameter )
abbrev pub IsCoding : List ℕ → Type 0
IsCoding = Some IsTokenByte (Parameters AtEnd)

-- ---- a list: #element = [ element ] *( OWS "," OWS [ element ] )

-- [ transfer-coding ], and whitespace around it
abbrev pub IsPart : List ℕ → Type 0
IsPart part =
    (element : List ℕ) × IsElement element part × ((length element ≡ 0) ⊎ IsCoding element)

-- The list is these parts, with commas between them.
abbrev pub AreParts : List (List ℕ) → List ℕ → Type 0
AreParts [] list = ⊥
AreParts (part ∷ []) list = list ≡ part
AreParts (part ∷ (next ∷ parts)) list =
    (rest : List ℕ) × (list ≡ part ++ 44 ∷ rest) × AreParts (next ∷ parts) rest

-- ---- a coding: a name, and parameters after semicolons, with optional whitespace

-- `EndsName rest`: the name of a coding ends before `rest`.
abbrev pub EndsName : List ℕ → Type 0
EndsName [] = Unit {0}
EndsName (b ∷ more) = (b ≡ 59) ⊎ IsWhite b

-- The coding is `chunked`, ignoring ASCII case. It defines no parameters (RFC 9112, section 7.1);
-- with some it is still `chunked`.
abbrev pub NamesChunked : List ℕ → Type 0
NamesChunked coding =
    (word : List ℕ) × (rest : List ℕ) × (coding ≡ word ++ rest)
    × IsNamed (codes "chunked") word × EndsName rest

-- ---- in the parts of a list, between its commas

-- One of the parts has an element that is neither empty nor a transfer-coding.
abbrev pub HasInvalid : List (List ℕ) → Type 0
HasInvalid parts =
    (element : List ℕ) × HasElement element parts × (0 < length element)
    × (IsCoding element → ⊥)

-- One of the parts has a coding: an element that is not empty. Empty elements are skipped (RFC
-- 9110, section 5.6.1).
abbrev pub HasCoding : List (List ℕ) → Type 0
HasCoding parts = (element : List ℕ) × HasElement element parts × (0 < length element)

-- One of the parts has the coding `chunked`.
abbrev pub HasChunked : List (List ℕ) → Type 0
HasChunked parts = (element : List ℕ) × HasElement element parts × NamesChunked element

-- The coding in this part is `chunked`.
abbrev pub IsChunked : List ℕ → Type 0
IsChunked part = (element : List ℕ) × IsElement element part × NamesChunked element

-- A coding comes after `chunked`, possibly `chunked` again.
abbrev pub IsFollowed : List (List ℕ) → Type 0
IsFollowed [] = ⊥
IsFollowed (part ∷ parts) = (IsChunked part × HasCoding parts) ⊎ IsFollowed parts

-- The last coding is `chunked`, without parameters: other elements after it are empty.
abbrev pub EndsChunked : List (List ℕ) → Type 0
EndsChunked [] = ⊥
EndsChunked (part ∷ parts) =
    (((element : List ℕ) × IsElement element part × IsNamed (codes "chunked") element)
    × (HasCoding parts → ⊥))
    ⊎ EndsChunked parts

-- A coding of these parts comes after `chunked`, which the last before them is or is not.
abbrev pub FollowsSo : Bool → List (List ℕ) → Type 0
FollowsSo chunked parts = (IsTrue chunked × HasCoding parts) ⊎ IsFollowed parts

-- The last coding is `chunked`, which the last before these parts is or is not.
abbrev pub EndsSo : Bool → List (List ℕ) → Type 0
EndsSo chunked parts = (IsTrue chunked × (HasCoding parts → ⊥)) ⊎ EndsChunked parts

-- ---- in all Transfer-Encoding fields, which are one list

-- One of the fields has an element that is neither empty nor a transfer-coding.
abbrev pub HaveInvalid : List Pair → Type 0
HaveInvalid [] = ⊥
HaveInvalid (field ∷ fields) =
    (IsNamed transfer_encoding field.0 × HasInvalid (quoted_parts_of field.1))
    ⊎ HaveInvalid fields

-- One of the fields has a coding.
abbrev pub HaveCoding : List Pair → Type 0
HaveCoding [] = ⊥
HaveCoding (field ∷ fields) =
    (IsNamed transfer_encoding field.0 × HasCoding (quoted_parts_of field.1)) ⊎ HaveCoding fields

-- A coding comes after `chunked`, in the same field or in a later one: `chunked` is applied twice,
-- which a sender must not do, or another coding is applied to chunks.
abbrev pub ChunkedIsFollowed : List Pair → Type 0
ChunkedIsFollowed [] = ⊥
ChunkedIsFollowed (field ∷ fields) =
    (IsNamed transfer_encoding field.0
    × (IsFollowed (quoted_parts_of field.1)
    ⊎ (HasChunked (quoted_parts_of field.1) × HaveCoding fields)))
    ⊎ ChunkedIsFollowed fields

-- The last coding of all fields is `chunked`, without parameters.
abbrev pub EndChunked : List Pair → Type 0
EndChunked [] = ⊥
EndChunked (field ∷ fields) =
    (IsNamed transfer_encoding field.0 × EndsChunked (quoted_parts_of field.1)
    × (HaveCoding fields → ⊥))
    ⊎ EndChunked fields
