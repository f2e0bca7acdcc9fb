-- Chunked bodies of HTTP/1.1 (RFC 9112, section 7.1), in the order of their grammar.
use Rattle.std.specs.Prelude.{◌≡◌, ◌⊎◌, ◌≤◌, ◌<◌, ◌++◌, ℕ, zero, suc, List, [], ◌∷◌, length}
use Rattle.std.specs.List.{AllByRecursion}
use Rattle.std.specs.Str.Parse.{digits_value}
use Rattle.format_http_chunked.specs.Words.{Byte, Many, One, Some, Star}

-- from one byte to another
abbrev pub IsBetween : ℕ → ℕ → ℕ → Type 0
IsBetween first last b = (first ≤ b) × (b ≤ last)

-- HEXDIG, in letters of either case
abbrev pub IsHexDigit : ℕ → Type 0
IsHexDigit b = IsBetween 48 57 b ⊎ (IsBetween 65 70 b ⊎ IsBetween 97 102 b)

-- SP / HTAB
abbrev pub IsSpaceOrTab : ℕ → Type 0
IsSpaceOrTab b = (b ≡ 32) ⊎ (b ≡ 9)

-- tchar (RFC 9110, section 5.6.2)
abbrev pub IsTokenByte : ℕ → Type 0
IsTokenByte b =
    -- a digit, or a letter, or one of ^ _ and `
    IsBetween 48 57 b ⊎ (IsBetween 65 90 b ⊎ (IsBetween 94 122 b
    -- one of ! # $ % & and ', one of * and +, one of - and ., one of | and ~
    ⊎ ((b ≡ 33) ⊎ (IsBetween 35 39 b ⊎ (IsBetween 42 43 b ⊎ (IsBetween 45 46 b
    ⊎ ((b ≡ 124) ⊎ (b ≡ 126))))))))

-- HTAB / SP / VCHAR / obs-text, of which quoted pairs and values of fields are
abbrev pub IsValueByte : ℕ → Type 0
IsValueByte b = ((32 ≤ b) × (b ≡ 127 → ⊥)) ⊎ (b ≡ 9)

-- qdtext = HTAB / SP / %x21 / %x23-5B / %x5D-7E / obs-text
abbrev pub IsQuotedByte : ℕ → Type 0
IsQuotedByte b = (b ≡ 9) ⊎ ((b ≡ 32) ⊎ ((b ≡ 33) ⊎ (IsBetween 35 91 b ⊎ (IsBetween 93 126 b
    ⊎ (128 ≤ b)))))

-- CRLF
abbrev pub LineEnd : (List ℕ → Type 0) → List ℕ → Type 0
LineEnd next = Byte 13 (Byte 10 next)

-- ---- the size line: chunk-size [ chunk-ext ] CRLF

-- BWS byte BWS
abbrev pub Spaced : ℕ → (List ℕ → Type 0) → List ℕ → Type 0
Spaced byte next = Many IsSpaceOrTab (Byte byte (Many IsSpaceOrTab next))

-- qdtext / quoted-pair, where quoted-pair = "\" ( HTAB / SP / VCHAR / obs-text )
abbrev pub QuotedByte : (List ℕ → Type 0) → List ℕ → Type 0
QuotedByte next bytes = One IsQuotedByte next bytes ⊎ Byte 92 (One IsValueByte next) bytes

-- chunk-ext-val = token / quoted-string, where quoted-string = DQUOTE *( qdtext / quoted-pair )
-- DQUOTE
abbrev pub Value : (List ℕ → Type 0) → List ℕ → Type 0
Value next bytes = Some IsTokenByte next bytes ⊎ Byte 34 (Star QuotedByte (Byte 34 next)) bytes

-- [ BWS "=" BWS chunk-ext-val ]
abbrev pub Given : (List ℕ → Type 0) → List ℕ → Type 0
Given next bytes = Spaced 61 (Value next) bytes ⊎ next bytes

-- BWS ";" BWS chunk-ext-name [ BWS "=" BWS chunk-ext-val ], where chunk-ext-name = token
abbrev pub Extension : (List ℕ → Type 0) → List ℕ → Type 0
Extension next = Spaced 59 (Some IsTokenByte (Given next))

-- chunk-ext CRLF, where chunk-ext = *( extension )
abbrev pub Extended : (List ℕ → Type 0) → List ℕ → Type 0
Extended next = Star Extension (LineEnd next)

-- chunk-size chunk-ext CRLF, where chunk-size = 1*HEXDIG is the number passed to `next`
abbrev pub SizeLine : (ℕ → List ℕ → Type 0) → List ℕ → Type 0
SizeLine next bytes =
    (digits : List ℕ) × (behind : List ℕ) × (0 < length digits)
    × AllByRecursion IsHexDigit digits × (bytes ≡ digits ++ behind)
    × Extended (next (digits_value 16 digits)) behind

-- ---- the trailer section: *( field-line CRLF )

-- field-name ":" OWS field-value OWS CRLF: the bytes of the value, and whitespace around it
abbrev pub FieldLine : (List ℕ → Type 0) → List ℕ → Type 0
FieldLine next = Some IsTokenByte (Byte 58 (Many IsValueByte (LineEnd next)))

-- These bytes are field lines.
abbrev pub AreFields : List ℕ → Type 0
AreFields bytes = Star FieldLine (λ behind. behind ≡ []) bytes

-- the trailer section, whose bytes these are, and CRLF
abbrev pub Ending : List ℕ → List ℕ → Type 0
Ending trailers bytes = AreFields trailers × (bytes ≡ trailers ++ 13 ∷ 10 ∷ [])

-- ---- the body: *chunk last-chunk trailer-section CRLF

-- The bytes start with `size` bytes of data and CRLF. The data are the start of the content, and
-- `next` holds for the rest of the content and the rest of the bytes.
abbrev pub ChunkData : ℕ → (List ℕ → List ℕ → Type 0) → List ℕ → List ℕ → Type 0
ChunkData size next content bytes =
    (piece : List ℕ) × (more : List ℕ) × (behind : List ℕ) × (length piece ≡ size)
    × (content ≡ piece ++ more) × (bytes ≡ piece ++ 13 ∷ 10 ∷ behind) × next more behind

-- The bytes after the size line of a chunk of this size, followed by `n` more chunks. After the
-- last one, whose size is 0, comes the trailer section; after any other come its data and the
-- following chunks.
abbrev pub ChunksAfterSize : ℕ → List ℕ → List ℕ → ℕ → List ℕ → Type 0
ChunksAfterSize zero content trailers size bytes =
    (size ≡ 0) × (content ≡ []) × Ending trailers bytes
ChunksAfterSize (suc n) content trailers size bytes =
    (0 < size) × ChunkData size (λ more. SizeLine (ChunksAfterSize n more trailers)) content bytes

-- The bytes are a chunked body, all of them, with this content and these bytes of trailers.
abbrev pub IsBody : List ℕ → List ℕ → List ℕ → Type 0
IsBody content trailers bytes = (n : ℕ) × SizeLine (ChunksAfterSize n content trailers) bytes
