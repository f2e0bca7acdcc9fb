-- The rest of a chunked body that is expected in each state of the decoder, in terms of its
-- grammar.
use Rattle.std.specs.Prelude.{◌≡◌, ◌⊎◌, ◌++◌, ℕ, List, [], ◌∷◌}
use Rattle.std.specs.List.{AllByRecursion}
use Rattle.std.specs.Str.Parse.{digits_value_after}
use Rattle.format_http_chunked.specs.Bodies.{AreFields, ChunkData, ChunksAfterSize, Extended}
use Rattle.format_http_chunked.specs.Bodies.{Extension, Given, IsBody, IsHexDigit, IsSpaceOrTab}
use Rattle.format_http_chunked.specs.Bodies.{IsTokenByte, IsValueByte, LineEnd, QuotedByte, Spaced}
use Rattle.format_http_chunked.specs.Bodies.{Value}
use Rattle.format_http_chunked.specs.Words.{Byte, Many, One, Some, Star}
use Rattle.format_http_chunked.specs.declared.places.Framing.{Framing}
use Rattle.format_http_chunked.specs.declared.places.Framing.TheVariants as framing
use Rattle.format_http_chunked.specs.declared.places.InField.{InField}
use Rattle.format_http_chunked.specs.declared.places.InField.TheVariants as field
use Rattle.format_http_chunked.specs.declared.places.InLine.{InLine}
use Rattle.format_http_chunked.specs.declared.places.InLine.TheVariants as line
use Rattle.format_http_chunked.specs.declared.places.Place.{Place}
use Rattle.format_http_chunked.specs.declared.places.Place.TheVariants as place

-- the rest of a size line that is expected in a state, followed by `next`
abbrev pub DueInLine : InLine → (List ℕ → Type 0) → List ℕ → Type 0
DueInLine line.AfterSize next = Extended next
DueInLine line.White next = Extension (Extended next)
DueInLine line.Semicolon next = Many IsSpaceOrTab (Some IsTokenByte (Given (Extended next)))
DueInLine line.Name next = Many IsTokenByte (Given (Extended next))
DueInLine line.NameWhite next = λ bytes.
    Spaced 61 (Value (Extended next)) bytes ⊎ Extension (Extended next) bytes
DueInLine line.Equals next = Many IsSpaceOrTab (Value (Extended next))
DueInLine line.Token next = Many IsTokenByte (Extended next)
DueInLine line.Quotes next = Star QuotedByte (Byte 34 (Extended next))
DueInLine line.Escape next = One IsValueByte (Star QuotedByte (Byte 34 (Extended next)))
DueInLine line.Return next = Byte 10 next

-- the rest of a size whose digits so far make this number
abbrev pub DueDigits : ℕ → (ℕ → List ℕ → Type 0) → List ℕ → Type 0
DueDigits number next bytes =
    (digits : List ℕ) × (behind : List ℕ) × AllByRecursion IsHexDigit digits
    × (bytes ≡ digits ++ behind) × Extended (next (digits_value_after 16 number digits)) behind

-- the rest of field lines that is expected in a state
abbrev pub DueFields : InField → List ℕ → Type 0
DueFields field.Start = AreFields
DueFields field.Name = Many IsTokenByte (Byte 58 (Many IsValueByte (LineEnd AreFields)))
DueFields field.Value = Many IsValueByte (LineEnd AreFields)
DueFields field.Return = Byte 10 AreFields

-- the rest that is expected in a state between outputs
abbrev pub IsFramingDue : Framing → List ℕ → List ℕ → List ℕ → Type 0
IsFramingDue framing.Start content trailers bytes = IsBody content trailers bytes
IsFramingDue (framing.Digits number) content trailers bytes =
    (n : ℕ) × DueDigits number (ChunksAfterSize n content trailers) bytes
IsFramingDue (framing.Line at size) content trailers bytes =
    (n : ℕ) × DueInLine at (ChunksAfterSize n content trailers size) bytes
IsFramingDue framing.DataEnd content trailers bytes = LineEnd (IsBody content trailers) bytes
IsFramingDue framing.DataReturn content trailers bytes = Byte 10 (IsBody content trailers) bytes
IsFramingDue framing.LastReturn content trailers bytes =
    (content ≡ []) × (trailers ≡ []) × (bytes ≡ 10 ∷ [])

-- `IsDue at content trailers bytes`: in state `at` the rest of a body may be `bytes`, with this
-- content and these bytes of trailers.
abbrev pub IsDue : Place → List ℕ → List ℕ → List ℕ → Type 0
IsDue (place.Framing at) content trailers bytes = IsFramingDue at content trailers bytes
IsDue (place.Data size) content trailers bytes =
    ChunkData size (λ more. IsBody more trailers) content bytes
IsDue (place.Trailers at) content trailers bytes =
    (content ≡ []) × DueFields at trailers × (bytes ≡ trailers ++ 13 ∷ 10 ∷ [])
IsDue place.Done content trailers bytes = (content ≡ []) × (trailers ≡ []) × (bytes ≡ [])
