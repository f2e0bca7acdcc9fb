-- The effect of a byte on a decoder, and the results for bytes.
use Rattle.std.specs.Prelude.{◌≡◌, ◌⊎◌, ◌≤◌, ◌<◌, ◌^◌, ◌↔◌, ◌++◌, ⊤, ℕ, List, []}
use Rattle.std.specs.Prelude.{◌∷◌, length}
use Rattle.std.specs.Prelude.{Err, None, Ok, Option, Result, Some}
use Rattle.format_http_chunked.specs.Bodies.{ChunksAfterSize, IsHexDigit}
use Rattle.format_http_chunked.specs.Dues.{IsDue, IsFramingDue}
use Rattle.format_http_chunked.specs.declared.decoder.Decoder.{Decoder}
use Rattle.format_http_chunked.specs.declared.decoder.ChunkError.{ChunkError}
use Rattle.format_http_chunked.specs.declared.decoder.ChunkError.TheVariants as fault
use Rattle.format_http_chunked.specs.declared.decoder.Step.{Step}
use Rattle.format_http_chunked.specs.declared.decoder.Step.TheVariants as step
use Rattle.format_http_chunked.specs.declared.lines.Turn.{Turn}
use Rattle.format_http_chunked.specs.declared.lines.Turn.TheVariants.{Ends, Goes, Never}
use Rattle.format_http_chunked.specs.declared.places.Framing.{Framing}
use Rattle.format_http_chunked.specs.declared.places.Framing.TheVariants as framing
use Rattle.format_http_chunked.specs.declared.places.InField.{InField}
use Rattle.format_http_chunked.specs.declared.places.InField.TheVariants as field
use Rattle.format_http_chunked.specs.declared.places.Place.{Place}
use Rattle.format_http_chunked.specs.declared.places.Place.TheVariants as place

-- The contract of a step: the next state in a size line after the byte; or the end of the size
-- line; or that no line continues with the byte.
abbrev pub IsTurn : Framing → ℕ → ℕ → Turn → Type 0
IsTurn at size byte (Goes next) =
    (content trailers bytes : List ℕ) → IsFramingDue at content trailers (byte ∷ bytes)
    ↔ IsFramingDue (framing.Line next size) content trailers bytes
IsTurn at size byte Ends =
    (content trailers bytes : List ℕ) → IsFramingDue at content trailers (byte ∷ bytes)
    ↔ ((n : ℕ) × ChunksAfterSize n content trailers size bytes)
IsTurn at size byte Never =
    (content trailers bytes : List ℕ) → IsFramingDue at content trailers (byte ∷ bytes) → ⊥

-- No body continues with the byte in this state.
abbrev pub NoBodyContinues : Place → ℕ → Type 0
NoBodyContinues at byte =
    (content trailers bytes : List ℕ) → IsDue at content trailers (byte ∷ bytes) → ⊥

-- Each body that continues with the byte in this state has at least 2 ^ 64 bytes of content.
abbrev pub IsTooLarge : Place → ℕ → Type 0
IsTooLarge at byte = (content trailers bytes : List ℕ)
    → IsDue at content trailers (byte ∷ bytes) → 2 ^ 64 ≤ length content

-- some body continues with the byte in this state
abbrev pub IsViableByte : Place → ℕ → Type 0
IsViableByte at byte = (content : List ℕ) × (trailers : List ℕ) × (bytes : List ℕ)
    × IsDue at content trailers (byte ∷ bytes)

-- The byte is a digit of a size, after another.
abbrev pub IsDigitAt : Place → ℕ → Type 0
IsDigitAt at byte =
    ((number : ℕ) × (at ≡ place.Framing (framing.Digits number))) × IsHexDigit byte

-- a place in a size line, after its first digit
abbrev pub IsInSizeLine : Place → Type 0
IsInSizeLine (place.Framing framing.Start) = ⊥
IsInSizeLine (place.Framing (framing.Digits n)) = ⊤
IsInSizeLine (place.Framing (framing.Line at n)) = ⊤
IsInSizeLine (place.Framing framing.DataEnd) = ⊥
IsInSizeLine (place.Framing framing.DataReturn) = ⊥
IsInSizeLine (place.Framing framing.LastReturn) = ⊥
IsInSizeLine (place.Data n) = ⊥
IsInSizeLine (place.Trailers at) = ⊥
IsInSizeLine place.Done = ⊥

-- an offset at the line ending of data
abbrev pub IsAtDataEnd : Place → Type 0
IsAtDataEnd at =
    (at ≡ place.Framing framing.DataEnd) ⊎ (at ≡ place.Framing framing.DataReturn)

-- a place in the trailer section, or at the line end after it
abbrev pub IsInTrailers : Place → Type 0
IsInTrailers at =
    ((it : InField) × (at ≡ place.Trailers it)) ⊎ (at ≡ place.Framing framing.LastReturn)

-- The byte is one of the trailer section, and not the line end after it.
abbrev pub IsTrailerByte : Place → ℕ → Type 0
IsTrailerByte at byte =
    (it : InField) × (at ≡ place.Trailers it) × (it ≡ field.Start → byte ≡ 13 → ⊥)

-- The byte is neither one of data nor one of the trailer section.
abbrev pub IsBetweenData : Place → ℕ → Type 0
IsBetweenData at byte =
    ((it : Framing) × (at ≡ place.Framing it))
    ⊎ ((at ≡ place.Trailers field.Start) × (byte ≡ 13))

-- The reason to reject the byte in this state, if `room` more bytes are allowed between data, and
-- `left` more of trailers: no body continues with it; or none of less than 2 ^ 64 bytes; or some
-- body does, and a limit is exceeded.
abbrev pub IsFault : Place → ℕ → ℕ → ℕ → ChunkError → Type 0
IsFault at room left byte fault.Size = (at ≡ place.Framing framing.Start) × NoBodyContinues at byte
IsFault at room left byte fault.SizeLine = IsInSizeLine at × NoBodyContinues at byte
IsFault at room left byte fault.SizeTooLarge = IsDigitAt at byte × IsTooLarge at byte
IsFault at room left byte fault.SizeLineTooLong =
    IsBetweenData at byte × IsViableByte at byte × (room ≡ 0)
IsFault at room left byte fault.DataEnd = IsAtDataEnd at × NoBodyContinues at byte
IsFault at room left byte fault.Trailers = IsInTrailers at × NoBodyContinues at byte
IsFault at room left byte fault.TrailersTooLong =
    IsTrailerByte at byte × IsViableByte at byte × (left ≡ 0)

-- `ArePassed old new fields`: bytes of field lines lead from one state to another. The bytes are
-- accepted in `old` if and only if they are the start of the trailers and the rest is accepted in
-- `new`.
abbrev pub ArePassed : InField → InField → List ℕ → Type 0
ArePassed old new fields = (content trailers more : List ℕ)
    → IsDue (place.Trailers old) content trailers (fields ++ more)
    ↔ ((others : List ℕ) × (trailers ≡ fields ++ others)
    × IsDue (place.Trailers new) content others more)

-- `IsTaken old new bytes rest given fields`: a prefix of `bytes` was consumed, and `rest` remains.
-- For any continuation of the prefix, it is accepted in `old` if and only if the continuation is
-- accepted in `new`, with `given` and `fields` removed from content and trailers.
abbrev pub IsTaken : Place → Place → List ℕ → List ℕ → List ℕ → List ℕ → Type 0
IsTaken old new bytes rest given fields =
    (taken : List ℕ) × (bytes ≡ taken ++ rest)
    × ((content trailers more : List ℕ) → IsDue old content trailers (taken ++ more)
    ↔ ((left : List ℕ) × (others : List ℕ) × (content ≡ given ++ left)
    × (trailers ≡ fields ++ others) × IsDue new left others more))

-- The result of the decoder for the bytes that it consumes.
abbrev pub IsResult : Decoder → Decoder → List ℕ → List ℕ → Result Step ChunkError → Type 0
IsResult old new bytes rest (Ok (step.Data chunk)) =
    IsTaken old.place new.place bytes rest chunk.now [] × (0 < length chunk.now)
IsResult old new bytes rest (Ok (step.Trailers fields)) =
    IsTaken old.place new.place bytes rest [] fields.now × (0 < length fields.now)
IsResult old new bytes rest (Ok step.End) =
    IsTaken old.place new.place bytes rest [] [] × (new.place ≡ place.Done)
IsResult old new bytes rest (Ok step.More) =
    IsTaken old.place new.place bytes rest [] [] × (rest ≡ []) × (new.place ≡ place.Done → ⊥)
IsResult old new bytes rest (Err fault) =
    IsTaken old.place new.place bytes rest [] [] × ((byte : ℕ) × (others : List ℕ)
    × (rest ≡ byte ∷ others) × IsFault new.place new.room new.trailer_room byte fault)

-- Like `IsResult`, for a part of a call, which may not have a result yet.
abbrev pub IsPartResult : Decoder → Decoder → List ℕ → List ℕ → Result (Option Step) ChunkError
    → Type 0
IsPartResult old new bytes rest (Ok (Some said)) = IsResult old new bytes rest (Ok said)
IsPartResult old new bytes rest (Ok None) =
    IsTaken old.place new.place bytes rest [] [] × (length rest < length bytes)
IsPartResult old new bytes rest (Err why) = IsResult old new bytes rest (Err why)
