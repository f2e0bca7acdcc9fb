-- The results of a decoder for a chunked body that arrives in chunks.
use Rattle.std.specs.Prelude.{◌≡◌, ◌≤◌, ◌<◌, ◌^◌, ◌↔◌, ◌++◌, ℕ, List, [], ◌∷◌, length}
use Rattle.std.specs.Prelude.{Err, Ok, Result}
use Rattle.format_http_chunked.specs.Bodies.{IsBody}
use Rattle.format_http_chunked.specs.Dues.{IsDue}
use Rattle.format_http_chunked.specs.Steps.{IsAtDataEnd, IsBetweenData, IsDigitAt, IsInSizeLine}
use Rattle.format_http_chunked.specs.Steps.{IsInTrailers, IsTrailerByte}
use Rattle.format_http_chunked.specs.declared.decoder.Decoder.{Decoder}
use Rattle.format_http_chunked.specs.declared.decoder.ChunkError.{ChunkError}
use Rattle.format_http_chunked.specs.declared.decoder.ChunkError.TheVariants as fault
use Rattle.format_http_chunked.specs.declared.decoder.Step.{Step}
use Rattle.format_http_chunked.specs.declared.decoder.Step.TheVariants as step
use Rattle.format_http_chunked.specs.declared.places.Framing.TheVariants as framing
use Rattle.format_http_chunked.specs.declared.places.Place.{Place}
use Rattle.format_http_chunked.specs.declared.places.Place.TheVariants as place

-- `front` was consumed, and `given` and `fields` were returned: for any continuation, the whole is
-- a body if and only if the continuation is accepted in this state, with the rest of content and
-- trailers.
abbrev pub IsAt : Place → List ℕ → List ℕ → List ℕ → Type 0
IsAt at front given fields = (content trailers bytes : List ℕ)
    → IsBody content trailers (front ++ bytes)
    ↔ ((left : List ℕ) × (others : List ℕ) × (content ≡ given ++ left)
    × (trailers ≡ fields ++ others) × IsDue at left others bytes)

-- Some continuation makes these bytes a body, whose content and trailers start with the output so
-- far.
abbrev pub IsBodyPrefix : List ℕ → List ℕ → List ℕ → Type 0
IsBodyPrefix front given fields =
    (left : List ℕ) × (others : List ℕ) × (more : List ℕ)
    × IsBody (given ++ left) (fields ++ others) (front ++ more)

-- No body begins with these bytes.
abbrev pub IsNone : List ℕ → Type 0
IsNone bytes = (content trailers more : List ℕ) → IsBody content trailers (bytes ++ more) → ⊥

-- The contract of an error at the byte after `front`. Either no body continues with it, and a size,
-- the rest of a size line, the line ending of data, or trailers are expected. Or it is a digit of a
-- size, and no body of less than 2 ^ 64 bytes of content continues with it. Or some body continues
-- with it, and the limit of bytes between data or of trailers is reached.
abbrev pub IsRefusal : Decoder → List ℕ → ℕ → ChunkError → Type 0
IsRefusal decoder front byte fault.Size =
    (decoder.place ≡ place.Framing framing.Start) × IsNone (front ++ byte ∷ [])
IsRefusal decoder front byte fault.SizeLine =
    IsInSizeLine decoder.place × IsNone (front ++ byte ∷ [])
IsRefusal decoder front byte fault.SizeTooLarge =
    IsDigitAt decoder.place byte × ((content trailers more : List ℕ)
    → IsBody content trailers ((front ++ byte ∷ []) ++ more) → 2 ^ 64 ≤ length content)
IsRefusal decoder front byte fault.SizeLineTooLong =
    IsBetweenData decoder.place byte × (IsNone (front ++ byte ∷ []) → ⊥) × (decoder.room ≡ 0)
IsRefusal decoder front byte fault.DataEnd =
    IsAtDataEnd decoder.place × IsNone (front ++ byte ∷ [])
IsRefusal decoder front byte fault.Trailers =
    IsInTrailers decoder.place × IsNone (front ++ byte ∷ [])
IsRefusal decoder front byte fault.TrailersTooLong =
    IsTrailerByte decoder.place byte × (IsNone (front ++ byte ∷ []) → ⊥)
    × (decoder.trailer_room ≡ 0)

-- the content and the bytes of trailers that a call gives out
abbrev pub content_of : Result Step ChunkError → List ℕ
content_of (Ok (step.Data chunk)) = chunk.now
content_of (Ok (step.Trailers fields)) = []
content_of (Ok step.End) = []
content_of (Ok step.More) = []
content_of (Err why) = []

abbrev pub trailers_of : Result Step ChunkError → List ℕ
trailers_of (Ok (step.Data chunk)) = []
trailers_of (Ok (step.Trailers fields)) = fields.now
trailers_of (Ok step.End) = []
trailers_of (Ok step.More) = []
trailers_of (Err why) = []

-- The contract of a call that leaves `rest`, in terms of all bytes consumed and all output so far.
-- `Data` and `Trailers` are not empty. At `End` the consumed bytes are a body, and the output is
-- its content and trailers. At `More` no byte remains, and the consumed bytes are a proper prefix
-- of a body. At an error no body continues with the next byte, for the given reason, and the
-- consumed bytes are a prefix of a body.
abbrev pub Says : Decoder → List ℕ → List ℕ → List ℕ → List ℕ → Result Step ChunkError → Type 0
Says decoder front given fields rest (Ok (step.Data chunk)) = 0 < length chunk.now
Says decoder front given fields rest (Ok (step.Trailers some)) = 0 < length some.now
Says decoder front given fields rest (Ok step.End) = IsBody given fields front
Says decoder front given fields rest (Ok step.More) =
    (rest ≡ []) × IsBodyPrefix front given fields
    × ((content trailers : List ℕ) → IsBody content trailers front → ⊥)
Says decoder front given fields rest (Err why) =
    (byte : ℕ) × (others : List ℕ) × (rest ≡ byte ∷ others)
    × IsRefusal decoder front byte why × IsBodyPrefix front given fields

-- The contract of a call after `front` was consumed and `given` and `fields` were returned: it
-- consumes some of the bytes, leaves the rest, and returns the next part of content or trailers.
abbrev pub IsAnswer : Decoder → List ℕ → List ℕ → List ℕ → List ℕ → List ℕ → Result Step ChunkError
    → Type 0
IsAnswer decoder front given fields bytes rest result =
    (taken : List ℕ) × (bytes ≡ taken ++ rest)
    × IsAt decoder.place (front ++ taken) (given ++ content_of result)
    (fields ++ trailers_of result)
    × Says decoder (front ++ taken) (given ++ content_of result) (fields ++ trailers_of result)
    rest result
