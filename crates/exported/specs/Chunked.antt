-- Chunked bodies from partial input, as callers see them, over successive calls.
use Rattle.std.specs.Prelude.{◌≡◌, ◌+◌, ◌++◌, ℕ, List, [], ◌∷◌, length, take, Result, Ok, Err}
use Rattle.format_http_chunked.specs.Decoded.{IsAnswer, IsAt, content_of, trailers_of}
use Rattle.format_http_chunked.specs.Room.{Spends}
use Rattle.format_http_chunked.specs.State.{decoder_of}
use Rattle.format_http_chunked.specs.declared.decoder.ChunkError.{ChunkError}
use Rattle.format_http_chunked.specs.declared.decoder.ChunkError.TheVariants as fault
use Rattle.format_http_chunked.specs.declared.decoder.Step.{Step}
use Rattle.format_http_chunked.specs.declared.decoder.Step.TheVariants as step
use Rattle.format_http_chunked.specs.declared.places.Framing.TheVariants as framing
use Rattle.format_http_chunked.specs.declared.places.Place.TheVariants as place
use Rattle.format_http_chunked.specs.declared.state.ChunkedState.{ChunkedState}
use Rattle.exported.specs.Code.{done, end, incomplete, invalid}
use Rattle.exported.specs.Span.{StandsAt, nowhere}
use Rattle.exported.specs.declared.http.chunked.ChunkedStep.{ChunkedStep}

-- the numbers of the kinds of output
abbrev pub data_kind : ℕ
data_kind = 0

abbrev pub trailers_kind : ℕ
trailers_kind = 1

-- the number of an error
abbrev pub fault_number : ChunkError → ℕ
fault_number fault.Size = 1
fault_number fault.SizeLine = 2
fault_number fault.SizeTooLarge = 3
fault_number fault.SizeLineTooLong = 4
fault_number fault.DataEnd = 5
fault_number fault.Trailers = 6
fault_number fault.TrailersTooLong = 7

-- Nothing is given out.
abbrev pub GivesNone : ChunkedStep → Type 0
GivesNone out = (out.kind ≡ 0) × (out.span ≡ nowhere)

-- `Writes bytes rest said code out`: `code` and `out` report the result `said` of the decoder,
-- after which `rest` remains. The span of data or trailers ends directly before `rest`.
abbrev pub Writes : List ℕ → List ℕ → Result Step ChunkError → ℕ → ChunkedStep → Type 0
Writes bytes rest (Ok (step.Data chunk)) code out =
    (code ≡ done) × (out.kind ≡ data_kind) × StandsAt bytes out.span chunk.now rest
    × (out.error ≡ 0)
Writes bytes rest (Ok (step.Trailers fields)) code out =
    (code ≡ done) × (out.kind ≡ trailers_kind) × StandsAt bytes out.span fields.now rest
    × (out.error ≡ 0)
Writes bytes rest (Ok step.End) code out = (code ≡ end) × GivesNone out × (out.error ≡ 0)
Writes bytes rest (Ok step.More) code out = (code ≡ incomplete) × GivesNone out × (out.error ≡ 0)
Writes bytes rest (Err why) code out =
    (code ≡ invalid) × GivesNone out × (out.error ≡ fault_number why)

-- `TellsStep old new bytes code out`: a call on `bytes` returns `code` and `out`, the result of the
-- decoder that `old` represents. It consumes `out.taken` bytes, and `new` represents the decoder
-- after them.
pub record TellsStep (old new : ChunkedState) (bytes : List ℕ) (code : ℕ) (out : ChunkedStep)
    : Type 0 where
  pub said : Result Step ChunkError
  pub rest : List ℕ
  pub taken : length bytes ≡ out.taken + length rest
  pub writes : Writes bytes rest said code out
  pub spends : Spends (decoder_of old) (decoder_of new) bytes rest said
  pub answers : (front given fields : List ℕ) → IsAt (decoder_of old).place front given fields
      → IsAnswer (decoder_of new) front given fields bytes rest said

-- ---- calls in turn

-- `IsFirst state`: `state` is an initial state: zeros, or a state with other limits whose `place`
-- is 1.
abbrev pub IsFirst : ChunkedState → Type 0
IsFirst state = (decoder_of state).place ≡ place.Framing framing.Start

-- a call: its bytes, the code, and what is written
abbrev pub Call : Type 0
Call = List ℕ × ℕ × ChunkedStep

-- `CallsInTurn state calls last taken content trailers`: successive calls, each with the state that
-- the previous one left, lead from `state` to `last`. Together they consume `taken`, and return
-- `content` and the trailer bytes `trailers`.
unfoldable pub CallsInTurn : ChunkedState → List Call → ChunkedState → List ℕ → List ℕ → List ℕ
    → Type 0
CallsInTurn state [] last taken content trailers =
    (state ≡ last) × (taken ≡ []) × (content ≡ []) × (trailers ≡ [])
CallsInTurn state (call ∷ calls) last taken content trailers =
    (next : ChunkedState) × (tells : TellsStep state next call.0 call.1 call.2)
    × (more : List ℕ) × (others : List ℕ) × (fields : List ℕ)
    × (taken ≡ take call.2.taken call.0 ++ more) × (content ≡ content_of tells.said ++ others)
    × (trailers ≡ trailers_of tells.said ++ fields)
    × CallsInTurn next calls last more others fields
