-- How many bytes more a decoder takes.
use Rattle.std.specs.Prelude.{◌≡◌, ◌≤◌, ◌+◌, ℕ, List, length, Option, Some, None, Result, Ok, Err}
use Rattle.format_http_chunked.specs.declared.decoder.Decoder.{Decoder}
use Rattle.format_http_chunked.specs.declared.decoder.ChunkError.{ChunkError}
use Rattle.format_http_chunked.specs.declared.decoder.Step.{Step}
use Rattle.format_http_chunked.specs.declared.decoder.Step.TheVariants as step

-- Of this many bytes that are taken and not given out each leaves less room between data, and each
-- of these bytes of trailers less room for them.
abbrev pub IsSpent : Decoder → Decoder → List ℕ → List ℕ → ℕ → Type 0
IsSpent old new bytes rest fields =
    (new.limits ≡ old.limits) × (new.room + length bytes ≡ old.room + (length rest + fields))
    × (new.trailer_room + fields ≡ old.trailer_room)

-- Data leave all of the room between data after them, and other steps less. There was room for the
-- bytes that are taken before the data.
abbrev pub Spends : Decoder → Decoder → List ℕ → List ℕ → Result Step ChunkError → Type 0
Spends old new bytes rest (Ok (step.Data chunk)) =
    (new.limits ≡ old.limits) × (new.room ≡ old.limits.size_line)
    × (new.trailer_room ≡ old.trailer_room)
    × (length bytes ≤ old.room + (length chunk.now + length rest))
Spends old new bytes rest (Ok (step.Trailers fields)) =
    IsSpent old new bytes rest (length fields.now)
Spends old new bytes rest (Ok step.End) = IsSpent old new bytes rest 0
Spends old new bytes rest (Ok step.More) = IsSpent old new bytes rest 0
Spends old new bytes rest (Err why) = IsSpent old new bytes rest 0

-- likewise for a part of a call
abbrev pub PartSpends : Decoder → Decoder → List ℕ → List ℕ → Result (Option Step) ChunkError
    → Type 0
PartSpends old new bytes rest (Ok (Some said)) = Spends old new bytes rest (Ok said)
PartSpends old new bytes rest (Ok None) = IsSpent old new bytes rest 0
PartSpends old new bytes rest (Err why) = Spends old new bytes rest (Err why)
