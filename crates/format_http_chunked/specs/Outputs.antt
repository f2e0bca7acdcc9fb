-- The position of the output of a call in its bytes.
use Rattle.std.specs.Prelude.{◌≡◌, ◌++◌, ℕ, List, Option, Some, None, Result, Ok, Err}
use Rattle.format_http_chunked.specs.Decoded.{content_of, trailers_of}
use Rattle.format_http_chunked.specs.declared.decoder.ChunkError.{ChunkError}
use Rattle.format_http_chunked.specs.declared.decoder.Step.{Step}

-- The output is at the end of the consumed bytes: the rest follows it.
abbrev pub OutputBeforeRest : List ℕ → List ℕ → Result Step ChunkError → Type 0
OutputBeforeRest bytes rest said =
    (before : List ℕ) × (bytes ≡ before ++ (content_of said ++ (trailers_of said ++ rest)))

-- likewise for a part of a call
abbrev pub PartBeforeRest : List ℕ → List ℕ → Result (Option Step) ChunkError → Type 0
PartBeforeRest bytes rest (Ok (Some said)) = OutputBeforeRest bytes rest (Ok said)
PartBeforeRest bytes rest (Ok None) = (before : List ℕ) × (bytes ≡ before ++ rest)
PartBeforeRest bytes rest (Err why) = OutputBeforeRest bytes rest (Err why)
