-- Lemmas about the position of the output in the bytes, if a part of a call saw only some of them.
use Rattle.std.specs.Prelude.{◌≡◌, ◌++◌, ◌∷◌, ◌-◌, ℕ, List, length, take, Result}
use Rattle.std.proofs.Common.{ap, append_assoc, refl, sym, ◌∙◌}
use Rattle.format_http_chunked.proofs.Lists.{take_prefix_by_rest}
use Rattle.format_http_chunked.specs.Decoded.{content_of, trailers_of}
use Rattle.format_http_chunked.specs.Outputs.{OutputBeforeRest}
use Rattle.format_http_chunked.specs.declared.decoder.ChunkError.{ChunkError}
use Rattle.format_http_chunked.specs.declared.decoder.Step.{Step}

-- where bytes before those that it saw are taken too
pub stands_then : (taken bytes ahead rest : List ℕ) (said : Result Step ChunkError)
    → bytes ≡ taken ++ ahead → OutputBeforeRest ahead rest said → OutputBeforeRest bytes rest said
stands_then taken bytes ahead rest said e (before, f) = (
  taken ++ before,
  e ∙ ap (λ l. taken ++ l) f
      ∙ sym (append_assoc taken before (content_of said ++ (trailers_of said ++ rest))),
)

-- the prefix of some bytes, by the length of the rest
pub front_before : (b : ℕ) (bytes ahead rest fields front : List ℕ) → bytes ≡ b ∷ ahead
    → ahead ≡ fields ++ rest → front ≡ take (length bytes - length rest) bytes
    → bytes ≡ front ++ rest
front_before b bytes ahead rest fields front e f cut =
    let all : bytes ≡ (b ∷ fields) ++ rest = e ∙ ap (λ l. b ∷ l) f in
    all ∙ ap (λ l. l ++ rest) (sym (cut ∙ take_prefix_by_rest bytes (b ∷ fields) rest _ all refl))
