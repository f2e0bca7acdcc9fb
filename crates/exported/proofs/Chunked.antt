-- Lemmas about the results of calls for chunked bodies, and of successive calls.
use Rattle.std.specs.Prelude.{◌≡◌, ◌+◌, ◌++◌, ℕ, List, [], ◌∷◌, length, take, Result}
use Rattle.std.proofs.Common.{ap, append-nil, append_assoc, arith, length-append, refl, subst, sym}
use Rattle.std.proofs.Common.{◌∙◌}
use Rattle.format_http_chunked.proofs.Results.{starts_with_nothing_given}
use Rattle.format_http_chunked.specs.Decoded.{IsAnswer, IsAt, content_of, trailers_of}
use Rattle.format_http_chunked.specs.Room.{Spends}
use Rattle.format_http_chunked.specs.Outputs.{OutputBeforeRest}
use Rattle.format_http_chunked.specs.State.{decoder_of}
use Rattle.format_http_chunked.specs.declared.decoder.Decoder.{Decoder}
use Rattle.format_http_chunked.specs.declared.decoder.ChunkError.{ChunkError}
use Rattle.format_http_chunked.specs.declared.decoder.Step.{Step}
use Rattle.format_http_chunked.specs.declared.places.Place.{Place}
use Rattle.format_http_chunked.specs.declared.state.ChunkedState.{ChunkedState}
use Rattle.exported.specs.Chunked.{Call, CallsInTurn, IsFirst, TellsStep, Writes}
use Rattle.exported.specs.declared.http.chunked.ChunkedStep.{ChunkedStep}

-- what a decoder says, of the states that are of it
pub tells : (old new : ChunkedState) (before after : Decoder) (bytes rest : List ℕ)
    (said : Result Step ChunkError) (code : ℕ) (out : ChunkedStep) → before ≡ decoder_of old
    → decoder_of new ≡ after → length bytes ≡ out.taken + length rest
    → Writes bytes rest said code out → Spends before after bytes rest said
    → ((front given fields : List ℕ) → IsAt before.place front given fields
    → IsAnswer after front given fields bytes rest said)
    → TellsStep old new bytes code out
tells old new before after bytes rest said code out was is taken writes spends answers =
    let P : Decoder → Decoder → Type 0 = λ b a. Spends b a bytes rest said in
    let Q : Decoder → Decoder → Type 0 = λ b a. (front given fields : List ℕ)
    → IsAt b.place front given fields → IsAnswer a front given fields bytes rest said in
    record {
      said = said;
      rest = rest;
      taken = taken;
      writes = writes;
      spends = subst (λ b. P b (decoder_of new)) was (subst (P before) (sym is) spends);
      answers = subst (λ b. Q b (decoder_of new)) was (subst (Q before) (sym is) answers);
    }

-- ---- places

pub taken_before : (bytes rest : List ℕ) (said : Result Step ChunkError)
    → OutputBeforeRest bytes rest said
    → (before : List ℕ) × (bytes ≡ before ++ rest)
taken_before bytes rest said (before, e) =
    let given = content_of said in
    let fields = trailers_of said in (
      before ++ (given ++ fields),
      e ∙ sym (append_assoc before (given ++ fields) rest
          ∙ ap (λ l. before ++ l) (append_assoc given fields rest)),
    )

-- ---- calls in turn

-- the first of some bytes, by how many they are
front_of : (taken rest : List ℕ) (n : ℕ) → length (taken ++ rest) ≡ n + length rest
    → take n (taken ++ rest) ≡ taken
front_of taken rest n e =
    subst (λ k. take k (taken ++ rest) ≡ taken)
    (sym (omega (arith, e, length-append taken rest))) (whole taken)
  where
    whole : (front : List ℕ) → take (length front) (front ++ rest) ≡ front
    whole [] = none rest
      where
        none : (bytes : List ℕ) → take 0 bytes ≡ []
        none [] = refl
        none (b ∷ bytes) = refl
    whole (b ∷ front) = ap (λ l. b ∷ l) (whole front)

taken_is : (bytes taken rest : List ℕ) (n : ℕ) → bytes ≡ taken ++ rest
    → length bytes ≡ n + length rest → taken ≡ take n bytes
taken_is bytes taken rest n e =
    subst (λ l. length l ≡ n + length rest → taken ≡ take n l) (sym e)
    (λ many. sym (front_of taken rest n many))

at_as : (at : Place) (a b c d e f : List ℕ) → a ≡ b → c ≡ d → e ≡ f → IsAt at a c e
    → IsAt at b d f
at_as at a b c d e f x y z is =
    subst (λ l. IsAt at b d l) z (subst (λ l. IsAt at b l e) y (subst (λ l. IsAt at l c e) x is))

joined : (front text more all : List ℕ) → all ≡ text ++ more
    → (front ++ text) ++ more ≡ front ++ all
joined front text more all e = append_assoc front text more ∙ ap (λ l. front ++ l) (sym e)

turn_by_turn : (calls : List Call) (state last : ChunkedState)
    (front given fields taken content trailers : List ℕ)
    → IsAt (decoder_of state).place front given fields
    → CallsInTurn state calls last taken content trailers
    → IsAt (decoder_of last).place (front ++ taken) (given ++ content) (fields ++ trailers)
unfolding CallsInTurn
turn_by_turn [] state last front given fields taken content trailers is (same, t, c, f) =
    let P : ChunkedState → Type 0 = λ s. IsAt (decoder_of s).place (front ++ taken)
    (given ++ content) (fields ++ trailers) in
    let none : (one all : List ℕ) → all ≡ [] → one ≡ one ++ all =
    λ one all e. sym (append-nil one) ∙ ap (λ l. one ++ l) (sym e) in
    subst P same
    (at_as (decoder_of state).place front (front ++ taken) given (given ++ content) fields
    (fields ++ trailers) (none front taken t) (none given content c) (none fields trailers f) is)
turn_by_turn (call ∷ calls) state last front given fields taken content trailers is
    (next, tells, more, others, few, t, c, f, again) =
    let (mine, e, at, says) = tells.answers front given fields is in
    let cut = taken_is call.0 mine tells.rest call.2.taken e tells.taken in
    at_as (decoder_of last).place ((front ++ mine) ++ more) (front ++ taken)
    ((given ++ content_of tells.said) ++ others) (given ++ content)
    ((fields ++ trailers_of tells.said) ++ few) (fields ++ trailers)
    (joined front mine more taken (t ∙ ap (λ l. l ++ more) (sym cut)))
    (joined given (content_of tells.said) others content c)
    (joined fields (trailers_of tells.said) few trailers f)
    (turn_by_turn calls next last (front ++ mine) (given ++ content_of tells.said)
    (fields ++ trailers_of tells.said) more others few at again)

pub calls_in_turn : (first : ChunkedState) → IsFirst first → (calls : List Call)
    (state : ChunkedState) (taken content trailers : List ℕ)
    → CallsInTurn first calls state taken content trailers
    → IsAt (decoder_of state).place taken content trailers
calls_in_turn first is calls state taken content trailers =
    turn_by_turn calls first state [] [] [] taken content trailers
    (subst (λ at. IsAt at [] [] []) (sym is) starts_with_nothing_given)
