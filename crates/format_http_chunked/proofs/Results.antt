-- The results of a decoder for all bytes so far, from its results for the bytes of one call.
use Rattle.std.specs.Prelude.{◌≡◌, ◌≤◌, ◌↔◌, ◌^◌, ◌+◌, ◌++◌, ℕ, List, [], ◌∷◌, length}
use Rattle.std.specs.Prelude.{Result}
use Rattle.std.specs.Prelude.{Err, Ok}
use Rattle.std.proofs.Common.{refl, sym, subst, ap, ◌∙◌, append_assoc, arith}
use Rattle.std.proofs.Common.{length-append}
use Rattle.std.proofs.lemmas.List.{append-nil}
use Rattle.format_http_chunked.proofs.Begun.{every_place_is_viable, must_go_on}
use Rattle.format_http_chunked.specs.Bodies.{IsBody}
use Rattle.format_http_chunked.specs.Decoded.{IsAnswer, IsAt, IsBodyPrefix, IsNone, IsRefusal}
use Rattle.format_http_chunked.specs.Dues.{IsDue}
use Rattle.format_http_chunked.specs.Steps.{IsFault, IsResult, IsTooLarge, IsViableByte}
use Rattle.format_http_chunked.specs.Steps.{NoBodyContinues}
use Rattle.format_http_chunked.specs.declared.decoder.Decoder.{Decoder}
use Rattle.format_http_chunked.specs.declared.decoder.ChunkError.{ChunkError}
use Rattle.format_http_chunked.specs.declared.decoder.ChunkError.TheVariants as fault
use Rattle.format_http_chunked.specs.declared.decoder.Step.{Step}
use Rattle.format_http_chunked.specs.declared.decoder.Step.TheVariants as step
use Rattle.format_http_chunked.specs.declared.places.Framing.TheVariants as framing
use Rattle.format_http_chunked.specs.declared.places.Place.{Place}
use Rattle.format_http_chunked.specs.declared.places.Place.TheVariants as place

pub starts_with_nothing_given : IsAt (place.Framing framing.Start) [] [] []
starts_with_nothing_given content trailers bytes = (
  λ x. (content, trailers, refl, refl, x),
  λ (left, others, c, t, x).
      let P : List ℕ → Type 0 = λ l. IsBody l trailers bytes in
      let Q : List ℕ → Type 0 = λ l. IsBody left l bytes in
      subst P (sym c) (subst Q (sym t) x),
)

module _ (front given fields : List ℕ) where
  moved : (at next : Place) (taken more some : List ℕ) → IsAt at front given fields
      → ((content trailers bytes : List ℕ) → IsDue at content trailers (taken ++ bytes)
      ↔ ((left : List ℕ) × (others : List ℕ) × (content ≡ more ++ left)
      × (trailers ≡ some ++ others) × IsDue next left others bytes))
      → IsAt next (front ++ taken) (given ++ more) (fields ++ some)
  moved at next taken more some is step content trailers bytes =
      let P : List ℕ → Type 0 = λ l. IsBody content trailers l in (
        λ x.
            let (left, others, c, t, y) = (is content trailers (taken ++ bytes)).0
            (subst P (append_assoc front taken bytes) x) in
            let (less, fewer, d, u, z) = (step left others bytes).0 y in (
              less,
              fewer,
              c ∙ ap (λ l. given ++ l) d ∙ sym (append_assoc given more less),
              t ∙ ap (λ l. fields ++ l) u ∙ sym (append_assoc fields some fewer),
              z,
            ),
        λ (less, fewer, d, u, z).
            subst P (sym (append_assoc front taken bytes))
            ((is content trailers (taken ++ bytes)).1 (
              more ++ less,
              some ++ fewer,
              d ∙ append_assoc given more less,
              u ∙ append_assoc fields some fewer,
              (step (more ++ less) (some ++ fewer) bytes).1 (less, fewer, refl, refl, z),
            )),
      )

  module _ (at : Place) (is : IsAt at front given fields) where
    -- some more bytes make it a body
    begun : IsBodyPrefix front given fields
    begun =
        let (content, trailers, bytes, x) = every_place_is_viable at in (
          content,
          trailers,
          bytes,
          (is (given ++ content) (fields ++ trailers) bytes).1
              (content, trailers, refl, refl, x),
        )

    none_goes_on : (b : ℕ) → NoBodyContinues at b → IsNone (front ++ b ∷ [])
    none_goes_on b never content trailers more x =
        let P : List ℕ → Type 0 = λ l. IsBody content trailers l in
        let (left, others, c, t, y) = (is content trailers (b ∷ more)).0
        (subst P (append_assoc front (b ∷ []) more) x) in
        never left others more y

    some_goes_on : (b : ℕ) → IsViableByte at b → IsNone (front ++ b ∷ []) → ⊥
    some_goes_on b (content, trailers, more, x) none =
        let P : List ℕ → Type 0 = λ l. IsBody (given ++ content) (fields ++ trailers) l in
        none (given ++ content) (fields ++ trailers) more
        (subst P (sym (append_assoc front (b ∷ []) more))
        ((is (given ++ content) (fields ++ trailers) (b ∷ more)).1
        (content, trailers, refl, refl, x)))

    -- a body is whole at its end
    whole : at ≡ place.Done → IsBody given fields front
    whole e =
        let D : Place → Type 0 = λ p. IsDue p [] [] [] in
        subst (λ l. IsBody given fields l) (append-nil front)
        ((is given fields []).1 (
          [],
          [],
          sym (append-nil given),
          sym (append-nil fields),
          subst D (sym e) (refl, refl, refl),
        ))

    -- and before it none is
    open_yet : (at ≡ place.Done → ⊥) → (content trailers : List ℕ)
        → IsBody content trailers front → ⊥
    open_yet none content trailers x =
        let (left, others, c, t, y) = (is content trailers []).0
        (subst (λ l. IsBody content trailers l) (sym (append-nil front)) x) in
        must_go_on at none left others y

    -- each body that continues with a byte is as large as here
    large : (b : ℕ) → IsTooLarge at b → (content trailers more : List ℕ)
        → IsBody content trailers ((front ++ b ∷ []) ++ more) → 2 ^ 64 ≤ length content
    large b most content trailers more x =
        let P : List ℕ → Type 0 = λ l. IsBody content trailers l in
        let (left, others, c, t, y) = (is content trailers (b ∷ more)).0
        (subst P (append_assoc front (b ∷ []) more) x) in
        omega (
          arith,
          most left others more y,
          ap (λ (l : List ℕ). length l) c,
          length-append given left,
        )

  refused : (decoder : Decoder) → IsAt decoder.place front given fields → (b : ℕ) (why : ChunkError)
      → IsFault decoder.place decoder.room decoder.trailer_room b why
      → IsRefusal decoder front b why
  refused decoder is b fault.Size f = (f.0, none_goes_on decoder.place is b f.1)
  refused decoder is b fault.SizeLine f = (f.0, none_goes_on decoder.place is b f.1)
  refused decoder is b fault.SizeTooLarge f = (f.0, large decoder.place is b f.1)
  refused decoder is b fault.SizeLineTooLong (at, on, no_room) =
      (at, some_goes_on decoder.place is b on, no_room)
  refused decoder is b fault.DataEnd f = (f.0, none_goes_on decoder.place is b f.1)
  refused decoder is b fault.Trailers f = (f.0, none_goes_on decoder.place is b f.1)
  refused decoder is b fault.TrailersTooLong (at, on, no_room) =
      (at, some_goes_on decoder.place is b on, no_room)

pub told : (old new : Decoder) (bytes rest : List ℕ) (r : Result Step ChunkError)
    → IsResult old new bytes rest r → (front given fields : List ℕ)
    → IsAt old.place front given fields → IsAnswer new front given fields bytes rest r
told old new bytes rest (Ok (step.Data chunk)) ((taken, e, f), some) front given fields is = (
  taken,
  e,
  moved front given fields old.place new.place taken chunk.now [] is f,
  some,
)
told old new bytes rest (Ok (step.Trailers few)) ((taken, e, f), some) front given fields is = (
  taken,
  e,
  moved front given fields old.place new.place taken [] few.now is f,
  some,
)
told old new bytes rest (Ok step.End) ((taken, e, f), done) front given fields is =
    let at = moved front given fields old.place new.place taken [] [] is f in
    (taken, e, at, whole (front ++ taken) (given ++ []) (fields ++ []) new.place at done)
told old new bytes rest (Ok step.More) ((taken, e, f), none, still) front given fields is =
    let at = moved front given fields old.place new.place taken [] [] is f in (
      taken,
      e,
      at,
      (
        none,
        begun (front ++ taken) (given ++ []) (fields ++ []) new.place at,
        open_yet (front ++ taken) (given ++ []) (fields ++ []) new.place at still,
      ),
    )
told old new bytes rest (Err why) ((taken, e, f), (b, others, g, fault)) front given fields is =
    let at = moved front given fields old.place new.place taken [] [] is f in (
      taken,
      e,
      at,
      (
        b,
        others,
        g,
        refused (front ++ taken) (given ++ []) (fields ++ []) new at b why fault,
        begun (front ++ taken) (given ++ []) (fields ++ []) new.place at,
      ),
    )
