-- Lemmas about the results of a decoder, for equivalent states and after consumed bytes.
use Rattle.std.specs.Prelude.{◌≡◌, ◌↔◌, ◌++◌, ℕ, List, [], ◌∷◌, length, Option, Some, None}
use Rattle.std.specs.Prelude.{Err, Ok, Result}
use Rattle.std.proofs.Common.{ap, arith, refl, subst, sym, ◌∙◌}
use Rattle.format_http_chunked.proofs.Taking.{data_zero, taken_byte, taken_from_equal_place}
use Rattle.format_http_chunked.proofs.Taking.{taken_in_turn}
use Rattle.format_http_chunked.proofs.Turns.{iff_trans}
use Rattle.format_http_chunked.proofs.Begun.{every_place_is_viable, fields_due}
use Rattle.format_http_chunked.specs.Dues.{DueFields, IsDue, IsFramingDue}
use Rattle.format_http_chunked.specs.Room.{IsSpent, PartSpends, Spends}
use Rattle.format_http_chunked.specs.Steps.{IsFault, IsPartResult, IsResult, IsTaken, IsViableByte}
use Rattle.format_http_chunked.specs.Steps.{NoBodyContinues}
use Rattle.format_http_chunked.specs.declared.decoder.Decoder.{Decoder}
use Rattle.format_http_chunked.specs.declared.decoder.ChunkError.{ChunkError}
use Rattle.format_http_chunked.specs.declared.decoder.Limits.{Limits}
use Rattle.format_http_chunked.specs.declared.decoder.Step.{Step}
use Rattle.format_http_chunked.specs.declared.decoder.Step.TheVariants as step
use Rattle.format_http_chunked.specs.declared.places.Framing.{Framing}
use Rattle.format_http_chunked.specs.declared.places.Framing.TheVariants as framing
use Rattle.format_http_chunked.specs.declared.places.InField.{InField}
use Rattle.format_http_chunked.specs.declared.places.InField.TheVariants as field
use Rattle.format_http_chunked.specs.declared.places.Place.{Place}
use Rattle.format_http_chunked.specs.declared.places.Place.TheVariants as place

-- ---- places that are the same

pub framing_at : (at other : Framing) (next : Place) (b : ℕ) → at ≡ other
    → ((content trailers bytes : List ℕ) → IsFramingDue other content trailers (b ∷ bytes)
    ↔ IsDue next content trailers bytes)
    → (content trailers bytes : List ℕ) → IsFramingDue at content trailers (b ∷ bytes)
    ↔ IsDue next content trailers bytes
framing_at at other next b e =
    let P : Framing → Type 0 = λ k. (content trailers bytes : List ℕ)
    → IsFramingDue k content trailers (b ∷ bytes) ↔ IsDue next content trailers bytes in
    subst P (sym e)

pub fault_at : (at other : Framing) (b : ℕ) (why : ChunkError) → at ≡ other
    → ((room left : ℕ) → IsFault (place.Framing other) room left b why)
    → (room left : ℕ) → IsFault (place.Framing at) room left b why
fault_at at other b why e =
    let P : Framing → Type 0 = λ k. (room left : ℕ) → IsFault (place.Framing k) room left b why in
    subst P (sym e)

pub never_at : (at other : Place) (b : ℕ) → at ≡ other → NoBodyContinues other b
    → NoBodyContinues at b
never_at at other b e = let P : Place → Type 0 = λ k. NoBodyContinues k b in subst P (sym e)

-- ---- a byte

pub byte_taken : (at : Place) (framing : Framing) (next : Place) (b : ℕ) (bytes rest : List ℕ)
    → at ≡ place.Framing framing → bytes ≡ b ∷ rest
    → ((content trailers more : List ℕ) → IsFramingDue framing content trailers (b ∷ more)
    ↔ IsDue next content trailers more) → IsTaken at next bytes rest [] []
byte_taken at framing next b bytes rest e f step =
    let P : List ℕ → Type 0 = λ l. IsTaken (place.Framing framing) next l rest [] [] in
    taken_from_equal_place at (place.Framing framing) next bytes rest [] [] e
    (subst P (sym f) (taken_byte (place.Framing framing) next b rest step))

-- ---- results

pub taken_alike : (at other new : Place) (bytes rest given fields : List ℕ)
    → ((content trailers more : List ℕ) → IsDue at content trailers more
    ↔ IsDue other content trailers more)
    → IsTaken other new bytes rest given fields → IsTaken at new bytes rest given fields
taken_alike at other new bytes rest given fields same (taken, e, f) = (
  taken,
  e,
  λ content trailers more.
      iff_trans (same content trailers _) (f content trailers more),
)

pub part_alike : (old other new : Decoder) (bytes rest : List ℕ)
    (r : Result (Option Step) ChunkError)
    → ((content trailers more : List ℕ) → IsDue old.place content trailers more
    ↔ IsDue other.place content trailers more)
    → IsPartResult other new bytes rest r → IsPartResult old new bytes rest r
part_alike old other new bytes rest (Ok (Some (step.Data chunk))) same (t, x) =
    (taken_alike old.place other.place new.place bytes rest chunk.now [] same t, x)
part_alike old other new bytes rest (Ok (Some (step.Trailers fields))) same (t, x) =
    (taken_alike old.place other.place new.place bytes rest [] fields.now same t, x)
part_alike old other new bytes rest (Ok (Some step.End)) same (t, x) =
    (taken_alike old.place other.place new.place bytes rest [] [] same t, x)
part_alike old other new bytes rest (Ok (Some step.More)) same (t, x, y) =
    (taken_alike old.place other.place new.place bytes rest [] [] same t, x, y)
part_alike old other new bytes rest (Ok None) same (t, x) =
    (taken_alike old.place other.place new.place bytes rest [] [] same t, x)
part_alike old other new bytes rest (Err why) same (t, x) =
    (taken_alike old.place other.place new.place bytes rest [] [] same t, x)

pub said_then : (old mid new : Decoder) (bytes ahead rest : List ℕ) (r : Result Step ChunkError)
    → IsTaken old.place mid.place bytes ahead [] [] → IsResult mid new ahead rest r
    → IsResult old new bytes rest r
said_then old mid new bytes ahead rest (Ok (step.Data chunk)) t (u, x) =
    (taken_in_turn old.place mid.place new.place bytes ahead rest chunk.now [] t u, x)
said_then old mid new bytes ahead rest (Ok (step.Trailers fields)) t (u, x) =
    (taken_in_turn old.place mid.place new.place bytes ahead rest [] fields.now t u, x)
said_then old mid new bytes ahead rest (Ok step.End) t (u, x) =
    (taken_in_turn old.place mid.place new.place bytes ahead rest [] [] t u, x)
said_then old mid new bytes ahead rest (Ok step.More) t (u, x, y) =
    (taken_in_turn old.place mid.place new.place bytes ahead rest [] [] t u, x, y)
said_then old mid new bytes ahead rest (Err why) t (u, x) =
    (taken_in_turn old.place mid.place new.place bytes ahead rest [] [] t u, x)

pub fault_from : (at : Place) (framing : Framing) (b : ℕ) (why : ChunkError)
    → at ≡ place.Framing framing
    → ((room left : ℕ) → IsFault (place.Framing framing) room left b why)
    → (room left : ℕ) → IsFault at room left b why
fault_from at framing b why e =
    let P : Place → Type 0 = λ k. (room left : ℕ) → IsFault k room left b why in subst P (sym e)

-- after a byte that leads to the next state, a body can continue
pub goes_on : (at : Place) (framing : Framing) (next : Place) (b : ℕ)
    → at ≡ place.Framing framing → ((content trailers bytes : List ℕ)
    → IsFramingDue framing content trailers (b ∷ bytes) ↔ IsDue next content trailers bytes)
    → IsViableByte at b
goes_on at framing next b e step =
    let (content, trailers, bytes, x) = every_place_is_viable next in
    let P : Place → Type 0 = λ k. IsDue k content trailers (b ∷ bytes) in
    (content, trailers, bytes, subst P (sym e) ((step content trailers bytes).1 x))

-- and so can field lines after a byte of theirs
pub fields_go_on : (at : Place) (it next : InField) (b : ℕ) → at ≡ place.Trailers it
    → ((fields : List ℕ) → DueFields it (b ∷ fields) ↔ DueFields next fields) → IsViableByte at b
fields_go_on at it next b e step =
    let (fields, x) = fields_due next in
    let P : Place → Type 0 = λ k. IsDue k [] (b ∷ fields) (b ∷ fields ++ 13 ∷ 10 ∷ []) in (
      [],
      b ∷ fields,
      fields ++ 13 ∷ 10 ∷ [],
      subst P (sym e) (refl, (step fields).1 x, refl),
    )

-- the line end after the trailer section ends the body
pub last_goes_on : (at : Place) (it : InField) (b : ℕ) → at ≡ place.Trailers it
    → it ≡ field.Start → b ≡ 13 → IsViableByte at b
last_goes_on at it b e f g =
    let P : Place → Type 0 = λ k. IsDue k [] [] (b ∷ 10 ∷ []) in
    let Q : ℕ → Type 0 = λ k. IsDue (place.Trailers field.Start) [] [] (k ∷ 10 ∷ []) in (
      [],
      [],
      10 ∷ [],
      subst P (sym (e ∙ ap (λ k. place.Trailers k) f)) (subst Q (sym g) (refl, (0, refl), refl)),
    )

-- if no data remain in a chunk, its line ending is expected
pub no_data_left_is_data_end : (at : Place) → at ≡ place.Data 0 → (content trailers more : List ℕ)
    → IsDue at content trailers more
    ↔ IsDue (place.Framing framing.DataEnd) content trailers more
no_data_left_is_data_end at e =
    let P : Place → Type 0 = λ k. (content trailers more : List ℕ)
    → IsDue k content trailers more
    ↔ IsDue (place.Framing framing.DataEnd) content trailers more in
    subst P (sym e) data_zero

-- ---- room

-- what is spent does not depend on the place
pub spends_alike : (old : Decoder) (at : Place) (new : Decoder) (bytes rest : List ℕ)
    (r : Result (Option Step) ChunkError)
    → PartSpends (record {
      place = at;
      room = old.room;
      trailer_room = old.trailer_room;
      limits = old.limits;
    }) new bytes rest r → PartSpends old new bytes rest r
spends_alike old at new bytes rest (Ok (Some (step.Data chunk))) x = x
spends_alike old at new bytes rest (Ok (Some (step.Trailers fields))) x = x
spends_alike old at new bytes rest (Ok (Some step.End)) x = x
spends_alike old at new bytes rest (Ok (Some step.More)) x = x
spends_alike old at new bytes rest (Ok None) x = x
spends_alike old at new bytes rest (Err why) x = x

pub spent_then : (old mid new : Decoder) (bytes ahead rest : List ℕ) (n : ℕ)
    → IsSpent old mid bytes ahead 0 → IsSpent mid new ahead rest n → IsSpent old new bytes rest n
spent_then old mid new bytes ahead rest n (e, f, g) (h, i, j) =
    (h ∙ e, omega (arith, f, i), omega (arith, g, j))

pub spends_then : (old mid new : Decoder) (bytes ahead rest : List ℕ) (r : Result Step ChunkError)
    → IsSpent old mid bytes ahead 0 → Spends mid new ahead rest r → Spends old new bytes rest r
spends_then old mid new bytes ahead rest (Ok (step.Data chunk)) (e, f, g) (h, i, j, k) = (
  h ∙ e,
  i ∙ ap (λ (l : Limits). l.size_line) e,
  omega (arith, g, j),
  omega (arith, f, k),
)
spends_then old mid new bytes ahead rest (Ok (step.Trailers fields)) x y =
    spent_then old mid new bytes ahead rest (length fields.now) x y
spends_then old mid new bytes ahead rest (Ok step.End) x y =
    spent_then old mid new bytes ahead rest 0 x y
spends_then old mid new bytes ahead rest (Ok step.More) x y =
    spent_then old mid new bytes ahead rest 0 x y
spends_then old mid new bytes ahead rest (Err why) x y =
    spent_then old mid new bytes ahead rest 0 x y
