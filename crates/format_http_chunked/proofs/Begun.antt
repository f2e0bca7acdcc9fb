-- Lemmas that a body can continue from each state.
use Rattle.std.specs.Prelude.{◌≡◌, ◌<◌, ◌+◌, ◌++◌, ℕ, zero, suc, List, [], ◌∷◌, length, replicate}
use Rattle.std.proofs.Common.{ap, arith, inl, inr, length-append, refl, subst, sym}
use Rattle.std.proofs.lemmas.List.{length-replicate}
use Rattle.format_http_chunked.specs.Bodies.{ChunkData, ChunksAfterSize, Extended, Given, IsBody}
use Rattle.format_http_chunked.specs.Bodies.{QuotedByte}
use Rattle.format_http_chunked.specs.Bodies.{Value}
use Rattle.format_http_chunked.specs.Dues.{DueDigits, DueFields, DueInLine, IsDue, IsFramingDue}
use Rattle.format_http_chunked.specs.Words.{Byte, Star}
use Rattle.format_http_chunked.specs.declared.places.Framing.{Framing}
use Rattle.format_http_chunked.specs.declared.places.Framing.TheVariants as framing
use Rattle.format_http_chunked.specs.declared.places.InField.{InField}
use Rattle.format_http_chunked.specs.declared.places.InField.TheVariants as field
use Rattle.format_http_chunked.specs.declared.places.InLine.{InLine}
use Rattle.format_http_chunked.specs.declared.places.InLine.TheVariants as line
use Rattle.format_http_chunked.specs.declared.places.Place.{Place}
use Rattle.format_http_chunked.specs.declared.places.Place.TheVariants as place

-- the body with no content
empty_is : IsBody [] [] (48 ∷ 13 ∷ 10 ∷ 13 ∷ 10 ∷ [])
empty_is = (
  0,
  (
    48 ∷ [],
    13 ∷ 10 ∷ 13 ∷ 10 ∷ [],
    omega arith,
    (inl (omega arith, omega arith), tt),
    refl,
    (0, (refl, (refl, (refl, refl, ((0, refl), refl))))),
  ),
)

data_due : (size : ℕ) → (content : List ℕ) × (bytes : List ℕ)
    × ChunkData size (λ more. IsBody more []) content bytes
data_due size = (
  replicate size 0 ++ [],
  replicate size 0 ++ 13 ∷ 10 ∷ 48 ∷ 13 ∷ 10 ∷ 13 ∷ 10 ∷ [],
  (
    replicate size 0,
    [],
    48 ∷ 13 ∷ 10 ∷ 13 ∷ 10 ∷ [],
    length-replicate size 0,
    refl,
    refl,
    empty_is,
  ),
)

behind_due : (size : ℕ) → (n : ℕ) × (content : List ℕ) × (bytes : List ℕ)
    × ChunksAfterSize n content [] size bytes
behind_due zero = (0, [], 13 ∷ 10 ∷ [], (refl, refl, ((0, refl), refl)))
behind_due (suc size) =
    let (content, bytes, (piece, more, behind, l, c, b, (n, x))) = data_due (suc size) in
    (suc n, content, bytes, (omega arith, (piece, more, behind, l, c, b, x)))

module _ (next : List ℕ → Type 0) (bytes : List ℕ) (x : next bytes) where
  line_due : (at : InLine) → (more : List ℕ) × DueInLine at next more
  line_due line.AfterSize = (13 ∷ 10 ∷ bytes, (0, (refl, (refl, x))))
  line_due line.White = (
    59 ∷ 97 ∷ 13 ∷ 10 ∷ bytes,
    inl (
      refl,
      inl (
        inr (inr (inl (omega arith, omega arith))),
        inl (inr (0, (refl, (refl, x)))),
      ),
    ),
  )
  line_due line.Semicolon = (
    97 ∷ 13 ∷ 10 ∷ bytes,
    inl (
      inr (inr (inl (omega arith, omega arith))),
      inl (inr (0, (refl, (refl, x)))),
    ),
  )
  line_due line.Name = (13 ∷ 10 ∷ bytes, inl (inr (0, (refl, (refl, x)))))
  line_due line.NameWhite = (
    59 ∷ 97 ∷ 13 ∷ 10 ∷ bytes,
    inr (inl (
      refl,
      inl (
        inr (inr (inl (omega arith, omega arith))),
        inl (inr (0, (refl, (refl, x)))),
      ),
    )),
  )
  line_due line.Equals = (
    97 ∷ 13 ∷ 10 ∷ bytes,
    inl (inl (
      inr (inr (inl (omega arith, omega arith))),
      inl (0, (refl, (refl, x))),
    )),
  )
  line_due line.Token = (13 ∷ 10 ∷ bytes, inl (0, (refl, (refl, x))))
  line_due line.Quotes = (34 ∷ 13 ∷ 10 ∷ bytes, (0, (refl, (0, (refl, (refl, x))))))
  line_due line.Escape = (
    97 ∷ 34 ∷ 13 ∷ 10 ∷ bytes,
    (
      inl (omega arith, λ e. omega (arith, e)),
      (0, (refl, (0, (refl, (refl, x))))),
    ),
  )
  line_due line.Return = (10 ∷ bytes, (refl, x))

pub fields_due : (at : InField) → (fields : List ℕ) × DueFields at fields
fields_due field.Start = ([], (0, refl))
fields_due field.Name = (58 ∷ 13 ∷ 10 ∷ [], inl (refl, inl (refl, (refl, (0, refl)))))
fields_due field.Value = (13 ∷ 10 ∷ [], inl (refl, (refl, (0, refl))))
fields_due field.Return = (10 ∷ [], (refl, (0, refl)))

framing_due : (at : Framing) → (content : List ℕ) × (trailers : List ℕ) × (bytes : List ℕ)
    × IsFramingDue at content trailers bytes
framing_due framing.Start = ([], [], 48 ∷ 13 ∷ 10 ∷ 13 ∷ 10 ∷ [], empty_is)
framing_due (framing.Digits number) =
    let (n, content, bytes, x) = behind_due number in
    (content, [], 13 ∷ 10 ∷ bytes, (n, ([], 13 ∷ 10 ∷ bytes, tt, refl, (0, (refl, (refl, x))))))
framing_due (framing.Line at size) =
    let (n, content, bytes, x) = behind_due size in
    let (more, y) = line_due (ChunksAfterSize n content [] size) bytes x at in
    (content, [], more, (n, y))
framing_due framing.DataEnd =
    ([], [], 13 ∷ 10 ∷ 48 ∷ 13 ∷ 10 ∷ 13 ∷ 10 ∷ [], (refl, (refl, empty_is)))
framing_due framing.DataReturn = ([], [], 10 ∷ 48 ∷ 13 ∷ 10 ∷ 13 ∷ 10 ∷ [], (refl, empty_is))
framing_due framing.LastReturn = ([], [], 10 ∷ [], (refl, refl, refl))

pub every_place_is_viable : (at : Place)
    → (content : List ℕ) × (trailers : List ℕ) × (bytes : List ℕ)
    × IsDue at content trailers bytes
every_place_is_viable (place.Framing at) = framing_due at
every_place_is_viable (place.Data size) =
    let (content, bytes, x) = data_due size in (content, [], bytes, x)
every_place_is_viable (place.Trailers at) =
    let (fields, x) = fields_due at in ([], fields, fields ++ 13 ∷ 10 ∷ [], (refl, x, refl))
every_place_is_viable place.Done = ([], [], [], (refl, refl, refl))

-- ---- and before its end it must

no_end : (xs ys : List ℕ) → 0 < length xs + length ys → [] ≡ xs ++ ys → ⊥
no_end xs ys some e =
    omega (arith, some, ap (λ (l : List ℕ). length l) e, length-append xs ys)

module _ (next : List ℕ → Type 0) where
  extended_some : Extended next [] → ⊥
  extended_some (zero, x) = absurd x
  extended_some (suc n, x) = absurd x

  given_some : Given (Extended next) [] → ⊥
  given_some (inl x) = absurd x
  given_some (inr x) = extended_some x

  value_some : Value (Extended next) [] → ⊥
  value_some (inl x) = absurd x
  value_some (inr x) = absurd x

  quotes_some : Star QuotedByte (Byte 34 (Extended next)) [] → ⊥
  quotes_some (zero, x) = absurd x
  quotes_some (suc n, inl x) = absurd x
  quotes_some (suc n, inr x) = absurd x

  line_some : (at : InLine) → DueInLine at next [] → ⊥
  line_some line.AfterSize x = extended_some x
  line_some line.White x = absurd x
  line_some line.Semicolon x = absurd x
  line_some line.Name x = given_some x
  line_some line.NameWhite (inl x) = absurd x
  line_some line.NameWhite (inr x) = absurd x
  line_some line.Equals x = value_some x
  line_some line.Token x = extended_some x
  line_some line.Quotes x = quotes_some x
  line_some line.Escape x = absurd x
  line_some line.Return x = absurd x

digits_some : (number : ℕ) (next : ℕ → List ℕ → Type 0) → DueDigits number next [] → ⊥
digits_some number next ([], behind, all, e, x) =
    extended_some (next number) (subst (Extended (next number)) (sym e) x)
digits_some number next (d ∷ ds, behind, all, e, x) =
    no_end (d ∷ ds) behind (omega arith) e

framing_some : (at : Framing) (content trailers : List ℕ) → IsFramingDue at content trailers []
    → ⊥
framing_some framing.Start content trailers (n, (digits, behind, some, all, e, x)) =
    no_end digits behind (omega (arith, some)) e
framing_some (framing.Digits number) content trailers (n, x) =
    digits_some number (ChunksAfterSize n content trailers) x
framing_some (framing.Line at size) content trailers (n, x) =
    line_some (ChunksAfterSize n content trailers size) at x
framing_some framing.DataEnd content trailers x = absurd x
framing_some framing.DataReturn content trailers x = absurd x
framing_some framing.LastReturn content trailers (c, t, e) = no_end [] (10 ∷ []) (omega arith) e

pub must_go_on : (at : Place) → (at ≡ place.Done → ⊥) → (content trailers : List ℕ)
    → IsDue at content trailers [] → ⊥
must_go_on (place.Framing at) none content trailers x = framing_some at content trailers x
must_go_on (place.Data size) none content trailers (piece, more, behind, l, c, b, x) =
    no_end piece (13 ∷ 10 ∷ behind) (omega arith) b
must_go_on (place.Trailers at) none content trailers (c, due, e) =
    no_end trailers (13 ∷ 10 ∷ []) (omega arith) e
must_go_on place.Done none content trailers x = none refl
