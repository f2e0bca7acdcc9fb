-- Lemmas about consumed bytes, and the state after them.
use Rattle.std.specs.Prelude.{◌≡◌, ◌⊎◌, ◌↔◌, ◌<◌, ◌≤◌, ◌-◌, ◌+◌, ◌++◌, ℕ, List, []}
use Rattle.std.specs.Prelude.{◌∷◌}
use Rattle.std.specs.Prelude.{length, take}
use Rattle.std.proofs.Common.{inl, inr, arith, refl, sym, subst, ap, ◌∙◌, append_assoc}
use Rattle.std.proofs.Common.{length-append}
use Rattle.format_http_chunked.proofs.Lists.{front_splits, heads_equal, tails_equal}
use Rattle.format_http_chunked.proofs.Lists.{take_prefix_by_rest}
use Rattle.format_http_chunked.proofs.Splits.{field_line, star_unfolds}
use Rattle.format_http_chunked.proofs.Turns.{either_iff_right, iff_trans, token_plain}
use Rattle.format_http_chunked.specs.Bodies.{AreFields, FieldLine, IsBody, IsTokenByte}
use Rattle.format_http_chunked.specs.Bodies.{LineEnd}
use Rattle.format_http_chunked.specs.Dues.{DueFields, IsDue, IsFramingDue}
use Rattle.format_http_chunked.specs.Steps.{ArePassed, IsTaken, NoBodyContinues}
use Rattle.format_http_chunked.specs.declared.places.Framing.TheVariants as framing
use Rattle.format_http_chunked.specs.declared.places.InField.{InField}
use Rattle.format_http_chunked.specs.declared.places.InField.TheVariants as field
use Rattle.format_http_chunked.specs.declared.places.Place.{Place}
use Rattle.format_http_chunked.specs.declared.places.Place.TheVariants as place

-- ---- in general

pub takes_nothing : (at : Place) (bytes : List ℕ) → IsTaken at at bytes bytes [] []
takes_nothing at bytes = (
  [],
  refl,
  λ content trailers more. (
    λ x. (content, trailers, refl, refl, x),
    λ (left, others, c, t, x).
        let P : List ℕ → Type 0 = λ l. IsDue at l trailers more in
        let Q : List ℕ → Type 0 = λ l. IsDue at left l more in
        subst P (sym c) (subst Q (sym t) x),
  ),
)

pub taken_in_turn : (at mid next : Place) (bytes ahead rest given fields : List ℕ)
    → IsTaken at mid bytes ahead [] [] → IsTaken mid next ahead rest given fields
    → IsTaken at next bytes rest given fields
taken_in_turn at mid next bytes ahead rest given fields (xs, e, f) (ys, d, g) = (
  xs ++ ys,
  e ∙ ap (λ l. xs ++ l) d ∙ sym (append_assoc xs ys rest),
  λ content trailers more.
      let P : List ℕ → Type 0 = λ l. IsDue at content trailers l in (
        λ x.
            let (left, others, c, t, y) = (f content trailers (ys ++ more)).0
            (subst P (append_assoc xs ys more) x) in
            let (less, fewer, a, b, z) = (g left others more).0 y in
            (less, fewer, c ∙ a, t ∙ b, z),
        λ (less, fewer, a, b, z).
            subst P (sym (append_assoc xs ys more)) ((f content trailers (ys ++ more)).1
            (content, trailers, refl, refl, (g content trailers more).1 (less, fewer, a, b, z))),
      ),
)

pub taken_byte : (at next : Place) (b : ℕ) (rest : List ℕ)
    → ((content trailers bytes : List ℕ) → IsDue at content trailers (b ∷ bytes)
    ↔ IsDue next content trailers bytes) → IsTaken at next (b ∷ rest) rest [] []
taken_byte at next b rest step = (
  b ∷ [],
  refl,
  λ content trailers more. (
    λ x. (content, trailers, refl, refl, (step content trailers more).0 x),
    λ (left, others, c, t, x).
        let P : List ℕ → Type 0 = λ l. IsDue next l trailers more in
        let Q : List ℕ → Type 0 = λ l. IsDue next left l more in
        (step content trailers more).1 (subst P (sym c) (subst Q (sym t) x)),
  ),
)

-- ---- data

pub data_zero : (content trailers bytes : List ℕ) → IsDue (place.Data 0) content trailers bytes
    ↔ IsFramingDue framing.DataEnd content trailers bytes
data_zero content trailers bytes = (there, back bytes)
  where
    there : IsDue (place.Data 0) content trailers bytes
        → IsFramingDue framing.DataEnd content trailers bytes
    there ([], more, behind, l, c, b, x) =
        let P : List ℕ → Type 0 = λ k. LineEnd (IsBody content trailers) k in
        let Q : List ℕ → Type 0 = λ k. IsBody k trailers behind in
        subst P (sym b) (refl, (refl, subst Q (sym c) x))
    there (p ∷ ps, more, behind, l, c, b, x) = absurd (omega (arith, l))

    back : (bytes : List ℕ) → IsFramingDue framing.DataEnd content trailers bytes
        → IsDue (place.Data 0) content trailers bytes
    back [] x = absurd x
    back (b ∷ []) x = absurd x.1
    back (b ∷ c ∷ behind) (e, (f, x)) = (
      [],
      content,
      behind,
      refl,
      refl,
      ap (λ k. k ∷ c ∷ behind) e ∙ ap (λ k. 13 ∷ k ∷ behind) f,
      x,
    )

pub taken_data : (size : ℕ) (taken rest : List ℕ) → length taken ≤ size
    → IsTaken (place.Data size) (place.Data (size - length taken)) (taken ++ rest) rest taken []
taken_data size taken rest less = (
  taken,
  refl,
  λ content trailers more.
      (there content trailers more, back content trailers more),
)
  where
    there : (content trailers more : List ℕ)
        → IsDue (place.Data size) content trailers (taken ++ more)
        → (left : List ℕ) × (others : List ℕ) × (content ≡ taken ++ left)
        × (trailers ≡ others) × IsDue (place.Data (size - length taken)) left others more
    there content trailers more (piece, behind, ahead, l, c, b, x) =
        let (left, f, g) =
        front_splits taken piece more (13 ∷ 10 ∷ ahead) (omega (arith, l, less)) b
        in (
          left ++ behind,
          trailers,
          c ∙ ap (λ k. k ++ behind) f ∙ append_assoc taken left behind,
          refl,
          (
            left,
            behind,
            ahead,
            omega (arith, l, ap (λ (k : List ℕ). length k) f, length-append taken left),
            refl,
            g,
            x,
          ),
        )

    back : (content trailers more : List ℕ)
        → ((left : List ℕ) × (others : List ℕ) × (content ≡ taken ++ left)
        × (trailers ≡ others) × IsDue (place.Data (size - length taken)) left others more)
        → IsDue (place.Data size) content trailers (taken ++ more)
    back content trailers more (left, others, c, t, (piece, behind, ahead, l, d, b, x)) =
        let P : List ℕ → Type 0 = λ k. IsBody behind k ahead in (
          taken ++ piece,
          behind,
          ahead,
          omega (arith, l, less, length-append taken piece),
          c ∙ ap (λ k. taken ++ k) d ∙ sym (append_assoc taken piece behind),
          ap (λ k. taken ++ k) b ∙ sym (append_assoc taken piece (13 ∷ 10 ∷ ahead)),
          subst P (sym t) x,
        )

-- ---- trailers

pub passed_then : (at mid next : InField) (xs ys : List ℕ) → ArePassed at mid xs
    → ArePassed mid next ys → ArePassed at next (xs ++ ys)
passed_then at mid next xs ys f g content trailers more =
    let P : List ℕ → Type 0 = λ l. IsDue (place.Trailers at) content trailers l in (
      λ x.
          let (others, e, y) =
          (f content trailers (ys ++ more)).0 (subst P (append_assoc xs ys more) x) in
          let (fewer, d, z) = (g content others more).0 y in
          (fewer, e ∙ ap (λ l. xs ++ l) d ∙ sym (append_assoc xs ys fewer), z),
      λ (fewer, e, z).
          subst P (sym (append_assoc xs ys more)) ((f content trailers (ys ++ more)).1 (
            ys ++ fewer,
            e ∙ append_assoc xs ys fewer,
            (g content (ys ++ fewer) more).1 (fewer, refl, z),
          )),
    )

-- if the field lines may end here, the state is at the start of a field line
none_due : (at : InField) → DueFields at [] → at ≡ field.Start
none_due field.Start x = refl
none_due field.Name x = absurd x
none_due field.Value x = absurd x
none_due field.Return x = absurd x

pub passed_byte : (at next : InField) (b : ℕ)
    → ((fields : List ℕ) → DueFields at (b ∷ fields) ↔ DueFields next fields)
    → (at ≡ field.Start → b ≡ 13 → ⊥) → ArePassed at next (b ∷ [])
passed_byte at next b step plain content trailers more = (there trailers, back)
  where
    there : (trailers : List ℕ) → IsDue (place.Trailers at) content trailers (b ∷ more)
        → (others : List ℕ) × (trailers ≡ b ∷ others)
        × IsDue (place.Trailers next) content others more
    there [] (c, due, e) = absurd (plain (none_due at due) (heads_equal e))
    there (t ∷ ts) (c, due, e) =
        let P : ℕ → Type 0 = λ k. DueFields at (k ∷ ts) in (
          ts,
          ap (λ k. k ∷ ts) (sym (heads_equal e)),
          (c, (step ts).0 (subst P (sym (heads_equal e)) due), tails_equal e),
        )

    back : ((others : List ℕ) × (trailers ≡ b ∷ others)
        × IsDue (place.Trailers next) content others more)
        → IsDue (place.Trailers at) content trailers (b ∷ more)
    back (others, t, (c, due, e)) =
        let P : List ℕ → Type 0 = λ k. DueFields at k in
        let Q : List ℕ → Type 0 = λ k. b ∷ more ≡ k ++ 13 ∷ 10 ∷ [] in (
          c,
          subst P (sym t) ((step others).1 due),
          subst Q (sym t) (ap (λ l. b ∷ l) e),
        )

pub taken_fields : (at next : InField) (fields rest : List ℕ) → ArePassed at next fields
    → IsTaken (place.Trailers at) (place.Trailers next) (fields ++ rest) rest [] fields
taken_fields at next fields rest passed = (
  fields,
  refl,
  λ content trailers more. (
    λ x.
        let (others, e, y) = (passed content trailers more).0 x in (content, others, refl, e, y),
    λ (left, others, c, e, y).
        let P : List ℕ → Type 0 = λ l. IsDue (place.Trailers next) l others more in
        (passed content trailers more).1 (others, e, subst P (sym c) y),
  ),
)

no_list : (b : ℕ) (bytes : List ℕ) → b ∷ bytes ≡ [] → ⊥
no_list b bytes e = omega (arith, ap (λ (l : List ℕ). length l) e)

-- a name begins
pub name_begins : (b : ℕ) (fields : List ℕ) → IsTokenByte b → DueFields field.Start (b ∷ fields)
    ↔ DueFields field.Name fields
name_begins b fields is = iff_trans
    (star_unfolds FieldLine field_line (λ behind. behind ≡ []) (b ∷ fields))
    (either_iff_right (λ e. no_list b fields e) (λ x. x.1, λ x. (is, x)))

no_name : (b : ℕ) (fields : List ℕ) → (IsTokenByte b → ⊥) → AreFields (b ∷ fields) → ⊥
no_name b fields none x =
    due ((star_unfolds FieldLine field_line (λ behind. behind ≡ []) (b ∷ fields)).0 x)
  where
    due : (b ∷ fields ≡ []) ⊎ FieldLine AreFields (b ∷ fields) → ⊥
    due (inl e) = no_list b fields e
    due (inr y) = none y.0

-- the body ends
pub fields_end : (content trailers bytes : List ℕ)
    → IsDue (place.Trailers field.Start) content trailers (13 ∷ bytes)
    ↔ IsFramingDue framing.LastReturn content trailers bytes
fields_end content trailers bytes = (there trailers, back)
  where
    there : (trailers : List ℕ) → IsDue (place.Trailers field.Start) content trailers (13 ∷ bytes)
        → IsFramingDue framing.LastReturn content trailers bytes
    there [] (c, due, e) = (c, refl, tails_equal e)
    there (t ∷ ts) (c, due, e) =
        absurd (no_name t ts (λ is. (token_plain t is).0 (sym (heads_equal e))) due)

    back : IsFramingDue framing.LastReturn content trailers bytes
        → IsDue (place.Trailers field.Start) content trailers (13 ∷ bytes)
    back (c, t, e) =
        let P : List ℕ → Type 0 = λ k. AreFields k × (13 ∷ bytes ≡ k ++ 13 ∷ 10 ∷ []) in
        let (none, all) = subst P (sym t) ((0, refl), ap (λ l. 13 ∷ l) e) in (c, none, all)

-- no field line continues with this byte
pub fields_never : (at : InField) (b : ℕ) → ((fields : List ℕ) → DueFields at (b ∷ fields) → ⊥)
    → (at ≡ field.Start → b ≡ 13 → ⊥) → NoBodyContinues (place.Trailers at) b
fields_never at b none plain content [] bytes (c, due, e) =
    plain (none_due at due) (heads_equal e)
fields_never at b none plain content (t ∷ ts) bytes (c, due, e) =
    let P : ℕ → Type 0 = λ k. DueFields at (k ∷ ts) in
    none ts (subst P (sym (heads_equal e)) due)

pub name_begins_at : (at : InField) (b : ℕ) → at ≡ field.Start → IsTokenByte b
    → (fields : List ℕ) → DueFields at (b ∷ fields) ↔ DueFields field.Name fields
name_begins_at at b e is fields =
    let P : InField → Type 0 = λ k. DueFields k (b ∷ fields) ↔ DueFields field.Name fields in
    subst P (sym e) (name_begins b fields is)

-- ---- calls

pub taken_from_equal_place : (at other new : Place) (bytes rest given fields : List ℕ) → at ≡ other
    → IsTaken other new bytes rest given fields → IsTaken at new bytes rest given fields
taken_from_equal_place at other new bytes rest given fields e =
    let P : Place → Type 0 = λ p. IsTaken p new bytes rest given fields in subst P (sym e)

pub taken_chunk : (size here : ℕ) (bytes front back : List ℕ) → bytes ≡ front ++ back
    → length front ≡ here → here ≤ size
    → IsTaken (place.Data size) (place.Data (size - here)) bytes back front []
taken_chunk size here bytes front back e many less =
    let P : List ℕ → Type 0 = λ l.
    IsTaken (place.Data size) (place.Data (size - here)) l back front [] in
    let Q : ℕ → Type 0 = λ n.
    IsTaken (place.Data size) (place.Data (size - n)) (front ++ back) back front [] in
    subst P (sym e) (subst Q many (taken_data size front back (omega (arith, many, less))))

pub passed_on : (at mid next : InField) (b : ℕ) (bytes fields ahead rest : List ℕ)
    → ((others : List ℕ) → DueFields at (b ∷ others) ↔ DueFields mid others)
    → (at ≡ field.Start → b ≡ 13 → ⊥) → ArePassed mid next fields → bytes ≡ b ∷ ahead
    → ahead ≡ fields ++ rest
    → IsTaken (place.Trailers at) (place.Trailers next) bytes rest [] (b ∷ fields)
passed_on at mid next b bytes fields ahead rest step plain passed e f =
    let P : List ℕ → Type 0 = λ l.
    IsTaken (place.Trailers at) (place.Trailers next) l rest [] (b ∷ fields) in
    subst P (sym (e ∙ ap (λ l. b ∷ l) f)) (taken_fields at next (b ∷ fields) rest
    (passed_then at mid next (b ∷ []) fields (passed_byte at mid b step plain) passed))

pub field_more : (at mid next : InField) (b : ℕ) (bytes fields rest others : List ℕ)
    → bytes ≡ fields ++ rest → ArePassed at mid fields → rest ≡ b ∷ others
    → ((more : List ℕ) → DueFields mid (b ∷ more) ↔ DueFields next more)
    → (mid ≡ field.Start → b ≡ 13 → ⊥)
    → (some : List ℕ) × (bytes ≡ some ++ others) × ArePassed at next some
field_more at mid next b bytes fields rest others e passed f step plain = (
  fields ++ b ∷ [],
  e ∙ ap (λ l. fields ++ l) f ∙ sym (append_assoc fields (b ∷ []) others),
  passed_then at mid next fields (b ∷ []) passed (passed_byte mid next b step plain),
)

pub last_taken : (at : InField) (b : ℕ) (bytes rest : List ℕ) → (at ≡ field.Start) × (b ≡ 13)
    → bytes ≡ b ∷ rest
    → IsTaken (place.Trailers at) (place.Framing framing.LastReturn) bytes rest [] []
last_taken at b bytes rest (s, t) e =
    let last : Place = place.Framing framing.LastReturn in
    let P : List ℕ → Type 0 = λ l. IsTaken (place.Trailers at) last l rest [] [] in
    let Q : ℕ → Type 0 = λ k. IsTaken (place.Trailers at) last (k ∷ rest) rest [] [] in
    let R : InField → Type 0 = λ k. IsTaken (place.Trailers k) last (13 ∷ rest) rest [] [] in
    subst P (sym e) (subst Q (sym t) (subst R (sym s)
    (taken_byte (place.Trailers field.Start) last 13 rest fields_end)))

pub passed_front : (at mid next : InField) (b : ℕ) (bytes ahead rest front : List ℕ)
    → ((others : List ℕ) → DueFields at (b ∷ others) ↔ DueFields mid others)
    → (at ≡ field.Start → b ≡ 13 → ⊥) → bytes ≡ b ∷ ahead
    → ((fields : List ℕ) × (ahead ≡ fields ++ rest) × ArePassed mid next fields)
    → front ≡ take (length bytes - length rest) bytes
    → IsTaken (place.Trailers at) (place.Trailers next) bytes rest [] front × (0 < length front)
passed_front at mid next b bytes ahead rest front step plain e (fields, f, passed) cut =
    let is : front ≡ b ∷ fields =
    cut ∙ take_prefix_by_rest bytes (b ∷ fields) rest _ (e ∙ ap (λ l. b ∷ l) f) refl in
    let P : List ℕ → Type 0 = λ l.
    IsTaken (place.Trailers at) (place.Trailers next) bytes rest [] l in (
      subst P (sym is) (passed_on at mid next b bytes fields ahead rest step plain passed e f),
      omega (arith, ap (λ (l : List ℕ). length l) is),
    )
