-- Lemmas about passing a head byte by byte, and about the results for the bytes passed.
use Rattle.std.proofs.Common.{◌≡◌, ◌∙◌, ◌<◌, ◌≤◌, ◌-◌, ◌++◌, ◌∷◌, [], ap, ℕ}
use Rattle.std.proofs.Common.{List, length, append_assoc, arith, drop, inl, inr, length-append}
use Rattle.std.proofs.Common.{refl, subst, sym, take}
use Rattle.std.proofs.lemmas.List.{append-nil, drop_at, length-drop, take-append-drop, take_all}
use Rattle.std.proofs.lemmas.List.{take_at}
use Rattle.std.specs.Prelude.{Err, None, Ok, Option, Result, Some}
use Rattle.format_http_places.specs.Extents.{HeadResult, IsErrorOf, IsInvalid, IsLed, IsOf}
use Rattle.format_http_places.specs.Extents.{IsStep, IsStopped, Says, Walks}
use Rattle.format_http_places.specs.Grammar.{Continues, EquivalentAfter, NoneAt, Stops}
use Rattle.format_http_places.specs.Refusals.{ReadsHead}
use Rattle.format_http_places.specs.Responses.{ReadsResponse}
use Rattle.format_http_places.specs.Sections.{ReadsFieldLines}
use Rattle.format_http_places.specs.States.{Due, IsIn, StateAfter, TextOf, part_of, start_of}
use Rattle.format_http_places.specs.declared.extent.HeadExtent.{HeadExtent}
use Rattle.format_http_places.specs.declared.parts.HeadKind.{HeadKind}
use Rattle.format_http_places.specs.declared.parts.HeadKind.TheVariants as kind
use Rattle.format_http_places.specs.declared.parts.HeadPart.{HeadPart}
use Rattle.format_http_places.specs.declared.parts.Invalid.{Invalid}
use Rattle.format_http_places.specs.declared.places.Field.{Field}
use Rattle.format_http_places.specs.declared.read.HeadError.{HeadError}
use Rattle.format_http_places.specs.declared.read.HeadError.TheVariants as error
use Rattle.format_http_places.specs.declared.read.HeadError.TheVariants.{Incomplete}
use Rattle.format_http_places.specs.declared.read.HeadError.TheVariants.{TooManyFields}
use Rattle.format_http_places.specs.declared.state.HeadPlace.{HeadPlace}
use Rattle.format_http_places.proofs.Continues.{at_front, behind_both, from_rest, in_turn}
use Rattle.format_http_places.proofs.Continues.{stop_here, stops}
use Rattle.format_http_places.proofs.Heads.{long_of, refused_of, wanting_of}
use Rattle.format_http_places.proofs.States.{live_at, none_at_end}

from_start : (k : HeadKind) (from : HeadPlace) → from ≡ start_of k
    → EquivalentAfter (TextOf k) [] (Due from)
from_start k from is =
    let P : HeadPlace → Type 0 = λ f. EquivalentAfter (TextOf k) [] (Due f) in
    subst P (sym is) (by k)
  where
    by : (k : HeadKind) → EquivalentAfter (TextOf k) [] (Due (start_of k))
    by kind.Request = record { there = λ more rest it. it; back = λ more rest it. it }
    by kind.Response = record { there = λ more rest it. it; back = λ more rest it. it }
    by kind.Trailers = record { there = λ more rest it. it; back = λ more rest it. it }

-- the part of a head after bytes with which one starts
pub is_in : {k : HeadKind} {before left : List ℕ} {from : HeadPlace} (at : HeadPlace) {p :
    HeadPart}
    → from ≡ start_of k → Walks from before at left
    → (more : List ℕ) × TextOf k (before ++ more) [] → p ≡ part_of at → IsIn k before p
is_in {k = k} {before = before} {left = left} {from = from} at {p = p} start
    (walked, stopped) (more, live) is =
    by left (in_turn (at_front [] (from_start k from start) refl) walked) stopped
  where
    by : (left : List ℕ) → Continues (TextOf k) before (Due at) left → IsStopped at left
        → IsIn k before p
    by [] past stopped =
        let P : List ℕ → Type 0 = λ l. EquivalentAfter (TextOf k) l (Due at) in record {
          at = at;
          behind = subst P (sym (past.splits ∙ append-nil past.front)) past.behind;
          is_part = is;
        }
    by (b ∷ bs) past stopped =
        let P : List ℕ → Type 0 = λ l. TextOf k l [] in
        absurd (never stopped (past.behind.back (b ∷ (bs ++ more)) []
        (subst P (ap (λ l. l ++ more) past.splits ∙ append_assoc past.front (b ∷ bs) more) live)))
      where
        never : IsStopped at (b ∷ bs) → Due at (b ∷ (bs ++ more)) [] → ⊥
        never (inl done) due =
            let Q : HeadPlace → Type 0 = λ a. Due a (b ∷ (bs ++ more)) [] in
            let same : b ∷ (bs ++ more) ≡ [] = subst Q done due in cc
        never (inr none) due = none (bs ++ more) [] due

-- the error at the byte where a head stops
pub invalid_at : {k : HeadKind} {bytes front : List ℕ} {left place : ℕ} {p : HeadPart}
    → Stops (TextOf k) bytes left → 0 < left → place ≡ length bytes - left
    → front ≡ take place bytes → IsIn k front p
    → IsInvalid k bytes (record { place = place; part = p })
invalid_at {k = k} {bytes = bytes} {left = left} {place = place} {p = p} it some at is part =
    let P : List ℕ → Type 0 = λ l. IsIn k l p in
    (refused_of k bytes left place it some at, subst P is part)

-- a head starts with the bytes before the byte where it stops
pub begins_at : (k : HeadKind) {bytes front : List ℕ} {left place : ℕ}
    → Stops (TextOf k) bytes left → place ≡ length bytes - left → front ≡ take place bytes
    → (more : List ℕ) × TextOf k (front ++ more) []
begins_at k {place = place} it at is =
    let P : List ℕ → Type 0 = λ l. TextOf k (l ++ it.more) [] in (
      it.more,
      subst P (sym (is ∙ ap (λ l. take place l) it.splits
          ∙ take_at it.before it.back place (omega (
            arith,
            at,
            it.size,
            ap length it.splits,
            length-append it.before it.back,
          )))) it.live,
    )

-- the contracts of reading, from that of the error
pub head_told : (bytes : List ℕ) (fields : List Field) (e : HeadError)
    → IsErrorOf kind.Request bytes e → ReadsHead bytes (Err e) fields
head_told bytes fields (TooManyFields count) never = absurd never
head_told bytes fields (error.Invalid invalid) it = it
head_told bytes fields Incomplete it = it

pub response_told : (bytes : List ℕ) (fields : List Field) (e : HeadError)
    → IsErrorOf kind.Response bytes e → ReadsResponse bytes (Err e) fields
response_told bytes fields (TooManyFields count) never = absurd never
response_told bytes fields (error.Invalid invalid) it = it
response_told bytes fields Incomplete it = it

pub lines_told : (bytes : List ℕ) (fields : List Field) (e : HeadError)
    → IsErrorOf kind.Trailers bytes e → ReadsFieldLines bytes (Err e) fields
lines_told bytes fields (TooManyFields count) never = absurd never
lines_told bytes fields (error.Invalid invalid) it = it
lines_told bytes fields Incomplete it = it

-- ---- results

-- what is passed after a call
after : (k : HeadKind) (old new : HeadExtent) (bytes : List ℕ)
    (result : Result (Option ℕ) Invalid) (is : IsOf k old bytes)
    (led : IsLed old (drop old.passed bytes) new result)
    → (past : Continues (TextOf k) bytes (Due new.place) led.0) × (length past.front ≡ new.passed)
after k old new bytes result is (left, walked, sum, stopped, said) =
    let one = is.passed in
    let fresh : drop old.passed bytes ≡ is.left =
    ap (λ l. drop old.passed l) one.splits ∙ drop_at one.front is.left old.passed is.count in (
      record {
        front = one.front ++ walked.front;
        splits = one.splits ∙ ap (λ l. one.front ++ l) (sym fresh ∙ walked.splits)
            ∙ sym (append_assoc one.front walked.front left);
        behind = behind_both one.behind walked.behind;
      },
      omega (arith, sum, is.count, length-append one.front walked.front),
    )

tells : (k : HeadKind) (new : HeadExtent) (bytes left : List ℕ)
    (it : Continues (TextOf k) bytes (Due new.place) left) → length it.front ≡ new.passed
    → (result : Result (Option ℕ) Invalid) → IsStopped new.place left → Says new left result
    → HeadResult k bytes result
tells k new bytes left it size (Ok (Some n)) stopped (done, count) =
    let P : HeadPlace → Type 0 = λ p. Due p left left in
    long_of k bytes left n (from_rest it (subst P (sym done) refl))
    (omega (arith, count, size, ap (λ l. length l) it.splits, length-append it.front left))
tells k new bytes left it size (Ok None) stopped (not, none) =
    let P : List ℕ → Type 0 = λ l. NoneAt (Due new.place) [] l in
    wanting_of k bytes (stops it (stop_here (live_at new.place)
    (subst P (sym none) (none_at_end new.place not)) (sym (ap (λ l. length l) none))))
tells k new bytes [] it size (Err refused) stopped (not, some, at, is) =
    absurd (omega (arith, some))
tells k new bytes (b ∷ more) it size (Err refused) (inl done) (not, some, at, is) =
    absurd (not done)
tells k new bytes (b ∷ more) it size (Err refused) (inr never) (not, some, at, is) =
    let passed : length it.front ≡ refused.place = size ∙ sym at in
    invalid_at (stops it (stop_here (live_at new.place) never refl)) some
    (omega (arith, passed, ap (λ l. length l) it.splits, length-append it.front (b ∷ more)))
    (sym (ap (λ l. take refused.place l) it.splits
    ∙ take_at it.front (b ∷ more) refused.place passed))
    (record { at = new.place; behind = it.behind; is_part = is })

-- the result, by the state and the rest
pub told : {k : HeadKind} {old : HeadExtent} (new : HeadExtent) {bytes : List ℕ}
    (result : Result (Option ℕ) Invalid)
    → IsOf k old bytes → IsLed old (drop old.passed bytes) new result → HeadResult k bytes result
told {k = k} {old = old} new {bytes = bytes} result is led =
    let (past, size) = after k old new bytes result is led in
    tells k new bytes led.0 past size result led.3 led.4

-- and the next extent is of the same bytes, and of more
pub kept : {k : HeadKind} {old : HeadExtent} (new : HeadExtent) {bytes : List ℕ}
    (result : Result (Option ℕ) Invalid)
    → IsOf k old bytes → IsLed old (drop old.passed bytes) new result
    → (more : List ℕ) → IsOf k new (bytes ++ more)
kept {k = k} {old = old} new {bytes = bytes} result is led more =
    let (past, size) = after k old new bytes result is led in record {
      left = led.0 ++ more;
      passed = record {
        front = past.front;
        splits = ap (λ l. l ++ more) past.splits ∙ append_assoc past.front led.0 more;
        behind = past.behind;
      };
      count = size;
    }

pub of_none : (k : HeadKind) (extent : HeadExtent) (bytes : List ℕ) → extent.passed ≡ 0
    → extent.place ≡ start_of k → IsOf k extent bytes
of_none k extent bytes none start = record {
  left = bytes;
  passed = record { front = []; splits = refl; behind = from_start k extent.place start };
  count = sym none;
}

-- ---- as far as bytes go

pub walked_run : (from at : HeadPlace) {fresh rest left : List ℕ} (n : ℕ)
    → Continues (Due from) fresh (Due at) rest → left ≡ drop n rest
    → StateAfter at (take n rest) at → Continues (Due from) fresh (Due at) left
walked_run from at {rest = rest} n it is goes = in_turn it (at_front (take n rest) goes
    (sym (take-append-drop n rest) ∙ ap (λ l. take n rest ++ l) (sym is)))

pub walked_byte : (from at next : HeadPlace) {fresh left more : List ℕ} {b : ℕ}
    → Continues (Due from) fresh (Due at) left → left ≡ b ∷ more → StateAfter at (b ∷ []) next
    → Continues (Due from) fresh (Due next) more
walked_byte from at next {b = b} it starts goes = in_turn it (at_front (b ∷ []) goes starts)

pub stopped_end : (at : HeadPlace) {left : List ℕ} → left ≡ [] → IsStopped at left
stopped_end at none =
    let P : List ℕ → Type 0 = λ l. IsStopped at l in subst P (sym none) tt

pub stopped_byte : (at : HeadPlace) {b : ℕ} {left more : List ℕ} → left ≡ b ∷ more
    → IsStep at b None → IsStopped at left
stopped_byte at starts it =
    let P : List ℕ → Type 0 = λ l. IsStopped at l in subst P (sym starts) it

-- from an extent to the next, by a scan from its state
pub led : (old : HeadExtent) (bytes fresh left : List ℕ) (at : HeadPlace)
    (result : Result (Option ℕ) Invalid)
    → fresh ≡ take (length bytes - old.passed) (drop old.passed bytes)
    → old.passed ≤ length bytes → Walks old.place fresh at left
    → Says (record { passed = length bytes - length left; place = at }) left result
    → IsLed old (drop old.passed bytes) (record {
      passed = length bytes - length left;
      place = at;
    })
    result
led old bytes fresh left at result is room (walked, stopped) says =
    let size = length-drop old.passed bytes in
    let whole : fresh ≡ drop old.passed bytes =
    is ∙ take_all (length bytes - old.passed) (drop old.passed bytes) (omega (arith, size)) in (
      left,
      record {
        front = walked.front;
        splits = sym whole ∙ walked.splits;
        behind = walked.behind;
      },
      omega (
        arith,
        room,
        size,
        ap (λ l. length l) whole,
        ap (λ l. length l) walked.splits,
        length-append walked.front left,
      ),
      stopped,
      says,
    )
