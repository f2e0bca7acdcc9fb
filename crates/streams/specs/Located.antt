-- Streams that know their place: the units passed from their start.
use Rattle.std.specs.Prelude.{◌≡◌, ℕ, ◌+◌, List}
use Rattle.std.proofs.Common.{refl, sym, ap, subst, ◌∙◌, arith}
use Rattle.streams.specs.Input.{Input, Remaining, IsEndOf, Passes, Takes, is_end_of_refl}
use Rattle.streams.specs.Place.{Place, further, same_place}
use Rattle.streams.specs.Reading.{Reading}

-- the place with that many units passed
abbrev pub place_at : Place → ℕ → Place
place_at place passed = record place { passed = passed }

-- the remaining input, with `passed` units passed
abbrev pub located_left : {T : Type 0} → Remaining T → ℕ → Remaining T
located_left left passed = record left { place = place_at left.place passed }

-- an input with that many units passed
abbrev pub located_input : {T : Type 0} → Input T → ℕ → Input T
located_input i passed = record i { left = located_left i.left passed }

-- The bits read do not depend on the units passed.
from_start : {T S : Type 0} (reading : Reading T S) (passed bits k : ℕ)
    → (reading.advance (record { passed = passed; bits_read = bits }) k).bits_read
    ≡ (reading.advance (record { passed = 0; bits_read = bits }) k).bits_read
from_start reading passed bits k =
    let start : Place = record { passed = 0; bits_read = bits } in
    let there : passed ≡ 0 + passed = omega arith in
    ap (λ n. (reading.advance (record { passed = n; bits_read = bits }) k).bits_read) there
    ∙ ap (λ x. x.bits_read) (reading.advance_further start passed k)

pub same_bits : {T S : Type 0} (reading : Reading T S) (p q : Place) (k : ℕ)
    → p.bits_read ≡ q.bits_read
    → (reading.advance p k).bits_read ≡ (reading.advance q k).bits_read
same_bits reading p q k e =
    from_start reading p.passed p.bits_read k
    ∙ ap (λ b. (reading.advance (record { passed = 0; bits_read = b }) k).bits_read) e
    ∙ sym (from_start reading q.passed q.bits_read k)

-- Units are counted, and the slices are those of the stream inside.
abbrev pub located_reading : {T S : Type 0} → Reading T S → Reading T S
located_reading reading = record {
  units = reading.units;
  advance = λ p k. place_at (reading.advance p k) (p.passed + k);
  shows = reading.shows;
  units_add = reading.units_add;
  units_positive = reading.units_positive;
  advance_none = λ p. same_place (place_at (reading.advance p 0) (p.passed + 0)) p (omega arith)
      (ap (λ x. x.bits_read) (reading.advance_none p));
  advance_add = λ p m n.
      same_place
      (place_at (reading.advance (place_at (reading.advance p m) (p.passed + m)) n)
      (p.passed + m + n))
      (place_at (reading.advance p (m + n)) (p.passed + (m + n)))
      (omega arith)
      (same_bits reading (place_at (reading.advance p m) (p.passed + m)) (reading.advance p m) n
      refl ∙ ap (λ x. x.bits_read) (reading.advance_add p m n));
  advance_further = λ p n k.
      same_place
      (place_at (reading.advance (further p n) k) (p.passed + n + k))
      (further (place_at (reading.advance p k) (p.passed + k)) n)
      (omega arith)
      (ap (λ x. x.bits_read) (reading.advance_further p n k));
  one_length = reading.one_length;
}

-- Tokens that the stream inside drops lead to a place further by their units.
pub located_place : {T S : Type 0} (reading : Reading T S) (p q : Place) (m n k : ℕ)
    → q ≡ reading.advance p k → n ≡ m + k
    → place_at q n ≡ (located_reading reading).advance (place_at p m) k
located_place reading p q m n k e at =
    same_place (place_at q n) (place_at (reading.advance (place_at p m) k) (m + k)) at
    (ap (λ x. x.bits_read) e ∙ sym (same_bits reading (place_at p m) p k refl))

pub located_passes : {T S : Type 0} (reading : Reading T S) (front : List T) (i j : Input T)
    (m n : ℕ) → Passes reading front i j → n ≡ m + reading.units front
    → Passes (located_reading reading) front (located_input i m) (located_input j n)
located_passes reading front i j m n p at = record {
  tokens = p.tokens;
  place = located_place reading i.left.place j.left.place m n (reading.units front) p.place at;
  possible = p.possible;
  status = p.status;
}

pub located_takes : {T S : Type 0} (reading : Reading T S) (front : List T) (i : Input T)
    (slice : S) (j : Input T) (m n : ℕ) → Takes reading front i slice j
    → n ≡ m + reading.units front
    → Takes (located_reading reading) front (located_input i m) slice (located_input j n)
located_takes reading front i slice j m n t at =
    record { shown = t.shown; passed = located_passes reading front i j m n t.passed at }

-- an input that is the same is an end at the same place
pub located_same : {T S : Type 0} (reading : Reading T S) (i j : Input T) (m : ℕ) → j ≡ i
    → IsEndOf (located_reading reading) (located_input j m) (located_input i m)
located_same reading i j m same =
    let P : Input _ → Type 0 =
    λ x. IsEndOf (located_reading reading) (located_input x m) (located_input i m) in
    subst P (sym same) (is_end_of_refl (located_reading reading) (located_input i m))

-- tokens that are passed take the units that are missing after them
pub passed_units : {T S : Type 0} (reading : Reading T S) (front : List T) (i j : Input T)
    → Passes reading front i j
    → reading.units i.left.tokens ≡ reading.units front + reading.units j.left.tokens
passed_units reading front i j p = ap reading.units p.tokens ∙ reading.units_add front j.left.tokens
