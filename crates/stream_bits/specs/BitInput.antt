-- The input that bits are: those of the bytes left, less the bits of the first byte that were read.
use Rattle.std.specs.Prelude.{◌≡◌, ℕ, ◌+◌, ◌*◌, ◌-◌, ◌<◌, ◌≤◌, Bool, true, false, ◌⊎◌}
use Rattle.std.specs.Prelude.{List, [], ◌++◌, length, drop, nat_lt, nat_le, nat_eq, ◌&&◌, ◌||◌}
use Rattle.std.specs.List.{All}
use Rattle.std.proofs.Common.{ap, ◌∙◌, arith, inl, inr, length-append, length-drop}
use Rattle.std.proofs.lemmas.Bool.{and_parts, and_from, ltb-true, lt-ltb, leb-true, le-leb}
use Rattle.std.proofs.lemmas.Bool.{eqb-true}
use Rattle.std.proofs.lemmas.Bool.{eq-eqb, or_cases, cases_Bool, cases_eq, ne_eqb}
use Rattle.streams.specs.Following.{FitsAfter, Following, fits_behind, most_bytes}
use Rattle.streams.specs.Input.{Input, Remaining}
use Rattle.streams.specs.Reading.{Reading}
use Rattle.stream_bits.specs.BitList.{bits_of, length_bits}
use Rattle.stream_bits.specs.BitReading.{bits_reading}

-- Whether bits can be read from bit `offset` of the first byte on. That byte exists or `offset` is
-- 0, and a number of 64 bits counts the bits of all bytes.
abbrev pub can_be_read : List ℕ → ℕ → Bool
can_be_read bytes offset =
    nat_lt offset 8
    && (nat_eq offset 0 || nat_lt 0 (length bytes))
    && nat_le (length bytes) most_bytes

-- the remaining bits if they can be read; an impossible value has no bits
abbrev pub bits_where : Bool → List ℕ → ℕ → List Bool
bits_where true bytes offset = drop offset (bits_of bytes)
bits_where false bytes offset = []

-- the bits of `bytes` from bit `offset` of the first byte on
abbrev pub bits_from : List ℕ → ℕ → List Bool
bits_from bytes offset = bits_where (can_be_read bytes offset) bytes offset

-- the remaining bytes as bits, from bit `offset` of the first byte on
abbrev pub bits_left : Remaining ℕ → ℕ → Remaining Bool
bits_left left offset = record {
  tokens = bits_from left.tokens offset;
  place = record { passed = left.place.passed; bits_read = offset };
  possible = can_be_read left.tokens offset;
}

-- an input of bytes as one of bits, from bit `offset` of the first byte on
abbrev pub bits_input : Input ℕ → ℕ → Input Bool
bits_input i offset = record { left = bits_left i.left offset; status = i.status }

-- Bits that can be read: the first byte exists or `offset` is 0, and all bits can be counted.
pub record Readable (bytes : List ℕ) (offset : ℕ) : Type 0 where
  pub inside : offset < 8
  pub there : offset ≤ 8 * length bytes
  pub counted : length bytes ≤ most_bytes

pub readable_says : (bytes : List ℕ) (offset : ℕ) → can_be_read bytes offset ≡ true
    → Readable bytes offset
readable_says bytes offset e =
    let parts = and_parts _ (nat_le (length bytes) most_bytes) e in
    let first = and_parts (nat_lt offset 8) _ parts.0 in
    let inside = ltb-true offset 8 first.0 in
    record {
      inside = inside;
      there = at (or_cases (nat_eq offset 0) (nat_lt 0 (length bytes)) first.1) inside;
      counted = leb-true (length bytes) most_bytes parts.1;
    }
  where
    at : (nat_eq offset 0 ≡ true) ⊎ (nat_lt 0 (length bytes) ≡ true) → offset < 8
        → offset ≤ 8 * length bytes
    at (inl none) inside = let is = eqb-true offset 0 none in omega (arith, is)
    at (inr some) inside = let is = ltb-true 0 (length bytes) some in omega (arith, is)

pub readable_is : (bytes : List ℕ) (offset : ℕ) → Readable bytes offset
    → can_be_read bytes offset ≡ true
readable_is bytes offset r =
    and_from _ (nat_le (length bytes) most_bytes)
    (and_from (nat_lt offset 8) _ (lt-ltb offset 8 r.inside) (there (cases_eq offset 0)))
    (le-leb (length bytes) most_bytes r.counted)
  where
    there : (offset ≡ 0) ⊎ (offset ≡ 0 → ⊥)
        → (nat_eq offset 0 || nat_lt 0 (length bytes)) ≡ true
    there (inl none) = ap (λ b. b || nat_lt 0 (length bytes)) (eq-eqb offset 0 none)
    there (inr some) =
        ap (λ b. b || nat_lt 0 (length bytes)) (ne_eqb offset 0 some)
        ∙ lt-ltb 0 (length bytes) (let there = r.there in omega (arith, some, there))

-- the bits of what can be read
pub bits_readable : (bytes : List ℕ) (offset : ℕ) → can_be_read bytes offset ≡ true
    → bits_from bytes offset ≡ drop offset (bits_of bytes)
bits_readable bytes offset e = ap (λ b. bits_where b bytes offset) e

-- and of what cannot
pub bits_unreadable : (bytes : List ℕ) (offset : ℕ) → can_be_read bytes offset ≡ false
    → bits_from bytes offset ≡ []
bits_unreadable bytes offset e = ap (λ b. bits_where b bytes offset) e

pub length_from : (bytes : List ℕ) (offset : ℕ) → can_be_read bytes offset ≡ true
    → length (bits_from bytes offset) ≡ 8 * length bytes - offset
length_from bytes offset e =
    omega (
      arith,
      ap (λ l. length l) (bits_readable bytes offset e),
      length-drop offset (bits_of bytes),
      length_bits bytes,
    )

-- bits of whole bytes
abbrev pub WholeBytes : List Bool → Type 0
WholeBytes bits = (bytes : List ℕ) × All (λ b. b < 256) bytes × (bits ≡ bits_of bytes)

-- After bits come whole bytes of bits, as long as a number of 64 bits counts all bits.
abbrev pub bits_follow : {S : Type 0} → Reading ℕ S → Following Bool
bits_follow reading = record {
  can_follow = FitsAfter WholeBytes length (8 * most_bytes);
  kept = λ dropped later more f. fits_behind (bits_reading reading) WholeBytes (8 * most_bytes)
      dropped later more f;
}

pub some_readable : (bytes : List ℕ) (offset : ℕ) (front rest : List Bool)
    → bits_from bytes offset ≡ front ++ rest → (bits : ℕ) → bits ≡ length front
    → (bits ≡ 0 → ⊥)
    → (can_be_read bytes offset ≡ true) × (offset + bits ≤ 8 * length bytes)
some_readable bytes offset front rest splits bits at some =
    by (cases_Bool (can_be_read bytes offset))
  where
    total : length (bits_from bytes offset) ≡ length front + length rest
    total = ap (λ l. length l) splits ∙ length-append front rest

    by : (can_be_read bytes offset ≡ true) ⊎ (can_be_read bytes offset ≡ false)
        → (can_be_read bytes offset ≡ true) × (offset + bits ≤ 8 * length bytes)
    by (inl e) =
        let r = readable_says bytes offset e in
        (e, omega (arith, at, total, length_from bytes offset e, r.there))
    by (inr e) =
        let none = ap (λ l. length l) (bits_unreadable bytes offset e) in
        absurd (some (omega (arith, at, total, none)))
