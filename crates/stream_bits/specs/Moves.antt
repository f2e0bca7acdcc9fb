-- How a stream of bits moves, by how the stream of bytes inside does.
use Rattle.std.specs.Prelude.{◌≡◌, ℕ, zero, suc, ◌+◌, ◌*◌, ◌/◌, ◌%◌, ◌≤◌, Bool, true}
use Rattle.std.specs.Prelude.{List, [], ◌∷◌, ◌++◌, length, take, drop}
use Rattle.std.proofs.Common.{refl, sym, ap, ◌∙◌, arith, length-append}
use Rattle.std.proofs.Math.Seq.{drop-append-add, take-append-add}
use Rattle.std.proofs.lemmas.Bool.{lt-ltb}
use Rattle.std.proofs.lemmas.List.{drop-drop, drop-take, take-append-drop}
use Rattle.std.proofs.lemmas.List.{length-take-le, take-append-le}
use Rattle.streams.specs.ByteStream.{CountsBytes}
use Rattle.streams.specs.Input.{Input, Passes}
use Rattle.streams.specs.Place.{Place, further, no_place, same_place}
use Rattle.streams.specs.Reading.{Reading}
use Rattle.stream_bits.specs.BitInput.{bits_from, bits_input, bits_readable}
use Rattle.stream_bits.specs.BitInput.{can_be_read, length_from, readable_is, readable_says}
use Rattle.stream_bits.specs.BitList.{bits_append, bits_cons, bits_of, length_bits, length_low}
use Rattle.stream_bits.specs.BitList.{low_bits}
use Rattle.stream_bits.specs.BitReading.{ShowsBits, advance_bits, bits_reading, byte_step}
use Rattle.stream_bits.specs.BitReading.{moved}

-- ---- bytes move the place by a step each

one_byte : {S : Type 0} (reading : Reading ℕ S) → CountsBytes reading → (q : Place)
    → q.bits_read ≡ 0
    → reading.advance q 1 ≡ record { passed = q.passed + byte_step reading; bits_read = 0 }
one_byte reading counts q none =
    let from : q ≡ further no_place q.passed = same_place q (further no_place q.passed)
    (omega arith) none in
    let there = further (reading.advance no_place 1) q.passed in
    ap (λ p. reading.advance p 1) from ∙ reading.advance_further no_place q.passed 1
    ∙ same_place there (record { passed = q.passed + byte_step reading; bits_read = 0 })
    (omega arith) (counts.between no_place 1)

pub bytes_move : {S : Type 0} (reading : Reading ℕ S) → CountsBytes reading → (n : ℕ)
    (p : Place) → p.bits_read ≡ 0
    → reading.advance p n
    ≡ record { passed = p.passed + n * byte_step reading; bits_read = 0 }
bytes_move reading counts zero p none =
    reading.advance_none p ∙ same_place p
    (record { passed = p.passed + 0 * byte_step reading; bits_read = 0 }) (omega arith) none
bytes_move reading counts (suc n) p none =
    let before = bytes_move reading counts n p none in
    let q : Place = record { passed = p.passed + n * byte_step reading; bits_read = 0 } in
    ap (λ k. reading.advance p k) (omega arith) ∙ sym (reading.advance_add p n 1)
    ∙ ap (λ x. reading.advance x 1) before ∙ one_byte reading counts q refl
    ∙ same_place
    (record { passed = p.passed + n * byte_step reading + byte_step reading; bits_read = 0 })
    (record { passed = p.passed + suc n * byte_step reading; bits_read = 0 })
    (steps p.passed n (byte_step reading)) refl
  where
    steps : (p n s : ℕ) → p + n * s + s ≡ p + suc n * s
    steps p n s = grind arith

-- ---- lists of bits that are passed

-- the bits after those of some bytes and some more
behind : (front later : List ℕ) (n : ℕ)
    → drop (8 * length front + n) (bits_of (front ++ later)) ≡ drop n (bits_of later)
behind front later n =
    ap (λ l. drop (8 * length front + n) l) (bits_append front later)
    ∙ ap (λ k. drop (k + n) (bits_of front ++ bits_of later)) (sym (length_bits front))
    ∙ drop-append-add (bits_of front) (bits_of later) n

before : (front later : List ℕ) (n : ℕ)
    → take (8 * length front + n) (bits_of (front ++ later))
    ≡ bits_of front ++ take n (bits_of later)
before front later n =
    ap (λ l. take (8 * length front + n) l) (bits_append front later)
    ∙ ap (λ k. take (k + n) (bits_of front ++ bits_of later)) (sym (length_bits front))
    ∙ take-append-add (bits_of front) (bits_of later) n

-- the first bits of bytes are those of the first byte
pub begun_bits : (n : ℕ) (bytes : List ℕ) → n ≤ 8 → n ≤ 8 * length bytes
    → (b : ℕ) × (take n (bits_of bytes) ≡ take n (low_bits 8 b))
begun_bits n [] h k =
    let none : n ≡ 0 = omega (arith, k) in
    (0, ap (λ m. take m (bits_of [])) none ∙ sym (ap (λ m. take m (low_bits 8 0)) none))
begun_bits n (b ∷ bs) h k =
    let fits : n ≤ length (low_bits 8 b) = omega (arith, h, length_low 8 b) in (
      b,
      ap (λ l. take n l) (bits_cons b bs)
          ∙ take-append-le n (low_bits 8 b) (bits_of bs) fits,
    )

-- ---- a stream of bits with some bits passed

-- `Moves reading i j offset bits`: after `offset` bits of the first byte, `bits` bits are passed.
-- The bytes `front` are passed in the inner stream, and some bits of the next byte.
pub record Moves {S : Type 0} (reading : Reading ℕ S) (i j : Input ℕ) (offset bits : ℕ)
    : Type 0 where
  pub counts : CountsBytes reading
  pub between : i.left.place.bits_read ≡ 0
  pub front : List ℕ
  pub passes : Passes reading front i j
  pub readable : can_be_read i.left.tokens offset ≡ true
  pub few : offset + bits ≤ 8 * length i.left.tokens
  pub whole : length front ≡ (offset + bits) / 8

module _ {S : Type 0} (reading : Reading ℕ S) (i j : Input ℕ) (offset bits : ℕ)
    (m : Moves reading i j offset bits) where
  -- the bits that are passed
  abbrev pub passed_bits : List Bool
  passed_bits = take bits (bits_from i.left.tokens offset)

  total : offset + bits ≡ 8 * length m.front + (offset + bits) % 8
  total = omega (arith, m.whole)

  lengths : length i.left.tokens ≡ length m.front + length j.left.tokens
  lengths = omega (
    arith,
    ap (λ l. length l) m.passes.tokens,
    length-append m.front j.left.tokens,
  )

  pub still_readable : can_be_read j.left.tokens ((offset + bits) % 8) ≡ true
  still_readable =
      let r = readable_says i.left.tokens offset m.readable in
      readable_is j.left.tokens ((offset + bits) % 8) (record {
        inside = omega arith;
        there = omega (arith, m.few, lengths, total);
        counted = omega (arith, r.counted, lengths);
      })

  all_bits : bits_of i.left.tokens ≡ bits_of (m.front ++ j.left.tokens)
  all_bits = ap bits_of m.passes.tokens

  bits_behind : drop bits (bits_from i.left.tokens offset)
      ≡ bits_from j.left.tokens ((offset + bits) % 8)
  bits_behind =
      ap (λ l. drop bits l) (bits_readable i.left.tokens offset m.readable)
      ∙ drop-drop bits offset (bits_of i.left.tokens)
      ∙ ap (λ l. drop (offset + bits) l) all_bits
      ∙ ap (λ k. drop k (bits_of (m.front ++ j.left.tokens))) total
      ∙ behind m.front j.left.tokens ((offset + bits) % 8)
      ∙ sym (bits_readable j.left.tokens ((offset + bits) % 8) still_readable)

  pub passed_length : length passed_bits ≡ bits
  passed_length =
      let r = readable_says i.left.tokens offset m.readable in
      length-take-le bits (bits_from i.left.tokens offset)
      (omega (arith, length_from i.left.tokens offset m.readable, m.few, r.there))

  place : j.left.place.passed ≡ i.left.place.passed + (offset + bits) / 8 * byte_step reading
  place =
      ap (λ x. x.passed) m.passes.place
      ∙ ap (λ n. (reading.advance i.left.place n).passed) (m.counts.units m.front ∙ m.whole)
      ∙ ap (λ x. x.passed)
      (bytes_move reading m.counts ((offset + bits) / 8) i.left.place m.between)

  pub moves_pass : Passes (bits_reading reading) passed_bits (bits_input i offset)
      (bits_input j ((offset + bits) % 8))
  moves_pass =
      let r = readable_says i.left.tokens offset m.readable in
      let from : Place = record { passed = i.left.place.passed; bits_read = offset } in
      let to : Place =
      record { passed = j.left.place.passed; bits_read = (offset + bits) % 8 } in
      record {
        tokens = sym (take-append-drop bits (bits_from i.left.tokens offset))
            ∙ ap (λ l. passed_bits ++ l) bits_behind;
        place = same_place to (moved reading true from bits) place refl
            ∙ sym (ap (λ b. moved reading b from bits) (lt-ltb offset 8 r.inside))
            ∙ sym (ap (λ n. advance_bits reading from n) passed_length);
        possible = still_readable ∙ sym m.readable;
        status = m.passes.status;
      }

  -- and a slice of the bytes shows the bits
  pub moves_show : (slice : S) → reading.shows slice m.front
      → ShowsBits reading (slice, offset, (offset + bits) % 8) passed_bits
  moves_show slice shown =
      let begun = begun_bits ((offset + bits) % 8) j.left.tokens (omega arith)
      (omega (arith, m.few, lengths, total)) in
      record {
        bytes = m.front;
        begun = begun.0;
        passed = shown;
        counted = m.counts.units m.front;
        bits = ap (λ l. take bits l) (bits_readable i.left.tokens offset m.readable)
            ∙ sym (drop-take offset bits (bits_of i.left.tokens))
            ∙ ap (λ l. drop offset (take (offset + bits) l)) all_bits
            ∙ ap (λ k. drop offset (take k (bits_of (m.front ++ j.left.tokens)))) total
            ∙ ap (λ l. drop offset l) (before m.front j.left.tokens ((offset + bits) % 8))
            ∙ ap (λ l. drop offset (bits_of m.front ++ l)) begun.1;
      }
