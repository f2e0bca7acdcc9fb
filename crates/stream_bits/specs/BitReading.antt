-- How bits are counted, how they move the place, and which bits a slice shows.
use Rattle.std.specs.Prelude.{◌≡◌, ◌<◌, ℕ, ◌+◌, ◌*◌, ◌-◌, ◌/◌, ◌%◌, Bool, true, false, min}
use Rattle.std.specs.Prelude.{List, [], ◌++◌, ◌≤◌, length, take, drop, nat_lt}
use Rattle.std.proofs.Common.{refl, sym, ap, ◌∙◌, arith, length-append, length-drop}
use Rattle.std.proofs.lemmas.Bool.{ltb-true, lt-ltb}
use Rattle.std.proofs.lemmas.List.{length-take}
use Rattle.streams.specs.Counted.{length-positive}
use Rattle.streams.specs.Place.{Place, further, no_place, same_place}
use Rattle.streams.specs.Reading.{Reading}
use Rattle.stream_bits.specs.BitList.{bits_of, length_bits, length_low, low_bits}

-- how far one byte moves the place of the stream inside
abbrev pub byte_step : {S : Type 0} → Reading ℕ S → ℕ
byte_step reading = (reading.advance no_place 1).passed

-- the position after `bits` more bits, by whether the stream is inside a byte that exists
abbrev pub moved : {S : Type 0} → Reading ℕ S → Bool → Place → ℕ → Place
moved reading true p bits = record {
  passed = p.passed + (p.bits_read + bits) / 8 * byte_step reading;
  bits_read = (p.bits_read + bits) % 8;
}
moved reading false p bits = p

-- The position after `bits` more bits. The bytes that are passed completely advance it as in the
-- inner stream. A position after more than seven bits of a byte is unchanged.
abbrev pub advance_bits : {S : Type 0} → Reading ℕ S → Place → ℕ → Place
advance_bits reading p bits = moved reading (nat_lt p.bits_read 8) p bits

-- A slice of bits: the bytes wholly passed, how many bits of the first were read before, and how
-- many of the byte after them are read.
abbrev pub BitSlice : Type 0 → Type 0
BitSlice S = S × ℕ × ℕ

-- The slice shows these bits. It does not know the byte after its bytes.
pub record ShowsBits {S : Type 0} (reading : Reading ℕ S) (slice : BitSlice S)
    (shown : List Bool) : Type 0 where
  pub bytes : List ℕ
  pub begun : ℕ
  pub passed : reading.shows slice.0 bytes
  pub counted : reading.units bytes ≡ length bytes
  pub bits : shown ≡ drop slice.1 (bits_of bytes ++ take slice.2 (low_bits 8 begun))

-- A slice of bits holds its position: how many bits of the first byte were read before it, and how
-- many of the byte after its bytes are read after it. Its bytes are those that are passed
-- completely. There are none at a position after more than seven bits of a byte, which is
-- unchanged.
pub record IsBitPosition {S : Type 0} (reading : Reading ℕ S) (bytes : List ℕ) (before units : ℕ)
    (slice : BitSlice S) (behind : ℕ) : Type 0 where
  pub begins : slice.1 ≡ before
  pub ends : slice.2 ≡ behind
  pub passes : before < 8 → reading.shows slice.0 (take ((before + units) / 8) bytes)
  pub stays : 8 ≤ before → reading.shows slice.0 []

pub none_moved : {S : Type 0} (reading : Reading ℕ S) (b : Bool) (p : Place)
    → nat_lt p.bits_read 8 ≡ b → moved reading b p 0 ≡ p
none_moved reading true p e =
    let h = ltb-true p.bits_read 8 e in
    let bytes : (p.bits_read + 0) / 8 ≡ 0 = omega (arith, h) in
    same_place (moved reading true p 0) p
    (ap (λ n. p.passed + n * byte_step reading) bytes ∙ omega arith) (omega (arith, h))
none_moved reading false p e = refl

pub moved_on : {S : Type 0} (reading : Reading ℕ S) (b : Bool) (p : Place) (m n : ℕ)
    → nat_lt p.bits_read 8 ≡ b
    → advance_bits reading (moved reading b p m) n ≡ moved reading b p (m + n)
moved_on reading true p m n e =
    let from = moved reading true p m in
    let inside : nat_lt from.bits_read 8 ≡ true = lt-ltb from.bits_read 8 (omega arith) in
    let bytes : (p.bits_read + (m + n)) / 8
    ≡ (p.bits_read + m) / 8 + ((p.bits_read + m) % 8 + n) / 8 = omega arith in
    let step = byte_step reading in
    ap (λ b. moved reading b from n) inside
    ∙ same_place (moved reading true from n) (moved reading true p (m + n))
    (adds p.passed ((p.bits_read + m) / 8) (((p.bits_read + m) % 8 + n) / 8) step
    ∙ ap (λ k. p.passed + k * step) (sym bytes)) (omega arith)
  where
    adds : (p j k s : ℕ) → p + j * s + k * s ≡ p + (j + k) * s
    adds p j k s = grind arith
moved_on reading false p m n e = ap (λ b. moved reading b p n) e

pub moved_further : {S : Type 0} (reading : Reading ℕ S) (b : Bool) (p : Place) (n k : ℕ)
    → moved reading b (further p n) k ≡ further (moved reading b p k) n
moved_further reading true p n k =
    same_place (moved reading true (further p n) k) (further (moved reading true p k) n)
    (omega arith) refl
moved_further reading false p n k = refl

pub length_shown : {S : Type 0} (reading : Reading ℕ S) (slice : BitSlice S) (shown : List Bool)
    (s : ShowsBits reading slice shown)
    → length shown ≡ 8 * length s.bytes + min slice.2 8 - slice.1
length_shown reading slice shown s =
    let all = bits_of s.bytes ++ take slice.2 (low_bits 8 s.begun) in
    omega (
      arith,
      ap (λ l. length l) s.bits,
      length-drop slice.1 all,
      length-append (bits_of s.bytes) (take slice.2 (low_bits 8 s.begun)),
      length_bits s.bytes,
      length-take slice.2 (low_bits 8 s.begun),
      length_low 8 s.begun,
    )

-- Bits are counted one by one.
abbrev pub bits_reading : {S : Type 0} → Reading ℕ S → Reading Bool (BitSlice S)
bits_reading reading = record {
  units = length;
  advance = advance_bits reading;
  shows = ShowsBits reading;
  units_add = λ xs ys. length-append xs ys;
  units_positive = λ x xs. length-positive x xs;
  advance_none = λ p. none_moved reading (nat_lt p.bits_read 8) p refl;
  advance_add = λ p m n. moved_on reading (nat_lt p.bits_read 8) p m n refl;
  advance_further = λ p n k. moved_further reading (nat_lt p.bits_read 8) p n k;
  one_length = λ slice xs ys p q.
      let bytes = reading.one_length slice.0 p.bytes q.bytes p.passed q.passed in
      omega (
        arith,
        bytes,
        p.counted,
        q.counted,
        length_shown reading slice xs p,
        length_shown reading slice ys q,
      );
}
