-- Bits within one byte, and bits with nothing passed.
use Rattle.std.specs.Prelude.{◌≡◌, ℕ, ◌+◌, ◌*◌, ◌/◌, ◌%◌, ◌≤◌, ◌^◌, Bool, true}
use Rattle.std.specs.Prelude.{List, [], ◌∷◌, length, take, drop}
use Rattle.std.proofs.Common.{refl, sym, ap, subst, ◌∙◌, arith, length-append, length-drop}
use Rattle.std.proofs.lemmas.List.{drop_at, take_at, take-append-le, drop-append-le}
use Rattle.streams.specs.Input.{Input, Passes}
use Rattle.streams.specs.Reading.{Reading, units-nil}
use Rattle.streams.specs.ByteStream.{CountsBytes}
use Rattle.stream_bits.specs.BitInput.{bits_from, bits_input, bits_readable, can_be_read}
use Rattle.stream_bits.specs.Moves.{Moves, moves_pass, passed_bits, passed_length}
use Rattle.stream_bits.specs.BitList.{bits_cons, bits_of, length_low}
use Rattle.stream_bits.specs.BitList.{low_bits}
use Rattle.stream_bits.specs.BitList.{low_split, number_low, number_of}
use Rattle.stream_bits.specs.BitReading.{bits_reading}

-- and an input that stays passes none
pub passes_none : {T S : Type 0} (reading : Reading T S) (i j : Input T) → j ≡ i
    → Passes reading [] i j
passes_none reading i j same =
    let P : Input _ → Type 0 = λ x. Passes reading [] i x in
    subst P (sym same) (record {
      tokens = refl;
      place = sym (ap (λ n. reading.advance i.left.place n) (units-nil reading)
          ∙ reading.advance_none i.left.place);
      possible = refl;
      status = refl;
    })

pub within : (x offset count least : ℕ) → offset + count + least ≡ 8
    → take count (drop offset (low_bits 8 x)) ≡ low_bits count (x / 2 ^ least)
within x offset count least fits =
    let parts : 8 ≡ offset + (count + least) = omega (arith, fits) in
    ap (λ n. take count (drop offset (low_bits n x))) parts
    ∙ ap (λ l. take count (drop offset l)) (low_split offset (count + least) x)
    ∙ ap (λ l. take count l)
    (drop_at (low_bits offset (x / 2 ^ (count + least))) (low_bits (count + least) x) offset
    (length_low offset (x / 2 ^ (count + least))))
    ∙ ap (λ l. take count l) (low_split count least x)
    ∙ take_at (low_bits count (x / 2 ^ least)) (low_bits least x) count
    (length_low count (x / 2 ^ least))

pub first_within : (x : ℕ) (rest : List ℕ) (offset count : ℕ) → offset + count ≤ 8
    → take count (drop offset (bits_of (x ∷ rest))) ≡ take count (drop offset (low_bits 8 x))
first_within x rest offset count fits =
    let there : offset ≤ length (low_bits 8 x) = omega (arith, fits, length_low 8 x) in
    let more : count ≤ length (drop offset (low_bits 8 x)) =
    omega (arith, fits, length_low 8 x, length-drop offset (low_bits 8 x)) in
    ap (λ l. take count (drop offset l)) (bits_cons x rest)
    ∙ ap (λ l. take count l) (drop-append-le offset (low_bits 8 x) (bits_of rest) there)
    ∙ take-append-le count (drop offset (low_bits 8 x)) (bits_of rest) more

-- and the number that they stand for
pub number_within : (bytes : List ℕ) (x : ℕ) (rest : List ℕ) (offset count least : ℕ)
    → bytes ≡ x ∷ rest → offset + count + least ≡ 8 → can_be_read bytes offset ≡ true
    → number_of (take count (bits_from bytes offset)) ≡ x / 2 ^ least % 2 ^ count
number_within bytes x rest offset count least first fits readable =
    ap (λ l. number_of (take count l)) (bits_readable bytes offset readable)
    ∙ ap (λ l. number_of (take count (drop offset (bits_of l)))) first
    ∙ ap number_of (first_within x rest offset count (omega (arith, fits)))
    ∙ ap number_of (within x offset count least fits)
    ∙ number_low count (x / 2 ^ least)

-- That many bits of an input stand for the number, and are passed.
pub record ReadsNumber {S : Type 0} (reading : Reading Bool S) (count : ℕ) (i : Input Bool)
    (n : ℕ) (j : Input Bool) : Type 0 where
  pub bits : List Bool
  pub as_many : length bits ≡ count
  pub number : n ≡ number_of bits
  pub passes : Passes reading bits i j

module _ {S : Type 0} (reading : Reading ℕ S) (counts : CountsBytes reading) (i j : Input ℕ)
    (x offset count least n : ℕ) (between : i.left.place.bits_read ≡ 0)
    (readable : can_be_read i.left.tokens offset ≡ true) (passes : Passes reading (x ∷ []) i j)
    (fits : offset + count + least ≡ 8) (is : n ≡ x / 2 ^ least % 2 ^ count) where
  there : 8 ≤ 8 * length i.left.tokens
  there = omega (
    arith,
    ap (λ l. length l) passes.tokens,
    length-append (x ∷ []) j.left.tokens,
  )

  number : n ≡ number_of (take count (bits_from i.left.tokens offset))
  number = is
      ∙ sym (number_within i.left.tokens x j.left.tokens offset count least passes.tokens fits
      readable)

  -- the last bits of a byte are read
  pub reads_last : least ≡ 0
      → ReadsNumber (bits_reading reading) count (bits_input i offset) n (bits_input j 0)
  reads_last last =
      let m : Moves reading i j offset count = record {
        counts = counts;
        between = between;
        front = x ∷ [];
        passes = passes;
        readable = readable;
        few = omega (arith, fits, there);
        whole = omega (arith, fits, last);
      } in
      let behind : (offset + count) % 8 ≡ 0 = omega (arith, fits, last) in
      let P : ℕ → Type 0 =
      λ k. Passes (bits_reading reading) (passed_bits reading i j offset count m)
      (bits_input i offset) (bits_input j k) in
      record {
        bits = passed_bits reading i j offset count m;
        as_many = passed_length reading i j offset count m;
        number = number;
        passes = subst P behind (moves_pass reading i j offset count m);
      }

  pub reads_inside : (k : Input ℕ) → k ≡ i → (least ≡ 0 → ⊥)
      → ReadsNumber (bits_reading reading) count (bits_input i offset) n
      (bits_input k (offset + count))
  reads_inside k same more =
      let m : Moves reading i k offset count = record {
        counts = counts;
        between = between;
        front = [];
        passes = passes_none reading i k same;
        readable = readable;
        few = omega (arith, fits, there);
        whole = omega (arith, fits, more);
      } in
      let behind : (offset + count) % 8 ≡ offset + count = omega (arith, fits, more) in
      let P : ℕ → Type 0 =
      λ b. Passes (bits_reading reading) (passed_bits reading i k offset count m)
      (bits_input i offset) (bits_input k b) in
      record {
        bits = passed_bits reading i k offset count m;
        as_many = passed_length reading i k offset count m;
        number = number;
        passes = subst P behind (moves_pass reading i k offset count m);
      }
