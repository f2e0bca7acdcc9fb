-- Numbers that are read in parts.
use Rattle.std.specs.Prelude.{◌≡◌, ◌<◌, ◌≤◌, ◌+◌, ◌%◌, ◌^◌, ℕ, Bool, []}
use Rattle.std.specs.Prelude.{length}
use Rattle.std.proofs.Common.{refl, sym, ap, ◌∙◌, arith}
use Rattle.std.proofs.Math.Pow.{pow_mono}
use Rattle.std.proofs.lemmas.Bool.{lt-ltb}
use Rattle.streams.specs.Input.{Input}
use Rattle.streams.specs.Place.{Place}
use Rattle.streams.specs.Reading.{Reading}
use Rattle.stream_bits.specs.BitInput.{bits_input}
use Rattle.stream_bits.specs.BitReading.{bits_reading, moved}
use Rattle.stream_bits.specs.BitList.{number_nil}
use Rattle.stream_bits.specs.Within.{ReadsNumber, passes_none}
use Rattle.winnow_bits.specs.InParts.{reads_below}

-- no bits are the number 0
pub reads_none : {S : Type 0} (reading : Reading Bool S) (count : ℕ) (i : Input Bool) (n : ℕ)
    → count ≡ 0 → n ≡ 0 → ReadsNumber reading count i n i
reads_none reading count i n none zero = record {
  bits = [];
  as_many = sym none;
  number = zero ∙ sym number_nil;
  passes = passes_none reading i i refl;
}

pub reads_within : {S : Type 0} (reading : Reading Bool S) (count width : ℕ) (i : Input Bool)
    (n : ℕ) (j : Input Bool) → ReadsNumber reading count i n j → count ≤ width → n < 2 ^ width
reads_within reading count width i n j r fits =
    let below = reads_below reading count i n j r in
    let more = pow_mono fits in
    omega (arith, below, more)

-- as many bits, counted in another way
pub reads_as_many : {S : Type 0} (reading : Reading Bool S) (count other : ℕ) (i : Input Bool)
    (n : ℕ) (j : Input Bool) → ReadsNumber reading count i n j → other ≡ count
    → ReadsNumber reading other i n j
reads_as_many reading count other i n j r same = record {
  bits = r.bits;
  as_many = r.as_many ∙ sym same;
  number = r.number;
  passes = r.passes;
}

-- how many bits of their byte are read where bits end
pub reads_to : {S : Type 0} (reading : Reading ℕ S) (count : ℕ) (i j : Input ℕ) (from to n : ℕ)
    → from < 8 → ReadsNumber (bits_reading reading) count (bits_input i from) n (bits_input j to)
    → to ≡ (from + count) % 8
reads_to reading count i j from to n inside r =
    ap (λ (p : Place). p.bits_read) r.passes.place
    ∙ ap (λ b. (moved reading b (bits_input i from).left.place (length r.bits)).bits_read)
    (lt-ltb from 8 inside)
    ∙ ap (λ m. (from + m) % 8) r.as_many
