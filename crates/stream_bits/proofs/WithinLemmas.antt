-- Bits within one byte, and bits with nothing passed.
use Rattle.std.specs.Prelude.{◌≡◌, ℕ, ◌*◌, ◌%◌, ◌≤◌, ◌^◌, Bool, true, false}
use Rattle.std.specs.Prelude.{List, [], ◌∷◌, ◌++◌, length, take, drop, ◌==◌}
use Rattle.std.proofs.Common.{refl, sym, ap, ◌∙◌, arith, length-append, length-drop}
use Rattle.std.proofs.lemmas.List.{nil_from_length, length-take}
use Rattle.streams.specs.Input.{Input, IsEndOf, Passes, back_at, passed_again}
use Rattle.streams.specs.Reading.{Reading, units-nil}
use Rattle.std.proofs.Common.{mod-eq_of_lt}
use Rattle.std.proofs.Math.Pow.{pow_mono}
use Rattle.std.proofs.lemmas.Bool.{eq-eqb, ne_eqb}
use Rattle.stream_bits.specs.BitInput.{bits_from, can_be_read}
use Rattle.stream_bits.specs.BitInput.{length_from}
use Rattle.stream_bits.specs.BitList.{bit_number, bits_nil, bits_of}
use Rattle.stream_bits.specs.BitList.{low_bits}
use Rattle.stream_bits.specs.BitList.{number_of}
use Rattle.stream_bits.specs.BitReading.{ShowsBits}

-- An input from which no token is passed stays.
pub none_passed : {T S : Type 0} (reading : Reading T S) (i j : Input T) → Passes reading [] i j
    → j ≡ i
none_passed reading i j p =
    let e : IsEndOf reading i i = record {
      ends = record {
        dropped = [];
        tokens = refl;
        place = sym (ap (λ n. reading.advance i.left.place n) (units-nil reading)
            ∙ reading.advance_none i.left.place);
        possible = refl;
      };
      cut = refl;
    } in
    passed_again e p

-- no token is passed by going back to where a token was taken
pub back_passes : {T S : Type 0} (reading : Reading T S) (front : List T) (i a j : Input T)
    → Passes reading front i a → j ≡ back_at i.left a → j ≡ i
back_passes reading front i a j p back =
    back ∙ ap (λ (s : _). record i { status = s }) p.status

-- an empty slice of bits shows none
pub shows_none : {S : Type 0} (reading : Reading ℕ S) (slice : S) (offset : ℕ)
    → reading.shows slice [] → ShowsBits reading (slice, offset, offset) []
shows_none reading slice offset shown = record {
  bytes = [];
  begun = 0;
  passed = shown;
  counted = units-nil reading;
  bits = sym (nil_from_length (drop offset (bits_of [] ++ take offset (low_bits 8 0)))
      (omega (
        arith,
        ap (λ l. length l) bits_nil,
        length-drop offset (bits_of [] ++ take offset (low_bits 8 0)),
        length-append (bits_of []) (take offset (low_bits 8 0)),
        length-take offset (low_bits 8 0),
      )));
}

pub one_shifted : (count : ℕ) → count ≤ 8 → 1 * 2 ^ count % 65536 ≡ 2 ^ count
one_shifted count few =
    let small = pow_mono few in
    let one : 1 * 2 ^ count ≡ 2 ^ count = omega arith in
    ap (λ n. n % 65536) one ∙ mod-eq_of_lt (omega (arith, small))

pub no_byte : (bytes : List ℕ) (offset : ℕ) → can_be_read bytes offset ≡ true → bytes ≡ []
    → bits_from bytes offset ≡ []
no_byte bytes offset readable none =
    nil_from_length (bits_from bytes offset)
    (omega (arith, length_from bytes offset readable, ap (λ l. length l) none))

-- one bit as a number
pub one_bit_number : (bits : List Bool) (n : ℕ) → length bits ≡ 1 → n ≡ number_of bits
    → bits ≡ (n == 1) ∷ []
unfolding number_of
one_bit_number [] n one is = absurd (omega arith)
one_bit_number (b ∷ []) n one is = ap (λ x. x ∷ []) (bit b n (omega (arith, is)))
  where
    bit : (b : Bool) (n : ℕ) → n ≡ bit_number b → b ≡ (n == 1)
    bit true n is = sym (eq-eqb n 1 is)
    bit false n is = sym (ne_eqb n 1 (λ e. omega (arith, is, e)))
one_bit_number (b ∷ c ∷ bits) n one is = absurd (omega arith)

pub nothing_behind : {T : Type 0} (all later : List T) → all ≡ all ++ later → later ≡ []
nothing_behind all later e =
    nil_from_length later (omega (arith, ap (λ l. length l) e, length-append all later))
