-- The calls of the parsers of a header, in any input of bytes.
use Rattle.std.proofs.Common.{◌≡◌, ◌<◌, ◌≤◌, ◌+◌, ◌-◌, ◌*◌, ◌^◌, ◌∙◌, ◌∷◌, ◌++◌}
use Rattle.std.proofs.Common.{ℕ, Bool}
use Rattle.std.proofs.Common.{List, Some, Ok, Err, ap, arith, inl, inr, length, length-append}
use Rattle.std.proofs.Common.{refl}
use Rattle.std.proofs.Common.{subst, sym}
use Rattle.std.specs.Int.{bytes_high_first}
use Rattle.std.specs.List.{All}
use Rattle.std.specs.Prelude.{◌⊎◌, ⊤}
use Rattle.stream_bits.specs.BitList.{bit_number}
use Rattle.stream_bits.specs.BitReading.{bits_reading}
use Rattle.streams.specs.Following.{most_bytes}
use Rattle.stream_errors.specs.Form.{ErrorForm, modal}
use Rattle.streams.specs.Input.{Input}
use Rattle.winnow_integers.specs.Integer.{value_of}
use Rattle.winnow_integers.specs.Integer.Values.{value_of_fits}
use Rattle.winnow_integers.specs.Integer.Written.{be_written, length_written}
use Rattle.streams.specs.Kind.{Kind}
use Rattle.streams.specs.Reading.{Reading}
use Rattle.format_dns.specs.Fields.{IsField}
use Rattle.format_dns.specs.Header.{HasTooMany, IsHighByte, IsLowByte, IsTwoByteNumber, LacksPart}
use Rattle.parser_definitions.specs.BitBool.{BitBoolDoes}
use Rattle.parser_definitions.specs.BitsOfBytes.{BitsOfBytesDoes}
use Rattle.parser_definitions.specs.Does.{Ran}
use Rattle.parser_definitions.specs.Integer.{IntegerDoes}
use Rattle.parser_definitions.specs.Inversion.Functions.{input_at}
use Rattle.parser_definitions.specs.Inversion.Outcomes.{FailsAt, Failing, fails_at, fails_by}
use Rattle.parser_definitions.specs.Inversion.Outcomes.{lacks_at}
use Rattle.parser_definitions.specs.Inversion.Tokens.{integer_ok}
use Rattle.parser_definitions.specs.Left.{Left, left_of}
use Rattle.parser_definitions.specs.Outcome.{Does, Setting, lacks, outcome_of, setting_of}
use Rattle.parser_definitions.specs.Sequence.{SequenceDoes3}
use Rattle.format_dns.proofs.BitRuns.{ReadsBits, TakeMeans, bool_reads, taking_does_not_fail}
use Rattle.format_dns.proofs.BitRuns.{take_reads}
use Rattle.format_dns.proofs.BitRuns.{three_read}
use Rattle.format_dns.proofs.ByteRuns.{byte_fails, byte_must, byte_read}

-- ---- calls, by their definitions

-- the outcome of a call that failed
failed : {S O L : Type 0} (reading : Reading ℕ L) (does : Does S ℕ O) (s : S) (i : Input ℕ)
    (k : Kind) (t : S) (j : Input ℕ) → Ran reading does modal s i (Err k) t j
    → Failing (does (setting_of modal i) s (left_of i)) k (left_of j)
failed reading does s i k t j ran =
    (outcome_of (Err k) (t, left_of j), ran.3, fails_at k (t, left_of j))

-- the input where it failed
is_there : (i j : Input ℕ) → j.status.cut ≡ i.status.cut → j.left.possible ≡ i.left.possible
    → input_at (setting_of modal i) (left_of j) ≡ j
is_there i j flag possible =
    let make : Bool → Bool → Input ℕ = λ c p. record {
      left = record { tokens = j.left.tokens; place = j.left.place; possible = p };
      status = record { cut = c; recorded = j.status.recorded };
    } in
    ap (λ c. make c i.left.possible) (sym flag) ∙ ap (λ p. make j.status.cut p) (sym possible)

-- ---- the two bytes of flags

abbrev pub Flags : Type 0
Flags = ⊤ × ⊤ × ⊤

abbrev FlagsDo : {L : Type 0} → Reading Bool L → Does Flags Bool (Bool × Bool × Bool)
FlagsDo reading = SequenceDoes3 (BitBoolDoes reading) (BitBoolDoes reading) (BitBoolDoes reading)

abbrev pub HighDo : {L : Type 0} → Reading Bool L
    → Does (⊤ × ℕ × Flags) Bool (Bool × ℕ × (Bool × Bool × Bool))
HighDo reading = SequenceDoes3 (BitBoolDoes reading) (TakeMeans reading) (FlagsDo reading)

abbrev pub LowDo : {L : Type 0} → Reading Bool L → Does (⊤ × ℕ × ℕ) Bool (Bool × ℕ × ℕ)
LowDo reading = SequenceDoes3 (BitBoolDoes reading) (TakeMeans reading) (TakeMeans reading)

flags_read : {L : Type 0} (reading : Reading Bool L) (s : Flags)
    → ReadsBits reading 1 3 (FlagsDo reading) s
    (λ o. (bit_number o.0 * 2 ^ 1 + bit_number o.1) * 2 ^ 1 + bit_number o.2) (λ _. ⊤ × ⊤ × ⊤)
flags_read reading s =
    three_read reading 1 1 1 1 1 1 2 3 (BitBoolDoes reading) (BitBoolDoes reading)
    (BitBoolDoes reading) s bit_number bit_number bit_number (λ _. ⊤) (λ _. ⊤) (λ _. ⊤) refl
    refl (omega arith) (bool_reads reading s.0) (bool_reads reading s.1) (bool_reads reading s.2)

high_bits : {L : Type 0} (reading : Reading Bool L) (s : ⊤ × ℕ × Flags)
    → s.1 ≡ 4 → ReadsBits reading 1 8 (HighDo reading) s
    (λ o. (bit_number o.0 * 2 ^ 4 + o.1) * 2 ^ 3
    + ((bit_number o.2.0 * 2 ^ 1 + bit_number o.2.1) * 2 ^ 1 + bit_number o.2.2))
    (λ o. ⊤ × (o.1 < 2 ^ 4) × (⊤ × ⊤ × ⊤))
high_bits reading s is =
    three_read reading 1 4 1 1 4 3 5 8 (BitBoolDoes reading) (TakeMeans reading)
    (FlagsDo reading) s bit_number (λ o. o)
    (λ o. (bit_number o.0 * 2 ^ 1 + bit_number o.1) * 2 ^ 1 + bit_number o.2) (λ _. ⊤)
    (λ o. o < 2 ^ 4) (λ _. ⊤ × ⊤ × ⊤) refl refl (omega arith) (bool_reads reading s.0)
    (take_reads reading 4 s.1 is (omega arith)) (flags_read reading s.2)

low_bits_read : {L : Type 0} (reading : Reading Bool L) (s : ⊤ × ℕ × ℕ)
    → s.1 ≡ 3 → s.2 ≡ 4 → ReadsBits reading 1 8 (LowDo reading) s
    (λ o. (bit_number o.0 * 2 ^ 3 + o.1) * 2 ^ 4 + o.2)
    (λ o. ⊤ × (o.1 < 2 ^ 3) × (o.2 < 2 ^ 4))
low_bits_read reading s is is' =
    three_read reading 1 3 4 1 3 4 4 8 (BitBoolDoes reading) (TakeMeans reading)
    (TakeMeans reading) s bit_number (λ o. o) (λ o. o) (λ _. ⊤) (λ o. o < 2 ^ 3)
    (λ o. o < 2 ^ 4) refl refl (omega arith) (bool_reads reading s.0)
    (take_reads reading 3 s.1 is (omega arith))
    (take_reads reading 4 s.2 is' (omega arith))

-- a byte of which `parts` tells the bits
module _ {S O L : Type 0} (reading : Reading ℕ L) (does : Does S Bool O) (s : S)
    (number : O → ℕ) (Fits : O → Type 0)
    (parts : ReadsBits (bits_reading reading) 1 8 does s number Fits) (i : Input ℕ) where
  flags_must : (k : Kind) (t : S) (j : Input ℕ) → 1 ≤ length i.left.tokens
      → length i.left.tokens ≤ most_bytes
      → Ran reading (BitsOfBytesDoes reading does) modal s i (Err k) t j → ⊥
  flags_must k t j some fits ran = byte_must reading does s number Fits parts
      (setting_of modal i) (left_of i) k (left_of j) some fits
      (failed reading (BitsOfBytesDoes reading does) s i k t j ran)

  flags_fail : (k : Kind) (t : S) (j : Input ℕ)
      → Ran reading (BitsOfBytesDoes reading does) modal s i (Err k) t j
      → LacksPart 0 1 i k j ⊎ HasTooMany 0 i k j
  flags_fail k t j ran =
      let P : Input ℕ → Type 0 = λ z. LacksPart 0 1 i k z ⊎ HasTooMany 0 i k z in
      subst P (is_there i j ran.1 ran.2)
      (byte_fails reading does s number Fits parts (setting_of modal i)
      (left_of i) k (left_of j) refl
      (failed reading (BitsOfBytesDoes reading does) s i k t j ran))

pub high_read : {L : Type 0} (reading : Reading ℕ L) (s : ⊤ × ℕ × Flags)
    (i : Input ℕ) (o : Bool × ℕ × (Bool × Bool × Bool)) (t : ⊤ × ℕ × Flags) (j : Input ℕ)
    → s.1 ≡ 4 → All (λ b. b < 256) i.left.tokens
    → Ran reading (BitsOfBytesDoes reading (HighDo (bits_reading reading))) modal s i (Ok o) t j
    → IsHighByte o.0 o.1 o.2.0 o.2.1 o.2.2 i.left.tokens j.left.tokens
high_read reading s i o t j is bytes ran =
    let it = byte_read reading _ s _ _ (high_bits (bits_reading reading) s is)
    (setting_of modal i) (left_of i) o (t, left_of j) bytes ran.3 in
    record {
      splits = it.0 ∙ ap (λ n. n ∷ j.left.tokens) (omega arith);
      fits = it.1.1;
    }

pub high_must : {L : Type 0} (reading : Reading ℕ L) (s : ⊤ × ℕ × Flags)
    (i : Input ℕ) (k : Kind) (t : ⊤ × ℕ × Flags) (j : Input ℕ) → s.1 ≡ 4
    → 1 ≤ length i.left.tokens → length i.left.tokens ≤ most_bytes
    → Ran reading (BitsOfBytesDoes reading (HighDo (bits_reading reading))) modal s i (Err k) t j
    → ⊥
high_must reading s i k t j is some fits ran =
    flags_must reading _ s _ _ (high_bits (bits_reading reading) s is) i k t j some fits ran

pub high_fails : {L : Type 0} (reading : Reading ℕ L) (s : ⊤ × ℕ × Flags)
    (i : Input ℕ) (k : Kind) (t : ⊤ × ℕ × Flags) (j : Input ℕ) → s.1 ≡ 4
    → Ran reading (BitsOfBytesDoes reading (HighDo (bits_reading reading))) modal s i (Err k) t j
    → LacksPart 0 1 i k j ⊎ HasTooMany 0 i k j
high_fails reading s i k t j is ran =
    flags_fail reading _ s _ _ (high_bits (bits_reading reading) s is) i k t j ran

pub low_read : {L : Type 0} (reading : Reading ℕ L) (s : ⊤ × ℕ × ℕ)
    (i : Input ℕ) (o : Bool × ℕ × ℕ) (t : ⊤ × ℕ × ℕ) (j : Input ℕ) → s.1 ≡ 3 → s.2 ≡ 4
    → All (λ b. b < 256) i.left.tokens
    → Ran reading (BitsOfBytesDoes reading (LowDo (bits_reading reading))) modal s i (Ok o) t j
    → IsLowByte o.0 o.1 o.2 i.left.tokens j.left.tokens
low_read reading s i o t j is is' bytes ran =
    let it = byte_read reading _ s _ _ (low_bits_read (bits_reading reading) s is is')
    (setting_of modal i) (left_of i) o (t, left_of j) bytes ran.3 in
    record {
      splits = it.0 ∙ ap (λ n. n ∷ j.left.tokens) (omega arith);
      reserved_fits = it.1.1;
      code_fits = it.1.2;
    }

pub low_must : {L : Type 0} (reading : Reading ℕ L) (s : ⊤ × ℕ × ℕ)
    (i : Input ℕ) (k : Kind) (t : ⊤ × ℕ × ℕ) (j : Input ℕ) → s.1 ≡ 3 → s.2 ≡ 4
    → 1 ≤ length i.left.tokens → length i.left.tokens ≤ most_bytes
    → Ran reading (BitsOfBytesDoes reading (LowDo (bits_reading reading))) modal s i (Err k) t j
    → ⊥
low_must reading s i k t j is is' some fits ran =
    flags_must reading _ s _ _ (low_bits_read (bits_reading reading) s is is') i k t j some fits
    ran

pub low_fails : {L : Type 0} (reading : Reading ℕ L) (s : ⊤ × ℕ × ℕ)
    (i : Input ℕ) (k : Kind) (t : ⊤ × ℕ × ℕ) (j : Input ℕ) → s.1 ≡ 3 → s.2 ≡ 4
    → Ran reading (BitsOfBytesDoes reading (LowDo (bits_reading reading))) modal s i (Err k) t j
    → LacksPart 0 1 i k j ⊎ HasTooMany 0 i k j
low_fails reading s i k t j is is' ran =
    flags_fail reading _ s _ _ (low_bits_read (bits_reading reading) s is is') i k t j ran

-- ---- numbers

abbrev pub NumberDoes : {L : Type 0} → ℕ → Reading ℕ L → Does ⊤ ℕ ℕ
NumberDoes width reading = IntegerDoes width (λ _. value_of) reading

pub field_read : {L : Type 0} (width : ℕ) (reading : Reading ℕ L) (form : ErrorForm) (i : Input ℕ)
    (o : ℕ) (t : ⊤) (j : Input ℕ) → Ran reading (NumberDoes width reading) form tt i (Ok o) t j
    → IsField width o i.left.tokens j.left.tokens
field_read width reading form i o t j ran =
    let (bytes, as_many, are, passed, value_is) =
    integer_ok (setting_of form i) {value = value_of} {o = o} {e = (t, left_of j)} ran.3 in
    let written = be_written width o bytes value_is as_many are in
    record {
      splits = passed.tokens ∙ ap (λ l. l ++ j.left.tokens) (sym written);
      fits = omega (arith, value_is, value_of_fits bytes are, ap (λ w. 256 ^ w) as_many);
    }

pub number_read : {L : Type 0} (reading : Reading ℕ L) (i : Input ℕ) (o : ℕ) (t : ⊤)
    (j : Input ℕ) → Ran reading (NumberDoes 2 reading) modal tt i (Ok o) t j
    → IsTwoByteNumber o i.left.tokens j.left.tokens
number_read reading i o t j ran =
    let read = field_read 2 reading modal i o t j ran in
    record { splits = read.splits; fits = read.fits }

pub number_left : (n : ℕ) (bytes rest : List ℕ) → IsTwoByteNumber n bytes rest
    → length bytes ≡ 2 + length rest
number_left n bytes rest it =
    omega (
      arith,
      ap (λ l. length l) it.splits,
      length-append (bytes_high_first 2 n) rest,
      length_written 2 n,
    )

-- the first bytes are missing
number_lacks_bytes : {L : Type 0} (reading : Reading ℕ L) (at : Setting) (w : Left ℕ) (k : Kind)
    (left : Left ℕ) → Failing (NumberDoes 2 reading at tt w) k left
    → (length w.tokens < 2) × FailsAt {S = ⊤} {O = ℕ} k left
    (lacks at (Some (2 - length w.tokens)) (tt, w))
number_lacks_bytes reading at w k left (y, inl (o, rest, so, e), fails) =
    taking_does_not_fail (fails_by e fails)
number_lacks_bytes reading at w k left (y, inr (few, e), fails) = (few, fails_by e fails)

pub number_must : {L : Type 0} (reading : Reading ℕ L) (i : Input ℕ) (k : Kind) (t : ⊤)
    (j : Input ℕ) → 2 ≤ length i.left.tokens
    → Ran reading (NumberDoes 2 reading) modal tt i (Err k) t j → ⊥
number_must reading i k t j enough ran =
    let told = number_lacks_bytes reading (setting_of modal i) (left_of i) k (left_of j)
    (failed reading (NumberDoes 2 reading) tt i k t j ran) in
    omega (arith, told.0, enough)

pub number_fails : {L : Type 0} (reading : Reading ℕ L) (i : Input ℕ) (k : Kind) (t : ⊤)
    (j : Input ℕ) → Ran reading (NumberDoes 2 reading) modal tt i (Err k) t j
    → LacksPart 0 2 i k j
number_fails reading i k t j ran =
    let at = setting_of modal i in
    let (few, fails) = number_lacks_bytes reading at (left_of i) k (left_of j)
    (failed reading (NumberDoes 2 reading) tt i k t j ran) in
    let told = lacks_at modal i.status.cut (Some (2 - length i.left.tokens)) (tt, left_of i)
    fails in
    let P : Left ℕ → Type 0 = λ l. LacksPart 0 2 i k (input_at at l) in
    let Q : Input ℕ → Type 0 = λ z. LacksPart 0 2 i k z in
    subst Q (is_there i j ran.1 ran.2) (subst P told.1 (record {
      passes = omega arith;
      few = few;
      short = told.0;
    }))

-- ---- what fails after bytes that were passed

pub lacks_after : {i m j : Input ℕ} {k : Kind} {size : ℕ} (passed more total : ℕ)
    → total ≡ passed + more → length i.left.tokens ≡ passed + length m.left.tokens
    → LacksPart more size m k j → LacksPart total size i k j
lacks_after passed more total sum front lacks = record {
  passes = omega (arith, sum, front, lacks.passes);
  few = lacks.few;
  short = lacks.short;
}

pub many_after : {i m j : Input ℕ} {k : Kind} (passed : ℕ)
    → length i.left.tokens ≡ passed + length m.left.tokens → HasTooMany 0 m k j
    → HasTooMany passed i k j
many_after passed front many = record {
  passes = omega (arith, front, many.passes);
  many = many.many;
  cuts = many.cuts;
}
