-- Laws of `bytes`.
use Rattle.std.specs.Prelude.{◌≡◌, ◌+◌, ◌*◌, ◌/◌, ◌%◌, ◌<◌, ℕ, Bool, true, ◌++◌, length, Ok}
use Rattle.std.specs.Prelude.{Err, nat_lt}
use Rattle.std.specs.List.{All}
use Rattle.std.proofs.Common.{refl, sym, ap, subst, ◌∙◌, arith, inl, append_assoc}
use Rattle.std.proofs.Common.{length-append}
use Rattle.streams.specs.ByteStream.{CountsBytes}
use Rattle.streams.specs.Input.{Input, IsEndOf, is_end_of_refl}
use Rattle.streams.specs.Place.{Place, same_place}
use Rattle.streams.specs.Reading.{Reading}
use Rattle.streams.specs.Kind.{Kind, backtrack, cut, incomplete, memory}
use Rattle.stream_errors.specs.Form.{Answer, ErrorForm}
use Rattle.stream_bits.specs.BitInput.{bits_from, bits_input, bits_readable, can_be_read}
use Rattle.stream_bits.specs.BitInput.{readable_is, readable_says}
use Rattle.stream_bits.specs.BitList.{bits_append, bits_of, length_bits}
use Rattle.stream_bits.specs.BitReading.{advance_bits, bits_reading, byte_step, moved}
use Rattle.stream_bits.specs.Moves.{Moves, bytes_move, moves_pass, passed_bits, passed_length}
use Rattle.stream_bits.specs.Moves.{still_readable}
use Rattle.parser_definitions.specs.BitsOfBytes.{inside}
use Rattle.parser_definitions.specs.BytesOfBits.{BytesOfBitsDoes, need_in_bits, of_bytes}
use Rattle.parser_definitions.specs.Does.{Ran}
use Rattle.parser_definitions.specs.Left.{End, Left, left_of}
use Rattle.parser_definitions.specs.Outcome.{Does, Outcome, outcome_of, setting_of, took}
use Rattle.winnow_core.specs.Results.{gave}
use Rattle.winnow_bits.specs.BitsOfBytes.Laws.{left_bits}
use Rattle.winnow_bits.specs.BytesOfBits.{WholeBytesOf}
use Rattle.winnow_bits.specs.Needs.{with_need}

module _ {L : Type 0} (reading : Reading ℕ L) (counts : CountsBytes reading) (i : Input Bool)
    (k m : Input ℕ) (whole : WholeBytesOf (bits_reading reading) i k)
    (ends : IsEndOf reading m k) where
  readable : can_be_read m.left.tokens 0 ≡ true
  readable = readable_is m.left.tokens 0 (record {
    inside = omega arith;
    there = omega arith;
    counted = omega (
      arith,
      whole.whole.counted,
      ap (λ l. length l) ends.ends.tokens,
      length-append ends.ends.dropped m.left.tokens,
    );
  })

  -- the bits of the remaining bytes are a suffix of the bits
  pub bits_of_end : IsEndOf (bits_reading reading) (bits_input m 0) i
  bits_of_end =
      let d = ends.ends.dropped in
      let to : Place = record { passed = m.left.place.passed; bits_read = 0 } in
      let step = byte_step reading in
      let inside : nat_lt k.left.place.bits_read 8 ≡ true = ap (λ b. nat_lt b 8) whole.between in
      let there = moved reading true k.left.place (8 * length d) in
      let bytes : (k.left.place.bits_read + 8 * length d) / 8 ≡ length d =
      omega (arith, whole.between) in
      record {
        ends = record {
          dropped = whole.whole.begun ++ bits_of d;
          tokens = whole.whole.splits
              ∙ ap (λ l. whole.whole.begun ++ bits_of l) ends.ends.tokens
              ∙ ap (λ l. whole.whole.begun ++ l) (bits_append d m.left.tokens)
              ∙ sym (append_assoc whole.whole.begun (bits_of d) (bits_of m.left.tokens))
              ∙ ap (λ l. whole.whole.begun ++ bits_of d ++ l)
              (sym (bits_readable m.left.tokens 0 readable));
          place = same_place to there
              (ap (λ p. p.passed) (ends.ends.place
              ∙ ap (λ n. reading.advance k.left.place n) (counts.units d)
              ∙ bytes_move reading counts (length d) k.left.place whole.between)
              ∙ sym (ap (λ n. k.left.place.passed + n * step) bytes))
              (omega (arith, whole.between))
              ∙ sym (ap (λ b. moved reading b k.left.place (8 * length d)) inside)
              ∙ ap (λ n. advance_bits reading k.left.place n) (sym (length_bits d))
              ∙ ap (λ p. advance_bits reading p (length (bits_of d))) whole.whole.place
              ∙ (bits_reading reading).advance_add i.left.place (length whole.whole.begun)
              (length (bits_of d))
              ∙ ap (λ n. advance_bits reading i.left.place n)
              (sym (length-append whole.whole.begun (bits_of d)));
          possible = readable ∙ sym whole.from;
        };
        cut = ends.cut ∙ ap (λ s. s.cut) whole.status;
      }

-- the outcome of an error over bytes, and over bits
in_bits : {S O : Type 0} (w : Left Bool) (k : Kind) (s : S) (rest : Left ℕ)
    → ◌≡◌ {A = Outcome (End S Bool) O} (outcome_of (Err (with_need need_in_bits k)) (s, w))
    (of_bytes w (outcome_of (Err k) (s, rest)))
in_bits w backtrack s rest = refl
in_bits w cut s rest = refl
in_bits w (incomplete need) s rest = refl
in_bits w memory s rest = refl

-- A call on the whole bytes of bits, under an error type of the same form.
module _ {S O L : Type 0} (reading : Reading ℕ L) (does : Does S ℕ O) {inner form : ErrorForm}
    (one : inner ≡ form) (s t : S) (i : Input Bool) (k m : Input ℕ)
    (w : WholeBytesOf (bits_reading reading) i k) where
  on_bytes : (answer : Answer O) → Ran reading does inner s k answer t m
      → does (inside (setting_of form i)) s (left_of k) (outcome_of answer (t, left_of m))
  on_bytes answer ran =
      let P : ErrorForm → Bool → Bool → Type 0 = λ f b p.
      does (record { form = f; more = b; possible = p }) s (left_of k)
      (outcome_of answer (t, left_of m)) in
      subst (λ f. P f i.status.cut true) one
      (subst (λ z. P inner z.cut true) w.status (subst (P inner k.status.cut) w.possible ran.3))

  pub bytes_took : CountsBytes reading → {o : O} → Ran reading does inner s k (Ok o) t m
      → Ran (bits_reading reading) (BytesOfBitsDoes (bits_reading reading) does) form s i (Ok o)
      t (bits_input m 0)
  bytes_took counts {o} ran =
      let end = bits_of_end reading counts i k m w ran.0 in
      let can : can_be_read m.left.tokens 0 ≡ true = end.ends.possible ∙ w.from in (
        end,
        end.cut,
        end.ends.possible,
        inl (
          w.from,
          left_of k,
          w.whole,
          took o (t, left_of m),
          on_bytes (Ok o) ran,
          ap (λ l. took o (t, l)) (left_bits m can),
        ),
      )

  pub bytes_failed : (x : Kind) {e : Kind} → e ≡ with_need need_in_bits x
      → Ran reading does inner s k (Err x) t m
      → Ran (bits_reading reading) (BytesOfBitsDoes (bits_reading reading) does) form s i (Err e)
      t i
  bytes_failed x is ran = (
    is_end_of_refl (bits_reading reading) i,
    refl,
    refl,
    inl (
      w.from,
      left_of k,
      w.whole,
      outcome_of (Err x) (t, left_of m),
      on_bytes (Err x) ran,
      gave (t, left_of i) (ap Err is) ∙ in_bits (left_of i) x t (left_of m),
    ),
  )

-- the bytes after a partly consumed byte
pub whole_behind : {L : Type 0} (reading : Reading ℕ L) (i j : Input ℕ) (offset bits : ℕ)
    → Moves reading i j offset bits → (offset + bits) % 8 ≡ 0 → bits < 8
    → All (λ b. b < 256) j.left.tokens → j.left.place.bits_read ≡ 0
    → j.left.possible ≡ true
    → WholeBytesOf (bits_reading reading) (bits_input i offset) j
whole_behind reading i j offset bits m at few bytes between possible =
    let passes = moves_pass reading i j offset bits m in
    let readable : can_be_read j.left.tokens 0 ≡ true =
    sym (ap (λ b. can_be_read j.left.tokens b) at) ∙ still_readable reading i j offset bits m in
    let r = readable_says j.left.tokens 0 readable in
    let there : Place = record { passed = j.left.place.passed; bits_read = (offset + bits) % 8 } in
    record {
      whole = record {
        begun = passed_bits reading i j offset bits m;
        short = omega (arith, few, passed_length reading i j offset bits m);
        splits = passes.tokens
            ∙ ap (λ l. passed_bits reading i j offset bits m ++ l)
            (ap (λ b. bits_from j.left.tokens b) at ∙ bits_readable j.left.tokens 0 readable);
        place = same_place j.left.place there refl (between ∙ sym at) ∙ passes.place;
        recorded = ap (λ z. z.recorded) passes.status;
        are = bytes;
        counted = r.counted;
      };
      between = between;
      from = m.readable;
      possible = possible;
      status = passes.status;
    }
