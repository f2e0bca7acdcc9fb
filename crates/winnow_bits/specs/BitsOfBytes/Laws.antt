-- Laws of `bits`.
use Rattle.std.specs.Prelude.{◌≡◌, ◌+◌, ◌*◌, ◌-◌, ◌<◌, ◌≤◌, ℕ, suc, Bool, true, List, [], ◌∷◌}
use Rattle.std.specs.Prelude.{◌++◌}
use Rattle.std.specs.Prelude.{length, take, drop, Ok, Err}
use Rattle.std.specs.List.{All}
use Rattle.std.proofs.Common.{refl, sym, ap, subst, ◌∙◌, arith, inl, append_assoc, length-append}
use Rattle.std.proofs.lemmas.List.Elements.{All-drop}
use Rattle.std.proofs.lemmas.List.{drop_at, length-take-le, take-append-drop, take_at}
use Rattle.streams.specs.ByteStream.{CountsBytes}
use Rattle.streams.specs.Input.{Input, IsEndOf, is_end_of_refl}
use Rattle.streams.specs.Place.{Place, same_place}
use Rattle.streams.specs.Reading.{Reading}
use Rattle.streams.specs.Following.{most_bytes}
use Rattle.streams.specs.Kind.{Kind, backtrack, cut, incomplete, memory}
use Rattle.stream_errors.specs.Form.{Answer, ErrorForm}
use Rattle.stream_bits.specs.BitInput.{bits_input, bits_readable, can_be_read, readable_says}
use Rattle.stream_bits.specs.BitList.{bits_append, bits_cons, bits_of, length_bits, length_low}
use Rattle.stream_bits.specs.BitList.{low_bits, same_byte}
use Rattle.stream_bits.specs.BitReading.{advance_bits, bits_reading, byte_step}
use Rattle.stream_bits.specs.Moves.{bytes_move}
use Rattle.parser_definitions.specs.BitsOfBytes.{BitsOfBytesDoes, InBytes, LeavesWholeBytes}
use Rattle.parser_definitions.specs.BitsOfBytes.{bits_left, inside, need_in_bytes}
use Rattle.parser_definitions.specs.Does.{Ran}
use Rattle.parser_definitions.specs.Left.{End, Left, left_of}
use Rattle.parser_definitions.specs.Outcome.{Does, Outcome, outcome_of, setting_of, took}
use Rattle.winnow_core.specs.Results.{gave}
use Rattle.winnow_bits.specs.BytesOfBits.{WholeBytesOf}
use Rattle.winnow_bits.specs.Needs.{with_need}

-- the bits of remaining bytes, where they can be read
pub left_bits : (i : Input ℕ) → can_be_read i.left.tokens 0 ≡ true
    → left_of (bits_input i 0) ≡ bits_left (left_of i)
left_bits i can =
    let P : List Bool → Left Bool = λ l. record (bits_left (left_of i)) { tokens = l } in
    ap P (bits_readable i.left.tokens 0 can)

-- bytes are known by their bits
pub same_bytes : (xs ys : List ℕ) → All (λ b. b < 256) xs → All (λ b. b < 256) ys
    → bits_of xs ≡ bits_of ys → xs ≡ ys
same_bytes [] [] known others e = refl
same_bytes [] (y ∷ ys) known others e =
    absurd (omega (arith, ap (λ l. length l) e, length_bits [], length_bits (y ∷ ys)))
same_bytes (x ∷ xs) [] known others e =
    absurd (omega (arith, ap (λ l. length l) e, length_bits [], length_bits (x ∷ xs)))
same_bytes (x ∷ xs) (y ∷ ys) known others e =
    let split : low_bits 8 x ++ bits_of xs ≡ low_bits 8 y ++ bits_of ys =
    sym (bits_cons x xs) ∙ e ∙ bits_cons y ys in
    let first = sym (take_at (low_bits 8 x) (bits_of xs) 8 (length_low 8 x))
    ∙ ap (λ l. take 8 l) split ∙ take_at (low_bits 8 y) (bits_of ys) 8 (length_low 8 y) in
    let rest = sym (drop_at (low_bits 8 x) (bits_of xs) 8 (length_low 8 x))
    ∙ ap (λ l. drop 8 l) split ∙ drop_at (low_bits 8 y) (bits_of ys) 8 (length_low 8 y) in
    ap (λ b. b ∷ xs)
    (same_byte x y (known 0 0 (omega arith)) (others 0 0 (omega arith)) first)
    ∙ ap (λ l. y ∷ l)
    (same_bytes xs ys (λ n d h. known (suc n) d (omega (arith, h)))
    (λ n d h. others (suc n) d (omega (arith, h))) rest)

module _ {L : Type 0} (reading : Reading ℕ L) (counts : CountsBytes reading) (i : Input ℕ)
    (k : Input Bool) (j : Input ℕ) (known : All (λ b. b < 256) i.left.tokens)
    (between : i.left.place.bits_read ≡ 0) (always : i.left.possible ≡ true)
    (readable : can_be_read i.left.tokens 0 ≡ true)
    (ends : IsEndOf (bits_reading reading) k (bits_input i 0))
    (whole : WholeBytesOf (bits_reading reading) k j) where
  dropped : List Bool
  dropped = ends.ends.dropped ++ whole.whole.begun

  n : ℕ
  n = length i.left.tokens - length j.left.tokens

  all_bits : bits_of i.left.tokens ≡ dropped ++ bits_of j.left.tokens
  unfolding dropped
  all_bits =
      sym (bits_readable i.left.tokens 0 readable) ∙ ends.ends.tokens
      ∙ ap (λ l. ends.ends.dropped ++ l) whole.whole.splits
      ∙ sym (append_assoc ends.ends.dropped whole.whole.begun (bits_of j.left.tokens))

  lengths : 8 * length i.left.tokens ≡ length dropped + 8 * length j.left.tokens
  lengths =
      sym (length_bits i.left.tokens) ∙ ap (λ l. length l) all_bits
      ∙ length-append dropped (bits_of j.left.tokens)
      ∙ ap (λ m. length dropped + m) (length_bits j.left.tokens)

  as_many : length dropped ≡ 8 * n
  unfolding n
  as_many = omega (arith, lengths)

  within : n ≤ length i.left.tokens
  unfolding n
  within = omega arith

  rest_bits : bits_of (drop n i.left.tokens) ≡ bits_of j.left.tokens
  rest_bits =
      let front = take n i.left.tokens in
      let rest = drop n i.left.tokens in
      let long : length (bits_of front) ≡ 8 * n =
      length_bits front ∙ ap (λ m. 8 * m) (length-take-le n i.left.tokens within) in
      sym (drop_at (bits_of front) (bits_of rest) (8 * n) long)
      ∙ ap (λ l. drop (8 * n) l) (sym (bits_append front rest)
      ∙ ap bits_of (take-append-drop n i.left.tokens) ∙ all_bits)
      ∙ drop_at dropped (bits_of j.left.tokens) (8 * n) as_many

  rest : drop n i.left.tokens ≡ j.left.tokens
  rest = same_bytes (drop n i.left.tokens) j.left.tokens
      (All-drop (λ b. b < 256) n i.left.tokens known) whole.whole.are rest_bits

  place : j.left.place ≡ reading.advance i.left.place n
  unfolding dropped
  place =
      let from : Place = record { passed = i.left.place.passed; bits_read = 0 } in
      let step = byte_step reading in
      whole.whole.place
      ∙ ap (λ p. advance_bits reading p (length whole.whole.begun)) ends.ends.place
      ∙ (bits_reading reading).advance_add from (length ends.ends.dropped)
      (length whole.whole.begun)
      ∙ ap (λ m. advance_bits reading from m)
      (sym (length-append ends.ends.dropped whole.whole.begun) ∙ as_many)
      ∙ same_place (advance_bits reading from (8 * n))
      (record { passed = i.left.place.passed + n * step; bits_read = 0 })
      (ap (λ m. i.left.place.passed + m * step) (omega arith)) (omega arith)
      ∙ sym (bytes_move reading counts n i.left.place between)

  leaves_whole : LeavesWholeBytes reading (left_of i) (left_of k) (left_of j)
  leaves_whole = record {
    begun = take n i.left.tokens;
    tokens = sym (take-append-drop n i.left.tokens) ∙ ap (λ l. take n i.left.tokens ++ l) rest;
    place = place ∙ ap (λ m. reading.advance i.left.place m)
        (sym (counts.units (take n i.left.tokens) ∙ length-take-le n i.left.tokens within));
    recorded = ap (λ z. z.recorded) whole.status;
    whole = omega (
      arith,
      whole.whole.short,
      ap (λ l. length l) whole.whole.splits,
      length-append whole.whole.begun (bits_of j.left.tokens),
      length_bits j.left.tokens,
    );
  }

  bytes_end : IsEndOf reading j i
  bytes_end = record {
    ends = record {
      dropped = leaves_whole.begun;
      tokens = leaves_whole.tokens;
      place = leaves_whole.place;
      possible = whole.possible ∙ sym always;
    };
    cut = ap (λ z. z.cut) whole.status ∙ ends.cut;
  }

-- the outcome of an error over bits, and over bytes
in_bytes : {S O L : Type 0} (reading : Reading ℕ L) (w : Left ℕ) (k : Kind) (s : S)
    (rest : Left Bool) (y : Outcome (End S ℕ) O)
    → y ≡ outcome_of (Err (with_need need_in_bytes k)) (s, w)
    → InBytes reading w (outcome_of (Err k) (s, rest)) y
in_bytes reading w backtrack s behind y e = e
in_bytes reading w cut s behind y e = e
in_bytes reading w (incomplete need) s behind y e = e
in_bytes reading w memory s behind y e = e

-- A call on the bits of bytes, under an error type of the same form.
module _ {S O L : Type 0} (reading : Reading ℕ L) (does : Does S Bool O) {inner form : ErrorForm}
    (one : inner ≡ form) (s t : S) (i : Input ℕ) (k : Input Bool)
    (can : can_be_read i.left.tokens 0 ≡ true) where
  on_bits : (answer : Answer O)
      → Ran (bits_reading reading) does inner s (bits_input i 0) answer t k
      → does (inside (setting_of form i)) s (bits_left (left_of i))
      (outcome_of answer (t, left_of k))
  on_bits answer ran =
      let P : ErrorForm → Bool → Left Bool → Type 0 = λ f p w.
      does (record { form = f; more = i.status.cut; possible = p }) s w
      (outcome_of answer (t, left_of k)) in
      subst (λ f. P f true (bits_left (left_of i))) one
      (subst (P inner true) (left_bits i can)
      (subst (λ p. P inner p (left_of (bits_input i 0))) can ran.3))

  few : length i.left.tokens ≤ most_bytes
  few = (readable_says i.left.tokens 0 can).counted

  pub bits_took : CountsBytes reading → {j : Input ℕ} → All (λ b. b < 256) i.left.tokens
      → i.left.place.bits_read ≡ 0 → i.left.possible ≡ true
      → WholeBytesOf (bits_reading reading) k j → {o : O}
      → Ran (bits_reading reading) does inner s (bits_input i 0) (Ok o) t k
      → Ran reading (BitsOfBytesDoes reading does) form s i (Ok o) t j
  bits_took counts {j} known between always whole {o} ran =
      let end = bytes_end reading counts i k j known between always can ran.0 whole in
      let leaves = leaves_whole reading counts i k j known between always can ran.0 whole in (
        end,
        end.cut,
        end.ends.possible,
        inl (few, took o (t, left_of k), on_bits (Ok o) ran, (left_of j, leaves, refl)),
      )

  pub bits_failed : (x : Kind) {e : Kind} → e ≡ with_need need_in_bytes x
      → Ran (bits_reading reading) does inner s (bits_input i 0) (Err x) t k
      → Ran reading (BitsOfBytesDoes reading does) form s i (Err e) t i
  bits_failed x {e} is ran = (
    is_end_of_refl reading i,
    refl,
    refl,
    inl (
      few,
      outcome_of (Err x) (t, left_of k),
      on_bits (Err x) ran,
      in_bytes reading (left_of i) x t (left_of k) (outcome_of (Err e) (t, left_of i))
          (gave (t, left_of i) (ap Err is)),
    ),
  )
