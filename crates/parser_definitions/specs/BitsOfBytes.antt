-- The definition of `bits`: a parser of bits on the bits of bytes.
use Rattle.std.specs.Prelude.{◌≡◌, ◌<◌, ◌≤◌, ◌/◌, ◌+◌, ℕ, Bool, true, false, List, ◌++◌, length}
use Rattle.std.specs.Prelude.{Option, Some, None}
use Rattle.std.proofs.Common.{refl, sym, ap, subst, inl, inr, arith, ◌∙◌, append_assoc}
use Rattle.std.proofs.Common.{length-append}
use Rattle.streams.specs.Equal.{same_front, same_rest}
use Rattle.streams.specs.Following.{most_bytes}
use Rattle.streams.specs.Reading.{Reading}
use Rattle.stream_bits.specs.BitList.{bits_append, bits_of, length_bits}
use Rattle.parser_definitions.specs.Cases.{OneCase, cases_law}
use Rattle.parser_definitions.specs.Does.{Lawful}
use Rattle.parser_definitions.specs.Left.{End, Left, extend}
use Rattle.parser_definitions.specs.Outcome.{Alike, Does, IsFinal, Outcome, Setting, alike_wants}
use Rattle.parser_definitions.specs.Outcome.{as_longer, asks, backs, both, by_alike, cuts, final_by}
use Rattle.parser_definitions.specs.Outcome.{grown, longer, on_cut, took, wants}
use Rattle.parser_definitions.specs.Passed.{same_left}
use Rattle.parser_definitions.specs.Unreadable.{MisusedAt, misused_at_law}

-- a need of `n` bits in bytes: the whole bytes, and one more
abbrev pub need_in_bytes : Option ℕ → Option ℕ
need_in_bytes None = None
need_in_bytes (Some n) = Some (n / 8 + 1)

-- how the child is called: its input can be read
abbrev pub inside : Setting → Setting
inside at = record { form = at.form; more = at.more; possible = true }

-- the bits of remaining bytes
abbrev pub bits_left : Left ℕ → Left Bool
bits_left w = record {
  tokens = bits_of w.tokens;
  place = record { passed = w.place.passed; bits_read = 0 };
  recorded = w.recorded;
}

-- The whole bytes among the remaining bits `rest` remain.
pub record LeavesWholeBytes {L : Type 0} (reading : Reading ℕ L) (w : Left ℕ) (rest : Left Bool)
    (end : Left ℕ) : Type 0 where
  pub begun : List ℕ
  pub tokens : w.tokens ≡ begun ++ end.tokens
  pub place : end.place ≡ reading.advance w.place (reading.units begun)
  pub recorded : end.recorded ≡ rest.recorded
  pub whole : length end.tokens ≡ length rest.tokens / 8

-- the same bytes remain
one_leaves : {L : Type 0} (reading : Reading ℕ L) (w : Left ℕ) (rest : Left Bool)
    (a b : Left ℕ) → LeavesWholeBytes reading w rest a → LeavesWholeBytes reading w rest b → a ≡ b
one_leaves reading w rest a b p q =
    let many : length p.begun ≡ length q.begun = omega (
      arith,
      p.whole,
      q.whole,
      ap (λ l. length l) (sym p.tokens ∙ q.tokens),
      length-append p.begun a.tokens,
      length-append q.begun b.tokens,
    ) in
    let same = same_front p.begun q.begun a.tokens b.tokens many (sym p.tokens ∙ q.tokens) in
    same_left a b
    (same_rest p.begun a.tokens b.tokens
    (sym p.tokens ∙ q.tokens ∙ ap (λ f. f ++ b.tokens) (sym same)))
    (p.place ∙ ap (λ f. reading.advance w.place (reading.units f)) same ∙ sym q.place)
    (p.recorded ∙ sym q.recorded)

more_leaves : {L : Type 0} (reading : Reading ℕ L) (more : List ℕ) (w : Left ℕ)
    (rest : Left Bool) (end : Left ℕ) → LeavesWholeBytes reading w rest end
    → LeavesWholeBytes reading (extend more w) (extend (bits_of more) rest) (extend more end)
more_leaves reading more w rest end p = record {
  begun = p.begun;
  tokens = ap (λ l. l ++ more) p.tokens ∙ append_assoc p.begun end.tokens more;
  place = p.place;
  recorded = p.recorded;
  whole = omega (
    arith,
    p.whole,
    length-append end.tokens more,
    length-append rest.tokens (bits_of more),
    length_bits more,
  );
}

-- The bits cannot be counted.
abbrev pub IsTooLong : {S : Type 0} → S → Setting → Left ℕ → Type 0
IsTooLong s at w = most_bytes < length w.tokens

module _ {S L O : Type 0} (reading : Reading ℕ L) where
  -- The outcome over bytes, given that over their bits.
  abbrev pub InBytes : Left ℕ → Outcome (End S Bool) O → Outcome (End S ℕ) O → Type 0
  -- an output: the whole bytes among the remaining bits remain
  InBytes w (took o rest) y =
      (end : Left ℕ) × LeavesWholeBytes reading w rest.1 end × (y ≡ took o (rest.0, end))
  -- an error: no input is consumed
  InBytes w (backs rest) y = y ≡ backs (rest.0, w)
  InBytes w (cuts rest) y = y ≡ cuts (rest.0, w)
  InBytes w (asks need rest) y = y ≡ asks (need_in_bytes need) (rest.0, w)
  InBytes w wants y = y ≡ wants

  -- The child is called on the bits, which can be counted.
  abbrev pub OnBits : Does S Bool O → Does S ℕ O
  OnBits does at s w y =
      (length w.tokens ≤ most_bytes) × (x : Outcome (End S Bool) O)
      × does (inside at) s (bits_left w) x × InBytes w x y

  abbrev pub BitsOfBytesDoes : Does S Bool O → Does S ℕ O
  BitsOfBytesDoes does =
      -- the outcome over the bits
      OneCase (OnBits does)
      -- the number of bits overflows, and the child is not called
      (MisusedAt IsTooLong)

  bytes_meet : (alike : O → O → Type 0) (w : Left ℕ) (x v : Outcome (End S Bool) O)
      (y z : Outcome (End S ℕ) O) → Alike alike x v → InBytes w x y → InBytes w v z
      → Alike alike y z
  bytes_meet alike w x v y z like =
      by_alike {alike = alike} (λ x v. InBytes w x y → InBytes w v z → Alike alike y z)
      (λ o p rest is (a, l, e) (b, m, f).
      both alike e f (is, ap (λ t. (rest.0, t)) (one_leaves reading w rest.1 a b l m)))
      (λ rest e f. both alike e f refl)
      (λ rest e f. both alike e f refl)
      (λ need rest e f. both alike e f (refl, refl))
      (λ v e k. both alike {u = wants} {v = z} e refl tt)
      (λ x k e. both alike {u = y} {v = wants} refl e (alike_wants alike y))
      x v like

  module _ {stable : Type 0} {alike : O → O → Type 0} {does : Does S Bool O}
      (law : Lawful stable alike does) where
    bytes_whole : (at : Setting) (s : S) (w : Left ℕ) (need : Option ℕ) (last : End S ℕ)
        → at.more ≡ false → (x : Outcome (End S Bool) O) → does (inside at) s (bits_left w) x
        → InBytes w x (asks need last) → ⊥
    bytes_whole at s w need last is (took o rest) d (end, l, e) = absurd (cc)
    bytes_whole at s w need last is (backs rest) d e = absurd (cc)
    bytes_whole at s w need last is (cuts rest) d e = absurd (cc)
    bytes_whole at s w need last is (asks other rest) d e =
        law.whole (inside at) s (bits_left w) other rest is d
    bytes_whole at s w need last is wants d e = absurd (cc)

    -- More bytes than can be counted may follow, so no outcome is stable without a condition.
    pub bits_of_bytes_law : Lawful ⊥ alike (BitsOfBytesDoes does)
    bits_of_bytes_law = cases_law (record {
      one = λ at s w y z (few, x, d, c) (also, v, e, k).
          bytes_meet alike w x v y z (law.one (inside at) s (bits_left w) x v d e) c k;
      whole = λ at s w need last is (few, x, d, c). bytes_whole at s w need last is x d c;
      stays = λ never. absurd never;
    }) (misused_at_law IsTooLong (λ never. absurd never))
        (λ at s w y z (few, x, d, c) (many, f). absurd (omega (arith, few, many)))

    bytes_final : (w : Left ℕ) (x : Outcome (End S Bool) O) (y : Outcome (End S ℕ) O)
        → IsFinal y → InBytes w x y → IsFinal x
    bytes_final w (took o rest) y final c = tt
    bytes_final w (backs rest) y final c = tt
    bytes_final w (cuts rest) y final c = tt
    bytes_final w (asks need rest) y final c =
        final_by {y = asks (need_in_bytes need) (rest.0, w)} c final
    bytes_final w wants y final c = final_by {y = wants} c final

    bytes_longer : (more : List ℕ) (w : Left ℕ) (x : Outcome (End S Bool) O)
        (y : Outcome (End S ℕ) O) → InBytes w x y
        → InBytes (extend more w) (longer (bits_of more) x) (longer more y)
    bytes_longer more w (took o rest) y (end, l, e) =
        (extend more end, more_leaves reading more w rest.1 end l, as_longer more e)
    bytes_longer more w (backs rest) y e = as_longer more e
    bytes_longer more w (cuts rest) y e = as_longer more e
    bytes_longer more w (asks need rest) y e = as_longer more e
    bytes_longer more w wants y e = as_longer more e

    bits_longer : (more : List ℕ) (w : Left ℕ)
        → bits_left (extend more w) ≡ extend (bits_of more) (bits_left w)
    bits_longer more w =
        let P : List Bool → Left Bool = λ l. record (bits_left w) { tokens = l } in
        ap P (bits_append w.tokens more)

    -- A final outcome is unchanged if more bytes follow and all bits can be counted.
    pub bits_stay : stable → (more : List ℕ) (flag : Bool) (s : S) (w : Left ℕ)
        (y : Outcome (End S ℕ) O) → length (w.tokens ++ more) ≤ most_bytes → IsFinal y
        → BitsOfBytesDoes does on_cut s w y
        → BitsOfBytesDoes does (grown flag) s (extend more w) (longer more y)
    bits_stay is more flag s w y counted final (inl (few, x, d, c)) =
        let P : Left Bool → Type 0 = λ l. does (grown flag) s l (longer (bits_of more) x) in
        inl (
          counted,
          longer (bits_of more) x,
          subst P (sym (bits_longer more w)) (law.stays is (bits_of more) flag s (bits_left w) x
              (bytes_final w x y final c) d),
          bytes_longer more w x y c,
        )
    bits_stay is more flag s w y counted final (inr (many, e)) =
        absurd (omega (arith, counted, many, length-append w.tokens more))
