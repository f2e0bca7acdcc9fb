-- Lemmas about a byte whose bits are parsed.
use Rattle.std.proofs.Common.{◌≡◌, ◌<◌, ◌≤◌, ◌+◌, ◌-◌, ◌*◌, ◌%◌, ◌^◌, ◌∙◌, ◌∷◌}
use Rattle.std.proofs.Common.{◌++◌, [], ℕ, Bool}
use Rattle.std.proofs.Common.{List, Option, Some, ap, arith, inl, inr, length}
use Rattle.std.proofs.Common.{refl, subst, sym}
use Rattle.std.specs.List.{All}
use Rattle.std.specs.Prelude.{◌⊎◌, take}
use Rattle.std.proofs.lemmas.Bool.{cases_lt}
use Rattle.std.proofs.lemmas.List.{nil_from_length, take_at}
use Rattle.std.proofs.lemmas.List.Elements.{All-head, All-take}
use Rattle.stream_bits.specs.BitList.{bits_cons, bits_nil, bits_of, length_bits}
use Rattle.stream_bits.specs.BitList.{low_bits, number_append, number_low, number_nil, number_of}
use Rattle.stream_bits.specs.BitReading.{bits_reading}
use Rattle.stream_errors.specs.Form.{assert_kind, modal}
use Rattle.streams.specs.Following.{most_bytes}
use Rattle.streams.specs.Kind.{Kind, backtrack, cut, incomplete, memory}
use Rattle.streams.specs.Reading.{Reading}
use Rattle.parser_definitions.specs.BitsOfBytes.{BitsOfBytesDoes, InBytes, bits_left, inside}
use Rattle.parser_definitions.specs.BitsOfBytes.{need_in_bytes}
use Rattle.parser_definitions.specs.Inversion.Functions.{input_at}
use Rattle.parser_definitions.specs.Inversion.Outcomes.{Failing, fails_by}
use Rattle.parser_definitions.specs.Inversion.Outcomes.{misused_at}
use Rattle.parser_definitions.specs.Left.{End, Left}
use Rattle.parser_definitions.specs.Outcome.{Does, Outcome, Setting, asks, backs, cuts, lacks}
use Rattle.parser_definitions.specs.Outcome.{took, wants}
use Rattle.winnow_bits.specs.BitsOfBytes.Inversion.{bits_ok, whole_number}
use Rattle.winnow_core.specs.Short.{ShortKind}
use Rattle.format_dns.specs.Header.{HasTooMany, LacksPart}
use Rattle.format_dns.proofs.BitRuns.{CanRead, ReadsBits, taking_does_not_fail}

one_byte : (taken rest tokens : List ℕ) (n : ℕ) → length taken ≡ 1 → All (λ b. b < 256) taken
    → tokens ≡ taken ++ rest → n ≡ number_of (bits_of taken) → tokens ≡ n ∷ rest
one_byte [] rest tokens n one bytes splits number = absurd (omega (arith, one))
one_byte (a ∷ []) rest tokens n one bytes splits number =
    let fits = All-head (λ b. b < 256) a [] bytes in
    let is : a % 2 ^ 8 ≡ a = omega (arith, fits) in
    let alone = ap number_of (bits_cons a [])
    ∙ number_append (low_bits 8 a) (bits_of [])
    ∙ ap (λ x. x * 2 ^ length (bits_of []) + number_of (bits_of [])) (number_low 8 a ∙ is)
    ∙ ap (λ l. a * 2 ^ length l + number_of l) bits_nil in
    let none = number_nil in
    let same : a ≡ n = omega (arith, alone, none, number) in
    splits ∙ ap (λ x. x ∷ rest) same
one_byte (a ∷ b ∷ more) rest tokens n one bytes splits number = absurd (omega (arith, one))

module _ {S O L : Type 0} (reading : Reading ℕ L) (does : Does S Bool O) (s : S)
    (number : O → ℕ) (Fits : O → Type 0)
    (parts : ReadsBits (bits_reading reading) 1 8 does s number Fits) where
  pub byte_read : (at : Setting) (w : Left ℕ) (o : O) (e : End S ℕ) → All (λ b. b < 256) w.tokens
      → BitsOfBytesDoes reading does at s w (took o e)
      → (w.tokens ≡ number o ∷ e.1.tokens) × Fits o
  byte_read at w o e bytes ran =
      let all = bits_ok reading does at s w o e ran in
      let it = parts.reads (inside at) (bits_left w) o (e.0, all.behind) all.ran in
      let q = it.0.passes in
      let whole = whole_number reading w it.0.bits all.behind e.1 1 it.0.as_many (record {
        tokens = q.tokens;
        place = q.place;
        recorded = ap (λ z. z.recorded) q.status;
      }) all.leaves in
      let splits = all.leaves.tokens in
      let P : List ℕ → Type 0 = λ l. All (λ b. b < 256) l in
      let front = subst P (ap (λ l. take (length all.leaves.begun) l) splits
      ∙ take_at all.leaves.begun e.1.tokens (length all.leaves.begun) refl)
      (All-take (λ b. b < 256) (length all.leaves.begun) w.tokens bytes) in (
        one_byte all.leaves.begun e.1.tokens w.tokens (number o) whole.0 front splits
            (it.0.number ∙ whole.1),
        it.1,
      )

  can : (at : Setting) (w : Left ℕ) → 1 ≤ length w.tokens → CanRead 8 (inside at) (bits_left w)
  can at w some = record {
    possible = refl;
    enough = omega (arith, some, length_bits w.tokens);
  }

  pub byte_must : (at : Setting) (w : Left ℕ) (k : Kind) (left : Left ℕ) → 1 ≤ length w.tokens
      → length w.tokens ≤ most_bytes → Failing (BitsOfBytesDoes reading does at s w) k left → ⊥
  byte_must at w k left some fits (y, inr (many, e), fails) = absurd (omega (arith, many, fits))
  byte_must at w k left some fits (y, inl (few, x, d, c), fails) = by x d c
    where
      by : (x : Outcome (End S Bool) O) → does (inside at) s (bits_left w) x
          → InBytes reading w x y → ⊥
      by (took o rest) d (end, leaves, e) = taking_does_not_fail (fails_by e fails)
      by (backs rest) d e = parts.answers (inside at) (bits_left w) backtrack rest.1
          (can at w some) (backs rest, d, record { is = (refl, refl) })
      by (cuts rest) d e = parts.answers (inside at) (bits_left w) cut rest.1
          (can at w some) (cuts rest, d, record { is = (refl, refl) })
      by (asks need rest) d e = parts.answers (inside at) (bits_left w) (incomplete need) rest.1
          (can at w some) (asks need rest, d, record { is = (refl, refl) })
      by wants d e = parts.answers (inside at) (bits_left w) memory (bits_left w)
          (can at w some) (wants, d, record { is = refl })

  -- a byte that is not there is lacking; or there are too many
  pub byte_fails : (at : Setting) (w : Left ℕ) (k : Kind) (left : Left ℕ) → at.form ≡ modal
      → Failing (BitsOfBytesDoes reading does at s w) k left
      → LacksPart 0 1 (input_at at w) k (input_at at left)
      ⊎ HasTooMany 0 (input_at at w) k (input_at at left)
  byte_fails at w k left is (y, inr (many, e), fails) =
      let told = misused_at at.form (s, w) (fails_by e fails) in
      let P : Left ℕ → Type 0 = λ l. HasTooMany 0 (input_at at w) k (input_at at l) in
      inr (subst P told.1 (record {
        passes = omega arith;
        many = many;
        cuts = told.0 ∙ ap assert_kind is;
      }))
  byte_fails at w k left is (y, inl (few, x, d, c), fails) =
      elim (cases_lt 0 (length w.tokens)) [
        | inl some ↦ absurd (byte_must at w k left (omega (arith, some)) few
            (y, inl (few, x, d, c), fails))
        | inr none ↦ inl (missing (nil_from_length w.tokens (omega (arith, none))) x d c)
      ]
    where
      -- the kind where no bit is there, in bits and in bytes
      lacking : (none : w.tokens ≡ []) (l : Kind) (rest : Left Bool)
          → Failing (does (inside at) s (bits_left w)) l rest
          → ShortKind modal (Some 1) (input_at (inside at) (bits_left w)) l
      lacking none l rest failed = parts.lacks (inside at) (bits_left w) l rest is refl
          (ap bits_of none ∙ bits_nil) failed

      here : (none : w.tokens ≡ []) → left ≡ w → ShortKind modal (Some 1) (input_at at w) k
          → LacksPart 0 1 (input_at at w) k (input_at at left)
      here none same short =
          let empty : length w.tokens ≡ 0 = ap (λ l. length l) none in
          let one : 1 ≡ 1 - length w.tokens = omega (arith, empty) in
          let P : ℕ → Type 0 = λ n. ShortKind modal (Some n) (input_at at w) k in
          let Q : Left ℕ → Type 0 = λ l. LacksPart 0 1 (input_at at w) k (input_at at l) in
          subst Q (sym same) (record {
            passes = omega arith;
            few = omega (arith, empty);
            short = subst P one short;
          })

      missing : (none : w.tokens ≡ []) (x : Outcome (End S Bool) O)
          → does (inside at) s (bits_left w) x → InBytes reading w x y
          → LacksPart 0 1 (input_at at w) k (input_at at left)
      missing none (took o rest) d (end, leaves, e) = taking_does_not_fail (fails_by e fails)
      missing none (backs rest) d e =
          let told = fails_by e fails in
          here none (sym told.is.1)
          (elim (lacking none backtrack rest.1 (backs rest, d, record { is = (refl, refl) })) [
            | inl (more, is_kind) ↦ absurd (cc)
            | inr (whole, same) ↦ inr (whole, told.is.0)
          ])
      missing none (cuts rest) d e =
          elim (lacking none cut rest.1 (cuts rest, d, record { is = (refl, refl) })) [
            | inl (more, is_kind) ↦ absurd (cc)
            | inr (whole, same) ↦ absurd (cc)
          ]
      missing none (asks need rest) d e =
          let told = fails_by e fails in
          here none (sym told.is.1)
          (elim (lacking none (incomplete need) rest.1
          (asks need rest, d, record { is = (refl, refl) })) [
            | inl (more, same) ↦ inl (
              more,
              told.is.0 ∙ ap (λ n. incomplete (need_in_bytes n)) (same_need same),
            )
            | inr (whole, same) ↦ absurd (cc)
          ])
        where
          same_need : {m n : Option ℕ} → incomplete m ≡ incomplete n → m ≡ n
          same_need e = cc
      missing none wants d e =
          elim (lacking none memory (bits_left w) (wants, d, record { is = refl })) [
            | inl (more, is_kind) ↦ absurd (cc)
            | inr (whole, same) ↦ absurd (cc)
          ]
