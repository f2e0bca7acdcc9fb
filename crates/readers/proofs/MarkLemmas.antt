-- A call of the parser of `=`, with spaces and tabs round it.
use Rattle.std.proofs.Common.{◌≡◌, ◌∙◌, ℕ, List, [], ◌∷◌, Ok, Err, refl, sym, ap, subst, inl, inr}
use Rattle.std.specs.Borrow.{Bor}
use Rattle.std.specs.Prelude.{⊤}
use Rattle.winnow.specs.Bytes.{bytes_reading}
use Rattle.winnow.specs.ClassDefinition.{ClassDoes}
use Rattle.winnow.specs.Form.{Answer}
use Rattle.winnow.specs.Input.{Input, IsEndOf}
use Rattle.winnow.specs.Inversion.Adapters.{void_err, void_ok}
use Rattle.winnow.specs.Inversion.Outcomes.{fails_at}
use Rattle.winnow.specs.Inversion.Sequences.{sequence3_ok, three_err}
use Rattle.winnow.specs.Inversion.Takes.{never_too_few, too_few, took_counted}
use Rattle.winnow.specs.Inversion.Tokens.{token_missing, token_taken}
use Rattle.winnow.specs.Left.{left_of}
use Rattle.winnow.specs.LiteralDefinition.{LiteralDoes}
use Rattle.winnow.specs.Outcome.{Does, outcome_of}
use Rattle.winnow.specs.Outputs.{VoidDoes}
use Rattle.winnow.specs.Sequence.{SequenceDoes3}
use Rattle.readers.specs.Document.{IsBlank}
use Rattle.readers.specs.DocumentRuns.{IsFront, MarkRuns}
use Rattle.readers.proofs.Calls.{over_bytes}
use Rattle.readers.proofs.PartRuns.{class_front, other_first}

abbrev Blanks : Does ⊤ ℕ (Bor (List ℕ))
Blanks = ClassDoes IsBlank 0 (λ b. b) (λ b. b) bytes_reading

abbrev Byte : Does ℕ ℕ ℕ
Byte = LiteralDoes bytes_reading (λ s xs. xs ≡ s ∷ []) (λ s _. s)

pub mark_read : (s t : ⊤ × ℕ × ⊤) (i j : Input ℕ) (answer : Answer ⊤) → s.1 ≡ 61
    → IsEndOf bytes_reading j i
    → VoidDoes (SequenceDoes3 Blanks Byte Blanks) over_bytes s (left_of i)
    (outcome_of answer (t, left_of j))
    → MarkRuns i answer j
mark_read s t i j (Ok o) is ends did =
    let (x, seq) = void_ok did in
    let (a, b, u, r1, r2, r3) = sequence3_ok seq in
    let mark = token_taken over_bytes r2 ∙ ap (λ m. m ∷ b.1.tokens) is in (
      ends,
      inl (
        x.0.now,
        x.2.now,
        b.1.tokens,
        subst (λ l. IsFront IsBlank i.left.tokens x.0.now l) mark
            (class_front IsBlank (took_counted over_bytes r1)),
        class_front IsBlank (took_counted over_bytes r3),
        refl,
      ),
    )
mark_read s t i j (Err k) is ends did =
    elim (three_err (void_err (_, did, fails_at k (t, left_of j)))) [
      | inl r1 ↦ never_too_few (too_few over_bytes refl tt r1)
      | inr (inl (x, a, r1, r2)) ↦
          let (kind, kept, other) = token_missing over_bytes refl r2 in (
            ends,
            inr (
              x.now,
              a.1.tokens,
              class_front IsBlank (took_counted over_bytes r1),
              other_first 61 a.1.tokens (λ rest e. other rest (e ∙ ap (λ m. m ∷ rest) (sym is))),
              ap Err kind,
            ),
          )
      | inr (inr (x, y, a, b, r1, r2, r3)) ↦ never_too_few (too_few over_bytes refl tt r3)
    ]
