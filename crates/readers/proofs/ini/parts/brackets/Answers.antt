use Rattle.std.proofs.Common.{ap, ◌∙◌, ◌∷◌, sym, refl, inl, inr, List, ℕ}
use Rattle.std.proofs.Common.{Err, subst}
use Rattle.winnow.specs.ByteSet.{has_byte}
use Rattle.winnow.specs.Inversion.Outcomes.{fails_at}
use Rattle.winnow.specs.Inversion.Sequences.{three_err, three_ok}
use Rattle.winnow.specs.Inversion.Takes.{never_too_few, too_few_by, took_by}
use Rattle.winnow.specs.Inversion.Tokens.{token_missing, token_taken}
use Rattle.readers.specs.Document.{IsNameByte}
use Rattle.readers.specs.DocumentRuns.{IsFront}
use Rattle.readers.proofs.ByteTables.{behind_token, table_front}
use Rattle.readers.proofs.Calls.{over_bytes}
use Rattle.readers.proofs.ini.parts.brackets.Goals as goal

pub returns-in-Ok : goal.returns-in-Ok
returns-in-Ok c =
    let range = ap (λ p. p.occurrences) c.delimited-name.ensures.parser
    ∙ c.take_while.ensures.occurrences in
    let set_is = ap (λ p. p.set) c.delimited-name.ensures.parser ∙ c.take_while.ensures.set in
    let (o1, o2, o3, a, b, s, r1, r2, r3, same) = three_ok c.in-Ok.ensures.ran.3 in
    let front_mark = token_taken over_bytes r1 in
    let end_mark = token_taken over_bytes r3 in
    let front = table_front has_byte IsNameByte set_is c.args.names.exact
    (behind_token _ front_mark c.shows_bytes.ensures) (took_by over_bytes range r2) in
    let P : List ℕ → Type 0 = λ l. IsFront IsNameByte a.1.tokens o2.now l in
    let Q : List ℕ → Type 0 =
    λ l. IsFront IsNameByte a.1.tokens l (93 ∷ c.parse_next.new.input.now) in (
      c.in-Ok.ensures.ran.0,
      inl (
        c.in-Ok.name,
        a.1.tokens,
        front_mark ∙ ap (λ x. x ∷ a.1.tokens) c.delimited-name.ensures.ignored1,
        subst Q (sym (ap (λ r. r.now) same)) (subst P
            (end_mark
            ∙ ap (λ x. x ∷ c.parse_next.new.input.now) c.delimited-name.ensures.ignored2) front),
        refl,
      ),
    )

pub returns-in-Err : goal.returns-in-Err
returns-in-Err c =
    let range = ap (λ p. p.occurrences) c.delimited-name.ensures.parser
    ∙ c.take_while.ensures.occurrences in
    let set_is = ap (λ p. p.set) c.delimited-name.ensures.parser ∙ c.take_while.ensures.set in
    let front_is = c.delimited-name.ensures.ignored1 in
    let end_is = c.delimited-name.ensures.ignored2 in
    elim (three_err (_, c.in-Err.ensures.ran.3, fails_at _ _)) [
      | inl r1 ↦
          let (kind, kept, other) = token_missing over_bytes refl r1 in (
            c.in-Err.ensures.ran.0,
            inr (inl (
              (λ rest is. other rest (is ∙ ap (λ x. x ∷ rest) (sym front_is))),
              ap Err kind,
            )),
          )
      | inr (inl (o1, a, r1, r2)) ↦ never_too_few (too_few_by over_bytes range refl tt r2)
      | inr (inr (o1, o2, a, b, r1, r2, r3)) ↦
          let front_mark = token_taken over_bytes r1 in
          let front = table_front has_byte IsNameByte set_is c.args.names.exact
          (behind_token _ front_mark c.shows_bytes.ensures) (took_by over_bytes range r2) in
          let (kind, kept, other) = token_missing over_bytes refl r3 in (
            c.in-Err.ensures.ran.0,
            inr (inr (
              o2.now,
              a.1.tokens,
              b.1.tokens,
              front_mark ∙ ap (λ x. x ∷ a.1.tokens) front_is,
              front,
              (λ rest is. other rest (is ∙ ap (λ x. x ∷ rest) (sym end_is))),
              ap Err kind,
            )),
          )
    ]
