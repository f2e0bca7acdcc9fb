use Rattle.std.proofs.Common.{ap, ◌∙◌, ◌≡◌, sym, refl, inl, inr, List, ℕ, rules, subst, Err}
use Rattle.std.specs.Str.{IsUtf8}
use Rattle.winnow.specs.Bytes.{bytes_reading}
use Rattle.winnow.specs.Input.{is_end_of_refl}
use Rattle.winnow.specs.Form.Inversion.{ok_is_err, same_output}
use Rattle.winnow.specs.Inversion.Adapters.{gives_err, gives_ok}
use Rattle.winnow.specs.Inversion.Outcomes.{fails_at}
use Rattle.readers.specs.Document.{StartsWithPart, section}
use Rattle.readers.specs.DocumentRuns.{BracketsRuns}
use Rattle.readers.proofs.Calls.{err_with_by, ok_with_by}
use Rattle.readers.proofs.PartRuns.{category_read, no_open, no_close, no_text}
use Rattle.readers.proofs.ini.parts.section_name.Goals as goal

pub returns-in-Ok : goal.returns-in-Ok
returns-in-Ok c =
    let (o, s, f, ran, step) = gives_ok c.in-Ok.ensures.ran.3 in
    let told : (c.in-Ok.name.now ≡ o.now) × IsUtf8 o.now = search rules depth 1 in
    elim (ok_with_by BracketsRuns (λ i x j met. met.0) (λ s x r y t met. met) ran).1 [
      | inl (name, a, begins, front, is) ↦
          let same = ap (λ x. x.now) (same_output is) in
          let Q : List ℕ → Type 0 =
          λ l. StartsWithPart (section l) c.args.input.now.now c.parse_next.new.input.now in (
            c.in-Ok.ensures.ran.0,
            inl (
              c.in-Ok.name,
              subst Q (sym (told.0 ∙ same))
                  (category_read _ a _ _ _ begins front.0 front.1 refl
                  (subst IsUtf8 same told.1)),
              refl,
            ),
          )
      | inr (inl (none, is)) ↦ ok_is_err refl is
      | inr (inr (name, a, b, begins, front, none, is)) ↦ ok_is_err refl is
    ]

pub returns-in-Err : goal.returns-in-Err
returns-in-Err c =
    elim (gives_err (_, c.in-Err.ensures.ran.3, fails_at _ _)) [
      | inl failed ↦ elim (err_with_by BracketsRuns (λ i x j met. met.0) (λ s x r y t met. met)
          failed).1.1 [
            | inl (name, a, begins, front, is) ↦ ok_is_err is refl
            | inr (inl (none, is))
                ↦ (is_end_of_refl bytes_reading _, inr (no_open _ none, refl, is))
            | inr (inr (name, a, b, begins, front, none, is)) ↦ (
              is_end_of_refl bytes_reading _,
              inr (no_close _ a name b begins front none, refl, is),
            )
          ]
      | inr (o, a, f, ran, step, is_back, reset) ↦
          let told : IsUtf8 o.now → ⊥ = search rules depth 1 in
          elim (ok_with_by BracketsRuns (λ i x j met. met.0) (λ s x r y t met. met) ran).1 [
            | inl (name, rest, begins, front, is) ↦ (
              is_end_of_refl bytes_reading _,
              inr (
                no_text _ rest _ _ begins front
                    (λ u. told (subst IsUtf8 (sym (ap (λ x. x.now) (same_output is))) u)),
                refl,
                ap Err is_back,
              ),
            )
            | inr (inl (none, is)) ↦ ok_is_err refl is
            | inr (inr (name, rest, b, begins, front, none, is)) ↦ ok_is_err refl is
          ]
    ]
