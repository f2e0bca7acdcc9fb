use Rattle.std.proofs.Common.{◌≡◌, List, ℕ, [], ◌∷◌, ◌++◌, refl, sym, ap, subst, ◌∙◌, append_assoc}
use Rattle.std.proofs.lemmas.List.{append-nil}
use Rattle.format_csv_records.specs.Written.{WrittenFields}
use Rattle.format_csv_records.proofs.Writing.{bytes_more, extends_after_append, extends_trans}
use Rattle.format_csv_records.proofs.Writing.{wrote_more}
use Rattle.format_csv_records.proofs.write.write_others.Goals as goal

pub loop-field-init : goal.loop-field-init
unfolding WrittenFields
loop-field-init g c = ([], refl, sym (append-nil _))

pub loop-field-preserved : goal.loop-field-preserved
loop-field-preserved g c =
    let h = c.in_ok-write_field.ensures.done in
    let i = c.loop-field.invariant in
    let end = h.0 ++ (c.args.dialect.delimiter ∷ []) in
    let P : List (List ℕ) → Type 0 = λ l. WrittenFields c.args.dialect l (i.0 ++ end) in
    let tidy : ((c.args.out.now.items ++ i.0) ++ h.0) ++ (c.args.dialect.delimiter ∷ [])
    ≡ c.args.out.now.items ++ (i.0 ++ end) = simp append_assoc in (
      i.0 ++ end,
      subst P (sym (bytes_more _ _ _ c.loop-field-test.true)) (wrote_more _ _ _ _ _ i.1 h.1),
      c.in_ok-put.ensures.done ∙ ap (λ l. l ++ (c.args.dialect.delimiter ∷ [])) (h.2 ∙ ap (λ l. l ++
          h.0) i.2) ∙ tidy,
    )

pub returns-in_err-write_field-clause-kept : goal.returns-in_err-write_field-clause-kept
returns-in_err-write_field-clause-kept g c =
    extends_after_append _ _ _ _ c.loop-field.invariant.2 c.in_err-write_field.ensures.kept

pub returns-in_err-put-clause-kept : goal.returns-in_err-put-clause-kept
returns-in_err-put-clause-kept g c =
    extends_after_append _ _ _ _ c.loop-field.invariant.2
    (extends_trans _ _ _ c.in_ok-write_field.ensures.kept
    c.in_err-put.ensures.kept)

pub returns-clause-kept : goal.returns-clause-kept
returns-clause-kept g c = (_, c.loop-field.invariant.2)
