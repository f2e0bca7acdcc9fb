use Rattle.std.proofs.Common.{[], ◌∷◌, ◌++◌, refl, ap, inr, ◌∙◌, append_assoc}
use Rattle.std.proofs.lemmas.Result.{on_ok_weaker}
use Rattle.format_csv_records.specs.Dialects.{doubled}
use Rattle.format_csv_records.proofs.Writing.{kept_added, extends_after_append, fewer_are_not_all}
use Rattle.format_csv_records.proofs.write.write_field.Goals as goal

pub returns-clause-done : goal.returns-clause-done
returns-clause-done g c =
    let q = c.args.dialect.quote in
    let text = doubled q c.args.field.now ++ q ∷ [] in
    on_ok_weaker c.write_doubled.result (λ e. (
      q ∷ text,
      inr (
        refl,
        fewer_are_not_all _ _ _ c.plain_len.ensures c.if-plain_len-field.false,
      ),
      e ∙ ap (λ l. l ++ text) c.in_ok-put.ensures.done
          ∙ append_assoc c.args.out.now.items (q ∷ []) text,
    ))
    c.write_doubled.ensures.done

pub returns-clause-kept : goal.returns-clause-kept
returns-clause-kept g c =
    extends_after_append _ _ _ _ c.in_ok-put.ensures.done c.write_doubled.ensures.kept

pub returns-then-plain_len-field-clause-kept : goal.returns-then-plain_len-field-clause-kept
returns-then-plain_len-field-clause-kept g c =
    kept_added c.extend_from_slice.result _ _ _ c.extend_from_slice.ensures.items
