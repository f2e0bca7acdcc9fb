use Rattle.std.proofs.Common.{List, ℕ, subst, ◌∙◌}
use Rattle.format_csv_records.specs.Written.{Writes}
use Rattle.format_csv_records.proofs.Writing.{bytes_last, front_of_extension, reads_back}
use Rattle.format_csv_records.proofs.write.write_record.Goals as goal

pub returns-in-Ok : goal.returns-in-Ok
returns-in-Ok g c =
    let P : List (List ℕ) → Type 0 =
    λ l. Writes c.args.dialect l c.args.out.now.items c.write_parts.new.out.items in
    let it = subst P (bytes_last c.args.fields.now _ c.if-count-eq0.false) c.in-Ok.ensures.done in
    (it, reads_back c.args.dialect _ c.args.out.now.items c.write_parts.new.out.items it)

pub returns-in-Err : goal.returns-in-Err
returns-in-Err g c =
    front_of_extension _ _ _ _ c.in-Err.ensures.kept (c.len-start.ensures ∙ c.args.out.now.ok.0)
    c.truncate.ensures.items
