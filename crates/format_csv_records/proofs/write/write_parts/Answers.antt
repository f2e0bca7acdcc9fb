use Rattle.std.proofs.Common.{◌≡◌, ◌++◌, refl, ap, ◌∙◌, append_assoc}
use Rattle.format_csv_records.specs.Written.{bytes_of}
use Rattle.format_csv_records.proofs.Writing.{extended, kept_added, extends_trans, last_by}
use Rattle.format_csv_records.proofs.write.write_parts.Goals as goal

pub returns-clause-done : goal.returns-clause-done
returns-clause-done g c =
    let h = c.in_ok-write_others.ensures.done in
    let k = c.in_ok-write_last.ensures.done in
    let old = c.args.out.now.items in
    let end = c.line_end.result.now in
    let tidy : ((old ++ h.0) ++ k.0) ++ end ≡ old ++ (h.0 ++ (k.0 ++ end)) = simp append_assoc in
    extended c.extend_from_slice.result c.extend_from_slice.new.self.items
    c.write_last.new.out.items end _ c.extend_from_slice.ensures.items (λ e. record {
      others = bytes_of c.args.others.now;
      last = c.args.last.now;
      before = h.0;
      text = k.0;
      end = end;
      all = refl;
      wrote = h.1;
      is_last = last_by c.args.dialect c.args.others.now c.none_of.result c.args.last.now k.0
          c.none_of.ensures k.1;
      is_end = c.line_end.ensures;
      behind = e ∙ ap (λ l. l ++ end) (k.2 ∙ ap (λ l. l ++ k.0) h.2) ∙ tidy;
    })

pub returns-clause-kept : goal.returns-clause-kept
returns-clause-kept g c =
    extends_trans _ _ _ c.in_ok-write_others.ensures.kept
    (extends_trans _ _ _ c.in_ok-write_last.ensures.kept
    (kept_added c.extend_from_slice.result _ _ _ c.extend_from_slice.ensures.items))

pub returns-in_err-write_last-clause-kept : goal.returns-in_err-write_last-clause-kept
returns-in_err-write_last-clause-kept g c =
    extends_trans _ _ _ c.in_ok-write_others.ensures.kept c.in_err-write_last.ensures.kept
