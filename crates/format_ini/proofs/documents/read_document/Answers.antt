use Rattle.std.proofs.Common.{◌∙◌, ap, map, rules, sym}
use Rattle.std.proofs.lemmas.List.{map_push}
use Rattle.format_ini.specs.Lines.{said_in}
use Rattle.format_ini.proofs.Reading.{so_far_all, so_far_err, so_far_from, so_far_more}
use Rattle.format_ini.proofs.Reading.{so_far_same, so_far_some, so_far_within}
use Rattle.format_ini.proofs.documents.read_document.Goals as goal

pub entries-init : goal.entries-init
entries-init g c = record {
  read = so_far_from _ _ _ _ _ c.new-left.ensures.rest
      c.new-left.ensures.state (ap (λ l. map said_in l) c.new-entries.ensures.items);
  same = c.new-left.ensures.dialect;
}

pub entries-preserved : goal.entries-preserved
entries-preserved g c =
    let new = c.next_entry.new.self in
    let entry = c.in-Ok-Some.entry in
    let old = c.entries.entries.items in record {
      read = so_far_same _ _ _ _ _ _ (so_far_more _ _ c.entries.invariant.same _ _ _ _
          c.entries.invariant.read _ _ _ (rw c.in-Ok-Some.field-0-is at
          c.in-Ok-Some.ensures.read))
          (sym (ap (λ l. map said_in l) (search rules) ∙ map_push said_in old entry));
      same = c.in-Ok-Some.ensures.same ∙ c.entries.invariant.same;
    }

pub returns-in-Ok-None-clause-document : goal.returns-in-Ok-None-clause-document
returns-in-Ok-None-clause-document g c =
    let new = c.next_entry.new.self in
    so_far_all _ _ c.entries.invariant.same _ _ _ _ c.entries.invariant.read _ _ (rw
    c.in-Ok-None.field-0-is at c.in-Ok-None.ensures.read)

pub fault_at-requires : goal.fault_at-requires
fault_at-requires g c =
    let new = c.next_entry.new.self in
    so_far_within _ _ c.entries.invariant.same _ _ _ _ c.entries.invariant.read _ _ _
    c.in-Err.ensures.read

pub returns-in-Err-clause-document : goal.returns-in-Err-clause-document
returns-in-Err-clause-document g c =
    let new = c.next_entry.new.self in
    so_far_err _ _ c.entries.invariant.same _ _ _ _ c.entries.invariant.read _ _ _ _
    c.in-Err.ensures.read c.fault_at.ensures.0 c.fault_at.ensures.1

pub returns-then-is_err-clause-full : goal.returns-then-is_err-clause-full
returns-then-is_err-clause-full g c = λ e.
    so_far_some _ _ c.entries.invariant.same _ _ _ _ c.entries.invariant.read _ _ _ (rw
    c.in-Ok-Some.field-0-is at c.in-Ok-Some.ensures.read)
