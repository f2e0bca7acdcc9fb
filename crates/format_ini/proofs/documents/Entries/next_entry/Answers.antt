use Rattle.std.proofs.Common.{refl}
use Rattle.std.proofs.lemmas.Result.{err_from_is_err_and}
use Rattle.format_ini.proofs.Reading.{more_lines, next_err, next_some, no_entry_says_nothing}
use Rattle.format_ini.proofs.Reading.{reads_no_lines}
use Rattle.format_ini.proofs.documents.Entries.next_entry.Goals as goal

pub lines-init : goal.lines-init
lines-init c =
    let self = c.args.self.now in
    record { read = reads_no_lines _ _ _; same = refl }

pub returns-in_err-read-in-Some-clause-read : goal.returns-in_err-read-in-Some-clause-read
returns-in_err-read-in-Some-clause-read c =
    let self = c.args.self.now in
    let p = err_from_is_err_and c.from_residual.result c.from_residual.ensures.1 in
    rw (p.1, p.2) (next_err _ _ c.lines.invariant.same _ _ _ _ c.lines.invariant.read _ _ _
    c.in-Some.ensures c.in_err-read-in-Some.ensures.said)

pub returns-in-Some-entry-clause-read : goal.returns-in-Some-entry-clause-read
returns-in-Some-entry-clause-read c =
    let self = c.args.self.now in
    next_some _ _ c.lines.invariant.same _ _ _ _ c.lines.invariant.read _ _ _ _ c.in-Some.ensures
    (rw c.in-Some-entry.is at c.in_ok-read-in-Some.ensures.said)

pub lines-preserved : goal.lines-preserved
lines-preserved c =
    let self = c.args.self.now in
    let read = c.in_ok-read-in-Some.read in
    let none = no_entry_says_nothing _ c.in_default.not-Some in
    record {
      read = more_lines _ _ c.lines.invariant.same _ _ _ _ c.lines.invariant.read _ _ _
          c.in-Some.ensures
          (rw none at c.in_ok-read-in-Some.ensures.said);
      same = c.lines.invariant.same;
    }
