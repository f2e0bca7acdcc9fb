use Rattle.std.proofs.Common.{subst}
use Rattle.std.specs.Prelude.{Option}
use Rattle.format_ini.specs.Places.{LineAt}
use Rattle.format_ini.specs.declared.lines.Entry.{Entry}
use Rattle.format_ini.proofs.Passing.{passes_line, passes_none, placed_some}
use Rattle.format_ini.proofs.Reading.{no_entry_says_nothing}
use Rattle.format_ini.proofs.places.next_placed.Goals as goal

pub lines-init : goal.lines-init
lines-init c = passes_none _ _ _

pub lines-preserved : goal.lines-preserved
lines-preserved c =
    let line = c.in-Ok-Some.line in
    passes_line _ _ _ _ _ c.lines.invariant _ _ (rw c.in-Ok-Some.field-0-is at
    c.in-Ok-Some.ensures) (no_entry_says_nothing _ c.in_default.not-Some)

pub returns-in-Ok-None : goal.returns-in-Ok-None
returns-in-Ok-None c = (c.lines.invariant, rw c.in-Ok-None.field-0-is at c.in-Ok-None.ensures)

pub returns-in-Err : goal.returns-in-Err
returns-in-Err c = (c.lines.invariant, c.in-Err.ensures.0, c.in-Err.ensures.1)

pub returns-in-Some : goal.returns-in-Some
returns-in-Some c =
    let line = c.in-Ok-Some.line in
    let P : Option Entry → Type 0 = λ e.
    LineAt c.args.dialect c.args.bytes.now c.lines.reading e line.at c.in-Ok-Some.next in
    placed_some _ _ _ _ _ c.lines.invariant _ _ (subst P c.in-Some.is (rw c.in-Ok-Some.field-0-is
    at c.in-Ok-Some.ensures))
