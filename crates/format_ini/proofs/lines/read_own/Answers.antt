use Rattle.std.proofs.Common.{sym, ◌∙◌}
use Rattle.format_ini.proofs.Heads.{head_is_in_brackets}
use Rattle.format_ini.proofs.lines.read_own.Goals as goal

pub returns-clause-at : goal.returns-clause-at
returns-clause-at c = (c.in_ok-key.ensures.key, c.in_ok-key.ensures.value)

pub returns-in-Some-clause-at : goal.returns-in-Some-clause-at
returns-in-Some-clause-at c = (
  head_is_in_brackets c.args.dialect _ _ _ _ (rw c.in-Some.is at c.in_ok-name.ensures)
      c.both_at.ensures.0,
  c.both_at.ensures.1 ∙ sym c.both_at.ensures.0,
)
