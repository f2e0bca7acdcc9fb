use Rattle.std.proofs.Common.{rules}
use Rattle.winnow_grammar.specs.Read.{reads_by}
use Rattle.format_json_values.proofs.number.number.Goals as goal

pub returns-clause-spared : goal.returns-clause-spared
returns-clause-spared g c = c.read.ensures.spared (search rules)

pub returns-clause-reads : goal.returns-clause-reads
returns-clause-reads g c = reads_by c.read.ensures.reads (rw (
  c.take-3.ensures,
  c.opt-2.ensures,
  c.alt-whole.ensures,
  c.take.ensures,
  c.opt-3.ensures,
  c.preceded-fraction.ensures.ignored,
  c.opt-4.ensures,
  c.preceded-exponent.ensures.ignored,
  c.alt.ensures,
  c.opt.ensures,
  c.alt-2.ensures,
))

pub read-requires-clause-callable : goal.read-requires-clause-callable
read-requires-clause-callable g c = search rules depth 1

pub read-requires-clause-premise : goal.read-requires-clause-premise
read-requires-clause-premise g c = search rules depth 1

pub read-requires-clause-backtracks : goal.read-requires-clause-backtracks
read-requires-clause-backtracks g c = search rules depth 1
