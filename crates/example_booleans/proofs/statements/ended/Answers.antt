use Rattle.std.proofs.Common.{rules}
use Rattle.winnow_grammar.specs.Read.{reads_by}
use Rattle.winnow_grammar.specs.Rule.{reads_as_rule, run_as}
use Rattle.example_booleans.proofs.statements.ended.Given as given
use Rattle.example_booleans.proofs.statements.ended.Goals as goal

pub read-requires-clause-callable : goal.read-requires-clause-callable
read-requires-clause-callable g c =
    let same = c.terminated.ensures.parser in (
      (
        run_as (given.F-IsAlwaysCallable g) same c.by.ensures.run c.requires.callable,
        reads_as_rule g.R.Rule.grammar same c.by.ensures.rule c.by.ensures.run c.requires.reads,
      ),
      search rules,
    )

pub read-requires-clause-premise : goal.read-requires-clause-premise
read-requires-clause-premise g c =
    let same = c.terminated.ensures.parser in
    let reads =
    reads_as_rule g.R.Rule.grammar same c.by.ensures.rule c.by.ensures.run c.requires.reads in
    search (rules, reads)

pub returns : goal.returns
returns g c = reads_by c.read.ensures.reads (rw (
  c.terminated.ensures.ignored,
  c.terminated.ensures.parser,
  c.by.ensures.rule,
))
