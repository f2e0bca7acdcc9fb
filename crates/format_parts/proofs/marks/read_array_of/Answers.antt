use Rattle.std.proofs.Common.{rules}
use Rattle.winnow_grammar.specs.Rule.{reads_as_rule, run_as}
use Rattle.winnow_grammar.specs.Read.{reads_by}
use Rattle.format_parts.proofs.marks.read_array_of.Given as given
use Rattle.format_parts.proofs.marks.read_array_of.Goals as goal

pub read_items-requires-clause-item : goal.read_items-requires-clause-item
read_items-requires-clause-item g c =
    let same = c.terminated-item.ensures.parser in
    let reads =
    reads_as_rule g.R.Rule.grammar same c.by.ensures.rule c.by.ensures.run c.requires.reads in (
      (
        (run_as (given.F-IsAlwaysCallable g) same c.by.ensures.run c.requires.callable, reads),
        search rules,
      ),
      (reads, search rules),
      search rules,
    )

pub returns-clause-ran : goal.returns-clause-ran
returns-clause-ran g c = rw (
  c.terminated-item.ensures.parser,
  c.terminated-item.ensures.ignored,
  c.by.ensures.rule,
  c.by.ensures.run,
) at c.read_items.ensures.ran

pub returns-clause-reads : goal.returns-clause-reads
returns-clause-reads g c = reads_by c.read_items.ensures.reads (rw (
  c.terminated-item.ensures.parser,
  c.terminated-item.ensures.ignored,
  c.by.ensures.rule,
))

pub returns-clause-spared : goal.returns-clause-spared
returns-clause-spared g c value opening closing gap none =
    (rw (
      c.terminated-item.ensures.parser,
      c.terminated-item.ensures.ignored,
      c.by.ensures.rule,
      c.by.ensures.run,
    ) at c.read_items.ensures.spared) (value, gap) opening closing gap none
