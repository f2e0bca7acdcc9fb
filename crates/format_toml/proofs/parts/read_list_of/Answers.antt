use Rattle.std.proofs.Common.{rules}
use Rattle.winnow_grammar.specs.Rule.{reads_as_rule, run_as}
use Rattle.winnow_grammar.specs.Read.{reads_by}
use Rattle.format_toml.proofs.parts.read_list_of.Given as given
use Rattle.format_toml.proofs.parts.read_list_of.Goals as goal

pub read_list-requires-clause-element : goal.read_list-requires-clause-element
read_list-requires-clause-element g c =
    let same = c.terminated-element.ensures.parser in
    let reads =
    reads_as_rule g.R.Rule.grammar same c.by.ensures.rule c.by.ensures.run c.requires.reads in (
      (
        (run_as (given.F-IsAlwaysCallable g) same c.by.ensures.run c.requires.callable, reads),
        search rules,
      ),
      (reads, search rules),
      search rules,
    )

pub returns : goal.returns
returns g c = reads_by c.read_list.ensures (rw (
  c.terminated-element.ensures.parser,
  c.terminated-element.ensures.ignored,
  c.by.ensures.rule,
))
