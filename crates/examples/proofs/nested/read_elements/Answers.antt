use Rattle.std.proofs.Common.{rules, ap, ◌∙◌}
use Rattle.winnow.specs.Separated.{separated_parser}
use Rattle.winnow.specs.Read.{reads_by}
use Rattle.winnow.specs.Rule.{reads_as_rule, run_as}
use Rattle.examples.proofs.nested.read_elements.Given as given
use Rattle.examples.proofs.nested.read_elements.Goals as goal

pub read-requires-clause-callable : goal.read-requires-clause-callable
read-requires-clause-callable g c =
    let same = ap (λ p. separated_parser p) c.delimited.ensures.parser
    ∙ c.separated-elements.ensures.parser in (
      search rules,
      (
        (
          run_as (given.F-IsAlwaysCallable g) same c.by.ensures.run c.requires.callable,
          reads_as_rule g.R.Rule.grammar same c.by.ensures.rule c.by.ensures.run c.requires.reads,
        ),
        search rules,
      ),
      search rules,
    )

pub read-requires-clause-premise : goal.read-requires-clause-premise
read-requires-clause-premise g c =
    let same = ap (λ p. separated_parser p) c.delimited.ensures.parser
    ∙ c.separated-elements.ensures.parser in
    let reads =
    reads_as_rule g.R.Rule.grammar same c.by.ensures.rule c.by.ensures.run c.requires.reads in
    search (rules, reads)

pub returns : goal.returns
returns g c = reads_by c.read.ensures.reads (rw (
  c.delimited.ensures.ignored1,
  c.delimited.ensures.parser,
  c.delimited.ensures.ignored2,
  c.separated-elements.ensures.occurrences,
  c.separated-elements.ensures.parser,
  c.separated-elements.ensures.separator,
  c.by.ensures.rule,
))
