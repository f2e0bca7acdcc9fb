use Rattle.std.proofs.Common.{ap, rules, ◌∙◌}
use Rattle.winnow_comb.specs.Terminated.{terminated_parser}
use Rattle.format_parts.specs.Marks.{reads_all_by}
use Rattle.winnow_grammar.specs.Rule.{reads_as_rule, run_as}
use Rattle.format_json_values.proofs.parts.parse_spaced.Given as given
use Rattle.format_json_values.proofs.parts.parse_spaced.Goals as goal

pub read_all-requires-clause-callable : goal.read_all-requires-clause-callable
read_all-requires-clause-callable g c =
    let same = ap (λ p. terminated_parser p) c.preceded.ensures.parser
    ∙ c.terminated.ensures.parser in (
      search rules,
      (
        (
          run_as (given.F-IsAlwaysCallable g) same c.by.ensures.run c.requires.callable,
          reads_as_rule g.R.Rule.grammar same c.by.ensures.rule c.by.ensures.run c.requires.reads,
        ),
        search rules,
      ),
    )

pub read_all-requires-clause-premise : goal.read_all-requires-clause-premise
read_all-requires-clause-premise g c =
    let same = ap (λ p. terminated_parser p) c.preceded.ensures.parser
    ∙ c.terminated.ensures.parser in (
      search rules,
      (
        reads_as_rule g.R.Rule.grammar same c.by.ensures.rule c.by.ensures.run c.requires.reads,
        search rules,
      ),
    )

pub returns : goal.returns
returns g c = reads_all_by c.read_all.ensures.reads (rw (
  c.preceded.ensures.ignored,
  c.preceded.ensures.parser,
  c.terminated.ensures.parser,
  c.terminated.ensures.ignored,
  c.by.ensures.rule,
))
