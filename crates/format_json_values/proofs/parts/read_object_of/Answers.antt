use Rattle.std.proofs.Common.{ap, refl, rules, ◌∙◌}
use Rattle.winnow_comb.specs.Terminated.{terminated_parser}
use Rattle.winnow_grammar.specs.Rule.{reads_as_rule, run_as}
use Rattle.format_parts.specs.Marks.{three_by}
use Rattle.format_json_values.specs.Pairs.{first_by, items_by}
use Rattle.format_json_values.proofs.parts.read_object_of.Given as given
use Rattle.format_json_values.proofs.parts.read_object_of.Goals as goal

pub read_items-requires-clause-item : goal.read_items-requires-clause-item
read_items-requires-clause-item g c =
    let first = ap (λ p. terminated_parser p) c.separated_pair-member.ensures.first
    ∙ c.terminated-name.ensures.parser in
    let second = ap (λ p. terminated_parser p) c.separated_pair-member.ensures.second
    ∙ c.terminated-value.ensures.parser in
    let name = reads_as_rule g.S.Rule.grammar first c.by.ensures.rule c.by.ensures.run
    c.requires.name_reads in
    let value = reads_as_rule g.R.Rule.grammar second c.by-2.ensures.rule c.by-2.ensures.run
    c.requires.reads in (
      (
        (
          (
            run_as (given.H-IsAlwaysCallable g) first c.by.ensures.run c.requires.name_callable,
            name,
          ),
          search rules,
        ),
        search rules,
        (
          (
            run_as (given.F-IsAlwaysCallable g) second c.by-2.ensures.run c.requires.callable,
            value,
          ),
          search rules,
        ),
      ),
      ((name, search rules), search rules, (value, search rules)),
      search rules,
    )

pub returns-clause-reads : goal.returns-clause-reads
returns-clause-reads g c = items_by _ _ _ _ c.read_items.ensures.reads
    (three_by _ (search rules) (rw c.separated_pair-member.ensures.separator refl) (search rules))

pub returns-clause-spared : goal.returns-clause-spared
returns-clause-spared g c name value colon opening closing gap none =
    let member = c.separated_pair-member.ensures in
    c.read_items.ensures.spared (
      (rw (member.first, c.terminated-name.ensures.parser, c.by.ensures.run) name, search rules),
      search rules,
      (
        rw (member.second, c.terminated-value.ensures.parser, c.by-2.ensures.run) value,
        search rules,
      ),
    ) opening closing gap
    (first_by _ _ _ (three_by _ (search rules) (rw member.separator refl) (search rules)) none)
