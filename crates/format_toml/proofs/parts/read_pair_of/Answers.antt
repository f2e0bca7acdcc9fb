use Rattle.std.proofs.Common.{◌≡◌, refl, rules}
use Rattle.winnow_grammar.specs.Rule.{reads_as_rule, run_as}
use Rattle.winnow_grammar.specs.Read.{reads_by}
use Rattle.format_toml.proofs.parts.read_pair_of.Given as given
use Rattle.format_toml.proofs.parts.read_pair_of.Goals as goal

pub read_pair-requires-clause-third : goal.read_pair-requires-clause-third
read_pair-requires-clause-third g c =
    let same : c.by.result ≡ c.by.result = refl in
    let reads =
    reads_as_rule g.R.Rule.grammar same c.by.ensures.rule c.by.ensures.run c.requires.reads in (
      (run_as (given.F-IsAlwaysCallable g) same c.by.ensures.run c.requires.callable, reads),
      reads,
      search rules,
    )

pub returns : goal.returns
returns g c = reads_by c.read_pair.ensures (rw (c.by.ensures.rule))
