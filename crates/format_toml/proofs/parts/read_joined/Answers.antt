use Rattle.winnow_grammar.specs.Read.{reads_by}
use Rattle.format_toml.proofs.StatementsLemmas.{gathered_keeps, reads_kept}
use Rattle.format_toml.proofs.parts.read_joined.Goals as goal

pub returns-in-Ok : goal.returns-in-Ok
returns-in-Ok g c =
    reads_kept (gathered_keeps _) c.exact.ensures (reads_by c.in-Ok.ensures.reads (rw (
      c.separated.ensures.occurrences,
      c.separated.ensures.parser,
      c.separated.ensures.separator,
      c.terminated.ensures.parser,
      c.terminated.ensures.ignored,
    )))

pub returns : goal.returns
returns g c = reads_by c.in-Err.ensures.reads (rw (
  c.separated.ensures.occurrences,
  c.separated.ensures.parser,
  c.separated.ensures.separator,
  c.terminated.ensures.parser,
  c.terminated.ensures.ignored,
))
