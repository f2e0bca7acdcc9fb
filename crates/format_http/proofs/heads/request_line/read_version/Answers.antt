use Rattle.std.proofs.Common.{rules}
use Rattle.winnow_grammar.specs.Read.{reads_by}
use Rattle.format_http.proofs.HeadsLemmas.RequestRead.{VersionRead, same_version}
use Rattle.winnow_core.specs.Exact.Same.{reads_as}
use Rattle.format_http.proofs.heads.request_line.read_version.Goals as goal

pub returns-clause-reads : goal.returns-clause-reads
returns-clause-reads c =
    let first = c.as_slice-protocol.result in
    let last = c.as_slice-end.result in
    reads_as (same_version first last c.as_slice-protocol.ensures c.as_slice-end.ensures)
    (reads_by {h = VersionRead first last} c.read.ensures.reads (rw (
      c.delimited.ensures.ignored1,
      c.delimited.ensures.parser,
      c.delimited.ensures.ignored2,
      c.separated_pair-numbers.ensures.separator,
    )))

pub returns-clause-spared : goal.returns-clause-spared
returns-clause-spared c = c.read.ensures.spared (search rules)
