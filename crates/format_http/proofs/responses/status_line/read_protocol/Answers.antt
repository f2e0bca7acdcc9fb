use Rattle.std.proofs.Common.{rules}
use Rattle.winnow_grammar.specs.Read.{reads_by}
use Rattle.format_http.proofs.HeadsLemmas.StatusRead.{ProtocolRead, same_protocol}
use Rattle.winnow_core.specs.Exact.Same.{reads_as}
use Rattle.format_http.proofs.responses.status_line.read_protocol.Goals as goal

pub returns-clause-reads : goal.returns-clause-reads
returns-clause-reads c =
    let first = c.as_slice-protocol.result in
    reads_as (same_protocol first c.as_slice-protocol.ensures)
    (reads_by {h = ProtocolRead first} c.read.ensures.reads (rw (
      c.delimited.ensures.ignored1,
      c.delimited.ensures.parser,
      c.delimited.ensures.ignored2,
      c.separated_pair-numbers.ensures.separator,
    )))

pub returns-clause-spared : goal.returns-clause-spared
returns-clause-spared c = c.read.ensures.spared (search rules)
