-- Whitespace was taken off the end.
use Rattle.std.proofs.Common.{length}
use Rattle.format_http.proofs.HeadsLemmas.Trimmed.{IsCut}
use Rattle.format_http.proofs.heads.field_line.trimmed.Given as goal

abbrev pub invariant-bytes : goal.invariant-bytes
invariant-bytes l = IsCut l.value l.text

abbrev pub decreases-bytes : goal.decreases-bytes
decreases-bytes l = length l.value
