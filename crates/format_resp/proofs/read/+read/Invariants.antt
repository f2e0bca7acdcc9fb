use Rattle.std.proofs.Common.{◌+◌, Bool}
use Rattle.streams.specs.Bytes.{bytes_follow, bytes_input, bytes_reading}
use Rattle.streams.specs.Partial.{with_flag}
use Rattle.winnow_grammar.specs.InTurn.{First, MatchesEachCompletion}
use Rattle.winnow_grammar.specs.InTurn.Rows.{RowOf}
use Rattle.format_resp.proofs.MustAsk.{input_if}
use Rattle.format_resp.specs.Resp.{ReplyText}
use Rattle.format_resp.proofs.read.+read.Given as goal

-- a reply calls an aggregate at its own depth, and an aggregate calls replies at a smaller one
abbrev pub decreases-read_aggregate : goal.decreases-read_aggregate
decreases-read_aggregate g l = l.level + l.level

abbrev pub decreases-read_reply : goal.decreases-read_reply
decreases-read_reply g l = l.level + l.level + 1

-- this number of replies follows the size
abbrev pub invariant-read_aggregate-loop : goal.invariant-read_aggregate-loop
invariant-read_aggregate-loop g l =
    (more : Bool) → MatchesEachCompletion bytes_reading bytes_follow
    (First (RowOf (ReplyText l.protocol l.inner) l.counter))
    (input_if more (with_flag (bytes_input l.initial.input.input.now) l.initial.input.partial))
    l.replies.items
    (input_if more (with_flag (bytes_input l.input.input.now) l.input.partial))
