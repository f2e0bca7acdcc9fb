use Rattle.std.proofs.Common.{length, []}
use Rattle.format_http_chunked.specs.Room.{IsSpent}
use Rattle.format_http_chunked.specs.Steps.{IsTaken}
use Rattle.format_http_chunked.proofs.decoder.Decoder.run.Given as goal

abbrev pub invariant-bytes : goal.invariant-bytes
invariant-bytes l =
    IsTaken l.fn.self.place l.self.place l.fn.input.now l.input.now [] []
    × IsSpent l.fn.self l.self l.fn.input.now l.input.now 0

abbrev pub decreases-bytes : goal.decreases-bytes
decreases-bytes l = length l.input.now
