use Rattle.std.proofs.Common.{◌≡◌, ◌+◌, ◌++◌, ℕ, List, length}
use Rattle.format_http_chunked.specs.Steps.{ArePassed}
use Rattle.format_http_chunked.proofs.fields.pass_fields.Given as goal

abbrev pub invariant-bytes : goal.invariant-bytes
invariant-bytes l =
    (length l.bytes + l.left ≡ length l.rest + l.room)
    × ((fields : List ℕ) × (l.bytes ≡ fields ++ l.rest) × ArePassed l.fn.at l.next fields)

abbrev pub decreases-bytes : goal.decreases-bytes
decreases-bytes l = length l.rest
