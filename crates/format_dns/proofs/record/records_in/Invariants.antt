use Rattle.std.proofs.Common.{length, ◌≤◌, ◌-◌}
use Rattle.format_dns.specs.Questions.{ConsecutiveParts}
use Rattle.format_dns.specs.Records.{IsRecord}
use Rattle.format_dns.proofs.record.records_in.Given as goal

-- the list holds the entries read so far, at most as many as requested
abbrev pub invariant-loop-section : goal.invariant-loop-section
invariant-loop-section g l =
    ConsecutiveParts (λ place it. IsRecord l.fn.message l.fn.pointers place it)
    (λ it. it.behind) l.fn.place l.list.items l.behind
    × (length l.list.items ≤ l.fn.count)

abbrev pub decreases-loop-section : goal.decreases-loop-section
decreases-loop-section g l = l.fn.count - length l.list.items
