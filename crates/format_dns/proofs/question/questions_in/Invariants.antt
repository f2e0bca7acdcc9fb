use Rattle.std.proofs.Common.{length, ◌≤◌, ◌-◌}
use Rattle.format_dns.specs.Questions.{ConsecutiveParts, IsQuestion}
use Rattle.format_dns.proofs.question.questions_in.Given as goal

-- the list holds the entries read so far, at most as many as requested
abbrev pub invariant-loop-alloc : goal.invariant-loop-alloc
invariant-loop-alloc g l =
    ConsecutiveParts (λ place question. IsQuestion l.fn.message l.fn.pointers place question)
    (λ question. question.behind) l.fn.place l.list.items l.behind
    × (length l.list.items ≤ l.fn.count)

abbrev pub decreases-loop-alloc : goal.decreases-loop-alloc
decreases-loop-alloc g l = l.fn.count - length l.list.items
