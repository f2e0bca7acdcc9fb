use Rattle.std.proofs.Common.{length}
use Rattle.format_dns.proofs.text.+are_same.Given as goal

-- each call is for a label less
abbrev pub decreases-are_same : goal.decreases-are_same
decreases-are_same l = length l.labels.now
