use Rattle.std.proofs.Common.{length}
use Rattle.exported.proofs.dns.+put_labels.Given as goal

-- each call is for a label less
abbrev pub decreases-put_labels : goal.decreases-put_labels
decreases-put_labels l = length l.labels.now
