use Rattle.format_dns.proofs.name.+read_within.Given as goal

-- a pointer leads to a name of one pointers less
abbrev pub decreases-read_within : goal.decreases-read_within
decreases-read_within g l = l.pointers
