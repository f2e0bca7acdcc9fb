use Rattle.std.proofs.Common.{ap, rules, ◌+◌, ◌*◌}
use Rattle.format_dns.proofs.Laws.{ending_cut, pointer_at}
use Rattle.format_dns.proofs.name.read_ending.Goals as goal

pub returns-in-1-to-63 : goal.returns-in-1-to-63
returns-in-1-to-63 c =
    ending_cut c.args.place c.in-Some.ensures.cases.0 (search rules) (search rules) c.requires

pub returns-in-Some-split_first : goal.returns-in-Some-split_first
returns-in-Some-split_first c =
    pointer_at c.in-Some.ensures.cases.0 c.in-Some-split_first.ensures.cases.0
    (search rules) c.from.ensures
    (ap (λ n. c.from.result * 256 + n) c.from-in-Some-split_first.ensures)
