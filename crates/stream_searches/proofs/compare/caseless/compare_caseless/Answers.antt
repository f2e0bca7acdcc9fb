use Rattle.std.proofs.lemmas.Bool.{both_ways}
use Rattle.stream_searches.proofs.CaselessLemmas.{caseless_first, caseless_begins, caseless_strays}
use Rattle.stream_searches.proofs.compare.caseless.compare_caseless.Goals as goal

pub returns-then-eq_ignore_ascii_case : goal.returns-then-eq_ignore_ascii_case
returns-then-eq_ignore_ascii_case c =
    caseless_first c.args.all.now c.args.literal.now c.if-count-all.true
    (c.eq_ignore_ascii_case.ensures.test.0 c.if-eq_ignore_ascii_case.true)

pub returns-then-eq_ignore_ascii_case-2 : goal.returns-then-eq_ignore_ascii_case-2
returns-then-eq_ignore_ascii_case-2 c =
    caseless_begins c.args.all.now c.args.literal.now c.if-count-all.false
    (c.eq_ignore_ascii_case-else-count-all.ensures.test.0
    c.if-eq_ignore_ascii_case-2.true)

pub returns-else-eq_ignore_ascii_case-2 : goal.returns-else-eq_ignore_ascii_case-2
returns-else-eq_ignore_ascii_case-2 c =
    caseless_strays c.args.all.now c.args.literal.now c.if-count-all.false
    (λ same. both_ways _ c.if-eq_ignore_ascii_case-2.false
    (c.eq_ignore_ascii_case-else-count-all.ensures.test.1 same))
