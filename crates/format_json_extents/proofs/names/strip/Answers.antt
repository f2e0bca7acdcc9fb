use Rattle.std.proofs.Common.{◌≡◌, rules, true}
use Rattle.format_json_extents.proofs.Naming.{passed_more, strip_ends, strip_other}
use Rattle.format_json_extents.proofs.names.strip.Goals as goal

pub returns-then-next-first : goal.returns-then-next-first
returns-then-next-first c = λ whole meant from.
    let same : c.args.same ≡ true = search rules in
    let differ : c.in-Some-next_byte.next ≡ c.in-Some.first.now → ⊥ = search rules in
    strip_other c.bytes.invariant same from _ _ c.in-Some.ensures.cases.0
    c.in-Some-next_byte.ensures differ

pub bytes-preserved : goal.bytes-preserved
bytes-preserved c =
    let same : c.in-Some-next_byte.next ≡ c.in-Some.first.now = search rules in
    passed_more c.bytes.invariant c.in-Some.ensures.cases.0 c.in-Some-next_byte.ensures same

pub returns-in-None-next_byte : goal.returns-in-None-next_byte
returns-in-None-next_byte c = λ whole meant from.
    let same : c.args.same ≡ true = search rules in
    strip_ends c.bytes.invariant same from _ c.in-Some.ensures.cases.0 c.in-None-next_byte.ensures
