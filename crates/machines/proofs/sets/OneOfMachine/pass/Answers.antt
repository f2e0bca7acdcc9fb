use Rattle.std.proofs.lemmas.Bool.{iff_false}
use Rattle.std.proofs.lemmas.List.{nil_from_length}
use Rattle.machines.specs.Sets.{none_first, one_passed, one_refuses, one_takes, other_first}
use Rattle.machines.proofs.sets.OneOfMachine.pass.Goals as goal

pub returns-then-at : goal.returns-then-at
returns-then-at g c = one_passed (g.S.ByteSet.within c.args.self.now.0) c.args.at
    c.args.bytes.now c.if-at.true

pub returns-in-None : goal.returns-in-None
returns-in-None g c = one_refuses (g.S.ByteSet.within c.args.self.now.0) c.args.at
    c.args.bytes.now c.if-at.false (none_first (g.S.ByteSet.within c.args.self.now.0)
    c.args.bytes.now (nil_from_length c.args.bytes.now c.in-None.ensures.cases))

pub returns-then-has : goal.returns-then-has
returns-then-has g c = one_takes (g.S.ByteSet.within c.args.self.now.0) c.args.at
    c.args.bytes.now _ _ c.if-at.false c.in-Some.ensures.cases.0 (c.has.ensures.0 c.if-has.true)

pub returns-else-has : goal.returns-else-has
returns-else-has g c = one_refuses (g.S.ByteSet.within c.args.self.now.0) c.args.at
    c.args.bytes.now c.if-at.false (other_first (g.S.ByteSet.within c.args.self.now.0)
    c.args.bytes.now _ _ c.in-Some.ensures.cases.0 (iff_false c.has.ensures c.if-has.false))
