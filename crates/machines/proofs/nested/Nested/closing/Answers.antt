use Rattle.machines.specs.Nests.{brackets_of}
use Rattle.machines.proofs.Stacks.{closes}
use Rattle.machines.proofs.nested.Nested.closing.Goals as goal

pub returns-then-is_closer : goal.returns-then-is_closer
returns-then-is_closer g c = closes (brackets_of c.args.self.now.first c.args.self.now.second)
    c.args.depth c.args.kinds c.args.byte c.if-depth-eq0.false
    (c.is_closer.ensures.0 c.if-is_closer.true)
