use Rattle.std.proofs.Common.{arith, inl}
use Rattle.machines.proofs.Stacks.{pushed}
use Rattle.machines.proofs.nested.Nested.turn.Goals as goal

pub returns-in-Some : goal.returns-in-Some
returns-in-Some g c = inl (
  c.in-Some.kind,
  c.in-Some.ensures,
  c.if-depth-self.true,
  pushed c.args.depth c.args.kinds c.push.result c.in-Some.kind
      (omega (arith, c.if-depth-self.true, c.requires)) c.push.ensures,
)
