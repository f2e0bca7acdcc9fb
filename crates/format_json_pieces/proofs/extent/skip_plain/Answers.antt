use Rattle.std.proofs.Common.{arith}
use Rattle.std.proofs.lemmas.Bool.Decides.{nat_tests}
use Rattle.format_json_pieces.proofs.Extents.Turns.{plain_more}
use Rattle.format_json_pieces.proofs.extent.skip_plain.Goals as goal

pub plain-preserved : goal.plain-preserved
plain-preserved c =
    plain_more _ _ _ _ c.plain.invariant c.in-Some.ensures.cases.0
    (grind (
      arith,
      nat_tests,
      c.if-first-lt32.false,
      c.if-first-ge128.false,
      c.if-first-eq34.false,
      c.if-first-eq92.false,
    ))
