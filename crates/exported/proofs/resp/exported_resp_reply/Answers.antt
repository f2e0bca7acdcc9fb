use Rattle.std.proofs.Common.{arith, inl, inr, refl}
use Rattle.format_resp.specs.declared.extent.Reason.TheVariants.{Malformed, TooDeep, TooLarge}
use Rattle.exported.proofs.Replies.{without_wait}
use Rattle.exported.proofs.resp.exported_resp_reply.Goals as goal

pub returns-then-code-eq-INCOMPLETE-clause-refused :
    goal.returns-then-code-eq-INCOMPLETE-clause-refused
returns-then-code-eq-INCOMPLETE-clause-refused c e =
    inr ((c.read-code.ensures.waits c.if-code-eq-INCOMPLETE.true).0, refl)

pub returns-then-code-eq-INCOMPLETE-clause-deep : goal.returns-then-code-eq-INCOMPLETE-clause-deep
returns-then-code-eq-INCOMPLETE-clause-deep c = (
  λ e. absurd (omega (arith, e)),
  λ large. absurd (omega (
    arith,
    c.read-code.ensures.deep.1 large,
    c.if-code-eq-INCOMPLETE.true,
  )),
)

pub returns-clause-refused : goal.returns-clause-refused
returns-clause-refused c e =
    inl (c.read-code.ensures.rejected Malformed e)

pub returns-clause-large : goal.returns-clause-large
returns-clause-large c e = c.read-code.ensures.rejected TooLarge e

pub returns-clause-nested : goal.returns-clause-nested
returns-clause-nested c e = c.read-code.ensures.rejected TooDeep e

pub returns-clause-codes : goal.returns-clause-codes
returns-clause-codes c =
    without_wait _ c.if-code-eq-INCOMPLETE.false c.read-code.ensures.codes
