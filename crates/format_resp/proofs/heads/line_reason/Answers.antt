use Rattle.format_resp.proofs.FirstLines.{no_number}
use Rattle.format_resp.proofs.heads.line_reason.Goals as goal

pub returns-then-is_big_number : goal.returns-then-is_big_number
returns-then-is_big_number c = rw c.in-Colon.is c.if-is_big_number.ensures

pub returns-else-is_big_number : goal.returns-else-is_big_number
returns-else-is_big_number c = rw c.in-Colon.is c.if-is_big_number.ensures

pub returns-in_default : goal.returns-in_default
returns-in_default c = no_number c.args.mark c.args.line.now c.in_default.not-Colon
