use Rattle.format_resp.proofs.FirstBytes.{of_resp3}
use Rattle.format_resp.proofs.marks.is_in.Goals as goal

pub returns-in-Resp2 : goal.returns-in-Resp2
returns-in-Resp2 c = rw c.in-Resp2.is c.is_in_resp2.ensures

pub returns-in-Resp3 : goal.returns-in-Resp3
returns-in-Resp3 c = rw c.in-Resp3.is (of_resp3 c.args.mark)
