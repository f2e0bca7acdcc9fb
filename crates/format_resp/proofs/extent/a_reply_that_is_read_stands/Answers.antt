use Rattle.format_resp.proofs.Dues.{stands_any}
use Rattle.format_resp.proofs.extent.a_reply_that_is_read_stands.Goals as goal

pub returns : goal.returns
returns g c protocol level reply tokens rest = stands_any protocol level reply tokens rest
