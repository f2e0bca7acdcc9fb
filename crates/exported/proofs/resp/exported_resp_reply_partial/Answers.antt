use Rattle.format_resp.specs.declared.extent.Reason.TheVariants.{Malformed, TooDeep, TooLarge}
use Rattle.exported.proofs.resp.exported_resp_reply_partial.Goals as goal

pub returns-clause-refused : goal.returns-clause-refused
returns-clause-refused c e = c.read.ensures.rejected Malformed e

pub returns-clause-large : goal.returns-clause-large
returns-clause-large c e = c.read.ensures.rejected TooLarge e

pub returns-clause-nested : goal.returns-clause-nested
returns-clause-nested c e = c.read.ensures.rejected TooDeep e

pub returns-clause-incomplete : goal.returns-clause-incomplete
returns-clause-incomplete c e = (c.read.ensures.waits e).0
