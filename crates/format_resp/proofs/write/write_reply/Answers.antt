use Rattle.std.proofs.Common.{◌∙◌}
use Rattle.format_resp.proofs.Writing.{cut_back, adds_text}
use Rattle.format_resp.proofs.write.write_reply.Goals as goal

pub returns-in-Ok-clause-text : goal.returns-in-Ok-clause-text
returns-in-Ok-clause-text g c = adds_text c.args.protocol c.args.level c.in-Ok.ensures.written

pub returns-in-Err-clause-kept : goal.returns-in-Err-clause-kept
returns-in-Err-clause-kept g c =
    cut_back c.in-Err.ensures.kept (c.len-before.ensures ∙ c.args.into.now.ok.0)
    c.truncate.ensures.items
