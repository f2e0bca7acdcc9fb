use Rattle.std.proofs.Common.{refl}
use Rattle.format_resp.proofs.AfterLines.{line_any}
use Rattle.format_resp.proofs.heads.line_head.Goals as goal

pub returns-in-Some-clause-head : goal.returns-in-Some-clause-head
returns-in-Some-clause-head c all = (
  c.ends_with.ensures,
  line_any c.args.mark c.in-Some.reply c.args.line.now (c.in-Some.ensures.some all),
)

pub returns-in-None-clause-rejected : goal.returns-in-None-clause-rejected
returns-in-None-clause-rejected c = (
  λ head (is, (reply, says)).
      let (other, also) = line_any c.args.mark reply c.args.line.now says in
      c.in-None.ensures.none refl other also,
  c.line_reason.ensures,
)
