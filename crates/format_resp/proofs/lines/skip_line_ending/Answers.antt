use Rattle.format_resp.proofs.Strings.{end_none, end_return}
use Rattle.format_resp.proofs.lines.skip_line_ending.Goals as goal

pub returns-in-None-clause-told : goal.returns-in-None-clause-told
returns-in-None-clause-told c = end_none c.args.bytes.now c.in-None.ensures.cases

pub returns-in-None-split_first-clause-told : goal.returns-in-None-split_first-clause-told
returns-in-None-split_first-clause-told c =
    end_return c.args.bytes.now c.in-Some.more.now c.in-Some.first.now c.in-Some.ensures.cases.0
    c.if-first-ne13.false c.in-None-split_first.ensures.cases
