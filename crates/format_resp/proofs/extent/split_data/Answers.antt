use Rattle.format_resp.proofs.Strings.{data_ended, data_open, data_refused, data_short}
use Rattle.format_resp.proofs.extent.split_data.Goals as goal

pub returns-in-None : goal.returns-in-None
returns-in-None c = data_short c.args.size c.args.bytes.now c.in-None.ensures.cases

pub returns-in-Err : goal.returns-in-Err
returns-in-Err c =
    let (is, none) = c.in-Err.ensures.told in (
      is,
      data_refused c.args.size c.args.bytes.now c.in-Some.text c.in-Some.behind.now
          c.in-Some.ensures.cases none,
    )

pub returns-in-Ok-None : goal.returns-in-Ok-None
returns-in-Ok-None c =
    let (x, more, e) = rw c.in-Ok-None.field-0-is at c.in-Ok-None.ensures.told in
    data_open c.args.size c.args.bytes.now c.in-Some.text c.in-Some.behind.now
    c.in-Some.ensures.cases x more e

pub returns-in-Ok-Some : goal.returns-in-Ok-Some
returns-in-Ok-Some c =
    data_ended c.args.size c.args.bytes.now c.in-Some.text c.in-Some.behind.now
    c.in-Some.ensures.cases c.in-Ok-Some.left.now
    (rw c.in-Ok-Some.field-0-is at c.in-Ok-Some.ensures.told)
