use Rattle.std.proofs.Common.{refl}
use Rattle.format_resp.proofs.Strings.{string_less, string_none, string_stands, string_unfit}
use Rattle.format_resp.proofs.extent.skip_string.Goals as goal

pub returns-in-Err-clause-told : goal.returns-in-Err-clause-told
returns-in-Err-clause-told c =
    let (is, none) = c.in-Err.ensures in
    (is, string_none c.args.bulk c.args.bytes.now none)

pub returns-in-Ok-None-clause-told : goal.returns-in-Ok-None-clause-told
returns-in-Ok-None-clause-told c = rw c.in-Ok-None.field-0-is at c.in-Ok-None.ensures

pub returns-then-fits-clause-told : goal.returns-then-fits-clause-told
returns-then-fits-clause-told c =
    string_stands c.args.bulk c.args.bytes.now c.in-Ok-Some.text c.in-Ok-Some.left.now
    c.if-fits.ensures (rw c.in-Ok-Some.field-0-is at c.in-Ok-Some.ensures)

pub returns-else-fits-clause-told : goal.returns-else-fits-clause-told
returns-else-fits-clause-told c = (
  refl,
  string_unfit c.args.bulk c.args.bytes.now c.in-Ok-Some.text c.in-Ok-Some.left.now
      c.if-fits.ensures (rw c.in-Ok-Some.field-0-is at c.in-Ok-Some.ensures),
)

pub returns-then-fits-clause-less : goal.returns-then-fits-clause-less
returns-then-fits-clause-less c =
    string_less c.args.bulk c.args.bytes.now c.in-Ok-Some.text c.in-Ok-Some.left.now
    (rw c.in-Ok-Some.field-0-is at c.in-Ok-Some.ensures)
