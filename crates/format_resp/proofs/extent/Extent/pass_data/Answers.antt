use Rattle.std.proofs.Common.{refl}
use Rattle.format_resp.proofs.Passing.{string_never, string_open, string_part}
use Rattle.format_resp.proofs.Strings.{part_none}
use Rattle.format_resp.proofs.extent.Extent.pass_data.Goals as goal

pub returns-in-Err-clause-told : goal.returns-in-Err-clause-told
returns-in-Err-clause-told c p =
    let (is, none) = c.in-Err.ensures.told in
    string_never c.args.protocol _ _ _ p c.args.bulk _ c.requires.due refl is none

pub returns-in-Ok-None-clause-told : goal.returns-in-Ok-None-clause-told
returns-in-Ok-None-clause-told c p =
    let part = rw c.in-Ok-None.field-0-is at c.in-Ok-None.ensures.told in (
      p,
      string_open c.args.protocol _ _ _ p c.args.bulk c.requires.due
          (part_none c.args.bulk c.args.rest.now part),
      rw c.requires.due part,
    )

pub returns-in-Ok-Some-clause-told : goal.returns-in-Ok-Some-clause-told
returns-in-Ok-Some-clause-told c p =
    let (bytes, first) = rw c.in-Ok-Some.field-0-is at c.in-Ok-Some.ensures.told in
    string_part c.args.protocol _ _ _ p _ c.args.bulk bytes c.in-Ok-Some.left.now c.requires.due
    first refl refl refl refl
