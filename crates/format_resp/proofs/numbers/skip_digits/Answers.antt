use Rattle.std.proofs.Common.{inl, inr, refl}
use Rattle.format_resp.proofs.LeafTexts.{not_wanting}
use Rattle.format_resp.proofs.NumberTexts.{digits_none, digits_there}
use Rattle.format_resp.proofs.numbers.skip_digits.Goals as goal

pub returns-in-Ok : goal.returns-in-Ok
returns-in-Ok c =
    digits_there c.args.bytes.now c.read_digits.new.bytes.now c.in-Ok.field-0
    (c.in-Ok.ensures.reads.stands refl)

pub returns-in-Err : goal.returns-in-Err
returns-in-Err c = elim (c.in-Err.ensures.reads.none refl) [
  | inl want ↦ absurd (not_wanting _ want (c.in-Err.ensures.spared refl))
  | inr (b, none) ↦ digits_none c.args.bytes.now none
]
