use Rattle.std.proofs.Common.{◌-◌, arith, drop, length, length-drop, refl}
use Rattle.std.proofs.lemmas.List.{take_all}
use Rattle.format_ini.proofs.Passing.{line_fed, line_last}
use Rattle.format_ini.proofs.places.line_at.Goals as goal

pub returns-then-size-left : goal.returns-then-size-left
returns-then-size-left c =
    let bytes = c.args.bytes.now in
    let offset = c.args.offset in
    let n = length bytes - offset in
    let here = take_all n (drop offset bytes) (omega (arith, length-drop offset bytes)) in
    line_fed _ _ _ _ _ _ (omega arith) here c.line_len-size.ensures refl c.if-size-left.true refl

pub returns-else-size-left : goal.returns-else-size-left
returns-else-size-left c =
    let bytes = c.args.bytes.now in
    let offset = c.args.offset in
    let n = length bytes - offset in
    let here = take_all n (drop offset bytes) (omega (arith, length-drop offset bytes)) in
    line_last _ _ _ _ _ _ (omega arith) here c.line_len-size.ensures refl (λ more. omega (
      arith,
      more,
      c.if-size-left.false,
    )) refl
