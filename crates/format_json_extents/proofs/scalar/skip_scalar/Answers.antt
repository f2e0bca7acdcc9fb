use Rattle.std.proofs.Common.{arith}
use Rattle.format_json_extents.proofs.Matching.{never_starts_with_no_byte, no_match_by_first_byte}
use Rattle.format_json_extents.proofs.Matching.{rest_after_byte}
use Rattle.format_json_extents.proofs.Scalars.{number_or_word_starts, number_scans, number_starts}
use Rattle.format_json_extents.proofs.Scalars.{string_starts, word_starts}
use Rattle.format_json_extents.proofs.Scanning.{first_scans, second_scans, then_scans, wide_scans}
use Rattle.format_json_extents.specs.Texts.{NoByte}
use Rattle.format_json_extents.specs.Value.{ExtendsNumberOf}
use Rattle.format_json_extents.proofs.scalar.skip_scalar.Goals as goal

pub returns-then-first-eq34 : goal.returns-then-first-eq34
returns-then-first-eq34 c =
    let result = c.skip_string_tail.result in
    let e = c.in_ok-first.ensures.cases.0 in
    let is = c.if-first-eq34.true in
    first_scans _ _ (ExtendsNumberOf c.args.bytes.now) _ result
    (no_match_by_first_byte number_or_word_starts e (λ f. grind (arith, f, is)))
    (wide_scans _ (ExtendsNumberOf c.args.bytes.now) _ result
    (then_scans NoByte result never_starts_with_no_byte (rest_after_byte e is)
    c.skip_string_tail.ensures))

pub returns-then-first-le57 : goal.returns-then-first-le57
returns-then-first-le57 c =
    let result = c.skip_number.result in
    let e = c.in_ok-first.ensures.cases.0 in
    let low = c.if-first-le57.true in
    second_scans _ _ (ExtendsNumberOf c.args.bytes.now) _ result
    (no_match_by_first_byte string_starts e c.if-first-eq34.false)
    (first_scans _ _ (ExtendsNumberOf c.args.bytes.now) _ result
    (no_match_by_first_byte word_starts e (λ f. grind (arith, f, low)))
    (number_scans _ result c.skip_number.ensures))

pub returns-else-first-le57 : goal.returns-else-first-le57
returns-else-first-le57 c =
    let result = c.skip_word.result in
    let e = c.in_ok-first.ensures.cases.0 in
    let high = c.if-first-le57.false in
    second_scans _ _ (ExtendsNumberOf c.args.bytes.now) _ result
    (no_match_by_first_byte string_starts e c.if-first-eq34.false)
    (second_scans _ _ (ExtendsNumberOf c.args.bytes.now) _ result
    (no_match_by_first_byte number_starts e (λ f. grind (arith, f, high)))
    (wide_scans _ (ExtendsNumberOf c.args.bytes.now) _ result c.skip_word.ensures))
