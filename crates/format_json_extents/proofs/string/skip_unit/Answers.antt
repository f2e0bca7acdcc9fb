use Rattle.std.proofs.Common.{◌∙◌, ◌∷◌, ◌≡◌, ap, arith, length, rules}
use Rattle.format_json_extents.proofs.Matching.{never_starts_with_no_byte, no_match_of_first}
use Rattle.format_json_extents.proofs.Scalars.{two_leaves, two_none, unit_short}
use Rattle.format_json_extents.proofs.Scanning.{refuted_by_test, then_scans}
use Rattle.format_json_extents.specs.Strings.{BeginCodeUnit, IsCodeUnit}
use Rattle.format_json_extents.specs.Texts.{NoByte, NoMatchAtStart}
use Rattle.format_json_extents.proofs.string.skip_unit.Goals as goal

pub returns-in_err-first : goal.returns-in_err-first
returns-in_err-first c =
    let empty : length c.args.bytes.now ≡ 0 = search rules in
    let none : NoMatchAtStart (IsCodeUnit (BeginCodeUnit c.args.unit)) c.args.bytes.now =
    unit_short (omega (arith, empty)) in
    search rules

pub returns-in_err-second : goal.returns-in_err-second
returns-in_err-second c =
    let empty : length c.in_ok-first.more.now ≡ 0 = search rules in
    let none : NoMatchAtStart (IsCodeUnit (BeginCodeUnit c.args.unit)) c.args.bytes.now =
    unit_short (omega (arith, empty, ap (λ l. length l) c.in_ok-first.ensures.cases.0)) in
    search rules

pub returns-then-begins : goal.returns-then-begins
returns-then-begins c =
    let first = c.in_ok-first.first.now in
    let e = c.in_ok-first.ensures.cases.0
    ∙ ap (λ l. first ∷ l) c.in_ok-second.ensures.cases.0 in
    then_scans NoByte c.skip_two_digits.result never_starts_with_no_byte
    (two_leaves e (c.begins.ensures.0 c.if-begins.true)) c.skip_two_digits.ensures

pub returns-else-begins : goal.returns-else-begins
returns-else-begins c =
    let first = c.in_ok-first.first.now in
    let e = c.in_ok-first.ensures.cases.0
    ∙ ap (λ l. first ∷ l) c.in_ok-second.ensures.cases.0 in
    no_match_of_first (two_none e (refuted_by_test c.begins.ensures c.if-begins.false))
