use Rattle.std.proofs.Common.{refl, rules}
use Rattle.format_json_extents.proofs.Matching.{never_starts_with_no_byte, no_given_byte}
use Rattle.format_json_extents.proofs.Matching.{no_match_of_first, no_match_of_second}
use Rattle.format_json_extents.proofs.Matching.{rest_after_byte}
use Rattle.format_json_extents.proofs.Scanning.{then_scans}
use Rattle.format_json_extents.specs.Strings.{IsSurrogatePair}
use Rattle.format_json_extents.specs.Texts.{NoByte, NoMatchAtStart}
use Rattle.format_json_extents.proofs.string.skip_pair.Goals as goal

pub returns-in_err-high : goal.returns-in_err-high
returns-in_err-high c =
    let none : NoMatchAtStart IsSurrogatePair c.args.bytes.now =
    no_match_of_first c.in_err-high.ensures in
    search rules

pub returns-in_err-escape : goal.returns-in_err-escape
returns-in_err-escape c =
    let none : NoMatchAtStart IsSurrogatePair c.args.bytes.now =
    no_match_of_second never_starts_with_no_byte c.in_ok-high.ensures
    (no_match_of_first (no_given_byte 92 c.in_err-escape.ensures)) in
    search rules

pub returns-in_err-low : goal.returns-in_err-low
returns-in_err-low c =
    let none : NoMatchAtStart IsSurrogatePair c.args.bytes.now =
    no_match_of_second never_starts_with_no_byte c.in_ok-high.ensures
    (no_match_of_second never_starts_with_no_byte (rest_after_byte c.in_ok-escape.ensures refl)
    (no_match_of_first (no_given_byte 117 c.in_err-low.ensures))) in
    search rules

pub returns : goal.returns
returns c =
    let result = c.skip_unit-2.result in
    then_scans NoByte result never_starts_with_no_byte c.in_ok-high.ensures
    (then_scans NoByte result never_starts_with_no_byte
    (rest_after_byte c.in_ok-escape.ensures refl)
    (then_scans NoByte result never_starts_with_no_byte
    (rest_after_byte c.in_ok-low.ensures refl) c.skip_unit-2.ensures))
