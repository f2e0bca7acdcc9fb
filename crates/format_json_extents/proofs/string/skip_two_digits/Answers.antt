use Rattle.std.proofs.Common.{rules}
use Rattle.format_json_extents.proofs.Matching.{never_starts_with_no_byte, no_match_of_first}
use Rattle.format_json_extents.proofs.Scanning.{then_scans}
use Rattle.format_json_extents.specs.Strings.{IsTwoHexDigits}
use Rattle.format_json_extents.specs.Texts.{NoByte, NoMatchAtStart}
use Rattle.format_json_extents.proofs.string.skip_two_digits.Goals as goal

pub returns-in_err-one : goal.returns-in_err-one
returns-in_err-one c =
    let none : NoMatchAtStart IsTwoHexDigits c.args.bytes.now =
    no_match_of_first c.in_err-one.ensures in
    search rules

pub returns : goal.returns
returns c =
    then_scans NoByte c.skip_digit-2.result never_starts_with_no_byte c.in_ok-one.ensures
    c.skip_digit-2.ensures
