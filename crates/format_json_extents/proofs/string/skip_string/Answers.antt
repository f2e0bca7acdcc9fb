use Rattle.std.proofs.Common.{refl, rules}
use Rattle.format_json_extents.proofs.Matching.{never_starts_with_no_byte, no_given_byte}
use Rattle.format_json_extents.proofs.Matching.{no_match_of_first, rest_after_byte}
use Rattle.format_json_extents.proofs.Scanning.{then_scans}
use Rattle.format_json_extents.specs.Strings.{IsString}
use Rattle.format_json_extents.specs.Texts.{NoByte, NoMatchAtStart}
use Rattle.format_json_extents.proofs.string.skip_string.Goals as goal

pub returns-in_err-inside : goal.returns-in_err-inside
returns-in_err-inside c =
    let none : NoMatchAtStart IsString c.args.bytes.now =
    no_match_of_first (no_given_byte 34 c.in_err-inside.ensures) in
    search rules

pub returns : goal.returns
returns c =
    then_scans NoByte c.skip_string_tail.result never_starts_with_no_byte
    (rest_after_byte c.in_ok-inside.ensures refl)
    c.skip_string_tail.ensures
