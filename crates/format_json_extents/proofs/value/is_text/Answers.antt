use Rattle.std.proofs.Common.{arith}
use Rattle.format_json_extents.proofs.Scanning.{no_match_is_not_whole, whole_if_rest_empty}
use Rattle.format_json_extents.proofs.Values.{no_element, rest_after_element, value_starts}
use Rattle.format_json_extents.proofs.Written.Values.{text_standard, through}
use Rattle.format_json_extents.proofs.value.is_text.Goals as goal

pub returns-in-Some-clause-text : goal.returns-in-Some-clause-text
returns-in-Some-clause-text c =
    whole_if_rest_empty c.is_empty.result
    (rest_after_element (value_starts c.args.level) c.skip_whitespace.ensures c.in-Some.ensures
    c.skip_whitespace-in-Some.ensures) c.is_empty.ensures

pub returns-in-None-clause-text : goal.returns-in-None-clause-text
returns-in-None-clause-text c = (
  λ yes. cc,
  λ is. absurd (no_match_is_not_whole
      (no_element (value_starts c.args.level) c.skip_whitespace.ensures
      c.in-None.ensures) is),
)

pub returns-in-Some-clause-standard : goal.returns-in-Some-clause-standard
returns-in-Some-clause-standard c = λ utf8.
    through (returns-in-Some-clause-text c)
    (text_standard c.args.level c.args.bytes.now (omega arith) utf8)

pub returns-in-None-clause-standard : goal.returns-in-None-clause-standard
returns-in-None-clause-standard c = λ utf8.
    through (returns-in-None-clause-text c)
    (text_standard c.args.level c.args.bytes.now (omega arith) utf8)
