-- Loop invariant: the string holds the characters that were read, and the rest is a suffix of the
-- input.
use Rattle.std.proofs.Common.{length}
use Rattle.std.specs.Str.{chars}
use Rattle.streams.specs.Input.{IsEndOf}
use Rattle.streams.specs.Text.{text_input, text_reading}
use Rattle.format_json_values.proofs.RunsLemmas.{HasRead}
use Rattle.format_json_values.proofs.string.read_characters.Given as goal

abbrev pub invariant-runs : goal.invariant-runs
invariant-runs g l = record {
  read : HasRead (chars l.fn.input.now) l.text (chars l.input.now);
  ends : IsEndOf text_reading (text_input l.input.now) (text_input l.fn.input.now);
}

-- each turn but the last takes an escape
abbrev pub decreases-runs : goal.decreases-runs
decreases-runs g l = length (chars l.input.now)
