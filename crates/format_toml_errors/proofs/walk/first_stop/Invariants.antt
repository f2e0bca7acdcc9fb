use denote.Text.{Utf8}
use denote.Shadow.{shadow}
use Rattle.std.proofs.Common.{length}
use Rattle.std.specs.Str.{chars}
use Rattle.format_toml_errors.proofs.Starts.{Start}
use Rattle.format_toml_errors.proofs.Walked.{Walked}
use Rattle.format_toml_errors.proofs.walk.first_stop.Given as goal

abbrev pub invariant-characters : goal.invariant-characters
invariant-characters g l =
    shadow (Utf8 l.left) × shadow (Utf8 l.start)
    × Walked l.level (chars l.text) (chars l.left) l.mode l.brackets.items
    × Start (chars l.text) (chars l.left) l.mode l.brackets.items l.starts.items
    (chars l.start)

-- each step passes a character
abbrev pub decreases-characters : goal.decreases-characters
decreases-characters g l = length (chars l.left)
