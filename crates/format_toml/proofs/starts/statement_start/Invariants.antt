use denote.Text.{Utf8}
use denote.Shadow.{shadow}
use Rattle.std.proofs.Common.{List, length, ℕ}
use Rattle.std.specs.Str.{chars}
use Rattle.format_toml.specs.Starts.{StatementStarts}
use Rattle.format_toml.specs.contracts.starts.statement_start.{A-type}
use Rattle.format_toml.proofs.starts.statement_start.Given as goal

-- each turn passes a line
abbrev pub decreases-loop-has_statement : goal.decreases-loop-has_statement
decreases-loop-has_statement g l = length (chars l.left)

-- the statement that is sought in the text is the one of that number in the rest
abbrev pub invariant-loop-has_statement : goal.invariant-loop-has_statement
invariant-loop-has_statement g l =
    shadow (Utf8 l.left)
    × ((line : List ℕ)
    → StatementStarts (A-type g.row.A) l.level l.before (chars l.left) line
    → StatementStarts (A-type g.row.A) l.level l.number (chars l.text) line)
    × ((line : List ℕ)
    → StatementStarts (A-type g.row.A) l.level l.number (chars l.text) line
    → StatementStarts (A-type g.row.A) l.level l.before (chars l.left) line)
