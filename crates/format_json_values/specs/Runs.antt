-- The characters of a string, by runs of those that stand for themselves and escapes between two.
use Rattle.std.specs.Prelude.{ℕ, List}
use Rattle.std.specs.Prelude.{None}
use Rattle.std.specs.Borrow.{Bor}
use Rattle.std.specs.declared.string.String.{String}
use Rattle.streams.specs.Text.{text_reading}
use Rattle.stream_sets.specs.Range.{from_to}
use Rattle.format_json_texts.specs.Strings.{Character, IsUnescaped}
use Rattle.grammars.specs.Grammar.{Gathered, Grammar, Many}
use Rattle.winnow_grammar.specs.RunByRun as runs
use Rattle.winnow_grammar.specs.RunByRun.{RunOf}
use Rattle.stream_sets.specs.Accumulator.Holds.{HasCharacters}

-- zero or more characters, held by a string
abbrev pub Characters : {A : Type 0} → Grammar ℕ (String A)
Characters = Gathered HasCharacters (Many Character (from_to 0 None))

-- ---- runs

-- the longest run of unescaped characters, and its slice
abbrev pub PlainRun : Grammar ℕ (Bor (List ℕ))
PlainRun = RunOf text_reading IsUnescaped (λ c. IsUnescaped c → ⊥)
