-- Proofs that grammars leave a unique rest, and that some of them consume characters.
use Rattle.std.specs.Prelude.{⊤, ℕ, zero, suc}
use Rattle.std.proofs.Common.{inl, inr}
use Rattle.format_parts.specs.Hexadecimal.{unit_one, unit_unique}
use Rattle.format_parts.specs.Unique.{char_takes, char_unique, run_unique, word_unique}
use Rattle.format_parts.specs.Words.{former, latter, pair}
use Rattle.format_toml.specs.Grammars.{AnyItem, AnyKey, AnyValue, Array, BasicPart, BasicString}
use Rattle.format_toml.specs.Grammars.{Character, Inline, Scalar, Entry, Escape, EscapedLine, Gap}
use Rattle.format_toml.specs.Grammars.{Header, Line, LiteralPart, LiteralString, LongBasic}
use Rattle.format_toml.specs.Grammars.{LongLiteral, Name, Newline, Skips, Table, Unquoteds}
use Rattle.format_toml.specs.Grammars.{WideMark, WideUnits}
use Rattle.format_toml.specs.Led.{led_unique}
use Rattle.format_toml.specs.LongGrammars.{Quote}
use Rattle.format_toml.specs.Toml.{IsArray, IsInline, IsOf, IsWide, SetResult}
use Rattle.format_toml.specs.declared.characters.Characters.{Characters}
use Rattle.format_toml.specs.declared.characters.Characters.TheVariants.{Basic, Literal}
use Rattle.grammars.specs.Grammar.{Grammar, IsUnique, Longest, TakesTokens}
use Rattle.format_toml_tree.specs.declared.value.Value.{Value}
use Rattle.grammars.specs.Grammar.Meaning.{Meaning, meaning_unique}
use Rattle.grammars.specs.Grammar.Outputs.{IsAlike, both_alike}
use Rattle.grammars.specs.Grammar.Sequences.{four_unique, three_unique}
use Rattle.grammars.specs.Grammar.Unique.{ahead_unique, both_take, both_unique, either_takes}
use Rattle.grammars.specs.Grammar.Unique.{either_unique, gathered_unique, many_unique}
use Rattle.grammars.specs.Grammar.Unique.{optional_unique, parted_unique, taken_unique}
use Rattle.grammars.specs.Grammar.Unique.{token_of_unique, token_unique, unique_nothing}
use Rattle.stream_sets.specs.Range.{Bounds}
use Rattle.streams.specs.Text.{text_reading}
use Rattle.winnow_ascii.specs.Class.{class_once}
use Rattle.winnow_token.specs.OneOf.Laws.{token_of_takes}
use Rattle.winnow_token.specs.TakeWhile.{longest_unique}

-- characters of a set, as they are in the text
pub members_unique : (set : Characters) (bounds : Bounds)
    → IsUnique (Longest text_reading (λ c. c) SetResult set bounds)
members_unique set bounds =
    longest_unique text_reading (λ c. c) SetResult set bounds
    (class_once {S = ⊤} (IsOf set) 0 (λ c. c) (λ c. c) text_reading (λ c d e. e) tt)

ruleset uniques = (
  ahead_unique,
  both_unique,
  char_unique,
  either_unique,
  four_unique,
  gathered_unique,
  led_unique,
  many_unique,
  meaning_unique,
  members_unique,
  optional_unique,
  parted_unique,
  run_unique,
  taken_unique,
  three_unique,
  token_of_unique,
  token_unique,
  unique_nothing,
  unit_unique,
  word_unique,
)

-- ---- whitespace

pub newline_unique : IsUnique Newline
newline_unique = search uniques depth 40

pub newline_takes : TakesTokens Newline
newline_takes =
    either_takes (char_takes 10)
    (both_take latter (char_unique 13) (char_unique 10) (inl (char_takes 13)))

pub gap_unique : IsUnique Gap
gap_unique = search uniques depth 40

pub wide_mark_unique : (c : ℕ) → IsUnique (WideMark c)
wide_mark_unique c = search uniques depth 40

-- ---- strings

pub wide_unique : IsUnique WideUnits
wide_unique = search uniques depth 40

pub wide_one : IsAlike (λ u. u) WideUnits
wide_one = both_alike pair unit_unique unit_one unit_one

pub wide_code_unique : IsUnique (Meaning IsWide WideUnits)
wide_code_unique = search uniques depth 40

pub escape_unique : IsUnique Escape
escape_unique = search uniques depth 40

pub character_unique : IsUnique Character
character_unique = search uniques depth 40

pub character_takes : TakesTokens Character
character_takes =
    either_takes (token_of_takes (λ c. c) SetResult Basic)
    (both_take latter (char_unique 92) escape_unique (inl (char_takes 92)))

pub quote_unique : (quote : ℕ) → IsUnique (Quote quote)
quote_unique quote = search uniques depth 40

pub quote_takes : (quote : ℕ) → TakesTokens (Quote quote)
quote_takes quote =
    both_take former (char_unique quote) (ahead_unique _) (inl (char_takes quote))

pub escaped_line_unique : IsUnique EscapedLine
escaped_line_unique = search uniques depth 40

pub escaped_line_takes : TakesTokens EscapedLine
escaped_line_takes =
    both_take latter (char_unique 92) (search uniques depth 40) (inl (char_takes 92))

pub skips_unique : IsUnique Skips
skips_unique = search uniques depth 40

pub literal_part_unique : IsUnique LiteralPart
literal_part_unique = search uniques depth 40

pub literal_part_takes : TakesTokens LiteralPart
literal_part_takes =
    both_take latter (unique_nothing tt) (search uniques depth 40) (inr (either_takes
    (either_takes (token_of_takes (λ c. c) SetResult Literal) newline_takes) (quote_takes 39)))

pub basic_part_unique : IsUnique BasicPart
basic_part_unique = search uniques depth 40

pub basic_part_takes : TakesTokens BasicPart
basic_part_takes =
    both_take latter skips_unique (search uniques depth 40)
    (inr (either_takes (either_takes character_takes newline_takes) (quote_takes 34)))

-- ---- values and lines

pub unquoteds_unique : IsUnique Unquoteds
unquoteds_unique = search uniques depth 40

module _ {A : Type 0} where
  pub long_literal_unique : IsUnique (LongLiteral {A = A})
  long_literal_unique = search uniques depth 40

  pub long_basic_unique : IsUnique (LongBasic {A = A})
  long_basic_unique = search uniques depth 40

  pub basic_unique : IsUnique (BasicString {A = A})
  basic_unique = search uniques depth 40

  pub literal_unique : IsUnique (LiteralString {A = A})
  literal_unique = search uniques depth 40

  pub name_unique : IsUnique (Name {A = A})
  name_unique = search uniques depth 40

  pub key_unique : IsUnique (AnyKey {A = A})
  key_unique = search uniques depth 40

  scalar_unique : IsUnique (Scalar {A = A})
  scalar_unique = search (unquoteds_unique, uniques) depth 40

  array_unique : {g : Grammar ℕ (Value A)} → IsUnique g → IsUnique (Array g)
  array_unique unique =
      three_unique (λ o1 o2 o3. o2) (search uniques depth 40) (optional_unique
      (both_unique former (search uniques depth 40) (search uniques depth 40))) (char_unique 93)

  inline_unique : {g : Grammar ℕ (Value A)} → IsUnique g → IsUnique (Inline g)
  inline_unique unique = search (key_unique, uniques) depth 40

  pub value_unique : (level : ℕ) → IsUnique (AnyValue {A = A} level)
  unfolding AnyValue
  value_unique zero = scalar_unique
  value_unique (suc level) =
      led_unique _ (meaning_unique IsArray (array_unique (value_unique level)))
      (led_unique _ (meaning_unique IsInline (inline_unique (value_unique level))) scalar_unique)

  pub entry_unique : (level : ℕ) → IsUnique (Entry {A = A} level)
  entry_unique level = search (key_unique, value_unique, uniques) depth 40

  pub header_unique : IsUnique (Header {A = A})
  header_unique = search (key_unique, uniques) depth 40

  pub table_unique : IsUnique (Table {A = A})
  table_unique = search (header_unique, uniques) depth 40

  pub item_unique : (level : ℕ) → IsUnique (AnyItem {A = A} level)
  item_unique level = search (table_unique, entry_unique, uniques) depth 40

  pub line_unique : (level : ℕ) → IsUnique (Line {A = A} level)
  line_unique level = search (item_unique, uniques) depth 40
