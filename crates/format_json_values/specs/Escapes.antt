-- The pieces of strings: what they read, and that it is one, and takes characters.
use Rattle.std.specs.Prelude.{ℕ, None}
use Rattle.std.proofs.Common.{inl}
use Rattle.format_parts.specs.Hexadecimal.{CodeUnit}
use Rattle.format_parts.specs.Unique.{char_takes, char_unique}
use Rattle.format_parts.specs.Words.{Char, latter, pair}
use Rattle.stream_sets.specs.Range.{from_to}
use Rattle.format_json_texts.specs.Strings.{AreSurrogatePair, Character, Escape, IsUnescaped}
use Rattle.format_json_texts.specs.Strings.{Quoted, StandsFor, Unicode}
use Rattle.parser_definitions.specs.Projects.Tokens.{token_takes}
use Rattle.grammars.specs.Grammar.{Both, Gathered, Grammar, InClass, IsUnique, Many, TakesTokens}
use Rattle.grammars.specs.Grammar.{Token}
use Rattle.grammars.specs.Grammar.Meaning.{Meaning, meaning_takes, meaning_unique}
use Rattle.grammars.specs.Grammar.Outputs.{IsAlike, both_alike, second_alike}
use Rattle.grammars.specs.Grammar.Sequences.{three_take, three_unique}
use Rattle.grammars.specs.Grammar.Unique.{both_take, both_unique, either_takes, either_unique}
use Rattle.grammars.specs.Grammar.Unique.{gathered_unique, many_unique, token_of_unique}
use Rattle.grammars.specs.Grammar.Unique.{token_unique}
use Rattle.stream_sets.specs.Accumulator.Holds.{HasCharacters}
use Rattle.format_parts.specs.Hexadecimal.{alone_takes, alone_unique, unit_one, unit_takes}
use Rattle.format_parts.specs.Hexadecimal.{unit_unique}

-- ---- units

-- two units, the second after another backslash and u
abbrev pub Units : Grammar ℕ (ℕ × ℕ)
Units = Both pair CodeUnit (Both latter (Both pair (Char 92) (Char 117)) CodeUnit)

second_unique : IsUnique (Both latter (Both pair (Char 92) (Char 117)) CodeUnit)
second_unique =
    both_unique latter (both_unique pair (char_unique 92) (char_unique 117)) unit_unique

pub units_unique : IsUnique Units
units_unique = both_unique pair unit_unique second_unique

pub units_takes : TakesTokens Units
units_takes = both_take pair unit_unique second_unique (inl unit_takes)

pub units_one : IsAlike (λ u. u) Units
units_one =
    both_alike pair unit_unique unit_one
    (second_alike (λ u. u) (both_unique pair (char_unique 92) (char_unique 117)) unit_one)

-- ---- escapes

pub pair_unique : IsUnique (Meaning AreSurrogatePair Units)
pair_unique = meaning_unique AreSurrogatePair units_unique

pub pair_takes : TakesTokens (Meaning AreSurrogatePair Units)
pair_takes = meaning_takes AreSurrogatePair units_takes

pub unicode_unique : IsUnique Unicode
unicode_unique = either_unique alone_unique pair_unique

pub unicode_takes : TakesTokens Unicode
unicode_takes = either_takes alone_takes pair_takes

pub short_unique : IsUnique (Meaning StandsFor (Token (λ c. c)))
short_unique = meaning_unique StandsFor (token_unique (λ c. c))

pub short_takes : TakesTokens (Meaning StandsFor (Token (λ c. c)))
short_takes = meaning_takes StandsFor (token_takes (λ c. c))

escaped_unique : IsUnique (Both latter (Char 117) Unicode)
escaped_unique = both_unique latter (char_unique 117) unicode_unique

pub escape_unique : IsUnique Escape
escape_unique =
    both_unique latter (char_unique 92) (either_unique short_unique escaped_unique)

pub escape_takes : TakesTokens Escape
escape_takes =
    both_take latter (char_unique 92) (either_unique short_unique escaped_unique)
    (inl (char_takes 92))

-- ---- strings

pub character_unique : IsUnique Character
character_unique =
    either_unique (token_of_unique (λ c. c) (InClass IsUnescaped (λ c. c)) tt) escape_unique

module _ {A : Type 0} where
  pub characters_unique :
      IsUnique (Gathered (HasCharacters {A = A}) (Many Character (from_to 0 None)))
  characters_unique =
      gathered_unique HasCharacters (many_unique character_unique (from_to 0 None))

  pub quoted_unique : IsUnique (Quoted {A = A} HasCharacters)
  quoted_unique =
      three_unique (λ o1 o2 o3. o2) (char_unique 34) characters_unique (char_unique 34)

  pub quoted_takes : TakesTokens (Quoted {A = A} HasCharacters)
  quoted_takes =
      three_take (λ o1 o2 o3. o2) (char_unique 34) characters_unique (char_unique 34)
      (inl (char_takes 34))
