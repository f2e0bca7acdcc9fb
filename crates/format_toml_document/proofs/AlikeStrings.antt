-- Strings and keys of the same text are equivalent.
use Rattle.std.specs.Prelude.{◌≡◌, ◌+◌, ◌*◌, ℕ, [], ◌∷◌}
use Rattle.std.specs.declared.string.String.{String}
use Rattle.std.specs.declared.vec.Vec.{Vec}
use Rattle.std.proofs.Common.{sym, ap, subst₂, ◌∙◌, arith}
use Rattle.format_parts.specs.Hexadecimal.{IsAlone, unit_one}
use Rattle.format_parts.specs.Unique.{char_unique, run_unique, token_one}
use Rattle.format_parts.specs.Words.{Char, former, pair}
use Rattle.format_toml.specs.Grammars.{AnyBasic, AnyKey, AnyLiteral, BasicContent, BasicPart}
use Rattle.format_toml.specs.Grammars.{BasicString, Character, Escape, LiteralContent, LiteralPart}
use Rattle.format_toml.specs.Grammars.{AnyCharacters, LiteralString, Name, Newline, NoSkips, Skips}
use Rattle.format_toml.specs.LongGrammars.{Long, Part}
use Rattle.format_toml.specs.Toml.{IsKey, IsWide, SetResult, StandsFor}
use Rattle.format_toml.specs.Unique.{basic_part_unique, character_unique, literal_part_unique}
use Rattle.format_toml.specs.Unique.{name_unique, newline_unique, skips_unique, wide_one}
use Rattle.format_toml.specs.declared.characters.Characters.{Characters}
use Rattle.format_toml.specs.declared.characters.Characters.TheVariants.{Bare, Basic, Literal}
use Rattle.format_toml_document.proofs.AlikeChoices.{led_agrees}
use Rattle.format_toml_document.specs.Alike.{AreAlikeKeys}
use Rattle.grammars.specs.Agreed.{Agrees, between_agrees, either_agrees, former_agrees}
use Rattle.grammars.specs.Agreed.{gathered_agree, latter_agrees, means_agree, parted_agree}
use Rattle.grammars.specs.Agreed.{same_agrees}
use Rattle.grammars.specs.Pairwise.{ArePairwise, HaveSameBytes}
use Rattle.grammars.specs.Strings.{characters_agree}
use Rattle.grammars.specs.Grammar.{Grammar, IsUnique, TokenOf}
use Rattle.grammars.specs.Grammar.Outputs.{literal_alike, token_of_alike}
use Rattle.grammars.specs.Grammar.Sequences.{three_unique}
use Rattle.grammars.specs.Grammar.Unique.{both_unique, optional_unique, token_of_unique}
use Rattle.grammars.specs.Grammar.Unique.{unique_nothing}
use Rattle.stream_sets.specs.AsChar.{IsSpace}
use Rattle.streams.specs.Text.{text_reading}

-- ---- characters

-- outputs are equal
abbrev Same : Grammar ℕ ℕ → Type 0
Same grammar = Agrees (λ o p. o ≡ p) grammar

char_agrees : (c : ℕ) → Same (Char c)
char_agrees c = same_agrees (literal_alike text_reading (λ c xs. xs ≡ c ∷ []) c)

set_agrees : (set : Characters) → Same (TokenOf (λ c. c) SetResult set)
set_agrees set = same_agrees (token_of_alike (λ c. c) SetResult set (λ c d e. e))

newline_agrees : Same Newline
newline_agrees = either_agrees (char_agrees 10) (latter_agrees (char_unique 13) (char_agrees 10))

escape_agrees : Same Escape
escape_agrees =
    led_agrees (λ c. c ≡ 117) (latter_agrees (char_unique 117)
    (means_agree IsAlone (same_agrees unit_one)
    (λ o p u v e x y. x.0 ∙ e ∙ sym y.0)))
    (led_agrees (λ c. c ≡ 85) (latter_agrees (char_unique 85)
    (means_agree IsWide (same_agrees wide_one)
    (λ o p u v e x y. x.0 ∙ ap (λ (q : ℕ × ℕ). q.0 * 65536 + q.1) e ∙ sym y.0)))
    (means_agree StandsFor (same_agrees token_one) (λ o p u v e x y. omega (arith, e, x, y))))

character_agrees : Same Character
character_agrees =
    either_agrees (set_agrees Basic) (latter_agrees (char_unique 92) escape_agrees)

-- ---- strings over lines

part_agrees : (quote : ℕ) {content : Grammar ℕ ℕ} {skips : Grammar ℕ _} → IsUnique skips
    → Same content → Same (Part quote content skips)
part_agrees quote skips content =
    latter_agrees skips (either_agrees content (former_agrees _ (char_agrees quote)))

basic_part_agrees : Same BasicPart
basic_part_agrees =
    part_agrees 34 skips_unique (either_agrees character_agrees newline_agrees)

literal_part_agrees : Same LiteralPart
literal_part_agrees =
    part_agrees 39 (unique_nothing tt) (either_agrees (set_agrees Literal) newline_agrees)

module _ {A : Type 0} where
  -- strings of the same bytes
  abbrev SameBytes : Grammar ℕ (String A) → Type 0
  SameBytes grammar = Agrees HaveSameBytes grammar

  long_agrees : (quote : ℕ) (content : Grammar ℕ ℕ) (skips : Grammar ℕ _)
      → IsUnique (Part quote content skips) → Same (Part quote content skips)
      → SameBytes (Long quote content skips Newline)
  long_agrees quote content skips unique agree =
      between_agrees _ (three_unique (λ a b c. (a, b, c)) (char_unique quote) (char_unique quote)
      (char_unique quote)) (latter_agrees (optional_unique newline_unique)
      (former_agrees skips (characters_agree 0 unique agree)))

  basic_agrees : SameBytes BasicString
  basic_agrees =
      between_agrees _ (char_unique 34) (characters_agree 0 character_unique character_agrees)

  of_set_agrees : (set : Characters) (least : ℕ) → SameBytes (AnyCharacters set least)
  of_set_agrees set least =
      characters_agree least (token_of_unique (λ c. c) SetResult set) (set_agrees set)

  literal_agrees : SameBytes LiteralString
  literal_agrees = between_agrees _ (char_unique 39) (of_set_agrees Literal 0)

  pub any_basic_agrees : SameBytes AnyBasic
  any_basic_agrees =
      either_agrees (long_agrees 34 BasicContent Skips basic_part_unique basic_part_agrees)
      basic_agrees

  pub any_literal_agrees : SameBytes AnyLiteral
  any_literal_agrees =
      either_agrees (long_agrees 39 LiteralContent NoSkips literal_part_unique
      literal_part_agrees) literal_agrees

  -- ---- keys

  name_agrees : SameBytes Name
  name_agrees =
      led_agrees (λ c. c ≡ 34) basic_agrees (led_agrees (λ c. c ≡ 39) literal_agrees
      (of_set_agrees Bare 1))

  pub key_agrees : Agrees (AreAlikeKeys {A = A}) AnyKey
  key_agrees =
      means_agree IsKey (gathered_agree (parted_agree 1
      (both_unique former name_unique (run_unique IsSpace 0))
      (both_unique pair (char_unique 46) (run_unique IsSpace 0)) (former_agrees _ name_agrees)))
      (λ o p k l are e f.
      subst₂ (λ (v w : Vec (String A) A). ArePairwise HaveSameBytes v.items w.items) (sym e) (sym f)
      are)
