-- The grammars of keys and headers are those of what is written.
use Rattle.std.specs.Prelude.{◌≡◌, ◌⊎◌, ℕ, List, [], None}
use Rattle.std.proofs.Common.{refl, inl, inr, arith}
use Rattle.stream_sets.specs.AsChar.{IsSpace}
use Rattle.stream_sets.specs.Range.{from_to}
use Rattle.format_parts.specs.Words.{Between, One, between_of, char_of, for_front, for_of, former}
use Rattle.format_parts.specs.Words.{latter, pair}
use Rattle.format_toml.specs.Grammars.{AnyCharacters, AnyKey, DoubleHeader, Header, LiteralString}
use Rattle.format_toml.specs.Grammars.{Name, Names, Pair, Table}
use Rattle.format_toml.specs.Led.{Led}
use Rattle.format_toml.proofs.Rows.{joined_begins}
use Rattle.format_toml.specs.Toml.{CharactersText, HeaderText, IsBare, IsKey, IsTable, IsTables}
use Rattle.format_toml.specs.Toml.{KeyText, LiteralText, MarkText, NameText, PairText, Spaced}
use Rattle.format_toml.specs.Toml.{TableText, WsText}
use Rattle.format_toml.specs.declared.characters.Characters.TheVariants.{Bare}
use Rattle.format_toml_tree.specs.declared.value.Value.{Value}
use Rattle.grammars.specs.Grammar.{Grammar}
use Rattle.grammars.specs.Texts.{Anything, AtLeast, StartsWith, TextsStartWith, EitherText, InFront}
use Rattle.grammars.specs.Texts.{InList, IsGrammarOf, NotFirst, PartedText, Text}
use Rattle.grammars.specs.Texts.Fronts.{begins_wider, both_front, either_front, front_any}
use Rattle.grammars.specs.Texts.Fronts.{front_begins, in_list_front, may_begin, none_begins}
use Rattle.grammars.specs.Texts.Fronts.{not_first, spelled_begins}
use Rattle.grammars.specs.Texts.Parts.{behind_less, three_of}
use Rattle.grammars.specs.Texts.Rows.{list_of, parted_of}
use Rattle.format_toml.proofs.LedLemmas.{led_of}
use Rattle.format_toml.proofs.SpacesLemmas.{Past, mark_begins, mark_of, spaced_begins, spaced_of}
use Rattle.format_toml.proofs.SpacesLemmas.{ws_front, ws_of}
use Rattle.format_toml.proofs.StringsLemmas.{basic_string_begins, basic_string_of, characters_begin}
use Rattle.format_toml.proofs.StringsLemmas.{characters_of, literal_string_begins}
use Rattle.format_toml.proofs.StringsLemmas.{literal_string_of}

-- ---- names

-- what a key begins with
abbrev pub OpensKey : ℕ → Type 0
OpensKey c = (c ≡ 34) ⊎ ((c ≡ 39) ⊎ IsBare c)

-- a character that follows a key and whitespace
abbrev pub EndsKey : ℕ → Type 0
EndsKey c = (c ≡ 61) ⊎ (c ≡ 93)

-- whitespace after a name
before_space : InFront WsText (Past IsBare) (NotFirst IsBare)
before_space = ws_front (λ c s bare. omega arith)
    (not_first IsBare (λ c. IsSpace c ⊎ IsBare c) (λ c bare. inr bare))

module _ {A : Type 0} where
  after_basic_of : IsGrammarOf (Led (λ c. c ≡ 39) (LiteralString {A = A}) (AnyCharacters Bare 1))
      (EitherText LiteralText (CharactersText Bare 1)) (NotFirst IsBare)
  after_basic_of =
      led_of (behind_less (λ rest b. tt) literal_string_of) (characters_of Bare 1)
      literal_string_begins
      (front_begins (λ c bare e. omega arith) (characters_begin Bare))

  after_basic_begins : TextsStartWith (λ c. (c ≡ 39) ⊎ IsBare c)
      (EitherText (LiteralText {A = A}) (CharactersText Bare 1))
  after_basic_begins =
      either_front (begins_wider (λ c e. inl e) literal_string_begins)
      (begins_wider (λ c bare. inr bare) (characters_begin Bare))

  name_of : IsGrammarOf (Name {A = A}) NameText (NotFirst IsBare)
  name_of =
      led_of (behind_less (λ rest b. tt) basic_string_of) after_basic_of basic_string_begins
      (front_begins (λ c o e. omega arith) after_basic_begins)

  name_begins : TextsStartWith OpensKey (NameText {A = A})
  name_begins =
      either_front (begins_wider (λ c e. inl e) basic_string_begins)
      (begins_wider (λ c o. inr o) after_basic_begins)

  -- ---- keys

  names_of : IsGrammarOf (Names {A = A}) (InList (AtLeast 1 (PartedText (MarkText 46)
      (Spaced NameText)))) (StartsWith EndsKey)
  names_of =
      list_of (parted_of (spaced_of before_space name_of) (mark_of 46)
      (both_front pair (front_begins (λ c e o. omega arith) (spelled_begins 46 [] 46)) front_any)
      (front_begins (λ c o s. omega arith) (spaced_begins name_begins)) (from_to 1 None) 1 refl
      (may_begin EndsKey (λ c. IsSpace c ⊎ IsBare c → ⊥) (λ c e o. omega arith))
      (λ rest b. none_begins (mark_of 46) (mark_begins 46) rest
      (may_begin EndsKey (λ c. c ≡ 46 → ⊥) (λ c e f. omega arith) rest b))
      (λ rest never b. omega arith))

  pub key_of : IsGrammarOf (AnyKey {A = A}) KeyText (StartsWith EndsKey)
  key_of = for_of IsKey names_of

  pub key_begins : TextsStartWith OpensKey (KeyText {A = A})
  key_begins = for_front IsKey
      (in_list_front (joined_begins (MarkText 46) (spaced_begins name_begins)))

  -- ---- keys with values

  pub pair_of : {g : Grammar ℕ (Value A)} {value : Text ℕ (Value A)} {follow : List ℕ → Type 0}
      → IsGrammarOf g value follow → InFront value follow (NotFirst IsSpace)
      → IsGrammarOf (Pair g) (PairText value) follow
  pair_of is front =
      three_of pair latter key_of (mark_of 61) is
      (both_front pair (begins_wider (λ c e. inl e) (spelled_begins 61 [] 61)) front_any) front

  pub pair_begins : (value : Text ℕ (Value A)) → TextsStartWith OpensKey (PairText value)
  pair_begins value = both_front pair key_begins front_any

  -- ---- headers

  header_of : IsGrammarOf (Header {A = A}) HeaderText Anything
  header_of =
      between_of ws_of key_of (char_of 93)
      (front_begins (λ c o s. omega arith) key_begins)
      (begins_wider (λ c e. inr e) (spelled_begins 93 [] 93))

  header_front : InFront (HeaderText {A = A}) Anything (NotFirst (λ c. c ≡ 91))
  header_front =
      both_front latter (ws_front (λ c s e. omega arith) (λ rest b. b))
      (both_front former (front_begins (λ c o e. omega arith) key_begins) front_any)

  double_of : IsGrammarOf (DoubleHeader {A = A}) (Between (One 91) HeaderText (One 93)) Anything
  double_of = between_of (char_of 91) header_of (char_of 93) front_any front_any

  pub table_of : IsGrammarOf (Table {A = A}) TableText Anything
  table_of =
      led_of (for_of IsTables double_of) (for_of IsTable header_of)
      (for_front IsTables (both_front latter (spelled_begins 91 [] 91) front_any))
      (for_front IsTable header_front)
