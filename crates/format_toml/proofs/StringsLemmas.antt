-- The grammars of strings and their characters are those of what is written.
use Rattle.std.specs.Prelude.{◌≡◌, ◌⊎◌, ◌<◌, ◌≤◌, ℕ, List, [], ◌∷◌, ◌++◌, length, None}
use Rattle.std.proofs.Common.{refl, sym, ap, subst, inl, inr, ◌∙◌, arith}
use Rattle.stream_sets.specs.Range.{from_to}
use Rattle.format_parts.specs.Hexadecimal.{CodeUnit, Digit, IsAlone, IsHex, IsNumberOf, UnitText}
use Rattle.format_parts.specs.Words.{Char, For, One, Whichever, any_of, between_of, char_of, for_of}
use Rattle.format_parts.specs.Words.{four_same, latter, pair, to_four}
use Rattle.format_toml.specs.Grammars.{AnyCharacters, BasicString, Character, Escape, LiteralString}
use Rattle.format_toml.specs.Grammars.{WideUnits}
use Rattle.format_toml.specs.Toml.{BasicText, CharacterText, CharactersText, IsOf, LiteralText}
use Rattle.format_toml.specs.Toml.{EscapeText, IsWide, SetResult, StandsFor}
use Rattle.format_toml.specs.declared.characters.Characters.{Characters}
use Rattle.format_toml.specs.declared.characters.Characters.TheVariants.{Basic, Literal}
use Rattle.grammars.specs.Grammar.{Both, NoMatch, TokenOf}
use Rattle.grammars.specs.Grammar.Meaning.{Meaning}
use Rattle.stream_sets.specs.Accumulator.Holds.{HasCharacters}
use Rattle.grammars.specs.Texts.{Anything, AtLeast, StartsWith, TextsStartWith, BothText, EachText}
use Rattle.grammars.specs.Texts.{InFront, IsGrammarOf, MadeText, NotFirst, Spelled, TokenOfText}
use Rattle.grammars.specs.Texts.Fronts.{begins_wider, both_front, either_front, front_any}
use Rattle.grammars.specs.Texts.Fronts.{front_begins, gathered_front, may_begin, none_begins}
use Rattle.grammars.specs.Texts.Fronts.{spelled_begins, token_of_begins}
use Rattle.grammars.specs.Texts.Parts.{both_of, either_apart, same_of}
use Rattle.grammars.specs.Texts.Rows.{gathered_of, many_of}
use Rattle.grammars.specs.Texts.Tokens.{divides_where, token_of}
use Rattle.format_toml.proofs.LedLemmas.{led_of}

-- ---- characters of a set

module _ (set : Characters) where
  pub one_of_set : IsGrammarOf (TokenOf (λ c. c) SetResult set) (TokenOfText (λ c. c) (IsOf set))
      Anything
  one_of_set = token_of (λ c. c) SetResult set (divides_where (IsOf set))

  pub set_begins : TextsStartWith (IsOf set) (TokenOfText (λ c. c) (IsOf set))
  set_begins =
      begins_wider (λ c (k, e, is). subst (IsOf set) e is) (token_of_begins (λ c. c) (IsOf set))

  none_first : (rest : List ℕ) → NotFirst (IsOf set) rest
      → NoMatch (TokenOf (λ c. c) SetResult set) rest
  none_first rest not = none_begins one_of_set set_begins rest not

  row_begins : TextsStartWith (IsOf set) (AtLeast 1 (EachText (TokenOfText (λ c. c) (IsOf set))))
  unfolding EachText TokenOfText
  row_begins = record { makes = λ os xs rest (row, some) any. first os xs rest row some }
    where
      first : (os tokens rest : List ℕ) → EachText (TokenOfText (λ c. c) (IsOf set)) os tokens
          → 1 ≤ length os → StartsWith (IsOf set) (tokens ++ rest)
      first [] tokens rest row some = absurd (omega (arith, some))
      first (o ∷ os) tokens rest (xs, ys, (is, e), more, d) some =
          let P : List ℕ → Type 0 = λ l. StartsWith (IsOf set) (l ++ rest) in
          subst P (sym (d ∙ ap (λ l. l ++ ys) e)) is

  module _ {A : Type 0} where
    pub characters_of : (least : ℕ) → IsGrammarOf (AnyCharacters {A = A} set least)
        (CharactersText set least) (NotFirst (IsOf set))
    characters_of least =
        gathered_of HasCharacters (many_of one_of_set (from_to least None) least refl front_any
        (λ rest b. tt) none_first)

    pub characters_begin : TextsStartWith (IsOf set) (CharactersText {A = A} set 1)
    characters_begin = gathered_front HasCharacters row_begins

-- ---- strings

digit_of : IsGrammarOf Digit (For IsHex Whichever) Anything
digit_of = for_of IsHex any_of

unit_of : IsGrammarOf CodeUnit UnitText Anything
unit_of =
    for_of IsNumberOf
    (same_of (four_same Digit Digit Digit Digit)
    (both_of to_four digit_of
    (both_of pair digit_of (both_of pair digit_of digit_of front_any)
    front_any) front_any))

-- a character that a backslash escapes is neither u nor U, and above a space
abbrev OpensShort : ℕ → Type 0
OpensShort c = (c ≡ 117 → ⊥) × (c ≡ 85 → ⊥) × (33 < c)

short_begins : TextsStartWith OpensShort (For StandsFor Whichever)
unfolding MadeText Whichever
short_begins = record { makes = λ k xs rest (c, e, stands) any. rw e (opens c k stands) }
  where
    opens : (c k : ℕ) → StandsFor c k → OpensShort c
    opens c k stands = omega arith

long_of : IsGrammarOf (Both latter (Char 85) (Meaning IsWide WideUnits))
    (BothText latter (One 85) (For IsWide (BothText pair UnitText UnitText))) Anything
long_of =
    both_of latter (char_of 85) (for_of IsWide (both_of pair unit_of unit_of front_any)) front_any

long_begins : TextsStartWith (λ c. c ≡ 85)
    (BothText latter (One 85) (For IsWide (BothText pair UnitText UnitText)))
long_begins = both_front latter (spelled_begins 85 [] 85) front_any

escape_of : IsGrammarOf Escape EscapeText Anything
escape_of =
    led_of (both_of latter (char_of 117) (for_of IsAlone unit_of) front_any)
    (led_of long_of (for_of StandsFor any_of) long_begins (front_begins (λ c u. u.1) short_begins))
    (both_front latter (spelled_begins 117 [] 117) front_any)
    (either_front (front_begins (λ c e f. omega arith) long_begins)
    (front_begins (λ c u. u.0) short_begins))

escaped_of : IsGrammarOf (Both latter (Char 92) Escape) (BothText latter (One 92) EscapeText)
    Anything
escaped_of = both_of latter (char_of 92) escape_of front_any

pub character_of : IsGrammarOf Character CharacterText Anything
character_of =
    either_apart (one_of_set Basic) escaped_of (set_begins Basic)
    (both_front latter (front_begins (λ c e is. is.1.1 e) (spelled_begins 92 [] 92)) front_any)

-- no character begins with a quotation mark
pub character_begins : TextsStartWith (λ c. c ≡ 34 → ⊥) CharacterText
character_begins =
    either_front (begins_wider (λ c is. is.1.0) (set_begins Basic))
    (both_front latter (begins_wider (λ c e q. omega arith) (spelled_begins 92 [] 92)) front_any)

escape_above : TextsStartWith (λ c. 33 < c) EscapeText
escape_above =
    either_front (begins_wider (λ c e. omega arith)
    (both_front latter (spelled_begins 117 [] 117) front_any))
    (either_front (begins_wider (λ c e. omega arith) long_begins)
    (begins_wider (λ c u. u.2) short_begins))

-- the tokens do not start with a backslash, unless a character above a space follows it
abbrev pub Apart : List ℕ → Type 0
Apart tokens =
    NotFirst (λ c. c ≡ 92) tokens
    ⊎ ((rest : List ℕ) × (tokens ≡ 92 ∷ rest) × StartsWith (λ c. 33 < c) rest)

plain_apart : InFront (TokenOfText (λ c. c) (IsOf Basic)) Anything Apart
plain_apart = record {
  makes = λ o xs rest t any. inl (may_begin (IsOf Basic) (λ c. c ≡ 92 → ⊥) (λ c is. is.1.1)
      (xs ++ rest) ((set_begins Basic).makes o xs rest t any));
}

backslash_apart : InFront (One 92) (StartsWith (λ c. 33 < c)) Apart
unfolding Spelled
backslash_apart = record {
  makes = λ o xs rest (is, e) b. inr (rest, ap (λ l. l ++ rest) e, b);
}

pub character_apart : InFront CharacterText Anything Apart
character_apart = either_front plain_apart (both_front latter backslash_apart escape_above)

none_quoted : (tokens : List ℕ) → StartsWith (λ c. c ≡ 34) tokens → NoMatch Character tokens
none_quoted tokens b =
    none_begins character_of character_begins tokens
    (may_begin (λ c. c ≡ 34) (λ c. (c ≡ 34 → ⊥) → ⊥) (λ c e not. not e) tokens b)

module _ {A : Type 0} where
  pub basic_string_of : IsGrammarOf (BasicString {A = A}) BasicText Anything
  basic_string_of =
      between_of (char_of 34) (gathered_of HasCharacters (many_of character_of (from_to 0 None) 0
      refl front_any (λ rest b. tt) none_quoted)) (char_of 34) front_any
      (spelled_begins 34 [] 34)

  pub literal_string_of : IsGrammarOf (LiteralString {A = A}) LiteralText Anything
  literal_string_of =
      between_of (char_of 39) (characters_of Literal 0) (char_of 39) front_any
      (front_begins (λ c e is. is.1 e) (spelled_begins 39 [] 39))

  pub basic_string_begins : TextsStartWith (λ c. c ≡ 34) (BasicText {A = A})
  basic_string_begins = both_front latter (spelled_begins 34 [] 34) front_any

  pub literal_string_begins : TextsStartWith (λ c. c ≡ 39) (LiteralText {A = A})
  literal_string_begins = both_front latter (spelled_begins 39 [] 39) front_any
