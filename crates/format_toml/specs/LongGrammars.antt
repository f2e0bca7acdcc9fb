-- Strings over lines, whichever quotation mark they have: what parsers read.
use Rattle.std.specs.Prelude.{⊤, ℕ, None}
use Rattle.std.specs.declared.string.String.{String}
use Rattle.format_parts.specs.Words.{Char, former, latter, pair}
use Rattle.stream_sets.specs.Accumulator.Holds.{HasCharacters}
use Rattle.grammars.specs.Grammar.{Ahead, Both, Either, Gathered, Grammar, Many, NotAhead, Optional}
use Rattle.grammars.specs.Grammar.{Three}
use Rattle.stream_sets.specs.Range.{from_to}

module _ {T O : Type 0} (quote : Grammar T O) where
  abbrev pub TwoOf : Grammar T (O × O)
  TwoOf = Both pair quote quote

  abbrev pub ThreeOf : Grammar T (O × O × O)
  ThreeOf = Three (λ a b c. (a, b, c)) quote quote quote

  -- a quotation mark of the string: after it, and three that close the string or none, no two are
  abbrev pub QuoteOf : Grammar T O
  QuoteOf = Both former quote (Ahead (Both pair (Optional ThreeOf) (NotAhead TwoOf)))

  -- a character, after skipped input
  abbrev pub PartOf : Grammar T O → Grammar T ⊤ → Grammar T O
  PartOf content skips = Both latter skips (Either content QuoteOf)

module _ {T M : Type 0} (quote : Grammar T M) (part : Grammar T ℕ) (skips : Grammar T ⊤)
    (newline : Grammar T M) where
  -- an optional line ending, and parts with skipped input after them
  abbrev pub BodyOf : {A : Type 0} → Grammar T (String A)
  BodyOf =
      Both latter (Optional newline) (Both former
      (Gathered HasCharacters (Many part (from_to 0 None))) skips)

  -- that between three quotation marks
  abbrev pub LongOf : {A : Type 0} → Grammar T (String A)
  LongOf = Three (λ o1 o2 o3. o2) (ThreeOf quote) BodyOf (ThreeOf quote)

-- likewise for characters
abbrev pub Delimiter : ℕ → Grammar ℕ (ℕ × ℕ × ℕ)
Delimiter quote = ThreeOf (Char quote)

abbrev pub Quote : ℕ → Grammar ℕ ℕ
Quote quote = QuoteOf (Char quote)

abbrev pub Part : ℕ → Grammar ℕ ℕ → Grammar ℕ ⊤ → Grammar ℕ ℕ
Part quote = PartOf (Char quote)

abbrev pub Body : {A : Type 0} → ℕ → Grammar ℕ ℕ → Grammar ℕ ⊤ → Grammar ℕ ℕ
    → Grammar ℕ (String A)
Body quote content skips newline =
    BodyOf (Char quote) (Part quote content skips) skips newline

abbrev pub Long : {A : Type 0} → ℕ → Grammar ℕ ℕ → Grammar ℕ ⊤ → Grammar ℕ ℕ
    → Grammar ℕ (String A)
Long quote content skips newline =
    LongOf (Char quote) (Part quote content skips) skips newline
