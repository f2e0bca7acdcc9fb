-- TOML 1.0: what parsers read of keys, values and lines.
use Rattle.std.specs.Prelude.{◌≡◌, ⊤, ℕ, zero, suc, Bool, true, false, List, Option, None, Some}
use Rattle.std.specs.declared.string.String.{String}
use Rattle.std.specs.declared.vec.Vec.{Vec}
use Rattle.streams.specs.Text.{text_reading}
use Rattle.stream_sets.specs.AsChar.{IsSpace}
use Rattle.stream_sets.specs.Range.{from_to}
use Rattle.format_parts.specs.Hexadecimal.{CodeUnit, IsAlone}
use Rattle.format_parts.specs.Words.{Char, RunOf, Slice, Word, former, latter, pair}
use Rattle.format_toml.specs.Led.{Led}
use Rattle.format_toml.specs.LongGrammars.{Long, Part}
use Rattle.format_toml.specs.Toml.{HasStatements, IsArray, IsBoolean, IsEntry, IsInline, IsKey}
use Rattle.format_toml.specs.Toml.{IsTable, IsTables}
use Rattle.format_toml.specs.Toml.{IsText, IsWide, PlainText, SetResult, StandsFor, false_word}
use Rattle.format_toml.specs.Toml.{true_word}
use Rattle.format_toml.specs.declared.characters.Characters.{Characters}
use Rattle.format_toml.specs.declared.characters.Characters.TheVariants.{Bare, Basic, Comment}
use Rattle.format_toml.specs.declared.characters.Characters.TheVariants.{Digit, Literal, Unquoted}
use Rattle.format_toml.specs.declared.characters.Characters.TheVariants.{White}
use Rattle.format_toml_tree.specs.declared.value.Item.{Item}
use Rattle.format_toml_tree.specs.declared.value.Key.{Key}
use Rattle.format_toml_tree.specs.declared.value.Value.{Value}
use Rattle.grammars.specs.Grammar.{Both, Either, Gathered, Grammar, Longest, Many, Nothing}
use Rattle.grammars.specs.Grammar.{Optional, Parted, Taken, Three, Token, TokenOf}
use Rattle.grammars.specs.Grammar.Meaning.{Meaning}
use Rattle.grammars.specs.Grammar.Tuples.{Four}
use Rattle.stream_sets.specs.Accumulator.Holds.{HasCharacters}

-- ---- whitespace

abbrev pub Ws : Grammar ℕ Slice
Ws = RunOf IsSpace 0

abbrev pub Newline : Grammar ℕ ℕ
Newline = Either (Char 10) (Both latter (Char 13) (Char 10))

abbrev pub AnyComment : Grammar ℕ Slice
AnyComment =
    Both latter (Char 35) (Longest text_reading (λ c. c) SetResult Comment (from_to 0 None))

-- a character of whitespace, or a line end with a comment before it or none
abbrev pub GapPart : Grammar ℕ ℕ
GapPart = Either (TokenOf (λ c. c) SetResult White) (Both latter (Optional AnyComment) Newline)

abbrev pub Gap : Grammar ℕ ⊤
Gap = Gathered (λ all parts. ⊤) (Many GapPart (from_to 0 None))

abbrev pub SpacedOut : {O : Type 0} → Grammar ℕ O → Grammar ℕ O
SpacedOut grammar = Both former grammar Ws

abbrev pub GappedOut : {O : Type 0} → Grammar ℕ O → Grammar ℕ O
GappedOut grammar = Both former grammar Gap

abbrev pub Mark : ℕ → Grammar ℕ (ℕ × Slice)
Mark c = Both pair (Char c) Ws

abbrev pub WideMark : ℕ → Grammar ℕ (ℕ × ⊤)
WideMark c = Both pair (Char c) Gap

-- elements separated by a mark, with an optional mark after the last, or nothing, between two other
-- marks; whitespace follows the first mark, and the marks between elements
abbrev pub Listing : {T O M W A : Type 0} → Grammar T O → Grammar T M → Grammar T M → Grammar T M
    → Grammar T W → Grammar T (Option (Vec O A))
Listing element opening comma closing gap =
    Three (λ o1 o2 o3. o2) (Both pair opening gap)
    (Optional (Both former (Gathered (λ list os. list.items ≡ os)
    (Parted element (Both pair comma gap) (from_to 1 None))) (Optional
    (Both pair comma gap)))) closing

-- ---- strings, booleans and integers

-- a character that a backslash escapes
abbrev pub Short : Grammar ℕ ℕ
Short = Meaning StandsFor (Token (λ c. c))

-- eight hexadecimal digits, as two numbers of four
abbrev pub WideUnits : Grammar ℕ (ℕ × ℕ)
WideUnits = Both pair CodeUnit CodeUnit

-- the characters after a backslash
abbrev pub Escape : Grammar ℕ ℕ
Escape =
    Led (λ c. c ≡ 117) (Both latter (Char 117) (Meaning IsAlone CodeUnit))
    (Led (λ c. c ≡ 85) (Both latter (Char 85) (Meaning IsWide WideUnits)) Short)

abbrev pub Character : Grammar ℕ ℕ
Character = Either (TokenOf (λ c. c) SetResult Basic) (Both latter (Char 92) Escape)

-- a whitespace character, or a line ending
abbrev pub Blank : Grammar ℕ ℕ
Blank = Either (TokenOf (λ c. c) SetResult White) Newline

-- a backslash, a line ending, and the blanks after it
abbrev pub EscapedLine : Grammar ℕ ⊤
EscapedLine =
    Both latter (Char 92) (Both latter Ws (Both latter Newline
    (Gathered (λ all parts. ⊤) (Many Blank (from_to 0 None)))))

abbrev pub Skips : Grammar ℕ ⊤
Skips = Gathered (λ all parts. ⊤) (Many EscapedLine (from_to 0 None))

abbrev pub NoSkips : Grammar ℕ ⊤
NoSkips = Nothing tt

-- what stands for a character of a string over lines
abbrev pub BasicContent : Grammar ℕ ℕ
BasicContent = Either Character Newline

abbrev pub LiteralContent : Grammar ℕ ℕ
LiteralContent = Either (TokenOf (λ c. c) SetResult Literal) Newline

abbrev pub BasicPart : Grammar ℕ ℕ
BasicPart = Part 34 BasicContent Skips

abbrev pub LiteralPart : Grammar ℕ ℕ
LiteralPart = Part 39 LiteralContent NoSkips

-- the longest run of characters of numbers, dates and times, at least `least` of them
abbrev pub UnquotedRun : ℕ → Grammar ℕ Slice
UnquotedRun least = Longest text_reading (λ c. c) SetResult Unquoted (from_to least None)

-- a space, two digits and a colon, and all these characters after them
abbrev pub SpacedTime : Grammar ℕ (ℕ × Slice × ℕ × Slice)
SpacedTime =
    Four (Char 32) (Longest text_reading (λ c. c) SetResult Digit (from_to 2 (Some 2))) (Char 58)
    (UnquotedRun 0)

-- the longest run of these characters, at least one, and the time that may follow it
abbrev pub Unquoteds : Grammar ℕ Slice
Unquoteds = Taken text_reading (Both pair (UnquotedRun 1) (Optional SpacedTime))

module _ {A : Type 0} where
  abbrev pub AnyCharacters : Characters → ℕ → Grammar ℕ (String A)
  AnyCharacters set least =
      Gathered HasCharacters (Many (TokenOf (λ c. c) SetResult set) (from_to least None))

  abbrev pub BasicString : Grammar ℕ (String A)
  BasicString =
      Three (λ o1 o2 o3. o2) (Char 34) (Gathered HasCharacters (Many Character (from_to 0 None)))
      (Char 34)

  abbrev pub LiteralString : Grammar ℕ (String A)
  LiteralString = Three (λ o1 o2 o3. o2) (Char 39) (AnyCharacters Literal 0) (Char 39)

  abbrev pub LongBasic : Grammar ℕ (String A)
  LongBasic = Long 34 BasicContent Skips Newline

  abbrev pub LongLiteral : Grammar ℕ (String A)
  LongLiteral = Long 39 LiteralContent NoSkips Newline

  -- a multi-line basic string, otherwise a basic string
  abbrev pub AnyBasic : Grammar ℕ (String A)
  AnyBasic = Either LongBasic BasicString

  abbrev pub AnyLiteral : Grammar ℕ (String A)
  AnyLiteral = Either LongLiteral LiteralString

  abbrev pub AnyBoolean : List ℕ → Bool → Grammar ℕ (Value A)
  AnyBoolean word is = Meaning IsBoolean (Word word is)

  -- what they are, as bytes: each of them is one
  abbrev pub IsPlain : Slice → Value A → Type 0
  IsPlain slice v = PlainText v slice.now

  abbrev pub Plain : Grammar ℕ (Value A)
  Plain = Meaning IsPlain Unquoteds

  abbrev pub Scalar : Grammar ℕ (Value A)
  Scalar =
      Led (λ c. c ≡ 34) (Meaning IsText AnyBasic)
      (Led (λ c. c ≡ 39) (Meaning IsText AnyLiteral)
      (Led (λ c. c ≡ 116) (AnyBoolean true_word true)
      (Led (λ c. c ≡ 102) (AnyBoolean false_word false) Plain)))

  -- ---- keys

  abbrev pub Name : Grammar ℕ (String A)
  Name =
      Led (λ c. c ≡ 34) BasicString (Led (λ c. c ≡ 39) LiteralString (AnyCharacters Bare 1))

  abbrev pub Names : Grammar ℕ (Vec (String A) A)
  Names =
      Gathered (λ list os. list.items ≡ os) (Parted (SpacedOut Name) (Mark 46) (from_to 1 None))

  abbrev pub AnyKey : Grammar ℕ (Key A)
  AnyKey = Meaning IsKey Names

  -- ---- values

  abbrev pub Pair : Grammar ℕ (Value A) → Grammar ℕ (Key A × Value A)
  Pair value = Three (λ k s v. (k, v)) AnyKey (Mark 61) value

  abbrev pub ArrayValues : Grammar ℕ (Value A) → Grammar ℕ (Vec (Value A) A)
  ArrayValues value =
      Both former (Gathered (λ list os. list.items ≡ os)
      (Parted (GappedOut value) (WideMark 44) (from_to 1 None))) (Optional (WideMark 44))

  abbrev pub Array : Grammar ℕ (Value A) → Grammar ℕ (Option (Vec (Value A) A))
  Array value = Listing (GappedOut value) (Char 91) (Char 44) (Char 93) Gap

  abbrev pub Inline : Grammar ℕ (Value A) → Grammar ℕ (Vec (Key A × Value A) A)
  Inline value =
      Three (λ o1 o2 o3. o2) (Mark 123) (Gathered (λ list os. list.items ≡ os)
      (Parted (SpacedOut (Pair value)) (Mark 44) (from_to 0 None))) (Char 125)

  unfoldable pub AnyValue : ℕ → Grammar ℕ (Value A)
  AnyValue zero = Scalar
  AnyValue (suc level) =
      Led (λ c. c ≡ 91) (Meaning IsArray (Array (AnyValue level)))
      (Led (λ c. c ≡ 123) (Meaning IsInline (Inline (AnyValue level))) Scalar)

  -- ---- lines

  abbrev pub Header : Grammar ℕ (Key A)
  Header = Three (λ o1 o2 o3. o2) Ws AnyKey (Char 93)

  abbrev pub DoubleHeader : Grammar ℕ (Key A)
  DoubleHeader = Three (λ o1 o2 o3. o2) (Char 91) Header (Char 93)

  abbrev pub Table : Grammar ℕ (Item A)
  Table = Led (λ c. c ≡ 91) (Meaning IsTables DoubleHeader) (Meaning IsTable Header)

  abbrev pub Entry : ℕ → Grammar ℕ (Key A × Value A)
  Entry level = Pair (AnyValue level)

  abbrev pub AnyItem : ℕ → Grammar ℕ (Item A)
  AnyItem level =
      Led (λ c. c ≡ 91) (Both latter (Char 91) Table) (Meaning IsEntry (Entry level))

  abbrev pub Line : ℕ → Grammar ℕ (Option (Item A))
  Line level = Three (λ o1 o2 o3. o2) Ws (Optional (SpacedOut (AnyItem level)))
      (Optional AnyComment)

  abbrev pub Document : ℕ → Grammar ℕ (Vec (Item A) A)
  Document level = Gathered HasStatements (Parted (Line level) Newline (from_to 1 None))
