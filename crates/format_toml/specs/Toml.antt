-- TOML 1.0 (toml.io/en/v1.0.0): what is written for keys, values and lines, by its ABNF.
use Rattle.std.specs.Prelude.{◌≡◌, ◌⊎◌, ◌≤◌, ◌↔◌, ◌+◌, ◌*◌, ⊤, ℕ, ℤ, zero, suc, Bool, true}
use Rattle.std.specs.Prelude.{false}
use Rattle.std.specs.Prelude.{IsTrue, List, [], ◌∷◌, Option, Some, None}
use Rattle.std.specs.declared.string.String.{String}
use Rattle.std.specs.declared.vec.Vec.{Vec}
use Rattle.streams.specs.Text.{text_reading}
use Rattle.stream_sets.specs.AsChar.{IsSpace}
use Rattle.format_parts.specs.Hexadecimal.{IsAlone, UnitText}
use Rattle.format_parts.specs.Words.{Between, For, One, Run, Slice, Whichever, former, latter, pair}
use Rattle.format_toml.specs.declared.characters.Characters.{Characters}
use Rattle.format_toml.specs.declared.characters.Characters.TheVariants.{Bare, Basic, Comment}
use Rattle.format_toml.specs.declared.characters.Characters.TheVariants.{Digit, Literal, Unquoted}
use Rattle.format_toml.specs.declared.characters.Characters.TheVariants.{White}
use Rattle.format_toml_tree.specs.Dates.{IsDateTime, IsDigit}
use Rattle.format_toml_tree.specs.declared.value.DateTime.{DateTime}
use Rattle.format_toml_tree.specs.declared.value.Float.{Float}
use Rattle.format_toml_tree.specs.declared.value.Item.{Item}
use Rattle.format_toml_tree.specs.declared.value.Item.TheVariants as items
use Rattle.format_toml_tree.specs.declared.value.Key.{Key}
use Rattle.format_toml_tree.specs.declared.value.Value.{Value}
use Rattle.format_toml_tree.specs.declared.value.Value as values
use Rattle.stream_sets.specs.Accumulator.Holds.{HasCharacters}
use Rattle.grammars.specs.Texts.{AtLeast, BothText, EachText, EitherText, GatheredText, InList}
use Rattle.grammars.specs.Texts.{Members, OptionalText, PartedText, Spelled, Text, TokenOfText}
use Rattle.format_toml.specs.Floats.{FloatText}
use Rattle.format_toml.specs.LongTexts.{LongText, NoneWritten}
use Rattle.format_toml.specs.Numbers.{IntegerText}
use Rattle.format_toml.specs.Statements.{stated}

-- ---- characters

-- Control characters other than tab (U+0000 to U+0008, U+000A to U+001F, U+007F) are not permitted.
abbrev pub IsShown : ℕ → Type 0
IsShown c = (c ≡ 9) ⊎ (((32 ≤ c) × (c ≤ 126)) ⊎ (128 ≤ c))

-- unquoted-key = 1*( ALPHA / DIGIT / %x2D / %x5F ) ; A-Z / a-z / 0-9 / - / _
abbrev pub IsBare : ℕ → Type 0
IsBare c =
    ((65 ≤ c) × (c ≤ 90)) ⊎ (((97 ≤ c) × (c ≤ 122)) ⊎ (((48 ≤ c) × (c ≤ 57))
    ⊎ ((c ≡ 45) ⊎ (c ≡ 95))))

-- of numbers, dates and times: letters, digits, and + - . : _
abbrev pub IsUnquoted : ℕ → Type 0
IsUnquoted c =
    ((48 ≤ c) × (c ≤ 58)) ⊎ (((65 ≤ c) × (c ≤ 90)) ⊎ (((97 ≤ c) × (c ≤ 122))
    ⊎ ((c ≡ 43) ⊎ (((45 ≤ c) × (c ≤ 46)) ⊎ (c ≡ 95)))))

-- the characters of a bare key, of a comment, of a literal string, those of a basic string that
-- stand for themselves, whitespace, those of numbers, dates and times, and digits
abbrev pub IsOf : Characters → ℕ → Type 0
IsOf Bare c = IsBare c
IsOf Comment c = IsShown c
IsOf Literal c = IsShown c × (c ≡ 39 → ⊥)
IsOf Basic c = IsShown c × ((c ≡ 34 → ⊥) × (c ≡ 92 → ⊥))
IsOf White c = IsSpace c
IsOf Unquoted c = IsUnquoted c
IsOf Digit c = IsDigit c

-- escape-seq-char: `StandsFor c k`: a backslash and `c` denote `k`: for b a backspace, for t a tab,
-- for n a line feed, for f a form feed, for r a carriage return, for " and \ the same character
abbrev pub StandsFor : ℕ → ℕ → Type 0
StandsFor c k =
    ((c ≡ 98) × (k ≡ 8)) ⊎ (((c ≡ 116) × (k ≡ 9)) ⊎ (((c ≡ 110) × (k ≡ 10))
    ⊎ (((c ≡ 102) × (k ≡ 12)) ⊎ (((c ≡ 114) × (k ≡ 13)) ⊎ (((c ≡ 34) × (k ≡ 34))
    ⊎ ((c ≡ 92) × (k ≡ 92)))))))

-- The character of eight hexadecimal digits, which are two numbers of four: no surrogate.
abbrev pub IsWide : ℕ × ℕ → ℕ → Type 0
IsWide units c = IsAlone (units.0 * 65536 + units.1) c

-- what a set of them tells
abbrev pub SetResult : Characters → ℕ → Bool → Type 0
SetResult set c b = IsTrue b ↔ IsOf set c

-- ---- what is meant

module _ {A : Type 0} where
  abbrev pub IsKey : Vec (String A) A → Key A → Type 0
  IsKey names key = key.names ≡ names

  abbrev pub IsText : String A → Value A → Type 0
  IsText text v = v ≡ values.Text text

  abbrev pub IsInteger : ℤ → Value A → Type 0
  IsInteger n v = v ≡ values.Integer n

  abbrev pub MeansFloat : Float A → Value A → Type 0
  MeansFloat float v = v ≡ values.Float float

  abbrev pub MeansDateTime : DateTime A → Value A → Type 0
  MeansDateTime both v = v ≡ values.DateTime both

  abbrev pub IsBoolean : Bool → Value A → Type 0
  IsBoolean is v = v ≡ values.Boolean is

  abbrev pub IsArray : Option (Vec (Value A) A) → Value A → Type 0
  IsArray (Some list) v = v ≡ values.Array list
  IsArray None v = (list : Vec (Value A) A) × (list.items ≡ []) × (v ≡ values.Array list)

  abbrev pub IsInline : Vec (Key A × Value A) A → Value A → Type 0
  IsInline pairs v = v ≡ values.Table pairs

  abbrev pub IsTable : Key A → Item A → Type 0
  IsTable key item = item ≡ items.Table key

  abbrev pub IsTables : Key A → Item A → Type 0
  IsTables key item = item ≡ items.Tables key

  abbrev pub IsEntry : Key A × Value A → Item A → Type 0
  IsEntry both item = item ≡ items.Entry both.0 both.1

  -- the statements of lines, without the lines that have none
  abbrev pub HasStatements : Vec (Item A) A → List (Option (Item A)) → Type 0
  HasStatements list lines = list.items ≡ stated lines

-- ---- whitespace

-- ws = *wschar
abbrev pub WsText : Text ℕ Slice
WsText = Run IsSpace 0

-- newline = %x0A / %x0D.0A
abbrev pub NewlineText : Text ℕ ℕ
NewlineText = EitherText (One 10) (BothText latter (One 13) (One 10))

-- comment = comment-start-symbol *non-eol
abbrev pub CommentText : Text ℕ Slice
CommentText = BothText latter (One 35) (Members text_reading (IsOf Comment) 0)

-- wschar / [ comment ] newline
abbrev pub GapPartText : Text ℕ ℕ
GapPartText = EitherText (TokenOfText (λ c. c) (IsOf White))
    (BothText latter (OptionalText CommentText) NewlineText)

-- ws-comment-newline = *( wschar / [ comment ] newline )
abbrev pub GapText : Text ℕ ⊤
GapText = GatheredText (λ all parts. ⊤) (EachText GapPartText)

-- a text, and whitespace after it, on its line or over lines
abbrev pub Spaced : {O : Type 0} → Text ℕ O → Text ℕ O
Spaced text = BothText former text WsText

abbrev pub Gapped : {O : Type 0} → Text ℕ O → Text ℕ O
Gapped text = BothText former text GapText

-- a character, and whitespace after it, on its line or over lines
abbrev pub MarkText : ℕ → Text ℕ (ℕ × Slice)
MarkText c = BothText pair (One c) WsText

abbrev pub WideMarkText : ℕ → Text ℕ (ℕ × ⊤)
WideMarkText c = BothText pair (One c) GapText

-- ---- strings, booleans and values without quotes

-- escape-seq-char: %x75 4HEXDIG / %x55 8HEXDIG, of a character that is not a surrogate; or one that
-- a backslash escapes by itself
abbrev pub EscapeText : Text ℕ ℕ
EscapeText =
    EitherText (BothText latter (One 117) (For IsAlone UnitText))
    (EitherText (BothText latter (One 85) (For IsWide (BothText pair UnitText UnitText)))
    (For StandsFor Whichever))

-- basic-char = basic-unescaped / escaped
abbrev pub CharacterText : Text ℕ ℕ
CharacterText = EitherText (TokenOfText (λ c. c) (IsOf Basic)) (BothText latter (One 92) EscapeText)

-- wschar / newline
abbrev pub BlankText : Text ℕ ℕ
BlankText = EitherText (TokenOfText (λ c. c) (IsOf White)) NewlineText

-- mlb-escaped-nl = escape ws newline *( wschar / newline )
abbrev pub EscapedLineText : Text ℕ ⊤
EscapedLineText =
    BothText latter (One 92) (BothText latter WsText (BothText latter NewlineText
    (GatheredText (λ all parts. ⊤) (EachText BlankText))))

-- Some of these, "trimmed along with all whitespace (including newlines) up to the next
-- non-whitespace character or closing delimiter"; or nothing.
abbrev pub EscapedLines : List ℕ → List ℕ → Type 0
EscapedLines tokens behind =
    (tokens ≡ []) ⊎ (GatheredText (λ (all : ⊤) parts. ⊤) (EachText EscapedLineText) tt tokens
    × NoneWritten BlankText behind)

-- boolean = true / false
abbrev pub true_word : List ℕ
true_word = 116 ∷ 114 ∷ 117 ∷ 101 ∷ []

abbrev pub false_word : List ℕ
false_word = 102 ∷ 97 ∷ 108 ∷ 115 ∷ 101 ∷ []

module _ {A : Type 0} where
  -- at least `least` characters of a set
  abbrev pub CharactersText : Characters → ℕ → Text ℕ (String A)
  CharactersText set least =
      GatheredText HasCharacters (AtLeast least (EachText (TokenOfText (λ c. c) (IsOf set))))

  -- basic-string = quotation-mark *basic-char quotation-mark
  abbrev pub BasicText : Text ℕ (String A)
  BasicText = Between (One 34) (GatheredText HasCharacters (EachText CharacterText)) (One 34)

  -- literal-string = apostrophe *literal-char apostrophe
  abbrev pub LiteralText : Text ℕ (String A)
  LiteralText = Between (One 39) (CharactersText Literal 0) (One 39)

  abbrev pub BooleanText : List ℕ → Bool → Text ℕ (Value A)
  BooleanText word is = For IsBoolean (Spelled word is)

  -- date-time = offset-date-time / local-date-time / local-date / local-time
  abbrev pub DateTimeText : Text ℕ (Value A)
  DateTimeText = For MeansDateTime IsDateTime

  -- float / date-time
  abbrev pub OtherText : Text ℕ (Value A)
  OtherText = EitherText (For MeansFloat FloatText) DateTimeText

  -- integer, for its value, or one of these
  abbrev pub PlainText : Text ℕ (Value A)
  PlainText = EitherText (For IsInteger IntegerText) OtherText

  -- ml-basic-string, with mlb-content = mlb-char / newline / mlb-escaped-nl
  abbrev pub LongBasicText : Text ℕ (String A)
  LongBasicText = LongText 34 (EitherText CharacterText NewlineText) EscapedLines NewlineText

  -- ml-literal-string, with mll-content = mll-char / newline
  abbrev pub LongLiteralText : Text ℕ (String A)
  LongLiteralText =
      LongText 39 (EitherText (TokenOfText (λ c. c) (IsOf Literal)) NewlineText)
      (λ tokens behind. tokens ≡ []) NewlineText

  -- ml-basic-string / basic-string, ml-literal-string / literal-string
  abbrev pub AnyBasicText : Text ℕ (String A)
  AnyBasicText = EitherText LongBasicText BasicText

  abbrev pub AnyLiteralText : Text ℕ (String A)
  AnyLiteralText = EitherText LongLiteralText LiteralText

  -- a string, a boolean or a value without quotes
  abbrev pub ScalarText : Text ℕ (Value A)
  ScalarText =
      EitherText (For IsText AnyBasicText) (EitherText (For IsText AnyLiteralText)
      (EitherText (BooleanText true_word true)
      (EitherText (BooleanText false_word false) PlainText)))

  -- ---- keys

  -- simple-key = quoted-key / unquoted-key, with quoted-key = basic-string / literal-string
  abbrev pub NameText : Text ℕ (String A)
  NameText = EitherText BasicText (EitherText LiteralText (CharactersText Bare 1))

  -- key = simple-key *( dot-sep simple-key ), with dot-sep = ws %x2E ws, and whitespace after it
  abbrev pub KeyText : Text ℕ (Key A)
  KeyText = For IsKey (InList (AtLeast 1 (PartedText (MarkText 46) (Spaced NameText))))

  -- ---- values

  -- keyval = key keyval-sep val, with keyval-sep = ws %x3D ws
  abbrev pub PairText : Text ℕ (Value A) → Text ℕ (Key A × Value A)
  PairText value = BothText pair KeyText (BothText latter (MarkText 61) value)

  -- array-values: values with commas between them, and perhaps one after the last; and whitespace
  -- and comments after each value and each comma
  abbrev pub ArrayValuesText : Text ℕ (Value A) → Text ℕ (Vec (Value A) A)
  ArrayValuesText value =
      BothText former (InList (AtLeast 1 (PartedText (WideMarkText 44) (Gapped value))))
      (OptionalText (WideMarkText 44))

  -- array = array-open [ array-values ] ws-comment-newline array-close
  abbrev pub ArrayText : Text ℕ (Value A) → Text ℕ (Option (Vec (Value A) A))
  ArrayText value = Between (WideMarkText 91) (OptionalText (ArrayValuesText value)) (One 93)

  -- inline-table = inline-table-open [ inline-table-keyvals ] inline-table-close
  abbrev pub InlineText : Text ℕ (Value A) → Text ℕ (Vec (Key A × Value A) A)
  InlineText value =
      Between (MarkText 123) (InList (PartedText (MarkText 44) (Spaced (PairText value)))) (One 125)

  -- a value whose arrays and inline tables are nested at most `level` deep
  unfoldable pub ValueText : ℕ → Text ℕ (Value A)
  ValueText zero = ScalarText
  ValueText (suc level) =
      EitherText (For IsArray (ArrayText (ValueText level)))
      (EitherText (For IsInline (InlineText (ValueText level))) ScalarText)

  -- ---- lines

  -- the characters after a bracket that opens a name: ws key ws %x5D
  abbrev pub HeaderText : Text ℕ (Key A)
  HeaderText = Between WsText KeyText (One 93)

  -- std-table = %x5B ws key ws %x5D, array-table = %x5B.5B ws key ws %x5D.5D: the characters after
  -- the first bracket
  abbrev pub TableText : Text ℕ (Item A)
  TableText = EitherText (For IsTables (Between (One 91) HeaderText (One 93)))
      (For IsTable HeaderText)

  abbrev pub ItemText : ℕ → Text ℕ (Item A)
  ItemText level = EitherText (BothText latter (One 91) TableText)
      (For IsEntry (PairText (ValueText level)))

  -- expression = ws [ comment ] / ws keyval ws [ comment ] / ws table ws [ comment ]
  abbrev pub LineText : ℕ → Text ℕ (Option (Item A))
  LineText level =
      BothText latter WsText
      (BothText former (OptionalText (Spaced (ItemText level)))
      (OptionalText CommentText))

  -- toml = expression *( newline expression ), for the statements of these
  abbrev pub DocumentText : ℕ → Text ℕ (Vec (Item A) A)
  DocumentText level =
      GatheredText HasStatements (AtLeast 1 (PartedText NewlineText (LineText level)))
