-- What may follow in each mode of the walk so that the text is a document, by the grammar.
use Rattle.std.specs.Prelude.{◌≡◌, ◌⊎◌, ◌≤◌, ◌-◌, ⊤, ℕ, zero, suc, List, [], ◌∷◌, ◌++◌}
use Rattle.std.specs.Prelude.{length}
use Rattle.grammars.specs.Texts.{AtLeast, BothText, EachText, EitherText, GatheredText, Members}
use Rattle.grammars.specs.Texts.{OptionalText, PartedText, Text, TokenOfText}
use Rattle.format_parts.specs.Words.{One}
use Rattle.stream_sets.specs.Accumulator.Holds.{HasCharacters}
use Rattle.streams.specs.Text.{text_reading}
use Rattle.format_toml.specs.LongTexts.{BodyText, DelimiterText, NoneWritten, Trimmed}
use Rattle.format_toml.specs.Toml.{BlankText, CharacterText, CommentText, EscapedLines, GapText}
use Rattle.format_toml.specs.Toml.{Gapped, IsOf, ItemText, LineText, MarkText, NameText, PairText}
use Rattle.format_toml.specs.Toml.{NewlineText, Spaced, TableText, ValueText, WideMarkText, WsText}
use Rattle.format_toml.specs.declared.characters.Characters.TheVariants as sets
use Rattle.format_toml_errors.specs.Steps.{mark_of}
use Rattle.format_toml_errors.specs.declared.escapes.Escape.TheVariants as escapes
use Rattle.format_toml_errors.specs.declared.figures.Figure.TheVariants as figures
use Rattle.format_toml_errors.specs.declared.modes.Bracket.{Bracket}
use Rattle.format_toml_errors.specs.declared.modes.Bracket.TheVariants as brackets
use Rattle.format_toml_errors.specs.declared.modes.Gap.{Gap}
use Rattle.format_toml_errors.specs.declared.modes.Gap.TheVariants as gaps
use Rattle.format_toml_errors.specs.declared.modes.Letters.{Letters}
use Rattle.format_toml_errors.specs.declared.modes.Letters.TheVariants as letters
use Rattle.format_toml_errors.specs.declared.modes.Mark.{Mark}
use Rattle.format_toml_errors.specs.declared.modes.Mark.TheVariants as marks
use Rattle.format_toml_errors.specs.declared.modes.Mode.{Mode}
use Rattle.format_toml_errors.specs.declared.modes.Mode.TheVariants as modes
use Rattle.format_toml_errors.specs.declared.modes.Owner.{Owner}
use Rattle.format_toml_errors.specs.declared.modes.Owner.TheVariants as owners
use Rattle.format_toml_errors.specs.declared.modes.Role.{Role}
use Rattle.format_toml_errors.specs.declared.modes.Role.TheVariants as roles
use Rattle.format_toml_tree.specs.declared.value.Value.{Value}
use Rattle.format_toml_document.proofs.Hexes.{Escapes}
use Rattle.format_toml_document.proofs.Figures.{Figures}
use Rattle.format_toml_document.proofs.Numerals.{Opened}
use Rattle.format_toml_document.proofs.Thens.{Front, Then}

-- the other items of a row
abbrev pub Others : {O D : Type 0} → Text ℕ D → Text ℕ O → Text ℕ (List O)
Others separator text = EachText (BothText (λ d o. o) separator text)

abbrev pub word_of : Letters → List ℕ
word_of letters.Rue = 114 ∷ 117 ∷ 101 ∷ []
word_of letters.Ue = 117 ∷ 101 ∷ []
word_of letters.E = 101 ∷ []
word_of letters.Alse = 97 ∷ 108 ∷ 115 ∷ 101 ∷ []
word_of letters.Lse = 108 ∷ 115 ∷ 101 ∷ []
word_of letters.Se = 115 ∷ 101 ∷ []
word_of letters.Nf = 110 ∷ 102 ∷ []
word_of letters.F = 102 ∷ []
word_of letters.An = 97 ∷ 110 ∷ []
word_of letters.N = 110 ∷ []

abbrev pub Word : (List ℕ → Type 0) → Letters → List ℕ → Type 0
Word K rest l = (ys : List ℕ) × (l ≡ word_of rest ++ ys) × K ys

-- quotation marks before a text
abbrev pub marked : Mark → ℕ → List ℕ → List ℕ
marked mark zero l = l
marked mark (suc n) l = mark_of mark ∷ marked mark n l

-- the contents of a string over lines, and what is skipped in it
abbrev pub content_of : Mark → Text ℕ ℕ
content_of marks.Basic = EitherText CharacterText NewlineText
content_of marks.Literal = EitherText (TokenOfText (λ c. c) (IsOf sets.Literal)) NewlineText

abbrev pub skips_of : Mark → List ℕ → List ℕ → Type 0
skips_of marks.Basic = EscapedLines
skips_of marks.Literal = λ tokens behind. tokens ≡ []

module _ (A : Type 0) (level : ℕ) where
  -- ---- lines

  abbrev pub Lines : List ℕ → Type 0
  Lines l = Then (AtLeast 1 (PartedText NewlineText (LineText {A = A} level))) (λ r. r ≡ []) l

  abbrev pub Eol : List ℕ → Type 0
  Eol l = (l ≡ []) ⊎ Then NewlineText Lines l

  abbrev pub LineStart : List ℕ → Type 0
  LineStart l =
      Then WsText (Then (OptionalText (Spaced (ItemText {A = A} level)))
      (Then (OptionalText CommentText) Eol)) l

  -- ---- values

  abbrev pub ValueAt : List Bracket → Text ℕ (Value A)
  ValueAt held = ValueText {A = A} (level - length held)

  -- after a value
  unfoldable pub After : List Bracket → List ℕ → Type 0
  After [] l = Then WsText (Then (OptionalText CommentText) Eol) l
  After (brackets.Array ∷ held) l =
      Then GapText (Then (Others (WideMarkText 44) (Gapped (ValueAt (brackets.Array ∷ held))))
      (Then (OptionalText (WideMarkText 44)) (Then (One 93) (λ k. After held k)))) l
  After (brackets.Table ∷ held) l =
      Then WsText
      (Then (Others (MarkText 44) (Spaced (PairText (ValueAt (brackets.Table ∷ held)))))
      (Then (One 125) (λ k. After held k))) l

  -- ---- keys

  abbrev pub KeyEnd : Owner → List Bracket → List ℕ → Type 0
  KeyEnd owners.Entry held l = Then (MarkText 61) (Then (ValueAt held) (After held)) l
  KeyEnd owners.Member held l = Then (MarkText 61) (Then (ValueAt held) (After held)) l
  KeyEnd owners.Header held l = Then (One 93) (After held) l
  KeyEnd owners.Headers held l = Then (One 93) (Then (One 93) (After held)) l

  -- after a name
  abbrev pub KeyTail : Owner → List Bracket → List ℕ → Type 0
  KeyTail owner held l =
      Then WsText (Then (Others (MarkText 46) (Spaced (NameText {A = A}))) (KeyEnd owner held)) l

  -- after a string
  abbrev pub StringEnd : Role → List Bracket → List ℕ → Type 0
  StringEnd (roles.Name owner) held l = KeyTail owner held l
  StringEnd roles.Value held l = After held l

  abbrev pub BasicRest : Role → List Bracket → List ℕ → Type 0
  BasicRest role held l = Then (EachText CharacterText) (Then (One 34) (StringEnd role held)) l

  abbrev pub LiteralRest : Role → List Bracket → List ℕ → Type 0
  LiteralRest role held l =
      Then (EachText (TokenOfText (λ c. c) (IsOf sets.Literal)))
      (Then (One 39) (StringEnd role held)) l

  abbrev pub StringRest : Mark → List Bracket → List ℕ → Type 0
  StringRest marks.Basic held l = BasicRest roles.Value held l
  StringRest marks.Literal held l = LiteralRest roles.Value held l

  -- ---- strings over lines

  -- the rest of one that does not begin with whitespace
  abbrev pub Firm : Mark → List Bracket → List ℕ → Type 0
  Firm mark held l =
      (os : List ℕ) × (xs : List ℕ) × (ys : List ℕ)
      × BodyText (mark_of mark) (content_of mark) (skips_of mark) 2 os xs
      × NoneWritten BlankText xs × (l ≡ xs ++ ys)
      × Then (DelimiterText (mark_of mark)) (After held) ys

  abbrev pub LongRest : Mark → List Bracket → List ℕ → Type 0
  LongRest mark held l = Then (EachText BlankText) (Firm mark held) l

  abbrev pub LongStart : Mark → List Bracket → List ℕ → Type 0
  LongStart mark held l =
      Then (Trimmed NewlineText (GatheredText (HasCharacters {A = A})
      (BodyText (mark_of mark) (content_of mark) (skips_of mark) 2)))
      (Then (DelimiterText (mark_of mark)) (After held)) l

  -- ---- lists

  abbrev pub ItemRest : List Bracket → List ℕ → Type 0
  ItemRest held l =
      Then (One 93) (After held) l
      ⊎ Then (ValueAt (brackets.Array ∷ held)) (After (brackets.Array ∷ held)) l

  abbrev pub MemberRest : List Bracket → List ℕ → Type 0
  MemberRest held l =
      Then (One 125) (After held) l
      ⊎ Then (NameText {A = A}) (KeyTail owners.Member (brackets.Table ∷ held)) l

  abbrev pub ElementStart : List Bracket → List ℕ → Type 0
  ElementStart [] l = ⊤
  ElementStart (brackets.Array ∷ held) l = Then GapText (ItemRest held) l
  ElementStart (brackets.Table ∷ held) l = ⊤

  abbrev pub MemberStart : List Bracket → List ℕ → Type 0
  MemberStart [] l = ⊤
  MemberStart (brackets.Array ∷ held) l = ⊤
  MemberStart (brackets.Table ∷ held) l = Then WsText (MemberRest held) l

  -- ---- breaks of lines

  -- after a line ending
  abbrev pub Back : Gap → List Bracket → List ℕ → Type 0
  Back gaps.Line [] l = Lines l
  Back gaps.Line (bracket ∷ held) l = ⊤
  Back gaps.Item held l = ElementStart held l
  Back gaps.After held l = After held l

  -- after a comment
  abbrev pub Break : Gap → List Bracket → List ℕ → Type 0
  Break gaps.Line [] l = Eol l
  Break gaps.Line (bracket ∷ held) l = ⊤
  Break gaps.Item held l = Then NewlineText (ElementStart held) l
  Break gaps.After held l = Then NewlineText (After held) l

  abbrev pub Start : List Bracket → List ℕ → Type 0
  Start [] l = LineStart l
  Start (bracket ∷ held) l = ⊤

  -- ---- all

  abbrev pub Rest : Mode → List Bracket → List ℕ → Type 0
  Rest modes.Line held l = Start held l
  Rest (modes.Comment gap) held l =
      Then (Members text_reading (IsOf sets.Comment) 0) (Break gap held) l
  Rest (modes.Return gap) held l = Then (One 10) (Back gap held) l
  Rest modes.Header held l = Then (TableText {A = A}) (After held) l
  Rest modes.Closing held l = Then (One 93) (After held) l
  Rest (modes.Name owner) held l =
      Then WsText (Then (NameText {A = A}) (KeyTail owner held)) l
  Rest modes.FirstName held l = MemberStart held l
  Rest (modes.Bare owner) held l =
      Then (EachText (TokenOfText (λ c. c) (IsOf sets.Bare))) (KeyTail owner held) l
  Rest (modes.Behind owner) held l = KeyTail owner held l
  Rest modes.Value held l = Then WsText (Then (ValueAt held) (After held)) l
  Rest modes.Item held l = ElementStart held l
  Rest modes.After held l = After held l
  Rest (modes.Basic role) held l = BasicRest role held l
  Rest (modes.Escaped role e) held l = Front (Escapes e) (BasicRest role held) l
  Rest (modes.Literal role) held l = LiteralRest role held l
  Rest (modes.Quote mark) held l =
      StringRest mark held l
      ⊎ Then (One (mark_of mark)) (Then (One (mark_of mark)) (LongStart mark held)) l
  Rest (modes.Quotes mark) held l =
      After held l ⊎ Then (One (mark_of mark)) (LongStart mark held) l
  Rest (modes.Long mark quotes) held l =
      quotes ≤ 5 → LongRest mark held (marked mark quotes l)
  Rest (modes.LongReturn mark) held l = Then (One 10) (LongRest mark held) l
  Rest (modes.LongEscape escapes.Letter) held l =
      Front (Escapes escapes.Letter) (LongRest marks.Basic held) l
      ⊎ Then WsText (Then NewlineText (LongRest marks.Basic held)) l
  Rest (modes.LongEscape e) held l = Front (Escapes e) (LongRest marks.Basic held) l
  Rest modes.LongBlank held l =
      Then WsText (Then NewlineText (LongRest marks.Basic held)) l
  Rest (modes.Word rest) held l = Word (After held) rest l
  Rest (modes.Sign negative) held l = Front (Opened 5 negative figures.SignedZero) (After held) l
  Rest (modes.Number f) held l = Front (Figures f) (After held) l
