-- Values of JSON (RFC 8259, sections 2 to 5): what is written, and what is read.
use Rattle.std.specs.Prelude.{◌≡◌, ℕ, zero, suc, Bool, true, false, List, [], ◌∷◌}
use Rattle.std.specs.Prelude.{Option, Some, None, string_bytes}
use Rattle.std.specs.declared.string.String.{String}
use Rattle.std.specs.declared.vec.Vec.{Vec}
use Rattle.stream_sets.specs.AsChar.{IsMultispace}
use Rattle.stream_sets.specs.Range.{from_to}
use Rattle.grammars.specs.Grammar.{Both, Either, Gathered, Grammar, Parted, Three}
use Rattle.grammars.specs.Grammar.Meaning.{Meaning}
use Rattle.grammars.specs.Texts.{BothText, EitherText, InList, PartedText, Spelled, Text}
use Rattle.format_json_texts.specs.Number.{Number, NumberText}
use Rattle.format_parts.specs.Words.{Between, Char, For, One, Run, RunOf, Slice, Word, former}
use Rattle.format_parts.specs.Words.{latter, pair}
use Rattle.format_json_texts.specs.Strings.{Quoted, StringText}
use Rattle.format_json_texts.specs.declared.value.Value.{Value}
use Rattle.format_json_texts.specs.declared.value.Value as values
pub mod Texts

-- ---- what is meant

-- the words `null`, `true` and `false` mean these
abbrev pub IsWord : {A : Type 0} → Option Bool → Value A → Type 0
IsWord None v = v ≡ values.Null
IsWord (Some b) v = v ≡ values.Boolean b

-- a string that has the text of a slice
abbrev pub HasText : {A : Type 0} → Slice → String A → Type 0
HasText slice text = string_bytes text ≡ slice.now

abbrev pub IsNumber : {A : Type 0} → String A → Value A → Type 0
IsNumber text v = v ≡ values.Number text

abbrev pub IsString : {A : Type 0} → String A → Value A → Type 0
IsString text v = v ≡ values.Text text

abbrev pub IsArray : {A : Type 0} → Vec (Value A) A → Value A → Type 0
IsArray items v = v ≡ values.Array items

abbrev pub IsObject : {A : Type 0} → Vec (String A × Value A) A → Value A → Type 0
IsObject members v = v ≡ values.Object members

-- ---- what is written

-- ws = *( space / tab / line feed / carriage return )
abbrev pub GapText : Text ℕ Slice
GapText = Run IsMultispace 0

-- a text, and whitespace after it
abbrev pub Spaced : {O : Type 0} → Text ℕ O → Text ℕ O
Spaced text = BothText former text GapText

-- a structural character, and whitespace after it
abbrev pub Mark : ℕ → Text ℕ (ℕ × Slice)
Mark c = BothText pair (One c) GapText

-- false / null / true
abbrev pub WordText : Text ℕ (Option Bool)
WordText =
    EitherText (Spelled (110 ∷ 117 ∷ 108 ∷ 108 ∷ []) None)
    (EitherText (Spelled (116 ∷ 114 ∷ 117 ∷ 101 ∷ []) (Some true))
    (Spelled (102 ∷ 97 ∷ 108 ∷ 115 ∷ 101 ∷ []) (Some false)))

module _ {A : Type 0} (holds : String A → List ℕ → Type 0) where
  -- a value that has no others in it
  abbrev pub ScalarText : Text ℕ (Value A)
  ScalarText =
      EitherText (For IsWord WordText)
      (EitherText (For IsNumber (For HasText NumberText)) (For IsString (StringText holds)))

  -- array = begin-array [ value *( value-separator value ) ] end-array
  abbrev pub ArrayText : Text ℕ (Value A) → Text ℕ (Vec (Value A) A)
  ArrayText value = Between (Mark 91) (InList (PartedText (Mark 44) (Spaced value))) (One 93)

  -- member = string name-separator value
  abbrev pub MemberText : Text ℕ (Value A) → Text ℕ (String A × Value A)
  MemberText value =
      BothText pair (Spaced (StringText holds)) (BothText latter (Mark 58) (Spaced value))

  -- object = begin-object [ member *( value-separator member ) ] end-object
  abbrev pub ObjectText : Text ℕ (Value A) → Text ℕ (Vec (String A × Value A) A)
  ObjectText value = Between (Mark 123) (InList (PartedText (Mark 44) (MemberText value))) (One 125)

  -- a value whose arrays and objects are nested at most `level` deep
  unfoldable pub ValueText : ℕ → Text ℕ (Value A)
  ValueText zero = ScalarText
  ValueText (suc level) =
      EitherText ScalarText (EitherText (For IsArray (ArrayText (ValueText level)))
      (For IsObject (ObjectText (ValueText level))))

  -- JSON-text = ws value ws
  abbrev pub JsonText : ℕ → Text ℕ (Value A)
  JsonText level = BothText latter GapText (Spaced (ValueText level))

-- ---- what is read

-- all whitespace
abbrev pub Gap : Grammar ℕ Slice
Gap = RunOf IsMultispace 0

abbrev pub SpacedOut : {O : Type 0} → Grammar ℕ O → Grammar ℕ O
SpacedOut grammar = Both former grammar Gap

abbrev pub Punctuation : ℕ → Grammar ℕ (ℕ × Slice)
Punctuation c = Both pair (Char c) Gap

abbrev pub AnyWord : Grammar ℕ (Option Bool)
AnyWord =
    Either (Word (110 ∷ 117 ∷ 108 ∷ 108 ∷ []) None)
    (Either (Word (116 ∷ 114 ∷ 117 ∷ 101 ∷ []) (Some true))
    (Word (102 ∷ 97 ∷ 108 ∷ 115 ∷ 101 ∷ []) (Some false)))

-- zero or more elements separated by commas, in a list
abbrev pub Commas : {O A : Type 0} → Grammar ℕ O → Grammar ℕ (Vec O A)
Commas element =
    Gathered (λ list os. list.items ≡ os) (Parted element (Punctuation 44) (from_to 0 None))

module _ {A : Type 0} (holds : String A → List ℕ → Type 0) where
  abbrev pub Scalar : Grammar ℕ (Value A)
  Scalar =
      Either (Meaning IsWord AnyWord)
      (Either (Meaning IsNumber (Meaning HasText Number)) (Meaning IsString (Quoted holds)))

  abbrev pub Array : Grammar ℕ (Value A) → Grammar ℕ (Vec (Value A) A)
  Array value =
      Three (λ o1 o2 o3. o2) (Punctuation 91) (Commas (SpacedOut value)) (Char 93)

  abbrev pub Member : Grammar ℕ (Value A) → Grammar ℕ (String A × Value A)
  Member value =
      Three (λ o1 o2 o3. (o1, o3)) (SpacedOut (Quoted holds)) (Punctuation 58) (SpacedOut value)

  abbrev pub Object : Grammar ℕ (Value A) → Grammar ℕ (Vec (String A × Value A) A)
  Object value =
      Three (λ o1 o2 o3. o2) (Punctuation 123) (Commas (Member value)) (Char 125)

  unfoldable pub AnyValue : ℕ → Grammar ℕ (Value A)
  AnyValue zero = Scalar
  AnyValue (suc level) =
      Either Scalar (Either (Meaning IsArray (Array (AnyValue level)))
      (Meaning IsObject (Object (AnyValue level))))

  abbrev pub Json : ℕ → Grammar ℕ (Value A)
  Json level = Both latter Gap (SpacedOut (AnyValue level))
