-- The grammar of the parser of settings, and a proof that it is that of settings.
use Rattle.std.specs.Prelude.{◌≡◌, ℕ, [], None}
use Rattle.std.specs.declared.vec.Vec.{Vec}
use Rattle.std.proofs.Common.{refl, arith}
use Rattle.examples.specs.SettingsFile.Settings.{InKey, InValue, Line, Setting, Settings}
use Rattle.winnow.specs.Counted.{counted_reading}
use Rattle.winnow.specs.Grammar.{Both, Class, Gathered, Grammar, Many, Three}
use Rattle.winnow.specs.Grammar.Inversion.{Byte}
use Rattle.winnow.specs.Range.{from_to}
use Rattle.winnow.specs.Reading.{Reading}
use Rattle.winnow.specs.Texts.{Anything, TextsStartWith, IsGrammarOf, Members, NotFirst}
use Rattle.winnow.specs.Texts.Fronts.{both_front, front_any, front_begins, members_begin}
use Rattle.winnow.specs.Texts.Fronts.{none_begins, spelled_begins}
use Rattle.winnow.specs.Texts.Parts.{both_of, three_of}
use Rattle.winnow.specs.Texts.Rows.{list_of, many_of}
use Rattle.winnow.specs.Texts.Tokens.{byte_of, class_of}

-- the grammar of each parser, over any stream of bytes
module _ {T L : Type 0} (reading : Reading T L) (seen : ℕ → T) (literal : ℕ → Grammar T ℕ) where
  -- take_while(1.., KeyBytes)
  abbrev pub KeyRead : Grammar T L
  KeyRead = Class InKey 1 (λ b. b) seen reading

  -- take_while(0.., ValueBytes)
  abbrev pub ValueRead : Grammar T L
  ValueRead = Class InValue 0 (λ b. b) seen reading

  -- separated_pair(key, b'=', value)
  abbrev pub SettingRead : Grammar T (L × L)
  SettingRead = Three (λ key sign value. (key, value)) KeyRead (literal 61) ValueRead

  -- terminated(setting, b'\n')
  abbrev pub LineRead : Grammar T (L × L)
  LineRead = Both (λ setting feed. setting) SettingRead (literal 10)

  -- repeat(alloc, 0.., line), into a list
  abbrev pub SettingsRead : {A : Type 0} → Grammar T (Vec (L × L) A)
  SettingsRead {A} = Gathered (λ (list : Vec (L × L) A) outputs. list.items ≡ outputs)
      (Many LineRead (from_to 0 None))

-- ---- over bytes each is that of its text

key_of : IsGrammarOf (KeyRead counted_reading (λ b. b) Byte) (Members counted_reading InKey 1)
    (NotFirst InKey)
key_of = class_of counted_reading InKey (λ b. b) 1

value_of : IsGrammarOf (ValueRead counted_reading (λ b. b) Byte)
    (Members counted_reading InValue 0) (NotFirst InValue)
value_of = class_of counted_reading InValue (λ b. b) 0

-- `=` is not a byte of a key, so it may follow one
setting_of : IsGrammarOf (SettingRead counted_reading (λ b. b) Byte) Setting (NotFirst InValue)
setting_of = three_of (λ key value. (key, value)) (λ sign value. value) key_of (byte_of 61)
    value_of (front_begins (λ b is key. key.0 is) (spelled_begins 61 [] 61)) front_any

-- a line feed is not a byte of a value
line_of : IsGrammarOf (LineRead counted_reading (λ b. b) Byte) Line Anything
line_of = both_of (λ setting feed. setting) setting_of (byte_of 10)
    (front_begins (λ b is value. value is) (spelled_begins 10 [] 10))

line_begins : TextsStartWith InKey Line
line_begins = both_front (λ setting feed. setting) (both_front (λ key value. (key, value))
    (members_begin counted_reading InKey 1 (omega arith)) front_any) front_any

-- and after the last line comes no byte of a key
pub settings_of : {A : Type 0}
    → IsGrammarOf (SettingsRead counted_reading (λ b. b) Byte {A = A}) Settings (NotFirst InKey)
unfolding Settings
settings_of = list_of (many_of line_of (from_to 0 None) 0 refl front_any (λ rest not. tt)
    (none_begins line_of line_begins))
