-- The texts that complete a value: what may follow where the walk stands, in the words of the
-- grammar of values.
use Rattle.std.specs.Prelude.{◌≡◌, ◌-◌, ◌++◌, ◌∷◌, ℕ, [], Bool, List, false, length, true}
use Rattle.std.proofs.Common.{ap, append_assoc, refl, sym, ◌∙◌}
use Rattle.std.specs.List.{All}
use Rattle.format_json_extents.proofs.Matching.{then_of_parts}
use Rattle.format_json_extents.specs.Number.{IsDigit, IsDigits, IsExponent, IsFraction}
use Rattle.format_json_extents.specs.Number.{IsIntegerPart, IsSign}
use Rattle.format_json_extents.specs.Strings.{BeginLowSurrogate, IsBackslash, IsCharacterCode}
use Rattle.format_json_extents.specs.Strings.{IsCodeUnit, IsEscape, IsHexDigit, IsHexDigitD}
use Rattle.format_json_extents.specs.Strings.{IsLetterU, IsStringTail, IsTwoHexDigits}
use Rattle.format_json_extents.specs.Texts.{Either, IsByte, Maybe, Then}
use Rattle.format_json_extents.specs.Value.{Exactly, IsClosing, IsColon, IsItemsTail, IsNestedTail}
use Rattle.format_json_extents.specs.Value.{IsValue, IsWhitespace}
use Rattle.format_json_pieces.specs.declared.begun.Bracket.{Bracket}
use Rattle.format_json_pieces.specs.declared.begun.Bracket.TheVariants as kinds
use Rattle.format_json_pieces.specs.declared.begun.Mode.{Mode}
use Rattle.format_json_pieces.specs.declared.begun.Mode.TheVariants as modes
use Rattle.format_json_pieces.specs.declared.inside.Figure.{Figure}
use Rattle.format_json_pieces.specs.declared.inside.Figure.TheVariants as figures
use Rattle.format_json_pieces.specs.declared.inside.Letters.{Letters}
use Rattle.format_json_pieces.specs.declared.inside.Letters.TheVariants as words
use Rattle.format_json_pieces.specs.declared.inside.Part.{Part}
use Rattle.format_json_pieces.specs.declared.inside.Part.TheVariants as parts
pub mod Bytes
pub mod Items
pub mod Numbers
pub mod Short
pub mod Standard
pub mod Strings
pub mod Texts
pub mod Utf8
pub mod Values
pub mod Walked

-- ---- one text and then another

-- bytes in front of the first of two texts
pub in_front : {P Q R : List ℕ → Type 0} (xs : List ℕ) {l : List ℕ}
    → ((m : List ℕ) → P m → Q (xs ++ m)) → Then P R l → Then Q R (xs ++ l)
in_front xs makes it =
    then_of_parts (xs ++ it.first) it.second (makes it.first it.is_first) it.is_second
    (ap (λ m. xs ++ m) it.joins ∙ sym (append_assoc xs it.first it.second))

pub then_left : {P Q R : List ℕ → Type 0} {l : List ℕ} → Then P (Then Q R) l
    → Then (Then P Q) R l
then_left it =
    let more = it.is_second in
    then_of_parts (it.first ++ more.first) more.second
    (then_of_parts it.first more.first it.is_first more.is_first refl) more.is_second
    (it.joins ∙ ap (λ m. it.first ++ m) more.joins
    ∙ sym (append_assoc it.first more.first more.second))

pub second_as : {P Q R : List ℕ → Type 0} {l : List ℕ} → ((m : List ℕ) → Q m → R m)
    → Then P Q l → Then P R l
second_as makes it =
    then_of_parts it.first it.second it.is_first (makes it.second it.is_second) it.joins

pub first_as : {P Q R : List ℕ → Type 0} {l : List ℕ} → ((m : List ℕ) → P m → Q m)
    → Then P R l → Then Q R l
first_as makes it =
    then_of_parts it.first it.second (makes it.first it.is_first) it.is_second it.joins

-- ---- strings

-- the second unit of a pair, and the rest of the string
abbrev pub LowTail : List ℕ → Type 0
LowTail = Then (IsCodeUnit BeginLowSurrogate) IsStringTail

-- the same, after a backslash and u
abbrev pub LowEscape : List ℕ → Type 0
LowEscape = Then (IsByte IsBackslash) (Then (IsByte IsLetterU) LowTail)

-- the digits of a character, and the rest of the string
abbrev pub DigitsTail : List ℕ → Type 0
DigitsTail = Then IsCharacterCode IsStringTail

-- `CompletesPart part text`: `text` is the rest of a string in which this part is to come.
abbrev pub CompletesPart : Part → List ℕ → Type 0
CompletesPart parts.Escape text = Then IsEscape IsStringTail text
CompletesPart parts.Unit text = DigitsTail text
CompletesPart parts.AfterSurrogateD text = (d : ℕ) → IsHexDigitD d → DigitsTail (d ∷ text)
CompletesPart parts.Three text =
    (d : ℕ) → IsHexDigit d → (IsHexDigitD d → ⊥) → DigitsTail (d ∷ text)
CompletesPart parts.Two text = Then IsTwoHexDigits IsStringTail text
CompletesPart parts.One text = Then (IsByte IsHexDigit) IsStringTail text
CompletesPart parts.HighTwo text = Then IsTwoHexDigits LowEscape text
CompletesPart parts.HighOne text = Then (IsByte IsHexDigit) LowEscape text
CompletesPart parts.Backslash text = LowEscape text
CompletesPart parts.LetterU text = Then (IsByte IsLetterU) LowTail text
CompletesPart parts.LowD text = LowTail text
CompletesPart parts.LowSecond text = (d : ℕ) → IsHexDigitD d → LowTail (d ∷ text)
CompletesPart _ text = IsStringTail text

-- ---- numbers and words

-- what may follow the integer of a number
abbrev pub AfterInteger : List ℕ → Type 0
AfterInteger = Then (Maybe IsFraction) (Maybe IsExponent)

abbrev pub CompletesFigure : Figure → List ℕ → Type 0
CompletesFigure figures.Minus = Then IsIntegerPart AfterInteger
CompletesFigure figures.Zero = AfterInteger
CompletesFigure figures.Whole = Then (All IsDigit) AfterInteger
CompletesFigure figures.Point = Then IsDigits (Maybe IsExponent)
CompletesFigure figures.Fraction = Then (All IsDigit) (Maybe IsExponent)
CompletesFigure figures.Exponent = Then (Maybe (IsByte IsSign)) IsDigits
CompletesFigure figures.Sign = IsDigits
CompletesFigure figures.Power = All IsDigit

abbrev pub letters_of : Letters → List ℕ
letters_of words.Ull = 117 ∷ 108 ∷ 108 ∷ []
letters_of words.Ll = 108 ∷ 108 ∷ []
letters_of words.L = 108 ∷ []
letters_of words.Rue = 114 ∷ 117 ∷ 101 ∷ []
letters_of words.Ue = 117 ∷ 101 ∷ []
letters_of words.E = 101 ∷ []
letters_of words.Alse = 97 ∷ 108 ∷ 115 ∷ 101 ∷ []
letters_of words.Lse = 108 ∷ 115 ∷ 101 ∷ []
letters_of words.Se = 115 ∷ 101 ∷ []

-- ---- values

-- a comma
abbrev pub IsComma : ℕ → Type 0
IsComma b = b ≡ 44

-- The rest of an object (`true`) or an array (`false`) after an item.
abbrev pub IsAfterItem : Bool → (List ℕ → Type 0) → List ℕ → Type 0
IsAfterItem keyed V =
    Then IsWhitespace
    (Either (IsByte (IsClosing keyed)) (Then (IsByte IsComma) (IsItemsTail keyed V)))

module _ (level : ℕ) where
  -- a value in these brackets
  abbrev pub InBrackets : List Bracket → List ℕ → Type 0
  InBrackets held = IsValue (level - length held)

  abbrev pub CompletesAfter : List Bracket → List ℕ → Type 0
  CompletesAfter [] text = text ≡ []
  CompletesAfter (kinds.Whole ∷ held) text = IsWhitespace text
  CompletesAfter (kinds.Array ∷ held) text =
      Then (IsAfterItem false (InBrackets (kinds.Array ∷ held))) (CompletesAfter held) text
  CompletesAfter (kinds.Object ∷ held) text =
      Then (IsAfterItem true (InBrackets (kinds.Object ∷ held))) (CompletesAfter held) text

  -- a value, and what completes the brackets after it
  abbrev pub CompletesHere : List Bracket → List ℕ → Type 0
  CompletesHere held = Then (InBrackets held) (CompletesAfter held)

  abbrev pub CompletesValue : List Bracket → List ℕ → Type 0
  CompletesValue held = Then IsWhitespace (CompletesHere held)

  abbrev pub CompletesColon : List Bracket → List ℕ → Type 0
  CompletesColon held = Then IsWhitespace (Then (IsByte IsColon) (CompletesValue held))

  abbrev pub CompletesItem : List Bracket → List ℕ → Type 0
  CompletesItem [] text = CompletesValue [] text
  CompletesItem (kinds.Whole ∷ held) text = CompletesValue (kinds.Whole ∷ held) text
  CompletesItem (kinds.Array ∷ held) text =
      Then (IsItemsTail false (InBrackets (kinds.Array ∷ held))) (CompletesAfter held) text
  CompletesItem (kinds.Object ∷ held) text =
      Then (IsItemsTail true (InBrackets (kinds.Object ∷ held))) (CompletesAfter held) text

  abbrev pub CompletesFirst : List Bracket → List ℕ → Type 0
  CompletesFirst [] text = CompletesValue [] text
  CompletesFirst (kinds.Whole ∷ held) text = CompletesValue (kinds.Whole ∷ held) text
  CompletesFirst (kinds.Array ∷ held) text =
      Then (IsNestedTail false (InBrackets (kinds.Array ∷ held))) (CompletesAfter held) text
  CompletesFirst (kinds.Object ∷ held) text =
      Then (IsNestedTail true (InBrackets (kinds.Object ∷ held))) (CompletesAfter held) text

  -- `Completes mode held text`: `text` completes the value where `mode` is to come in the brackets
  -- `held`, that which was opened last first; in `Whole`, with the whitespace after the value.
  abbrev pub Completes : Mode → List Bracket → List ℕ → Type 0
  Completes modes.First held = CompletesFirst held
  Completes modes.Item held = CompletesItem held
  Completes modes.Colon held = CompletesColon held
  Completes modes.Value held = CompletesValue held
  Completes modes.After held = CompletesAfter held
  Completes (modes.Name part) held = Then (CompletesPart part) (CompletesColon held)
  Completes (modes.Text part) held = Then (CompletesPart part) (CompletesAfter held)
  Completes (modes.Number figure) held = Then (CompletesFigure figure) (CompletesAfter held)
  Completes (modes.Word letters) held = Then (Exactly (letters_of letters)) (CompletesAfter held)
