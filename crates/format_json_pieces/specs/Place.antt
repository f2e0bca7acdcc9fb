-- The offset at which bytes are no longer a possible prefix of a JSON text, and the input that is
-- expected there.
use Rattle.std.specs.Prelude.{◌≡◌, ◌⊎◌, ◌↔◌, ◌≤◌, ℕ, suc, List, [], ◌∷◌, ◌++◌, Option, Some}
use Rattle.std.specs.Prelude.{None, length, ⊤}
use Rattle.std.specs.Option.{option_to_list}
use Rattle.format_json_pieces.specs.Begun.{IsViablePrefix, last_open, next_step}
use Rattle.format_json_pieces.specs.Inside.{expected_letter}
use Rattle.format_json_pieces.specs.Value.{BeginsText}
use Rattle.format_json_pieces.specs.declared.begun.Bracket.{Bracket}
use Rattle.format_json_pieces.specs.declared.begun.Bracket.TheVariants.{Array, Object, Whole}
use Rattle.format_json_pieces.specs.declared.begun.Mode.{Mode}
use Rattle.format_json_pieces.specs.declared.begun.Mode.TheVariants.{After, Colon, First, Item}
use Rattle.format_json_pieces.specs.declared.begun.Mode.TheVariants.{Name}
use Rattle.format_json_pieces.specs.declared.begun.Mode.TheVariants.{Number, Text, Value, Word}
use Rattle.format_json_pieces.specs.declared.begun.Step.TheVariants.{Opens, Invalid}
use Rattle.format_json_pieces.specs.declared.expected.Expected.{Expected}
use Rattle.format_json_pieces.specs.declared.expected.Expected.TheVariants as what
use Rattle.format_json_pieces.specs.declared.inside.Figure.{Figure}
use Rattle.format_json_pieces.specs.declared.inside.Figure.TheVariants.{Exponent, Minus, Point}
use Rattle.format_json_pieces.specs.declared.inside.Figure.TheVariants.{Sign}
use Rattle.format_json_pieces.specs.declared.inside.Part.{Part}
use Rattle.format_json_pieces.specs.declared.inside.Part.TheVariants as parts

-- ---- by name

abbrev pub wanted_item : Mode → Option Bracket → Expected
wanted_item First (Some Array) = what.ValueOrBracket
wanted_item First (Some Object) = what.NameOrBrace
wanted_item _ (Some Object) = what.Name
wanted_item _ _ = what.Value

abbrev pub wanted_after : Option Bracket → Expected
wanted_after (Some Array) = what.CommaOrBracket
wanted_after (Some Object) = what.CommaOrBrace
wanted_after (Some Whole) = what.End
wanted_after None = what.End

abbrev pub wanted_in_string : Part → Expected
wanted_in_string parts.Plain = what.Character
wanted_in_string parts.Escape = what.Escape
wanted_in_string parts.AfterSurrogateD = what.FirstHalf
wanted_in_string parts.Backslash = what.SecondHalf
wanted_in_string parts.LetterU = what.SecondHalf
wanted_in_string parts.LowD = what.SecondHalf
wanted_in_string parts.LowSecond = what.SecondHalf
wanted_in_string parts.Unit = what.HexDigit
wanted_in_string parts.Three = what.HexDigit
wanted_in_string parts.Two = what.HexDigit
wanted_in_string parts.One = what.HexDigit
wanted_in_string parts.HighTwo = what.HexDigit
wanted_in_string parts.HighOne = what.HexDigit
wanted_in_string _ = what.Utf8

abbrev pub wanted_in_number : Figure → Option Bracket → Expected
wanted_in_number Minus held = what.Digit
wanted_in_number Point held = what.Digit
wanted_in_number Sign held = what.Digit
wanted_in_number Exponent held = what.DigitOrSign
wanted_in_number _ held = wanted_after held

abbrev pub wanted : Mode → Option Bracket → Expected
wanted First held = wanted_item First held
wanted Item held = wanted_item Item held
wanted Colon held = what.Colon
wanted Value held = what.Value
wanted After held = wanted_after held
wanted (Name part) held = wanted_in_string part
wanted (Text part) held = wanted_in_string part
wanted (Number figure) held = wanted_in_number figure held
wanted (Word letters) held = what.Letter (expected_letter letters)

-- ---- the place

-- the number of brackets that may be open
abbrev pub most_open : ℕ → Option Bracket → ℕ
most_open level None = level
most_open level (Some outer) = suc level

-- `BeginsIn level outer bytes`: `bytes` is a possible prefix, or already has the text, of a value
-- in the bracket `outer`, or in none, with at most `level` more open.
abbrev pub BeginsIn : ℕ → Option Bracket → List ℕ → Type 0
BeginsIn level outer = IsViablePrefix (most_open level outer) Value (option_to_list outer)

module _ (level : ℕ) (outer : Option Bracket) where
  -- `IsStopped front rest`: `front` and the next byte of `rest` cannot begin a text; or `rest` is
  -- empty.
  abbrev pub IsStopped : List ℕ → List ℕ → Type 0
  IsStopped front [] = ⊤
  IsStopped front (b ∷ rest) = BeginsIn level outer (front ++ b ∷ []) → ⊥

  -- `LeadsTo front mode held`: after `front`, `mode` is expected in the brackets `held`. Bytes may
  -- follow `front` if and only if they may occur there.
  abbrev pub LeadsTo : List ℕ → Mode → List Bracket → Type 0
  LeadsTo front mode held =
      (more : List ℕ) → IsViablePrefix (most_open level outer) mode held more
      ↔ BeginsIn level outer (front ++ more)

  -- `IsNamed mode held rest expected`: at the end, or if the next byte is rejected, `expected` is
  -- the name of `mode` in the brackets `held`. If the next byte opens a bracket too many,
  -- `expected` is `NoDeeper`.
  abbrev pub IsNamed : Mode → List Bracket → List ℕ → Expected → Type 0
  IsNamed mode held [] expected = expected ≡ wanted mode (last_open held)
  IsNamed mode held (b ∷ rest) expected =
      ((next_step mode (last_open held) b ≡ Invalid) × (expected ≡ wanted mode (last_open held)))
      ⊎ ((k : Bracket) × (next_step mode (last_open held) b ≡ Opens k)
      × (most_open level outer ≤ length held) × (expected ≡ what.NoDeeper))

  -- `IsWanted front rest expected`: `expected` is the input that is expected after `front`, with
  -- `rest` remaining.
  abbrev pub IsWanted : List ℕ → List ℕ → Expected → Type 0
  IsWanted front rest expected =
      (mode : Mode) × (held : List Bracket) × LeadsTo front mode held
      × IsNamed mode held rest expected

  -- `IsPlaceIn bytes offset expected`: an offset in `bytes`, and the input that is expected there.
  -- `End` is expected without such a name only if any continuation is accepted.
  abbrev pub IsPlaceIn : List ℕ → ℕ → Expected → Type 0
  IsPlaceIn bytes offset expected =
      (front : List ℕ) × (rest : List ℕ) × (bytes ≡ front ++ rest) × (length front ≡ offset)
      × BeginsIn level outer front × IsStopped front rest
      × (IsWanted front rest expected
      ⊎ ((expected ≡ what.End) × (rest ≡ [])
      × ((more : List ℕ) → BeginsIn level outer (front ++ more))))

-- `IsPlace level bytes offset expected`: such a place in a JSON text.
abbrev pub IsPlace : ℕ → List ℕ → ℕ → Expected → Type 0
IsPlace level = IsPlaceIn level (Some Whole)

module _ (A : Type 0) (level : ℕ) where
  -- No text has the first bytes and the next one; or none follows.
  abbrev pub NoneGoesOn : List ℕ → List ℕ → Type 0
  NoneGoesOn front [] = ⊤
  NoneGoesOn front (b ∷ rest) = BeginsText A level (front ++ b ∷ []) → ⊥

  -- `IsLongestPrefix bytes offset`: the bytes before the offset are the longest prefix of `bytes`
  -- that is one of a JSON text.
  abbrev pub IsLongestPrefix : List ℕ → ℕ → Type 0
  IsLongestPrefix bytes offset =
      (front : List ℕ) × (rest : List ℕ) × (bytes ≡ front ++ rest) × (length front ≡ offset)
      × BeginsText A level front × NoneGoesOn front rest
