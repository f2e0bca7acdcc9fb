-- The encoding that is written for a value: with the whitespace of a layout, and with strings
-- escaped as specified in RFC 8785 (section 3.2.2.2).
use Rattle.std.specs.Prelude.{◌+◌, ◌^◌, ◌≤◌, ◌++◌, ℕ, zero, suc, List, [], ◌∷◌, replicate}
use Rattle.std.specs.declared.string.String.{String}
use Rattle.std.specs.declared.vec.Vec.{Vec}
use Rattle.format_json_texts.specs.Number.{NumberText}
use Rattle.format_json_texts.specs.Values.{HasText, IsArray, IsNumber, IsObject, IsString, IsWord}
use Rattle.format_json_texts.specs.Values.{WordText}
use Rattle.format_json_texts.specs.declared.value.Value.{Value}
use Rattle.format_json_writer.specs.Strings.{CanonicalString}
use Rattle.format_json_writer.specs.declared.layout.Layout.{Layout}
use Rattle.format_json_writer.specs.declared.layout.Layout.TheVariants as layouts
use Rattle.format_parts.specs.Words.{Between, For, latter, pair}
use Rattle.grammars.specs.Texts.{BothText, EitherText, GatheredText, InList, PartedText, Spelled}
use Rattle.grammars.specs.Texts.{Text}
use Rattle.stream_sets.specs.Accumulator.Holds.{HasCharacters}

-- ---- whitespace

-- before each element and member, and after the last: none, or a line feed and spaces
abbrev pub line_of : Layout → List ℕ
line_of layouts.Compact = []
line_of (layouts.Lines now step) = 10 ∷ replicate now 32

-- after each colon: none, or a space
abbrev pub space_of : Layout → List ℕ
space_of layouts.Compact = []
space_of (layouts.Lines now step) = 32 ∷ []

-- the layout of the contents of an array or an object
abbrev pub deeper_of : Layout → Layout
deeper_of layouts.Compact = layouts.Compact
deeper_of (layouts.Lines now step) = layouts.Lines (now + step) step

-- the contents are indented by more spaces than `usize` can count
abbrev pub IsTooWide : Layout → Type 0
IsTooWide layouts.Compact = ⊥
IsTooWide (layouts.Lines now step) = 2 ^ 64 ≤ now + step

-- the whitespace of lines where the list has items; none where it is empty
abbrev pub line_in : {O : Type 0} → List O → Layout → List ℕ
line_in [] layout = []
line_in (o ∷ os) layout = line_of layout

-- ---- values

-- a structural character, and whitespace after it
abbrev pub LaidMark : ℕ → List ℕ → Text ℕ ℕ
LaidMark c gap = Spelled (c ∷ gap) c

-- items with commas between them
abbrev pub LaidItems : {O : Type 0} → Layout → Text ℕ O → Text ℕ (List O)
LaidItems layout item = PartedText (LaidMark 44 (line_of layout)) item

-- the same, between brackets
abbrev pub LaidList : {O A : Type 0} → (opening closing : ℕ) → (outer inner : Layout) → Text ℕ O
    → Text ℕ (Vec O A)
LaidList opening closing outer inner item list =
    Between (LaidMark opening (line_in list.items inner))
    (InList (LaidItems inner item))
    (Spelled (line_in list.items outer ++ closing ∷ []) closing) list

module _ {A : Type 0} where
  -- a string
  abbrev pub CompactString : Text ℕ (String A)
  CompactString = GatheredText HasCharacters CanonicalString

  -- a value that has no others in it
  abbrev pub CompactScalar : Text ℕ (Value A)
  CompactScalar =
      EitherText (For IsWord WordText)
      (EitherText (For IsNumber (For HasText NumberText)) (For IsString CompactString))

  -- a name, a colon and a value
  abbrev pub LaidMember : Layout → Text ℕ (Value A) → Text ℕ (String A × Value A)
  LaidMember layout value =
      BothText pair CompactString (BothText latter (LaidMark 58 (space_of layout)) value)

  -- an array or an object whose contents are `value`, by the layout `inner`
  abbrev pub LaidNest : (outer inner : Layout) → Text ℕ (Value A) → Text ℕ (Value A)
  LaidNest outer inner value =
      EitherText (For IsArray (LaidList 91 93 outer inner value))
      (For IsObject (LaidList 123 125 outer inner (LaidMember inner value)))

  -- `LaidValue layout level`: a value whose arrays and objects are nested at most `level` deep
  unfoldable pub LaidValue : Layout → ℕ → Text ℕ (Value A)
  LaidValue layout zero = CompactScalar
  LaidValue layout (suc level) =
      EitherText CompactScalar
      (LaidNest layout (deeper_of layout) (LaidValue (deeper_of layout) level))

  -- the same without whitespace
  abbrev pub CompactValue : ℕ → Text ℕ (Value A)
  CompactValue = LaidValue layouts.Compact
