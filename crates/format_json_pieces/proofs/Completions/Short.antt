-- A short text that completes the value, for each state of the walk.
use Rattle.std.specs.Prelude.{◌≡◌, ◌+◌, ◌≤◌, ◌<◌, ◌∷◌, ◌++◌, ℕ, [], List, length, true}
use Rattle.std.proofs.Common.{arith, length-append, refl}
use Rattle.std.proofs.lemmas.List.Elements.{All-from_recursion, All-nil}
use Rattle.std.proofs.lemmas.Str.{IsUtf8-append, IsUtf8-nil}
use Rattle.format_json_extents.proofs.Characters.{AreAscii, ascii_is_utf8}
use Rattle.format_json_extents.proofs.Matching.{then_of_parts}
use Rattle.format_json_extents.specs.Value.{IsWhitespaceByte}
use Rattle.format_json_pieces.proofs.Completions.{letters_of}
use Rattle.format_json_pieces.proofs.Completions.Numbers.{figure_done}
use Rattle.format_json_pieces.proofs.Completions.Walked.{Both, BothAfter, both_back, into_after}
use Rattle.format_json_pieces.proofs.Completions.Walked.{walked_to}
use Rattle.format_json_pieces.specs.Extents.{IsWalkedTo}
use Rattle.format_json_pieces.specs.Inside.{may_be_last}
use Rattle.format_json_pieces.specs.declared.begun.Bracket.{Bracket}
use Rattle.format_json_pieces.specs.declared.begun.Bracket.TheVariants as kinds
use Rattle.format_json_pieces.specs.declared.begun.Mode.{Mode}
use Rattle.format_json_pieces.specs.declared.begun.Mode.TheVariants as modes
use Rattle.format_json_pieces.specs.declared.inside.Figure.{Figure}
use Rattle.format_json_pieces.specs.declared.inside.Figure.TheVariants as figures
use Rattle.format_json_pieces.specs.declared.inside.Letters.{Letters}
use Rattle.format_json_pieces.specs.declared.inside.Letters.TheVariants as words
use Rattle.format_json_pieces.specs.declared.inside.Part.{Part}
use Rattle.format_json_pieces.specs.declared.inside.Part.TheVariants as parts

-- a text of `P` with at most `most` bytes
abbrev pub Short : ℕ → (List ℕ → Type 0) → Type 0
Short most P = (text : List ℕ) × P text × (length text ≤ most)

wider : {n m : ℕ} {P : List ℕ → Type 0} → n ≤ m → Short n P → Short m P
wider less (l, is, few) = (l, is, omega (arith, less, few))

-- ---- bytes of strings, numbers and words

-- up to where any character is accepted
abbrev rest_of : Part → List ℕ
rest_of parts.Plain = []
rest_of parts.Escape = 110 ∷ []
rest_of parts.Unit = 48 ∷ 48 ∷ 48 ∷ 48 ∷ []
rest_of parts.AfterSurrogateD = 48 ∷ 48 ∷ 48 ∷ []
rest_of parts.Three = 48 ∷ 48 ∷ 48 ∷ []
rest_of parts.Two = 48 ∷ 48 ∷ []
rest_of parts.One = 48 ∷ []
rest_of parts.HighTwo = 48 ∷ 48 ∷ 92 ∷ 117 ∷ 68 ∷ 67 ∷ 48 ∷ 48 ∷ []
rest_of parts.HighOne = 48 ∷ 92 ∷ 117 ∷ 68 ∷ 67 ∷ 48 ∷ 48 ∷ []
rest_of parts.Backslash = 92 ∷ 117 ∷ 68 ∷ 67 ∷ 48 ∷ 48 ∷ []
rest_of parts.LetterU = 117 ∷ 68 ∷ 67 ∷ 48 ∷ 48 ∷ []
rest_of parts.LowD = 68 ∷ 67 ∷ 48 ∷ 48 ∷ []
rest_of parts.LowSecond = 67 ∷ 48 ∷ 48 ∷ []
rest_of parts.TailOne = 128 ∷ []
rest_of parts.TailTwo = 128 ∷ 128 ∷ []
rest_of parts.TailThree = 128 ∷ 128 ∷ 128 ∷ []
rest_of parts.TailLong = 160 ∷ 128 ∷ []
rest_of parts.TailScalar = 128 ∷ 128 ∷ []
rest_of parts.TailLonger = 144 ∷ 128 ∷ 128 ∷ []
rest_of parts.TailLast = 128 ∷ 128 ∷ 128 ∷ []

rest_few : (part : Part) → length (rest_of part) ≤ 8
rest_few parts.Plain = omega arith
rest_few _ = omega arith

-- up to where a number may end, and the number there
abbrev digit_of : Figure → List ℕ
digit_of figures.Minus = 48 ∷ []
digit_of figures.Point = 48 ∷ []
digit_of figures.Exponent = 48 ∷ []
digit_of figures.Sign = 48 ∷ []
digit_of _ = []

abbrev last_of : Figure → Figure
last_of figures.Minus = figures.Zero
last_of figures.Point = figures.Fraction
last_of figures.Exponent = figures.Power
last_of figures.Sign = figures.Power
last_of figure = figure

digit_few : (figure : Figure) → length (digit_of figure) ≤ 1
digit_few figures.Minus = omega arith
digit_few _ = omega arith

last_final : (figure : Figure) → may_be_last (last_of figure) ≡ true
last_final figures.Minus = refl
last_final _ = refl

letters_few : (letters : Letters) → length (letters_of letters) ≤ 4
letters_few words.Ull = omega arith
letters_few _ = omega arith

letters_low : (letters : Letters) → AreAscii (letters_of letters)
letters_low words.Ull = All-from_recursion (λ b. b < 128) (letters_of words.Ull) (omega arith)
letters_low letters = All-from_recursion (λ b. b < 128) (letters_of letters) (omega arith)

module _ (level : ℕ) (held : List Bracket) where
  text_to : (part : Part)
      → IsWalkedTo level (modes.Text part) held (rest_of part) (modes.Text parts.Plain) held
  text_to parts.Plain = (refl, refl)
  text_to _ = (refl, refl)

  name_to : (part : Part)
      → IsWalkedTo level (modes.Name part) held (rest_of part) (modes.Name parts.Plain) held
  name_to parts.Plain = (refl, refl)
  name_to _ = (refl, refl)

  number_to : (figure : Figure) → IsWalkedTo level (modes.Number figure) held (digit_of figure)
      (modes.Number (last_of figure)) held
  number_to figures.Minus = (refl, refl)
  number_to _ = (refl, refl)

-- ---- values

module _ (level : ℕ) where
  -- a byte in front
  before : {n : ℕ} {P Q : List ℕ → Type 0} (b : ℕ) → ((l : List ℕ) → P l → Q (b ∷ l)) → Short n P
      → Short (n + 1) Q
  before b makes (l, is, few) = (b ∷ l, makes l is, omega (arith, few))

  -- the bytes of a walk in front
  walked : {n most : ℕ} (mode last : Mode) (held : List Bracket) (front : List ℕ)
      → length front ≤ most → IsWalkedTo level mode held front last held
      → Short n (Both level last held) → Short (n + most) (Both level mode held)
  walked mode last held front size to (l, is, few) = (
    front ++ l,
    walked_to level last held l is front mode held to,
    omega (arith, few, size, length-append front l),
  )

  -- the brackets closed
  after_short : (held : List Bracket) → Short (length held) (BothAfter level held)
  after_short [] = ([], (refl, IsUtf8-nil), omega arith)
  after_short (kinds.Whole ∷ held) = ([], (All-nil IsWhitespaceByte, IsUtf8-nil), omega arith)
  after_short (kinds.Array ∷ held) =
      let (l, is, few) = after_short held in (
        93 ∷ l,
        both_back level l 93 modes.After (kinds.Array ∷ held) (into_after level l held is),
        omega (arith, few),
      )
  after_short (kinds.Object ∷ held) =
      let (l, is, few) = after_short held in (
        125 ∷ l,
        both_back level l 125 modes.After (kinds.Object ∷ held) (into_after level l held is),
        omega (arith, few),
      )

  module _ (held : List Bracket) where
    -- a number that is complete
    final_short : (figure : Figure) → may_be_last figure ≡ true
        → Short (length held) (Both level (modes.Number figure) held)
    final_short figure final =
        let (l, is, few) = after_short held in
        (l, (then_of_parts [] l (figure_done figure final) is.0 refl, is.1), few)

    number_short : (figure : Figure)
        → Short (length held + 1) (Both level (modes.Number figure) held)
    number_short figure =
        walked (modes.Number figure) (modes.Number (last_of figure)) held (digit_of figure)
        (digit_few figure) (number_to level held figure)
        (final_short (last_of figure) (last_final figure))

    word_short : (letters : Letters)
        → Short (length held + 4) (Both level (modes.Word letters) held)
    word_short letters =
        let (l, is, few) = after_short held in
        let front = letters_of letters in (
          front ++ l,
          (
            then_of_parts front l refl is.0 refl,
            IsUtf8-append front l (ascii_is_utf8 front (letters_low letters)) is.1,
          ),
          omega (arith, few, letters_few letters, length-append front l),
        )

    value_short : Short (length held + 1) (Both level modes.Value held)
    value_short =
        before 48 (λ l. both_back level l 48 modes.Value held) (final_short figures.Zero refl)

    colon_short : Short (length held + 1 + 1) (Both level modes.Colon held)
    colon_short = before 58 (λ l. both_back level l 58 modes.Colon held) value_short

    name_short : (part : Part)
        → Short (length held + 1 + 1 + 1 + 8) (Both level (modes.Name part) held)
    name_short part =
        walked (modes.Name part) (modes.Name parts.Plain) held (rest_of part) (rest_few part)
        (name_to level held part)
        (before 34 (λ l. both_back level l 34 (modes.Name parts.Plain) held) colon_short)

    text_short : (part : Part) → Short (length held + 1 + 8) (Both level (modes.Text part) held)
    text_short part =
        walked (modes.Text part) (modes.Text parts.Plain) held (rest_of part) (rest_few part)
        (text_to level held part)
        (before 34 (λ l x. both_back level l 34 (modes.Text parts.Plain) held
        (into_after level l held x)) (after_short held))

  -- Each state has a completion, with a few bytes more than there are brackets to close.
  abbrev Done : Mode → List Bracket → Type 0
  Done mode held = Short (length held + 15) (Both level mode held)

  -- a member with no name, or zero
  item_short : (held : List Bracket) → Done modes.Item held
  item_short (kinds.Object ∷ held) =
      wider (omega arith) (before 34 (λ l. both_back level l 34 modes.Item (kinds.Object ∷ held))
      (name_short (kinds.Object ∷ held) parts.Plain))
  item_short held =
      wider (omega arith) (before 48 (λ l. both_back level l 48 modes.Item held)
      (final_short held figures.Zero refl))

  -- no items, or zero
  first_short : (held : List Bracket) → Done modes.First held
  first_short (kinds.Array ∷ held) =
      wider (omega arith) (before 93 (λ l x. both_back level l 93 modes.First (kinds.Array ∷ held)
      (into_after level l held x)) (after_short held))
  first_short (kinds.Object ∷ held) =
      wider (omega arith)
      (before 125 (λ l x. both_back level l 125 modes.First (kinds.Object ∷ held)
      (into_after level l held x)) (after_short held))
  first_short held =
      wider (omega arith) (before 48 (λ l. both_back level l 48 modes.First held)
      (final_short held figures.Zero refl))

  pub short : (held : List Bracket) (mode : Mode) → Done mode held
  short held modes.First = first_short held
  short held modes.Item = item_short held
  short held modes.Colon = wider (omega arith) (colon_short held)
  short held modes.Value = wider (omega arith) (value_short held)
  short held modes.After = wider (omega arith) (after_short held)
  short held (modes.Name part) = wider (omega arith) (name_short held part)
  short held (modes.Text part) = wider (omega arith) (text_short held part)
  short held (modes.Number figure) = wider (omega arith) (number_short held figure)
  short held (modes.Word letters) = wider (omega arith) (word_short held letters)
