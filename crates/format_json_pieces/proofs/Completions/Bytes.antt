-- One byte more of a value, in front of UTF-8; and steps before which a value has ended.
use Rattle.std.specs.Prelude.{◌≡◌, ◌<◌, ◌==◌, ◌&&◌, ◌||◌, ◌∷◌, ℕ, [], Bool, List, None, Option}
use Rattle.std.specs.Prelude.{Some}
use Rattle.std.specs.Prelude.{nat_le, not, true, ⊤}
use Rattle.std.specs.Str.{IsUtf8}
use Rattle.std.proofs.Common.{arith, refl, subst, sym}
use Rattle.std.proofs.lemmas.Bool.Decides.{nat_tests}
use Rattle.std.proofs.lemmas.Str.{IsUtf8-nil}
use Rattle.format_json_extents.proofs.Matching.{then_of_parts}
use Rattle.format_json_pieces.proofs.Completions.{Completes, CompletesAfter}
use Rattle.format_json_pieces.proofs.Completions.Numbers.{figure_done}
use Rattle.format_json_pieces.proofs.Completions.Strings.{if_by_cases}
use Rattle.format_json_pieces.proofs.Completions.Utf8.{Utf8Inner, Utf8Part, part_utf8, utf8_ascii}
use Rattle.format_json_pieces.specs.Begun.{HoldsAfterValue, HoldsAfterStep, after_step, first_step}
use Rattle.format_json_pieces.specs.Begun.{is_whitespace, item_step, last_open, letters_step}
use Rattle.format_json_pieces.specs.Begun.{name_step, next_step, number_step, others_open}
use Rattle.format_json_pieces.specs.Begun.{value_step, step_after_number, step_in_name}
use Rattle.format_json_pieces.specs.Begun.{step_in_text, word_step}
use Rattle.format_json_pieces.specs.Inside.{continues_number, expected_letter, figure_behind}
use Rattle.format_json_pieces.specs.Inside.{letters_behind, may_be_last, part_behind}
use Rattle.format_json_pieces.specs.declared.begun.Bracket.{Bracket}
use Rattle.format_json_pieces.specs.declared.begun.Bracket.TheVariants as kinds
use Rattle.format_json_pieces.specs.declared.begun.Mode.{Mode}
use Rattle.format_json_pieces.specs.declared.begun.Mode.TheVariants as modes
use Rattle.format_json_pieces.specs.declared.begun.Step.{Step}
use Rattle.format_json_pieces.specs.declared.begun.Step.TheVariants as steps
use Rattle.format_json_pieces.specs.declared.inside.Figure.{Figure}
use Rattle.format_json_pieces.specs.declared.inside.Figure.TheVariants as figures
use Rattle.format_json_pieces.specs.declared.inside.Inner.{Inner}
use Rattle.format_json_pieces.specs.declared.inside.Inner.TheVariants as inners
use Rattle.format_json_pieces.specs.declared.inside.Letters.{Letters}
use Rattle.format_json_pieces.specs.declared.inside.Letters.TheVariants as words
use Rattle.format_json_pieces.specs.declared.inside.Part.TheVariants as parts

-- ---- each step by the tests of its byte

-- what holds of each step where a value is to come
value_by : (P : Step → Type 0) (mode : Mode) (b : ℕ)
    → (is_whitespace b ≡ true → P (steps.Goes mode))
    → (b < 128 → P (steps.Goes (modes.Text parts.Plain)))
    → (b < 128 → (k : Bracket) → P (steps.Opens k))
    → (b < 128 → (letters : Letters) → P (steps.Goes (modes.Word letters)))
    → (b < 128 → (figure : Figure) → P (steps.Goes (modes.Number figure))) → P steps.Invalid
    → P (value_step mode b)
value_by P mode b gap text opens word number invalid =
    if_by_cases P (is_whitespace b) _ _ gap (λ e0.
    if_by_cases P (b == 34) _ _ (λ e. text (grind (arith, nat_tests, e))) (λ e1.
    if_by_cases P (b == 91) _ _ (λ e. opens (grind (arith, nat_tests, e)) kinds.Array) (λ e2.
    if_by_cases P (b == 123) _ _ (λ e. opens (grind (arith, nat_tests, e)) kinds.Object) (λ e3.
    if_by_cases P (b == 102) _ _ (λ e. word (grind (arith, nat_tests, e)) words.Alse) (λ e4.
    if_by_cases P (b == 110) _ _ (λ e. word (grind (arith, nat_tests, e)) words.Ull) (λ e5.
    if_by_cases P (b == 116) _ _ (λ e. word (grind (arith, nat_tests, e)) words.Rue) (λ e6.
    if_by_cases P (b == 45) _ _ (λ e. number (grind (arith, nat_tests, e)) figures.Minus) (λ e7.
    if_by_cases P (b == 48) _ _ (λ e. number (grind (arith, nat_tests, e)) figures.Zero) (λ e8.
    if_by_cases P (nat_le 49 b && nat_le b 57) _ _
    (λ e. number (grind (arith, nat_tests, e)) figures.Whole) (λ e9. invalid))))))))))

name_by : (P : Step → Type 0) (mode : Mode) (b : ℕ) → (is_whitespace b ≡ true → P (steps.Goes mode))
    → (b < 128 → P (steps.Goes (modes.Name parts.Plain))) → P steps.Invalid → P (name_step mode b)
name_by P mode b gap name invalid =
    if_by_cases P (is_whitespace b) _ _ gap (λ e0.
    if_by_cases P (b == 34) _ _ (λ e. name (grind (arith, nat_tests, e))) (λ e. invalid))

-- the bracket that was opened last is one that a byte closes
abbrev pub IsClosed : List Bracket → Type 0
IsClosed [] = ⊥
IsClosed (kinds.Whole ∷ held) = ⊥
IsClosed (kinds.Array ∷ held) = ⊤
IsClosed (kinds.Object ∷ held) = ⊤

after_by : (P : Step → Type 0) (k : Bracket) (held : List Bracket) (b : ℕ)
    → (is_whitespace b ≡ true → P (steps.Goes modes.After)) → (b < 128 → P (steps.Goes modes.Item))
    → (b < 128 → IsClosed (k ∷ held) → P steps.Closes) → P steps.Invalid → P (after_step k b)
after_by P kinds.Whole held b gap comma closes invalid =
    if_by_cases P (is_whitespace b) _ _ gap (λ e. invalid)
after_by P kinds.Array held b gap comma closes invalid =
    if_by_cases P (is_whitespace b) _ _ gap (λ e0.
    if_by_cases P (b == 44) _ _ (λ e. comma (grind (arith, nat_tests, e))) (λ e1.
    if_by_cases P (b == 93) _ _ (λ e. closes (grind (arith, nat_tests, e)) tt) (λ e. invalid)))
after_by P kinds.Object held b gap comma closes invalid =
    if_by_cases P (is_whitespace b) _ _ gap (λ e0.
    if_by_cases P (b == 44) _ _ (λ e. comma (grind (arith, nat_tests, e))) (λ e1.
    if_by_cases P (b == 125) _ _ (λ e. closes (grind (arith, nat_tests, e)) tt) (λ e. invalid)))

-- what makes UTF-8 of the bytes of a value before this mode
abbrev pub Utf8Mode : Mode → List ℕ → Type 0
Utf8Mode (modes.Name part) text = Utf8Part part text
Utf8Mode (modes.Text part) text = Utf8Part part text
Utf8Mode _ text = IsUtf8 text

gap_low : (b : ℕ) → is_whitespace b ≡ true → b < 128
gap_low b e = grind (arith, nat_tests, e)

-- ---- a byte in front of UTF-8

module _ (level b : ℕ) (text : List ℕ) where
  abbrev pub Utf8Step : List Bracket → Step → Type 0
  Utf8Step held step = HoldsAfterStep ⊥ (IsUtf8 text) (λ m o. Utf8Mode m text) level held step

  after_utf8 : (held : List Bracket) → HoldsAfterValue (IsUtf8 text) (λ m o. Utf8Mode m text) held
      → IsUtf8 text
  after_utf8 [] x = x
  after_utf8 (k ∷ held) x = x

  module _ (held : List Bracket) where
    abbrev Case : Step → Type 0
    Case step = Utf8Step held step → IsUtf8 (b ∷ text)

    low : b < 128 → IsUtf8 text → IsUtf8 (b ∷ text)
    low = utf8_ascii b text

    value_utf8 : (mode : Mode) → (Utf8Mode mode text → IsUtf8 text) → Case (value_step mode b)
    value_utf8 mode same =
        value_by Case mode b (λ e x. low (gap_low b e) (same x)) (λ few x. low few x)
        (λ few k x. low few x.1) (λ few letters x. low few x) (λ few figure x. low few x)
        (λ x. absurd x)

    name_utf8 : (mode : Mode) → (Utf8Mode mode text → IsUtf8 text) → Case (name_step mode b)
    name_utf8 mode same =
        name_by Case mode b (λ e x. low (gap_low b e) (same x)) (λ few x. low few x)
        (λ x. absurd x)

    item_utf8 : (o : Option Bracket) → Case (item_step modes.Item o b)
    item_utf8 (Some kinds.Object) = name_utf8 modes.Item (λ x. x)
    item_utf8 _ = value_utf8 modes.Item (λ x. x)

    first_utf8 : (o : Option Bracket) → Case (first_step o b)
    first_utf8 (Some kinds.Array) =
        if_by_cases Case (b == 93) _ _
        (λ e x. low (grind (arith, nat_tests, e)) (after_utf8 (others_open held) x))
        (λ e. value_utf8 modes.First (λ x. x))
    first_utf8 (Some kinds.Object) =
        if_by_cases Case (b == 125) _ _
        (λ e x. low (grind (arith, nat_tests, e)) (after_utf8 (others_open held) x))
        (λ e. name_utf8 modes.First (λ x. x))
    first_utf8 _ = value_utf8 modes.First (λ x. x)

    behind_utf8 : (o : Option Bracket) → Case (step_after_number o b)
    behind_utf8 None x = absurd x
    behind_utf8 (Some k) x =
        after_by Case k [] b (λ e y. low (gap_low b e) y) (λ few y. low few y)
        (λ few is y. low few (after_utf8 (others_open held) y)) (λ y. absurd y) x

    number_utf8 : (next : Option Figure) (final : Bool)
        → ((figure : Figure) → next ≡ Some figure → b < 128)
        → Case (number_step next final (last_open held) b)
    number_utf8 (Some figure) final few x = low (few figure refl) x
    number_utf8 None final few x =
        if_by_cases Case (not final || continues_number b) _ _ (λ e y. absurd y)
        (λ e y. behind_utf8 (last_open held) y) x

    figure_low : (figure next : Figure) → figure_behind figure b ≡ Some next → b < 128
    figure_low figures.Minus next e = grind (arith, nat_tests, e)
    figure_low _ next e = grind (arith, nat_tests, e)

    word_utf8 : (letters : Letters) → Case (letters_step letters b)
    word_utf8 letters =
        if_by_cases Case (b == expected_letter letters) _ _
        (λ e. by (letters_behind letters) (letter_low letters e)) (λ e x. absurd x)
      where
        letter_low : (letters : Letters) → b == expected_letter letters ≡ true → b < 128
        letter_low words.Ull e = grind (arith, nat_tests, e)
        letter_low _ e = grind (arith, nat_tests, e)

        by : (next : Option Letters) → b < 128 → Case (word_step next)
        by None few x = low few (after_utf8 held x)
        by (Some next) few x = low few x

    text_utf8 : (inner : Inner) → Utf8Step held (step_in_text inner) → Utf8Inner inner text
    text_utf8 inners.Broken x = x
    text_utf8 inners.Quote x = after_utf8 held x
    text_utf8 (inners.Part part) x = x

    name_part_utf8 : (inner : Inner) → Utf8Step held (step_in_name inner) → Utf8Inner inner text
    name_part_utf8 inners.Broken x = x
    name_part_utf8 inners.Quote x = x
    name_part_utf8 (inners.Part part) x = x

    -- A byte of a value, in front of what makes UTF-8 of the bytes before.
    pub step_utf8 : (mode : Mode) → Utf8Step held (next_step mode (last_open held) b)
        → Utf8Mode mode (b ∷ text)
    step_utf8 modes.First x = first_utf8 (last_open held) x
    step_utf8 modes.Item x = item_utf8 (last_open held) x
    step_utf8 modes.Value x = value_utf8 modes.Value (λ y. y) x
    step_utf8 modes.Colon x =
        if_by_cases Case (is_whitespace b) _ _ (λ e y. low (gap_low b e) y) (λ gap.
        if_by_cases Case (b == 58) _ _ (λ e y. low (grind (arith, nat_tests, e)) y)
        (λ e y. absurd y)) x
    step_utf8 modes.After x = behind_utf8 (last_open held) x
    step_utf8 (modes.Name part) x = part_utf8 b text part (name_part_utf8 (part_behind part b) x)
    step_utf8 (modes.Text part) x = part_utf8 b text part (text_utf8 (part_behind part b) x)
    step_utf8 (modes.Number figure) x =
        number_utf8 (figure_behind figure b) (may_be_last figure) (figure_low figure) x
    step_utf8 (modes.Word letters) x = word_utf8 letters x

-- ---- steps that end a value before their byte, and that close brackets

module _ (level : ℕ) (mode : Mode) (held : List Bracket) where
  -- A value has ended before the byte only outside brackets, and nothing is lacking; and only an
  -- array or an object is closed.
  abbrev pub IsFine : Step → Type 0
  IsFine steps.Ended = (held ≡ []) × Completes level mode held [] × Utf8Mode mode []
  IsFine steps.Closes = IsClosed held
  IsFine _ = ⊤

module _ (level b : ℕ) where
  value_fine : (mode next : Mode) (held : List Bracket)
      → IsFine level mode held (value_step next b)
  value_fine mode next held =
      value_by (IsFine level mode held) next b (λ e. tt) (λ few. tt) (λ few k. tt)
      (λ few letters. tt) (λ few figure. tt) tt

  name_fine : (mode next : Mode) (held : List Bracket) → IsFine level mode held (name_step next b)
  name_fine mode next held = name_by (IsFine level mode held) next b (λ e. tt) (λ few. tt) tt

  behind_fine : (mode : Mode) (held : List Bracket)
      → (held ≡ [] → Completes level mode held [] × Utf8Mode mode [])
      → IsFine level mode held (step_after_number (last_open held) b)
  behind_fine mode [] done = let (is, utf8) = done refl in (refl, is, utf8)
  behind_fine mode (k ∷ held) done =
      after_by (IsFine level mode (k ∷ held)) k held b (λ e. tt) (λ few. tt) (λ few is. is) tt

  first_fine : (held : List Bracket) → IsFine level modes.First held (first_step (last_open held) b)
  first_fine (kinds.Array ∷ held) =
      if_by_cases (IsFine level modes.First (kinds.Array ∷ held)) (b == 93) _ _ (λ e. tt)
      (λ e. value_fine modes.First modes.First (kinds.Array ∷ held))
  first_fine (kinds.Object ∷ held) =
      if_by_cases (IsFine level modes.First (kinds.Object ∷ held)) (b == 125) _ _ (λ e. tt)
      (λ e. name_fine modes.First modes.First (kinds.Object ∷ held))
  first_fine held = value_fine modes.First modes.First held

  item_fine : (held : List Bracket)
      → IsFine level modes.Item held (item_step modes.Item (last_open held) b)
  item_fine (kinds.Object ∷ held) = name_fine modes.Item modes.Item (kinds.Object ∷ held)
  item_fine held = value_fine modes.Item modes.Item held

  text_fine : (mode : Mode) (held : List Bracket) (inner : Inner)
      → IsFine level mode held (step_in_text inner)
  text_fine mode held inners.Broken = tt
  text_fine mode held _ = tt

  name_part_fine : (mode : Mode) (held : List Bracket) (inner : Inner)
      → IsFine level mode held (step_in_name inner)
  name_part_fine mode held inners.Broken = tt
  name_part_fine mode held _ = tt

  word_fine : (mode : Mode) (held : List Bracket) (next : Option Letters)
      → IsFine level mode held (word_step next)
  word_fine mode held None = tt
  word_fine mode held (Some letters) = tt

  number_fine : (figure : Figure) (held : List Bracket) (next : Option Figure)
      → IsFine level (modes.Number figure) held
      (number_step next (may_be_last figure) (last_open held) b)
  number_fine figure held (Some next) = tt
  number_fine figure held None =
      if_by_cases (IsFine level (modes.Number figure) held)
      (not (may_be_last figure) || continues_number b) _ _
      (λ e. tt) (λ e. behind_fine (modes.Number figure) held (λ none. (
        then_of_parts [] [] (figure_done figure (grind (arith, e))) (by held none) refl,
        IsUtf8-nil,
      )))
    where
      by : (held : List Bracket) → held ≡ [] → CompletesAfter level held []
      by held none = subst (λ o. CompletesAfter level o []) (sym none) refl

  pub step_fine : (mode : Mode) (held : List Bracket)
      → IsFine level mode held (next_step mode (last_open held) b)
  step_fine modes.First held = first_fine held
  step_fine modes.Item held = item_fine held
  step_fine modes.Value held = value_fine modes.Value modes.Value held
  step_fine modes.Colon held =
      if_by_cases (IsFine level modes.Colon held) (is_whitespace b) _ _ (λ e. tt)
      (λ e. if_by_cases (IsFine level modes.Colon held) (b == 58) _ _ (λ f. tt) (λ f. tt))
  step_fine modes.After held =
      behind_fine modes.After held
      (λ none. (subst (λ o. CompletesAfter level o []) (sym none) refl, IsUtf8-nil))
  step_fine (modes.Name part) held = name_part_fine (modes.Name part) held (part_behind part b)
  step_fine (modes.Text part) held = text_fine (modes.Text part) held (part_behind part b)
  step_fine (modes.Number figure) held = number_fine figure held (figure_behind figure b)
  step_fine (modes.Word letters) held =
      if_by_cases (IsFine level (modes.Word letters) held) (b == expected_letter letters) _ _
      (λ e. word_fine (modes.Word letters) held (letters_behind letters)) (λ e. tt)
