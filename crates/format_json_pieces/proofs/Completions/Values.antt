-- One byte more of a value, in front of what completes it.
use Rattle.std.specs.Prelude.{◌≡◌, ◌-◌, ◌<◌, ◌==◌, ◌&&◌, ◌||◌, ◌∷◌, ℕ, zero, suc, []}
use Rattle.std.specs.Prelude.{Bool, List, None, Option, Some, false, length, nat_le, not, true}
use Rattle.std.proofs.Common.{ap, arith, inl, inr, refl, subst, sym, ◌∙◌}
use Rattle.std.proofs.lemmas.Bool.Decides.{nat_tests}
use Rattle.format_json_extents.proofs.Matching.{one_byte_text, then_of_parts}
use Rattle.format_json_extents.specs.Strings.{IsString}
use Rattle.format_json_extents.specs.Number.{IsNumber}
use Rattle.format_json_extents.specs.Texts.{Then}
use Rattle.format_json_extents.specs.Value.{Exactly, IsClosing, IsItemsTail, IsNested, IsNestedTail}
use Rattle.format_json_extents.specs.Value.{IsScalar, IsValue, IsWhitespace, IsWord}
use Rattle.format_json_pieces.proofs.Completions.{Completes, CompletesAfter, CompletesColon}
use Rattle.format_json_pieces.proofs.Completions.{CompletesFigure, CompletesFirst, CompletesHere}
use Rattle.format_json_pieces.proofs.Completions.{CompletesItem, CompletesValue}
use Rattle.format_json_pieces.proofs.Completions.{InBrackets, IsAfterItem, IsComma, first_as}
use Rattle.format_json_pieces.proofs.Completions.{in_front, letters_of, second_as, then_left}
use Rattle.format_json_pieces.proofs.Completions.Numbers.{CompletesNext, figure_back, figure_done}
use Rattle.format_json_pieces.proofs.Completions.Strings.{InnerThen, if_by_cases, inner_back}
use Rattle.format_json_pieces.proofs.Completions.Strings.{part_back}
use Rattle.format_json_pieces.specs.Begun.{HoldsAfterValue, HoldsAfterStep, after_step, first_step}
use Rattle.format_json_pieces.specs.Begun.{is_whitespace, item_step, last_open, letters_step}
use Rattle.format_json_pieces.specs.Begun.{name_step, next_step, number_step, value_step}
use Rattle.format_json_pieces.specs.Begun.{step_after_number, step_in_name, step_in_text, word_step}
use Rattle.format_json_pieces.specs.Inside.{continues_number, expected_letter, figure_behind}
use Rattle.format_json_pieces.specs.Inside.{letters_behind, may_be_last, part_behind}
use Rattle.format_json_pieces.specs.declared.begun.Bracket.{Bracket}
use Rattle.format_json_pieces.specs.declared.begun.Bracket.TheVariants as kinds
use Rattle.format_json_pieces.specs.declared.begun.Mode.{Mode}
use Rattle.format_json_pieces.specs.declared.begun.Mode.TheVariants as modes
use Rattle.format_json_pieces.specs.declared.begun.Step.{Step}
use Rattle.format_json_pieces.specs.declared.inside.Figure.{Figure}
use Rattle.format_json_pieces.specs.declared.inside.Figure.TheVariants as figures
use Rattle.format_json_pieces.specs.declared.inside.Inner.{Inner}
use Rattle.format_json_pieces.specs.declared.inside.Inner.TheVariants as inners
use Rattle.format_json_pieces.specs.declared.inside.Letters.{Letters}
use Rattle.format_json_pieces.specs.declared.inside.Letters.TheVariants as words
use Rattle.format_json_pieces.proofs.Completions.Items.{Keyed, element, gap_front, items_gap}
use Rattle.format_json_pieces.proofs.Completions.Items.{items_of, member, nested_gap, no_gap}

-- ---- the byte is the first of a value

scalar : (n : ℕ) (l : List ℕ) → IsScalar l → IsValue n l
scalar zero l is = is
scalar (suc n) l is = inl is

nested : (n m : ℕ) → n ≡ suc m → (l : List ℕ) → IsNested (IsValue m) l → IsValue n l
nested n m e l is = subst (λ k. IsValue k l) (sym e) (inr is)

module _ (level b : ℕ) (text : List ℕ) where
  -- the step leads to where `text` completes the value
  abbrev pub Leads : List Bracket → Step → Type 0
  Leads held step = HoldsAfterStep ⊥ (text ≡ []) (λ m o. Completes level m o text) level held step

  after_value : (held : List Bracket)
      → HoldsAfterValue (text ≡ []) (λ m o. Completes level m o text)
      held → CompletesAfter level held text
  after_value [] x = x
  after_value (k ∷ held) x = x

  module _ (mode : Mode) (held : List Bracket) (Goal : Type 0)
      (stays : is_whitespace b ≡ true → Completes level mode held text → Goal)
      (found : CompletesHere level held (b ∷ text) → Goal) where
    abbrev Case : Step → Type 0
    Case step = Leads held step → Goal

    word_found : (word : List ℕ) → ((l : List ℕ) → l ≡ word → IsWord (b ∷ l))
        → Then (Exactly word) (CompletesAfter level held) text → Goal
    word_found word is x =
        found (in_front (b ∷ []) (λ l e. scalar _ (b ∷ l) (inr (inr (is l e)))) x)

    number_found : (figure : Figure)
        → ((l : List ℕ) → CompletesFigure figure l → IsNumber (b ∷ l))
        → Then (CompletesFigure figure) (CompletesAfter level held) text → Goal
    number_found figure is x =
        found (in_front (b ∷ []) (λ l y. scalar _ (b ∷ l) (inr (inl (is l y)))) x)

    inner : length held < level → level - length held ≡ suc (level - suc (length held))
    inner few = omega (arith, few)

    value_back : Case (value_step mode b)
    value_back =
        if_by_cases Case (is_whitespace b) _ _ (λ e x. stays e x) (λ gap.
        if_by_cases Case (b == 34) _ _ (λ e x. found (in_front (b ∷ [])
        (λ l y. scalar _ (b ∷ l) (inl (then_of_parts (b ∷ []) l
        (one_byte_text (grind (arith, nat_tests, e)) refl) y refl))) x)) (λ e34.
        if_by_cases Case (b == 91) _ _
        (λ e x. found (in_front (b ∷ []) (λ l y. nested _ _ (inner x.0)
        (b ∷ l) (inl
        (then_of_parts (b ∷ []) l (one_byte_text (grind (arith, nat_tests, e)) refl) y
        refl))) x.1))
        (λ e91.
        if_by_cases Case (b == 123) _ _
        (λ e x. found (in_front (b ∷ []) (λ l y. nested _ _ (inner x.0)
        (b ∷ l) (inr
        (then_of_parts (b ∷ []) l (one_byte_text (grind (arith, nat_tests, e)) refl) y
        refl))) x.1))
        (λ e123.
        if_by_cases Case (b == 102) _ _ (λ e x. word_found (letters_of words.Alse)
        (λ l f. inr (inr (first_of_two e f))) x) (λ e102.
        if_by_cases Case (b == 110) _ _ (λ e x. word_found (letters_of words.Ull)
        (λ l f. inl (first_of_two e f)) x) (λ e110.
        if_by_cases Case (b == 116) _ _ (λ e x. word_found (letters_of words.Rue)
        (λ l f. inr (inl (first_of_two e f))) x) (λ e116.
        if_by_cases Case (b == 45) _ _ (λ e x. number_found figures.Minus
        (λ l y. then_of_parts (b ∷ []) l
        (inr (one_byte_text (grind (arith, nat_tests, e)) refl)) y refl) x) (λ e45.
        if_by_cases Case (b == 48) _ _ (λ e x. number_found figures.Zero
        (λ l y. then_of_parts [] (b ∷ l) (inl refl)
        (then_of_parts (b ∷ []) l (inl (one_byte_text (grind (arith, nat_tests, e)) refl)) y
        refl) refl) x) (λ e48.
        if_by_cases Case (nat_le 49 b && nat_le b 57) _ _ (λ e x. number_found figures.Whole
        (λ l y. then_of_parts [] (b ∷ l) (inl refl)
        (in_front (b ∷ []) (λ m all. inr (then_of_parts (b ∷ []) m
        (one_byte_text (grind (arith, nat_tests, e)) refl) all refl)) y) refl) x)
        (λ e x. absurd x))))))))))
      where
        first_of_two : {c : ℕ} {l word : List ℕ} → b == c ≡ true → l ≡ word → b ∷ l ≡ c ∷ word
        first_of_two {c} {l} {word} e f =
            let same : b ≡ c = grind (arith, nat_tests, e) in
            ap (λ n. n ∷ l) same ∙ ap (λ m. c ∷ m) f

  module _ (mode : Mode) (held : List Bracket) (Goal : Type 0)
      (stays : is_whitespace b ≡ true → Completes level mode held text → Goal)
      (named : Then IsString (CompletesColon level held) (b ∷ text) → Goal) where
    abbrev CaseOfName : Step → Type 0
    CaseOfName step = Leads held step → Goal

    name_back : CaseOfName (name_step mode b)
    name_back =
        if_by_cases CaseOfName (is_whitespace b) _ _ (λ e x. stays e x) (λ gap.
        if_by_cases CaseOfName (b == 34) _ _ (λ e x. named (in_front (b ∷ [])
        (λ l y. then_of_parts (b ∷ []) l (one_byte_text (grind (arith, nat_tests, e)) refl) y
        refl) x))
        (λ e x. absurd x))

  -- ---- in brackets

  value_item : (held : List Bracket) → CompletesHere level (kinds.Array ∷ held) (b ∷ text)
      → CompletesItem level (kinds.Array ∷ held) (b ∷ text)
  value_item held x =
      let V = InBrackets level (kinds.Array ∷ held) in
      first_as (items_of V false V (element V)) (then_left x)

  name_item : (held : List Bracket)
      → Then IsString (CompletesColon level (kinds.Object ∷ held)) (b ∷ text)
      → CompletesItem level (kinds.Object ∷ held) (b ∷ text)
  name_item held x =
      let V = InBrackets level (kinds.Object ∷ held) in
      first_as (items_of V true (Keyed V) (member V))
      (then_left (then_left (second_as (λ l y. then_left (second_as (λ m z. then_left
      (second_as (λ n w. then_left w) z)) y)) x)))

  first_items : (keyed : Bool) (V R : List ℕ → Type 0) (l : List ℕ) → Then (IsItemsTail keyed V) R l
      → Then (IsNestedTail keyed V) R l
  first_items keyed V R l x = first_as (λ m y. inr y) x

  close_first : (keyed : Bool) (V R : List ℕ → Type 0) → IsClosing keyed b → R text
      → Then (IsNestedTail keyed V) R (b ∷ text)
  close_first keyed V R is x =
      then_of_parts (b ∷ []) text
      (inl (then_of_parts [] (b ∷ []) no_gap (one_byte_text is refl) refl)) x refl

  close_after : (keyed : Bool) (V R : List ℕ → Type 0) → IsClosing keyed b → R text
      → Then (IsAfterItem keyed V) R (b ∷ text)
  close_after keyed V R is x =
      then_of_parts (b ∷ []) text
      (then_of_parts [] (b ∷ []) no_gap (inl (one_byte_text is refl)) refl) x refl

  comma_after : (keyed : Bool) (V R : List ℕ → Type 0) → IsComma b
      → Then (IsItemsTail keyed V) R text
      → Then (IsAfterItem keyed V) R (b ∷ text)
  comma_after keyed V R is x =
      in_front (b ∷ []) (λ l items. then_of_parts [] (b ∷ l) no_gap
      (inr (then_of_parts (b ∷ []) l (one_byte_text is refl) items refl)) refl) x

  value_gap : (held : List Bracket) → is_whitespace b ≡ true → CompletesValue level held text
      → CompletesValue level held (b ∷ text)
  value_gap held e = in_front (b ∷ []) (gap_front b e)

  value_first : (held : List Bracket) → CompletesHere level held (b ∷ text)
      → CompletesValue level held (b ∷ text)
  value_first held x = then_of_parts [] (b ∷ text) no_gap x refl

  item_back : (held : List Bracket) → Leads held (item_step modes.Item (last_open held) b)
      → CompletesItem level held (b ∷ text)
  item_back (kinds.Array ∷ held) =
      value_back modes.Item (kinds.Array ∷ held)
      (CompletesItem level (kinds.Array ∷ held) (b ∷ text))
      (λ e. in_front (b ∷ []) (in_front_items e)) (value_item held)
    where
      V : List ℕ → Type 0
      V = InBrackets level (kinds.Array ∷ held)

      in_front_items : is_whitespace b ≡ true → (l : List ℕ) → IsItemsTail false V l
          → IsItemsTail false V (b ∷ l)
      in_front_items e l = in_front (b ∷ []) (items_gap V false b e)
  item_back (kinds.Object ∷ held) =
      name_back modes.Item (kinds.Object ∷ held)
      (CompletesItem level (kinds.Object ∷ held) (b ∷ text))
      (λ e. in_front (b ∷ []) (in_front_items e)) (name_item held)
    where
      V : List ℕ → Type 0
      V = InBrackets level (kinds.Object ∷ held)

      in_front_items : is_whitespace b ≡ true → (l : List ℕ) → IsItemsTail true V l
          → IsItemsTail true V (b ∷ l)
      in_front_items e l = in_front (b ∷ []) (items_gap V true b e)
  item_back held =
      value_back modes.Item held (CompletesItem level held (b ∷ text)) (value_gap held)
      (value_first held)

  first_back : (held : List Bracket) → Leads held (first_step (last_open held) b)
      → CompletesFirst level held (b ∷ text)
  first_back (kinds.Array ∷ held) =
      if_by_cases (λ s. Leads (kinds.Array ∷ held) s → Goal) (b == 93) _ _
      (λ e x. close_first false _ _ (grind (arith, nat_tests, e)) (after_value held x))
      (λ e. value_back modes.First (kinds.Array ∷ held) Goal
      (λ f. in_front (b ∷ []) (nested_gap V false b f))
      (λ x. first_items false _ _ (b ∷ text) (value_item held x)))
    where
      V : List ℕ → Type 0
      V = InBrackets level (kinds.Array ∷ held)

      Goal : Type 0
      Goal = CompletesFirst level (kinds.Array ∷ held) (b ∷ text)
  first_back (kinds.Object ∷ held) =
      if_by_cases (λ s. Leads (kinds.Object ∷ held) s → Goal) (b == 125) _ _
      (λ e x. close_first true _ _ (grind (arith, nat_tests, e)) (after_value held x))
      (λ e. name_back modes.First (kinds.Object ∷ held) Goal
      (λ f. in_front (b ∷ []) (nested_gap V true b f))
      (λ x. first_items true _ _ (b ∷ text) (name_item held x)))
    where
      V : List ℕ → Type 0
      V = InBrackets level (kinds.Object ∷ held)

      Goal : Type 0
      Goal = CompletesFirst level (kinds.Object ∷ held) (b ∷ text)
  first_back held =
      value_back modes.First held (CompletesFirst level held (b ∷ text)) (value_gap held)
      (value_first held)

  after_back : (k : Bracket) (held : List Bracket) → Leads (k ∷ held) (after_step k b)
      → CompletesAfter level (k ∷ held) (b ∷ text)
  after_back kinds.Whole held =
      if_by_cases (λ s. Leads (kinds.Whole ∷ held) s → IsWhitespace (b ∷ text))
      (is_whitespace b) _ _
      (λ e x. gap_front b e text x) (λ e x. absurd x)
  after_back kinds.Array held =
      if_by_cases Case (is_whitespace b) _ _
      (λ e x. in_front (b ∷ []) (λ l. in_front (b ∷ []) (gap_front b e)) x)
      (λ gap.
      if_by_cases Case (b == 44) _ _ (λ e x. comma_after false _ _ (grind (arith, nat_tests, e)) x)
      (λ comma.
      if_by_cases Case (b == 93) _ _
      (λ e x. close_after false _ _ (grind (arith, nat_tests, e)) (after_value held x))
      (λ e x. absurd x)))
    where
      Case : Step → Type 0
      Case s = Leads (kinds.Array ∷ held) s → CompletesAfter level (kinds.Array ∷ held) (b ∷ text)
  after_back kinds.Object held =
      if_by_cases Case (is_whitespace b) _ _
      (λ e x. in_front (b ∷ []) (λ l. in_front (b ∷ []) (gap_front b e)) x)
      (λ gap.
      if_by_cases Case (b == 44) _ _ (λ e x. comma_after true _ _ (grind (arith, nat_tests, e)) x)
      (λ comma.
      if_by_cases Case (b == 125) _ _
      (λ e x. close_after true _ _ (grind (arith, nat_tests, e)) (after_value held x))
      (λ e x. absurd x)))
    where
      Case : Step → Type 0
      Case s = Leads (kinds.Object ∷ held) s → CompletesAfter level (kinds.Object ∷ held) (b ∷ text)

  -- ---- in strings, numbers and words

  text_leads : (held : List Bracket) (inner : Inner) → Leads held (step_in_text inner)
      → InnerThen (CompletesAfter level held) inner text
  text_leads held inners.Broken x = x
  text_leads held inners.Quote x = after_value held x
  text_leads held (inners.Part part) x = x

  name_leads : (held : List Bracket) (inner : Inner) → Leads held (step_in_name inner)
      → InnerThen (CompletesColon level held) inner text
  name_leads held inners.Broken x = x
  name_leads held inners.Quote x = x
  name_leads held (inners.Part part) x = x

  behind_back : (held : List Bracket) → Leads held (step_after_number (last_open held) b)
      → CompletesAfter level held (b ∷ text)
  behind_back [] x = absurd x
  behind_back (k ∷ held) x = after_back k held x

  number_back : (figure : Figure) (held : List Bracket) (next : Option Figure)
      → ((l : List ℕ) → CompletesNext next l → CompletesFigure figure (b ∷ l))
      → Leads held (number_step next (may_be_last figure) (last_open held) b)
      → Then (CompletesFigure figure) (CompletesAfter level held) (b ∷ text)
  number_back figure held (Some next) makes x = in_front (b ∷ []) makes x
  number_back figure held None makes x =
      (if_by_cases (λ s. Leads held s
      → Then (CompletesFigure figure) (CompletesAfter level held) (b ∷ text))
      (not (may_be_last figure) || continues_number b) _ _ (λ e x. absurd x)
      (λ e x. then_of_parts [] (b ∷ text) (figure_done figure (grind (arith, e)))
      (behind_back held x)
      refl)) x

  word_back : (letters : Letters) (held : List Bracket) → Leads held (letters_step letters b)
      → Then (Exactly (letters_of letters)) (CompletesAfter level held) (b ∷ text)
  word_back letters held =
      if_by_cases (λ s. Leads held s
      → Then (Exactly (letters_of letters)) (CompletesAfter level held) (b ∷ text))
      (b == expected_letter letters) _ _
      (λ e x. subst (λ c. Then (Exactly (letters_of letters)) (CompletesAfter level held)
      (c ∷ text))
      (sym (grind (arith, nat_tests, e))) (by letters x)) (λ e x. absurd x)
    where
      by : (letters : Letters) → Leads held (word_step (letters_behind letters))
          → Then (Exactly (letters_of letters)) (CompletesAfter level held)
          (expected_letter letters ∷ text)
      by words.Ull x = in_front (117 ∷ []) (λ l e. ap (λ m. 117 ∷ m) e) x
      by words.Ll x = in_front (108 ∷ []) (λ l e. ap (λ m. 108 ∷ m) e) x
      by words.L x = then_of_parts (108 ∷ []) text refl (after_value held x) refl
      by words.Rue x = in_front (114 ∷ []) (λ l e. ap (λ m. 114 ∷ m) e) x
      by words.Ue x = in_front (117 ∷ []) (λ l e. ap (λ m. 117 ∷ m) e) x
      by words.E x = then_of_parts (101 ∷ []) text refl (after_value held x) refl
      by words.Alse x = in_front (97 ∷ []) (λ l e. ap (λ m. 97 ∷ m) e) x
      by words.Lse x = in_front (108 ∷ []) (λ l e. ap (λ m. 108 ∷ m) e) x
      by words.Se x = in_front (115 ∷ []) (λ l e. ap (λ m. 115 ∷ m) e) x

  colon_back : (held : List Bracket) → Leads held (next_step modes.Colon (last_open held) b)
      → CompletesColon level held (b ∷ text)
  colon_back held =
      if_by_cases Case (is_whitespace b) _ _ (λ e x. in_front (b ∷ []) (gap_front b e) x) (λ gap.
      if_by_cases Case (b == 58) _ _ (λ e x. then_of_parts [] (b ∷ text) no_gap
      (then_of_parts (b ∷ []) text (one_byte_text (grind (arith, nat_tests, e)) refl) x refl) refl)
      (λ e x. absurd x))
    where
      Case : Step → Type 0
      Case s = Leads held s → CompletesColon level held (b ∷ text)

  -- A byte of a value, in front of what completes the value after it.
  pub step_back : (mode : Mode) (held : List Bracket)
      → Leads held (next_step mode (last_open held) b) → Completes level mode held (b ∷ text)
  step_back modes.First held x = first_back held x
  step_back modes.Item held x = item_back held x
  step_back modes.Value held x =
      value_back modes.Value held (CompletesValue level held (b ∷ text)) (value_gap held)
      (value_first held) x
  step_back modes.Colon held x = colon_back held x
  step_back modes.After held x = behind_back held x
  step_back (modes.Name part) held x =
      inner_back part b text (part_behind part b) (λ l. part_back l part b)
      (name_leads held (part_behind part b) x)
  step_back (modes.Text part) held x =
      inner_back part b text (part_behind part b) (λ l. part_back l part b)
      (text_leads held (part_behind part b) x)
  step_back (modes.Number figure) held x =
      number_back figure held (figure_behind figure b) (λ l. figure_back b l figure) x
  step_back (modes.Word letters) held x = word_back letters held x
