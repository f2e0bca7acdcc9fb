-- Values and the input that the walk expects in them.
use Rattle.std.proofs.Common.{◌++◌, ◌+◌, ◌<◌, ◌==◌, ◌∷◌, ◌≡◌, ◌≤◌, [], ℕ, Bool, List, arith}
use Rattle.std.proofs.Common.{false, inl, inr, length, subst, suc, sym, true, zero}
use Rattle.std.specs.Prelude.{if◌then◌else◌}
use Rattle.std.proofs.lemmas.Bool.Decides.{nat_tests}
use Rattle.grammars.specs.Texts.{NotFirst, StartsWith}
use Rattle.format_json_extents.proofs.Scalars.{number_starts}
use Rattle.format_json_extents.specs.Number.{IsNumber}
use Rattle.format_json_extents.specs.Texts.{IsByte, Then}
use Rattle.format_json_extents.specs.Value.{IsClosing, IsItem, IsKey, IsNestedTail, IsScalar}
use Rattle.format_json_extents.specs.Value.{IsValue, IsWhitespace, IsWhitespaceByte, IsWord}
use Rattle.format_json_extents.specs.Value.{opening_bracket}
use Rattle.format_json_texts.specs.Number.{ContinuesNumber}
use Rattle.format_json_texts.specs.Values.Texts.{BeginsNumber}
use Rattle.format_json_pieces.proofs.Passes.{Passes, Spells, all_pass, either_pass}
use Rattle.format_json_pieces.proofs.Passes.{given_byte_passes, list_pass, passes_wider, then_pass}
use Rattle.format_json_pieces.proofs.Passes.{word_pass}
use Rattle.format_json_pieces.proofs.Passes.Numbers.{number_on}
use Rattle.format_json_pieces.proofs.Passes.Strings.{Goes, both_ways, string_on}
use Rattle.format_json_pieces.proofs.Walks.{AfterValue, At, Next, Started}
use Rattle.format_json_pieces.specs.Begun.{after_step, step_in_name, step_in_text, value_step}
use Rattle.format_json_pieces.specs.declared.begun.Bracket.{Bracket}
use Rattle.format_json_pieces.specs.declared.begun.Bracket.TheVariants.{Array, Object, Whole}
use Rattle.format_json_pieces.specs.declared.begun.Mode.TheVariants as modes
use Rattle.format_json_pieces.specs.declared.begun.Step.TheVariants as steps
use Rattle.format_json_pieces.specs.declared.inside.Inner.{Inner}

pub space_by : (P : ℕ → Type 0) → P 32 → P 9 → P 10 → P 13 → (b : ℕ) → IsWhitespaceByte b → P b
space_by P w x y z b (inl e) = subst P (sym e) w
space_by P w x y z b (inr (inl e)) = subst P (sym e) x
space_by P w x y z b (inr (inr (inl e))) = subst P (sym e) y
space_by P w x y z b (inr (inr (inr e))) = subst P (sym e) z

space_low : (b : ℕ) → IsWhitespaceByte b → b < 128
space_low b is = grind (arith, is)

-- the bracket of an object (`true`) or of an array (`false`)
abbrev bracket : Bool → Bracket
bracket true = Object
bracket false = Array

module _ (ends : List ℕ → Type 0) (level : ℕ) where
  text_goes : (held : List Bracket)
      → Goes (λ p. At ends level (modes.Text p) held) (AfterValue ends level held)
  text_goes held = record {
    goes = λ p q b l e x. subst (λ (i : Inner). Next ends level held b l (step_in_text i))
        (sym e) x;
    ends = λ l x. x;
  }

  name_goes : (held : List Bracket)
      → Goes (λ p. At ends level (modes.Name p) held) (At ends level modes.Colon held)
  name_goes held = record {
    goes = λ p q b l e x. subst (λ (i : Inner). Next ends level held b l (step_in_name i))
        (sym e) x;
    ends = λ l x. x;
  }

  -- what is to come after an item continues no number
  after_stops : (k : Bracket) (held : List Bracket) (l : List ℕ)
      → AfterValue ends level (k ∷ held) l → NotFirst ContinuesNumber l
  after_stops k held [] x = tt
  after_stops k held (b ∷ l) x = λ goes.
      subst (λ s. Next ends level (k ∷ held) b l s) (refused k goes) x
    where
      refused : (k : Bracket) → ContinuesNumber b → after_step k b ≡ steps.Invalid
      refused Array is = grind (arith, nat_tests, is)
      refused Object is = grind (arith, nat_tests, is)
      refused Whole is = grind (arith, nat_tests, is)

  module _ (rest : List ℕ) where
    gap_on : {A : List ℕ → Type 0} → ((l : List ℕ) → A l → A (32 ∷ l))
        → ((l : List ℕ) → A l → A (9 ∷ l)) → ((l : List ℕ) → A l → A (10 ∷ l))
        → ((l : List ℕ) → A l → A (13 ∷ l)) → Passes rest IsWhitespace A A
    gap_on {A} w x y z =
        all_pass rest space_low (space_by (λ b. (l : List ℕ) → A l → A (b ∷ l)) w x y z)

    pub value_gap : (held : List Bracket)
        → Passes rest IsWhitespace (At ends level modes.Value held) (At ends level modes.Value held)
    value_gap held = gap_on (λ l x. x) (λ l x. x) (λ l x. x) (λ l x. x)

    pub after_gap : (k : Bracket) (held : List Bracket)
        → Passes rest IsWhitespace (At ends level modes.After (k ∷ held))
        (At ends level modes.After (k ∷ held))
    after_gap k held = gap_on (λ l x. x) (λ l x. x) (λ l x. x) (λ l x. x)

    -- ---- in brackets

    module _ (keyed : Bool) (held : List Bracket) where
      abbrev First : List ℕ → Type 0
      First = At ends level modes.First (bracket keyed ∷ held)

      abbrev After : List ℕ → Type 0
      After = At ends level modes.After (bracket keyed ∷ held)

      -- the first item, or one after a comma
      abbrev Items : List ℕ → Type 0
      Items l = First l × At ends level modes.Item (bracket keyed ∷ held) l

    first_gap : (keyed : Bool) (held : List Bracket)
        → Passes rest IsWhitespace (First keyed held) (First keyed held)
    first_gap true held = gap_on (λ l x. x) (λ l x. x) (λ l x. x) (λ l x. x)
    first_gap false held = gap_on (λ l x. x) (λ l x. x) (λ l x. x) (λ l x. x)

    items_gap : (keyed : Bool) (held : List Bracket)
        → Passes rest IsWhitespace (Items keyed held) (Items keyed held)
    items_gap true held = gap_on (λ l x. x) (λ l x. x) (λ l x. x) (λ l x. x)
    items_gap false held = gap_on (λ l x. x) (λ l x. x) (λ l x. x) (λ l x. x)

    -- a value is an item of an array
    value_item : (held : List Bracket) (l : List ℕ) → Started ends level (Array ∷ held) l
        → Items false held l
    value_item held [] x = (x, x)
    value_item held (b ∷ l) x = elim (both_ways (b == 93)) [
      | inl e ↦
          let refused : value_step modes.First b ≡ steps.Invalid = grind (arith, nat_tests, e) in
          absurd (subst (λ s. Next ends level (Array ∷ held) b l s) refused (x modes.First))
      | inr e ↦ (
        subst (λ (v : Bool). Next ends level (Array ∷ held) b l
            (if v then steps.Closes else value_step modes.First b)) (sym e) (x modes.First),
        x modes.Item,
      )
    ]

    pub value_here : (held : List Bracket) (l : List ℕ) → Started ends level held l
        → At ends level modes.Value held l
    value_here held [] x = x
    value_here held (b ∷ l) x = x modes.Value

    closing_on : (keyed : Bool) (held : List Bracket)
        → Passes rest (IsByte (IsClosing keyed)) (λ l. First keyed held l × After keyed held l)
        (AfterValue ends level held)
    closing_on true held = given_byte_passes rest 125 (omega arith) (λ l x. (x, x))
    closing_on false held = given_byte_passes rest 93 (omega arith) (λ l x. (x, x))

    opening_on : (keyed : Bool) (held : List Bracket) → length held < level
        → Passes rest (IsByte (λ b. b ≡ opening_bracket keyed)) (Started ends level held)
        (First keyed held)
    opening_on true held few = given_byte_passes rest 123 (omega arith) (λ l x mode. (few, x))
    opening_on false held few = given_byte_passes rest 91 (omega arith) (λ l x mode. (few, x))

    comma_on : (keyed : Bool) (held : List Bracket) (l : List ℕ) → Items keyed held l
        → After keyed held (44 ∷ l)
    comma_on true held l x = x.1
    comma_on false held l x = x.1

    key_on : (held : List Bracket)
        → Passes rest IsKey (Items true held) (At ends level modes.Value (Object ∷ held))
    key_on held =
        then_pass (items_gap true held)
        (then_pass (string_on rest (name_goes (Object ∷ held)) (λ l x. (x, x)))
        (then_pass (gap_on {A = At ends level modes.Colon (Object ∷ held)} (λ l x. x) (λ l x. x)
        (λ l x. x) (λ l x. x)) (given_byte_passes rest 58 (omega arith) (λ l x. x))))

    module _ {V : List ℕ → Type 0} (held : List Bracket) where
      item_on : (keyed : Bool)
          → Passes rest V (Started ends level (bracket keyed ∷ held)) (After keyed held)
          → Passes rest (IsItem keyed V) (Items keyed held) (After keyed held)
      item_on true v =
          then_pass (key_on held) (then_pass (value_gap (Object ∷ held))
          (then_pass (passes_wider (λ l x. x) (value_here (Object ∷ held)) v)
          (after_gap Object held)))
      item_on false v =
          then_pass (items_gap false held)
          (then_pass (passes_wider (λ l x. x) (value_item held) v)
          (after_gap Array held))

      nested_on : (keyed : Bool) → length held < level
          → Passes rest V (Started ends level (bracket keyed ∷ held)) (After keyed held)
          → Passes rest (Then (IsByte (λ b. b ≡ opening_bracket keyed)) (IsNestedTail keyed V))
          (Started ends level held) (AfterValue ends level held)
      nested_on keyed few v =
          let close = closing_on keyed held in
          then_pass (opening_on keyed held few)
          (either_pass (then_pass (first_gap keyed held)
          (passes_wider (λ l x. x) (λ l x. x.0) close))
          (then_pass (passes_wider (λ l x. x) (λ l x. x.0)
          (list_pass rest (comma_on keyed held) (item_on keyed v)))
          (passes_wider (λ l x. x) (λ l x. x.1) close)))

    -- ---- values

    abbrev Stops : List ℕ → Type 0
    Stops = Spells rest (λ l. NotFirst ContinuesNumber l)

    -- A text in `P` is walked over where a value may be. No number continues after a number.
    abbrev pub Walks : (List ℕ → Type 0) → List Bracket → Type 0
    Walks P held =
        (xs cs : List ℕ) → P xs → Spells rest (AfterValue ends level held) cs
        → (StartsWith BeginsNumber xs → Stops cs) → Spells rest (Started ends level held) (xs ++ cs)

    words : (held : List Bracket)
        → Passes rest IsWord (Started ends level held) (AfterValue ends level held)
    words held =
        either_pass (word_pass rest (110 ∷ 117 ∷ 108 ∷ 108 ∷ []) (omega arith) (λ l x mode. x))
        (either_pass (word_pass rest (116 ∷ 114 ∷ 117 ∷ 101 ∷ []) (omega arith) (λ l x mode. x))
        (word_pass rest (102 ∷ 97 ∷ 108 ∷ 115 ∷ 101 ∷ []) (omega arith) (λ l x mode. x)))

    numeric : (xs : List ℕ) → IsNumber xs → StartsWith BeginsNumber xs
    numeric xs is =
        let b = number_starts xs is in
        subst (λ l. StartsWith BeginsNumber l) (sym b.begins) (grind (arith, b.is))

    scalar_on : (held : List Bracket) → Walks IsScalar held
    scalar_on held xs cs (inl is) x stops =
        (string_on rest (text_goes held) {whole = Started ends level held} (λ l y mode. y)).on xs cs
        is x
    scalar_on held xs cs (inr (inl is)) x stops =
        (number_on ends level rest held).on xs cs is
        (λ scalars. (x scalars, stops (numeric xs is) scalars))
    scalar_on held xs cs (inr (inr is)) x stops = (words held).on xs cs is x

    pub inner_on : {V : List ℕ → Type 0} (k : Bracket) (held : List Bracket) → Walks V (k ∷ held)
        → Passes rest V (Started ends level (k ∷ held)) (AfterValue ends level (k ∷ held))
    inner_on k held v = record {
      on = λ xs cs is x. v xs cs is x (λ begins scalars. after_stops k held _ (x scalars));
    }

    pub value_on : (deep : ℕ) (held : List Bracket) → length held + deep ≤ level
        → Walks (IsValue deep) held
    value_on zero held few xs cs is x stops = scalar_on held xs cs is x stops
    value_on (suc deep) held few xs cs (inl is) x stops = scalar_on held xs cs is x stops
    value_on (suc deep) held few xs cs (inr (inl is)) x stops =
        (nested_on held false (omega (arith, few)) (inner_on Array held
        (value_on deep (Array ∷ held) (omega (arith, few))))).on xs cs is x
    value_on (suc deep) held few xs cs (inr (inr is)) x stops =
        (nested_on held true (omega (arith, few)) (inner_on Object held
        (value_on deep (Object ∷ held) (omega (arith, few))))).on xs cs is x
