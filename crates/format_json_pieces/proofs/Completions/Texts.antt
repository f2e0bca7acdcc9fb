-- Bytes to which the walk ends are a value, and bytes that it accepts are a prefix of one, by the
-- grammar of values over bytes.
use Rattle.std.specs.Prelude.{◌≡◌, ◌+◌, ◌≤◌, ◌<◌, ◌==◌, ◌||◌, ◌∷◌, ◌++◌, ℕ, suc, []}
use Rattle.std.specs.Prelude.{Bool, List, None, Option, Some, false, length, not, true, ⊤}
use Rattle.std.specs.Str.{IsUtf8, all_scalars}
use Rattle.std.proofs.Common.{ap, append_assoc, arith, inl, inr, refl, subst, sym}
use Rattle.std.proofs.Common.{◌∙◌}
use Rattle.std.proofs.lemmas.Bool.Decides.{nat_tests}
use Rattle.std.proofs.lemmas.List.{append-nil}
use Rattle.std.proofs.lemmas.List.Elements.{All-head, All-tail, All-weaker}
use Rattle.grammars.specs.Texts.{NotFirst}
use Rattle.format_json_texts.specs.Number.{ContinuesNumber}
use Rattle.format_json_texts.specs.Values.Texts.{BeginsNumber}
use Rattle.format_json_extents.proofs.Characters.{ascii_prefix}
use Rattle.format_json_extents.proofs.Written.{scalars_parts}
use Rattle.format_json_extents.specs.Texts.{Then}
use Rattle.format_json_extents.specs.Value.{IsNotContinued, IsText, IsValue, IsWhitespace}
use Rattle.format_json_extents.specs.Value.{IsWhitespaceByte}
use Rattle.format_json_pieces.proofs.Completions.Bytes.{IsClosed, IsFine, step_fine}
use Rattle.format_json_pieces.proofs.Completions.Numbers.{goes_not}
use Rattle.format_json_pieces.proofs.Completions.Short.{short}
use Rattle.format_json_pieces.proofs.Completions.Strings.{if_by_cases}
use Rattle.format_json_pieces.proofs.Completions.Walked.{Both, outcome, walked_found, walked_to}
use Rattle.format_json_pieces.specs.Begun.{HoldsAfterStep, HoldsAfterValue, IsViablePrefix}
use Rattle.format_json_pieces.specs.Begun.{IsViableText, last_open, next_step, number_step}
use Rattle.format_json_pieces.specs.Begun.{others_open, step_after_number, value_step}
use Rattle.format_json_pieces.specs.Extents.{EndsBefore}
use Rattle.format_json_pieces.specs.Inside.{continues_number, figure_behind, may_be_last}
use Rattle.format_json_pieces.specs.declared.begun.Bracket.{Bracket}
use Rattle.format_json_pieces.specs.declared.begun.Bracket.TheVariants as kinds
use Rattle.format_json_pieces.specs.declared.begun.Mode.{Mode}
use Rattle.format_json_pieces.specs.declared.begun.Mode.TheVariants as modes
use Rattle.format_json_pieces.specs.declared.begun.Step.{Step}
use Rattle.format_json_pieces.specs.declared.begun.Step.TheVariants as steps
use Rattle.format_json_pieces.specs.declared.inside.Figure.{Figure}
use Rattle.format_json_pieces.specs.declared.inside.Figure.TheVariants as figures

-- ---- a number ends before a byte that cannot continue it

module _ (level : ℕ) (rest : List ℕ) where
  module _ (b : ℕ) (bytes : List ℕ) (on : (figure : Figure)
      → EndsBefore level (modes.Number figure) [] bytes rest → NotFirst ContinuesNumber rest) where
    number_stops : (next : Option Figure) (figure : Figure)
        → HoldsAfterStep (b ∷ bytes ≡ rest) (bytes ≡ rest) (λ m o. EndsBefore level m o bytes rest)
        level
        [] (number_step next (may_be_last figure) None b) → NotFirst ContinuesNumber rest
    number_stops (Some next) figure x = on next x
    number_stops None figure x =
        (if_by_cases (λ s. HoldsAfterStep (b ∷ bytes ≡ rest) (bytes ≡ rest)
        (λ m o. EndsBefore level m o bytes rest) level [] s → NotFirst ContinuesNumber rest)
        (not (may_be_last figure) || continues_number b) steps.Invalid
        (step_after_number None b) (λ e y. absurd y)
        (λ e y. subst (λ l. NotFirst ContinuesNumber l) y (goes_not b (grind (arith, e))))) x

  number_ended : (bytes : List ℕ) (figure : Figure)
      → EndsBefore level (modes.Number figure) [] bytes rest → NotFirst ContinuesNumber rest
  number_ended [] figure x = absurd x
  number_ended (b ∷ bytes) figure x =
      number_stops b bytes (λ f. number_ended bytes f) (figure_behind figure b) figure x

  leads_number : (c : ℕ) → BeginsNumber c
      → (figure : Figure) × (value_step modes.Value c ≡ steps.Goes (modes.Number figure))
  leads_number c (inl e) = (figures.Minus, grind (arith, nat_tests, e))
  leads_number c (inr is) = by (c == 48) refl
    where
      by : (test : Bool) → test ≡ (c == 48)
          → (figure : Figure) × (value_step modes.Value c ≡ steps.Goes (modes.Number figure))
      by true e = (figures.Zero, grind (arith, nat_tests, e))
      by false e = (figures.Whole, grind (arith, nat_tests, e, is))

  -- after whitespace
  value_ended : (gap : List ℕ) → IsWhitespace gap → (text : List ℕ)
      → EndsBefore level modes.Value [] (gap ++ (text ++ rest)) rest → IsNotContinued text rest
  value_ended [] all [] x = λ starts. absurd starts
  value_ended [] all (c ∷ text) x = λ starts.
      let (figure, e) = leads_number c starts in
      number_ended (text ++ rest) figure
      (subst (λ s. HoldsAfterStep (c ∷ (text ++ rest) ≡ rest) (text ++ rest ≡ rest)
      (λ m o. EndsBefore level m o (text ++ rest) rest) level [] s) e x)
  value_ended (b ∷ gap) all text x =
      let e : value_step modes.Value b ≡ steps.Goes modes.Value =
      grind (arith, nat_tests, All-head IsWhitespaceByte b gap all) in
      let bytes : List ℕ = gap ++ (text ++ rest) in
      value_ended gap (All-tail IsWhitespaceByte b gap all) text
      (subst (λ s. HoldsAfterStep (b ∷ bytes ≡ rest) (bytes ≡ rest)
      (λ m o. EndsBefore level m o bytes rest) level [] s) e x)

-- ---- a value after whitespace

-- `bytes` have whitespace, and a value of the level in UTF-8; `rest` is what follows
pub record HasValue (level : ℕ) (bytes rest : List ℕ) : Type 0 where
  pub gap : List ℕ
  pub text : List ℕ
  pub is_gap : IsWhitespace gap
  pub is_value : IsValue level text
  pub is_utf8 : IsUtf8 text
  pub splits : bytes ≡ gap ++ (text ++ rest)
  pub ended : IsNotContinued text rest

space_low : (b : ℕ) → IsWhitespaceByte b → b < 128
space_low b is = grind (arith, is)

utf8_behind : (gap text : List ℕ) → IsWhitespace gap → IsUtf8 (gap ++ text) → IsUtf8 text
utf8_behind gap text all (cs, (scalars, e)) =
    let (es, f, g) = ascii_prefix gap cs text
    (All-weaker IsWhitespaceByte (λ b. b < 128) space_low gap all) e in
    (es, ((scalars_parts gap es (subst (λ l. all_scalars l ≡ true) f scalars)).1, g))

module _ (level : ℕ) where
  has_value : (bytes rest text : List ℕ) → bytes ≡ text ++ rest → Both level modes.Value [] text
      → ((gap value : List ℕ) → IsWhitespace gap → text ≡ gap ++ value → IsNotContinued value rest)
      → HasValue level bytes rest
  has_value bytes rest text e (is, utf8) ended =
      let value = is.is_second in
      let whole : text ≡ is.first ++ value.first =
      is.joins ∙ ap (λ l. is.first ++ l)
      (value.joins ∙ ap (λ l. value.first ++ l) value.is_second ∙ append-nil value.first) in
      record {
        gap = is.first;
        text = value.first;
        is_gap = is.is_first;
        is_value = subst (λ n. IsValue n value.first) (omega arith) value.is_first;
        is_utf8 = utf8_behind is.first value.first is.is_first (subst IsUtf8 whole utf8);
        splits = e ∙ ap (λ l. l ++ rest) whole ∙ append_assoc is.first value.first rest;
        ended = ended is.first value.first is.is_first whole;
      }

  pub found_value : (bytes rest : List ℕ) → EndsBefore level modes.Value [] bytes rest
      → HasValue level bytes rest
  found_value bytes rest x =
      let (text, e, is) = walked_found level rest bytes modes.Value [] x in
      has_value bytes rest text e is (λ gap value all f. value_ended level rest gap all value
      (subst (λ l. EndsBefore level modes.Value [] l rest)
      (e ∙ ap (λ l. l ++ rest) f ∙ append_assoc gap value rest) x))

  -- Bytes that the walk accepts go on to a value, with not many bytes more.
  abbrev pub GoesOn : List ℕ → Type 0
  GoesOn bytes =
      (more : List ℕ) × (rest : List ℕ) × HasValue level (bytes ++ more) rest
      × (length more ≤ length bytes + 15)

  pub value_goes_on : (bytes : List ℕ) → IsViablePrefix level modes.Value [] bytes → GoesOn bytes
  value_goes_on bytes x = elim (outcome level bytes modes.Value [] x) [
    | inl (rest, y) ↦ (
      [],
      rest,
      subst (λ l. HasValue level l rest) (sym (append-nil bytes)) (found_value bytes rest y),
      omega arith,
    )
    | inr (last, inner, y, few) ↦
        let (more, is, size) = short level inner last in (
          more,
          [],
          has_value (bytes ++ more) [] (bytes ++ more) (sym (append-nil (bytes ++ more)))
              (walked_to level last inner more is bytes modes.Value [] y)
              (λ gap value all e starts. tt),
          omega (arith, few, size),
        )
  ]

-- ---- whole texts

-- in `Whole`, or in brackets in it
abbrev IsInWhole : List Bracket → Type 0
IsInWhole [] = ⊥
IsInWhole (kinds.Whole ∷ held) = ⊤
IsInWhole (kinds.Array ∷ held) = IsInWhole held
IsInWhole (kinds.Object ∷ held) = IsInWhole held

module _ (level : ℕ) (rest : List ℕ) where
  module _ (b : ℕ) (bytes : List ℕ) (on : (mode : Mode) (held : List Bracket) → IsInWhole held
      → EndsBefore level mode held bytes rest → ⊥) where
    after_none : (held : List Bracket) → IsInWhole held
        → HoldsAfterValue (bytes ≡ rest) (λ m o. EndsBefore level m o bytes rest) held → ⊥
    after_none [] is x = absurd is
    after_none (k ∷ held) is x = on modes.After (k ∷ held) is x

    others_in : (held : List Bracket) → IsClosed held → IsInWhole held
        → IsInWhole (others_open held)
    others_in [] closed is = absurd closed
    others_in (kinds.Whole ∷ held) closed is = absurd closed
    others_in (kinds.Array ∷ held) closed is = is
    others_in (kinds.Object ∷ held) closed is = is

    opened_in : (k : Bracket) (held : List Bracket) → IsInWhole held → IsInWhole (k ∷ held)
    opened_in kinds.Whole held is = tt
    opened_in kinds.Array held is = is
    opened_in kinds.Object held is = is

    step_none : (mode : Mode) (held : List Bracket) (s : Step) → IsInWhole held
        → IsFine level mode held s
        → HoldsAfterStep (b ∷ bytes ≡ rest) (bytes ≡ rest) (λ m o. EndsBefore level m o bytes rest)
        level held s → ⊥
    step_none mode held steps.Invalid is fine x = x
    step_none mode held steps.Ended is fine x = not_here held is fine.0
      where
        not_here : (held : List Bracket) → IsInWhole held → held ≡ [] → ⊥
        not_here held is e = subst IsInWhole e is
    step_none mode held (steps.Goes m) is fine x = on m held is x
    step_none mode held (steps.Opens k) is fine x =
        on modes.First (k ∷ held) (opened_in k held is) x.1
    step_none mode held steps.Closes is fine x =
        after_none (others_open held) (others_in held fine is) x
    step_none mode held steps.Ends is fine x = after_none held is x

  -- a text has no end
  none_ended : (bytes : List ℕ) (mode : Mode) (held : List Bracket) → IsInWhole held
      → EndsBefore level mode held bytes rest → ⊥
  none_ended [] mode held is x = x
  none_ended (b ∷ bytes) mode held is x =
      step_none b bytes (λ m o. none_ended bytes m o) mode held (next_step mode (last_open held) b)
      is (step_fine level b mode held) x

-- Bytes that the walk over a text accepts go on to a text, with not many bytes more.
pub text_goes_on : (level : ℕ) (bytes : List ℕ) → IsViableText level bytes
    → (more : List ℕ) × IsText level (bytes ++ more) × IsUtf8 (bytes ++ more)
    × (length more ≤ length bytes + 16)
text_goes_on level bytes x =
    elim (outcome (suc level) bytes modes.Value (kinds.Whole ∷ []) x) [
      | inl (rest, y)
          ↦ absurd (none_ended (suc level) rest bytes modes.Value (kinds.Whole ∷ []) tt y)
      | inr (last, inner, y, few) ↦
          let (more, is, size) = short (suc level) inner last in
          let (completes, utf8) =
          walked_to (suc level) last inner more is bytes modes.Value (kinds.Whole ∷ []) y in (
            more,
            subst (λ n. Then IsWhitespace (Then (IsValue n) IsWhitespace) (bytes ++ more))
                (omega arith)
                completes,
            utf8,
            omega (arith, few, size),
          )
    ]
