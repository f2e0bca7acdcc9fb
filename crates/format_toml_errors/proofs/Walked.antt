-- The walk over the characters of a text: what it has come to, and the place where it stops.
use Rattle.std.specs.Prelude.{◌≡◌, ◌↔◌, ◌<◌, ◌≤◌, ◌-◌, ◌++◌, ℕ, List}
use Rattle.std.specs.Prelude.{[], ◌∷◌, Option, length}
use Rattle.std.specs.Prelude.{slice_get, true, false}
use Rattle.std.proofs.Common.{ap, append_assoc, arith, inl, inr, refl, subst, sym, ◌∙◌}
use Rattle.std.proofs.lemmas.List.{append-nil}
use Rattle.format_toml_errors.proofs.Opened.{kept, kept_last, kept_length}
use Rattle.format_toml_errors.proofs.Endings.{completed}
use Rattle.format_toml_errors.specs.Expected.{wanted, wanted_at}
use Rattle.format_toml_errors.specs.Steps.{next_step}
use Rattle.format_toml_errors.specs.Stop.{At, IsAccepted, IsCompletable, IsNextStep, IsViablePrefix}
use Rattle.format_toml_errors.specs.Stop.{IsWanted, LeadsTo, MayBegin, StopsAt, ends_line}
use Rattle.format_toml_errors.specs.Unclosed.{last_open, opened, others_open}
use Rattle.format_toml_errors.specs.declared.expected.Expected.{Expected}
use Rattle.format_toml_errors.specs.declared.expected.Expected.TheVariants as what
use Rattle.format_toml_errors.specs.declared.modes.Bracket.{Bracket}
use Rattle.format_toml_errors.specs.declared.modes.Mode.{Mode}
use Rattle.format_toml_errors.specs.declared.modes.Mode.TheVariants as modes
use Rattle.format_toml_errors.specs.declared.modes.Step.{Step}
use Rattle.format_toml_errors.specs.declared.modes.Step.TheVariants as steps

-- the bracket that was opened last, as it is kept
pub top_open : {T : Type 0} (held items : List T) (last : Option T) → items ≡ kept held
    → last ≡ slice_get items (length items - 1) → last ≡ last_open held
top_open held items last same is =
    is ∙ ap (λ l. slice_get l (length l - 1)) same ∙ kept_last held

-- The state of a walk: the characters before it, and the open brackets.
pub record Walked (level : ℕ) (tokens left : List ℕ) (mode : Mode) (items : List Bracket) : Type 0
  where
    pub held : List Bracket
    pub front : List ℕ
    pub same : items ≡ kept held
    pub splits : tokens ≡ front ++ left
    pub leads : LeadsTo level front mode held
    pub accepts : (l : List ℕ) → At level mode held l → IsAccepted level (front ++ l)

pub begun : (level : ℕ) (tokens : List ℕ) (items : List Bracket) → items ≡ []
    → Walked level tokens tokens modes.Line items
begun level tokens items none = record {
  held = [];
  front = [];
  same = none;
  splits = refl;
  leads = λ l. ((λ x. x), (λ x. x));
  accepts = λ l x. x;
}

module _ {level : ℕ} {tokens left : List ℕ} {mode : Mode} {items : List Bracket}
    (w : Walked level tokens left mode items) where
  -- the characters that are passed may begin a document
  begins : MayBegin level w.front
  begins = subst (λ l. MayBegin level l) (append-nil w.front) ((w.leads []).0 tt)

  goes_on : IsCompletable level w.front
  goes_on = completed level w.front begins

  -- at the end of the text
  module _ (none : left ≡ []) (last : Option Bracket)
      (is : last ≡ slice_get items (length items - 1)) where
    pub at_end : (expected : Expected) → expected ≡ wanted mode last
        → ends_line mode last ≡ false → StopsAt level tokens left expected
    at_end expected wants not_end =
        let top = top_open w.held items last w.same is in
        let P : List ℕ → Type 0 = λ l. StopsAt level tokens l expected in
        subst P (sym none) (
          w.front,
          w.splits ∙ ap (λ l. w.front ++ l) none,
          goes_on,
          tt,
          (
            mode,
            w.held,
            w.leads,
            (
              wants ∙ ap (λ o. wanted mode o) top,
              ap (λ o. ends_line mode o) (sym top) ∙ not_end,
            ),
          ),
        )

    pub at_accepted : ends_line mode last ≡ true → IsAccepted level tokens
    at_accepted ends =
        let top = top_open w.held items last w.same is in
        subst (λ l. IsAccepted level l) (sym (w.splits ∙ ap (λ l. w.front ++ l) none))
        (w.accepts [] (ap (λ o. ends_line mode o) (sym top) ∙ ends))

  module _ {c : ℕ} {more : List ℕ} (first : left ≡ c ∷ more) (last : Option Bracket)
      (is : last ≡ slice_get items (length items - 1)) where
    top : last ≡ last_open w.held
    top = top_open w.held items last w.same is

    stepped : (s : Step) → s ≡ next_step mode last c → s ≡ next_step mode (last_open w.held) c
    stepped s e = e ∙ ap (λ o. next_step mode o c) top

    -- what comes of the next character
    led : (s : Step) → s ≡ next_step mode last c → (l : List ℕ)
        → IsNextStep (λ m o. IsViablePrefix level m o l) level w.held s
        ↔ MayBegin level ((w.front ++ c ∷ []) ++ l)
    led s e l =
        let P : Step → List ℕ → Type 0 = λ t x.
        IsNextStep (λ m o. IsViablePrefix level m o l) level w.held t ↔ MayBegin level x in
        subst (λ t. P t ((w.front ++ c ∷ []) ++ l)) (sym (stepped s e))
        (subst (λ x. P (next_step mode (last_open w.held) c) x)
        (sym (append_assoc w.front (c ∷ []) l)) (w.leads (c ∷ l)))

    led_at : (s : Step) → s ≡ next_step mode last c → (l : List ℕ)
        → IsNextStep (λ m o. At level m o l) level w.held s
        → IsAccepted level ((w.front ++ c ∷ []) ++ l)
    led_at s e l x =
        let P : Step → Type 0 = λ t. IsNextStep (λ m o. At level m o l) level w.held t in
        subst (λ k. IsAccepted level k) (sym (append_assoc w.front (c ∷ []) l))
        (w.accepts (c ∷ l) (subst P (stepped s e) x))

    passed : tokens ≡ (w.front ++ c ∷ []) ++ more
    passed =
        w.splits ∙ ap (λ l. w.front ++ l) first ∙ sym (append_assoc w.front (c ∷ []) more)

    placed : (expected : Expected) → (MayBegin level (w.front ++ c ∷ []) → ⊥)
        → IsWanted level w.front (c ∷ more) expected → StopsAt level tokens left expected
    placed expected never asks =
        let P : List ℕ → Type 0 = λ l. StopsAt level tokens l expected in
        subst P (sym first)
        (w.front, w.splits ∙ ap (λ l. w.front ++ l) first, goes_on, never, asks)

    pub at_refused : (expected : Expected) → steps.Invalid ≡ next_step mode last c
        → expected ≡ wanted_at mode last c → StopsAt level tokens left expected
    at_refused expected refused wants =
        placed expected
        (λ x. (led steps.Invalid refused []).1
        (subst (λ l. MayBegin level l) (sym (append-nil (w.front ++ c ∷ []))) x)) (
          mode,
          w.held,
          w.leads,
          inl (
            sym (stepped steps.Invalid refused),
            wants ∙ ap (λ o. wanted_at mode o c) top,
          ),
        )

    -- it opens a bracket too many
    pub at_deep : (k : Bracket) → steps.Opens k ≡ next_step mode last c → level ≤ length items
        → StopsAt level tokens left what.NoDeeper
    at_deep k opens deep =
        let full : length w.held < level → ⊥ =
        λ few. omega (arith, deep, few, ap (λ l. length l) w.same, kept_length w.held) in
        placed what.NoDeeper
        (λ x. full ((led (steps.Opens k) opens []).1
        (subst (λ l. MayBegin level l) (sym (append-nil (w.front ++ c ∷ []))) x)).0)
        (mode, w.held, w.leads, inr (k, sym (stepped (steps.Opens k) opens), (full, refl)))

    pub on_goes : (m : Mode) → steps.Goes m ≡ next_step mode last c
        → Walked level tokens more m items
    on_goes m e = record {
      held = w.held;
      front = w.front ++ c ∷ [];
      same = w.same;
      splits = passed;
      leads = λ l. led (steps.Goes m) e l;
      accepts = λ l x. led_at (steps.Goes m) e l x;
    }

    pub on_ends : steps.Ends ≡ next_step mode last c
        → Walked level tokens more modes.Line items
    on_ends e = record {
      held = w.held;
      front = w.front ++ c ∷ [];
      same = w.same;
      splits = passed;
      leads = λ l. led steps.Ends e l;
      accepts = λ l x. led_at steps.Ends e l x;
    }

    pub on_closes : (new : List Bracket) → steps.Closes ≡ next_step mode last c
        → new ≡ kept (others_open w.held) → Walked level tokens more modes.After new
    on_closes new e same = record {
      held = others_open w.held;
      front = w.front ++ c ∷ [];
      same = same;
      splits = passed;
      leads = λ l. led steps.Closes e l;
      accepts = λ l x. led_at steps.Closes e l x;
    }

    pub on_opens : (k : Bracket) (m : Mode) (new : List Bracket)
        → steps.Opens k ≡ next_step mode last c → (level ≤ length items → ⊥) → m ≡ opened k
        → new ≡ items ++ k ∷ [] → Walked level tokens more m new
    on_opens k m new e few goes pushed =
        let here : length w.held < level =
        omega (arith, few, ap (λ l. length l) w.same, kept_length w.held) in
        let P : Mode → Type 0 = λ n. Walked level tokens more n new in
        subst P (sym goes) (record {
          held = k ∷ w.held;
          front = w.front ++ c ∷ [];
          same = pushed ∙ ap (λ l. l ++ k ∷ []) w.same;
          splits = passed;
          leads = λ l. (
            (λ x. (led (steps.Opens k) e l).0 (here, x)),
            (λ x. ((led (steps.Opens k) e l).1 x).1),
          );
          accepts = λ l x. led_at (steps.Opens k) e l (here, x);
        })
