-- The walk that looks for a place: what it has come to, and the place where it stops.
use Rattle.std.specs.Prelude.{◌≡◌, ◌↔◌, ◌<◌, ◌≤◌, ◌+◌, ◌-◌, ◌++◌, ℕ, List, [], ◌∷◌}
use Rattle.std.specs.Prelude.{Option, None, Some, length, slice_get}
use Rattle.std.specs.Option.{option_to_list}
use Rattle.std.proofs.Common.{ap, append_assoc, arith, inl, inr, length-append, refl, subst, sym}
use Rattle.std.proofs.Common.{◌∙◌}
use Rattle.std.proofs.lemmas.List.{append-nil, nil_from_length}
use Rattle.format_json_pieces.proofs.Opened.{kept, kept_last, kept_length}
use Rattle.format_json_pieces.specs.Begun.{last_open, next_step, others_open}
use Rattle.format_json_pieces.specs.Place.{BeginsIn, IsPlaceIn, IsWanted, LeadsTo, most_open}
use Rattle.format_json_pieces.specs.Place.{wanted}
use Rattle.format_json_pieces.proofs.Walks.{AfterValue, AnyRest, Next}
use Rattle.format_json_pieces.specs.declared.begun.Bracket.{Bracket}
use Rattle.format_json_pieces.specs.declared.begun.Mode.{Mode}
use Rattle.format_json_pieces.specs.declared.begun.Mode.TheVariants as modes
use Rattle.format_json_pieces.specs.declared.begun.Step.{Step}
use Rattle.format_json_pieces.specs.declared.begun.Step.TheVariants as steps
use Rattle.format_json_pieces.specs.declared.expected.Expected.{Expected}
use Rattle.format_json_pieces.specs.declared.expected.Expected.TheVariants as what

-- the bracket that was opened last, as it is kept
pub top_open : (held items : List Bracket) (last : Option Bracket) → items ≡ kept held
    → last ≡ slice_get items (length items - 1) → last ≡ last_open held
top_open held items last same is =
    is ∙ ap (λ l. slice_get l (length l - 1)) same ∙ kept_last held

-- the step, by the bracket that was opened last
pub step_open : (held items : List Bracket) (last : Option Bracket) (mode : Mode) (b : ℕ) (s : Step)
    → items ≡ kept held → last ≡ slice_get items (length items - 1) → s ≡ next_step mode last b
    → s ≡ next_step mode (last_open held) b
step_open held items last mode b s same is e =
    e ∙ ap (λ x. next_step mode x b) (top_open held items last same is)

-- the same place
pub place_as : (level : ℕ) (outer : Option Bracket) {bytes : List ℕ} {n m : ℕ} {e f : Expected}
    → m ≡ n → f ≡ e
    → IsPlaceIn level outer bytes n e → IsPlaceIn level outer bytes m f
place_as level outer {bytes} {n} {m} {e} {f} same is x =
    let P : ℕ → Expected → Type 0 = λ k g. IsPlaceIn level outer bytes k g in
    subst (λ k. P k f) (sym same) (subst (λ g. P n g) (sym is) x)

-- The state of a walk: the bytes before it, the input that is expected next, and the open brackets.
pub record Walked (level : ℕ) (outer : Option Bracket) (bytes left : List ℕ) (mode : Mode)
    (items : List Bracket) : Type 0 where
  pub held : List Bracket
  pub front : List ℕ
  pub same : items ≡ kept held
  pub splits : bytes ≡ front ++ left
  pub leads : LeadsTo level outer front mode held

pub most_is : (level : ℕ) (outer : Option Bracket)
    → most_open level outer ≡ level + length (option_to_list outer)
most_is level None = omega arith
most_is level (Some k) = omega arith

pub at_first : (level : ℕ) (outer : Option Bracket) (bytes : List ℕ) (items : List Bracket)
    → items ≡ option_to_list outer → Walked level outer bytes bytes modes.Value items
at_first level outer bytes items same = record {
  held = option_to_list outer;
  front = [];
  same = same ∙ alike outer;
  splits = refl;
  leads = λ l. ((λ x. x), (λ x. x));
}
  where
    alike : (outer : Option Bracket) → option_to_list outer ≡ kept (option_to_list outer)
    alike None = refl
    alike (Some k) = refl

module _ {level : ℕ} {outer : Option Bracket} {bytes left : List ℕ} {mode : Mode}
    {items : List Bracket} (w : Walked level outer bytes left mode items) where
  -- the bytes that are passed may begin a text
  begins : BeginsIn level outer w.front
  begins = subst (λ l. BeginsIn level outer l) (append-nil w.front) ((w.leads []).0 tt)

  measured : (n : ℕ) → n ≡ length bytes - length left → length w.front ≡ n
  measured n is =
      omega (arith, is, ap (λ l. length l) w.splits, length-append w.front left)

  -- at the end of the bytes
  pub at_end : (expected : Expected) → length left ≡ 0 → expected ≡ wanted mode (last_open w.held)
      → IsPlaceIn level outer bytes (length bytes) expected
  at_end expected none is =
      let empty = nil_from_length left none in
      let whole : bytes ≡ w.front ++ [] = w.splits ∙ ap (λ l. w.front ++ l) empty in (
        w.front,
        [],
        whole,
        omega (arith, ap (λ l. length l) whole, length-append w.front []),
        begins,
        tt,
        inl (mode, w.held, w.leads, is),
      )

  module _ {b : ℕ} {more : List ℕ} (first : left ≡ b ∷ more) where
    -- what comes of the next byte
    led : (s : Step) → s ≡ next_step mode (last_open w.held) b → (l : List ℕ)
        → Next AnyRest (most_open level outer) w.held b l s
        ↔ BeginsIn level outer ((w.front ++ b ∷ []) ++ l)
    led s is l =
        let P : Step → List ℕ → Type 0 = λ t x.
        Next AnyRest (most_open level outer) w.held b l t
        ↔ BeginsIn level outer x in
        subst (λ t. P t ((w.front ++ b ∷ []) ++ l)) (sym is)
        (subst (λ x. P (next_step mode (last_open w.held) b) x)
        (sym (append_assoc w.front (b ∷ []) l)) (w.leads (b ∷ l)))

    passed : bytes ≡ (w.front ++ b ∷ []) ++ more
    passed =
        w.splits ∙ ap (λ l. w.front ++ l) first ∙ sym (append_assoc w.front (b ∷ []) more)

    placed : (expected : Expected) (n : ℕ) → n ≡ length bytes - length left
        → (BeginsIn level outer (w.front ++ b ∷ []) → ⊥)
        → IsWanted level outer w.front (b ∷ more) expected
        → IsPlaceIn level outer bytes n expected
    placed expected n is never asks = (
      w.front,
      b ∷ more,
      w.splits ∙ ap (λ l. w.front ++ l) first,
      measured n is,
      begins,
      never,
      inl asks,
    )

    pub at_refused : (expected : Expected) (n : ℕ) → n ≡ length bytes - length left
        → steps.Invalid ≡ next_step mode (last_open w.held) b
        → expected ≡ wanted mode (last_open w.held) → IsPlaceIn level outer bytes n expected
    at_refused expected n is refused wants =
        placed expected n is
        (λ x. (led steps.Invalid refused []).1
        (subst (λ l. BeginsIn level outer l) (sym (append-nil (w.front ++ b ∷ []))) x))
        (mode, w.held, w.leads, inl (sym refused, wants))

    -- it opens a bracket too many
    pub at_deep : (k : Bracket) (n : ℕ) → n ≡ length bytes - length left
        → steps.Opens k ≡ next_step mode (last_open w.held) b → most_open level outer ≤ length items
        → IsPlaceIn level outer bytes n what.NoDeeper
    at_deep k n is opens deep =
        let full : most_open level outer ≤ length w.held =
        omega (arith, deep, ap (λ l. length l) w.same, kept_length w.held) in
        placed what.NoDeeper n is
        (λ x. absurd (omega (
          arith,
          full,
          ((led (steps.Opens k) opens []).1
              (subst (λ l. BeginsIn level outer l) (sym (append-nil (w.front ++ b ∷ []))) x)).0,
        )))
        (mode, w.held, w.leads, inr (k, sym opens, full, refl))

    ended : (s : Step) → s ≡ next_step mode (last_open w.held) b
        → ((l : List ℕ) → Next AnyRest (most_open level outer) w.held b l s)
        → IsPlaceIn level outer bytes (length bytes) what.End
    ended s is x =
        let on : (l : List ℕ) → BeginsIn level outer (bytes ++ l) =
        λ l. subst (λ y. BeginsIn level outer y)
        (sym (append_assoc (w.front ++ b ∷ []) more l) ∙ ap (λ y. y ++ l) (sym passed))
        ((led s is (more ++ l)).0 (x (more ++ l))) in (
          bytes,
          [],
          sym (append-nil bytes),
          refl,
          subst (λ y. BeginsIn level outer y) (append-nil bytes) (on []),
          tt,
          inr (refl, refl, on),
        )

    pub at_ended : steps.Ended ≡ next_step mode (last_open w.held) b
        → IsPlaceIn level outer bytes (length bytes) what.End
    at_ended is = ended steps.Ended is (λ l. tt)

    after_all : (held new : List Bracket) → new ≡ kept held → length new ≡ 0 → (l : List ℕ)
        → AfterValue AnyRest (most_open level outer) held l
    after_all [] new same none l = tt
    after_all (k ∷ held) new same none l =
        absurd (omega (arith, kept_length (k ∷ held), ap (λ l. length l) same, none))

    pub at_closed : steps.Closes ≡ next_step mode (last_open w.held) b → (new : List Bracket)
        → new ≡ kept (others_open w.held) → length new ≡ 0
        → IsPlaceIn level outer bytes (length bytes) what.End
    at_closed is new same none =
        ended steps.Closes is (after_all (others_open w.held) new same none)

    pub at_ends : steps.Ends ≡ next_step mode (last_open w.held) b → length items ≡ 0
        → IsPlaceIn level outer bytes (length bytes) what.End
    at_ends is none = ended steps.Ends is (after_all w.held items w.same none)

    pub on_goes : (m : Mode) → steps.Goes m ≡ next_step mode (last_open w.held) b
        → Walked level outer bytes more m items
    on_goes m is = record {
      held = w.held;
      front = w.front ++ b ∷ [];
      same = w.same;
      splits = passed;
      leads = λ l. led (steps.Goes m) is l;
    }

    pub on_opens : (k : Bracket) (new : List Bracket)
        → steps.Opens k ≡ next_step mode (last_open w.held) b → length items < most_open level outer
        → new ≡ items ++ k ∷ [] → Walked level outer bytes more modes.First new
    on_opens k new is few pushed =
        let here : length w.held < most_open level outer =
        omega (arith, few, ap (λ l. length l) w.same, kept_length w.held) in record {
          held = k ∷ w.held;
          front = w.front ++ b ∷ [];
          same = pushed ∙ ap (λ l. l ++ k ∷ []) w.same;
          splits = passed;
          leads = λ l. (
            (λ x. (led (steps.Opens k) is l).0 (here, x)),
            (λ x. ((led (steps.Opens k) is l).1 x).1),
          );
        }

    -- a value ends in a bracket
    behind : (held new : List Bracket) → new ≡ kept held → (length new ≡ 0 → ⊥) → ((l : List ℕ)
        → AfterValue AnyRest (most_open level outer) held l
        ↔ BeginsIn level outer ((w.front ++ b ∷ []) ++ l))
        → Walked level outer bytes more modes.After new
    behind [] new same some x = absurd (some (ap (λ l. length l) same))
    behind (k ∷ held) new same some x = record {
      held = k ∷ held;
      front = w.front ++ b ∷ [];
      same = same;
      splits = passed;
      leads = x;
    }

    pub on_closes : (new : List Bracket) → steps.Closes ≡ next_step mode (last_open w.held) b
        → new ≡ kept (others_open w.held) → (length new ≡ 0 → ⊥)
        → Walked level outer bytes more modes.After new
    on_closes new is same some =
        behind (others_open w.held) new same some (λ l. led steps.Closes is l)

    pub on_ends : steps.Ends ≡ next_step mode (last_open w.held) b → (length items ≡ 0 → ⊥)
        → Walked level outer bytes more modes.After items
    on_ends is some = behind w.held items w.same some (λ l. led steps.Ends is l)
