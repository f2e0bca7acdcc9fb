-- The effect of a byte on the scanner for the end of a value, and bytes that it skips.
use Rattle.std.specs.Prelude.{◌≡◌, ◌≤◌, ◌<◌, ◌-◌, ◌++◌, ℕ, zero, suc, List, []}
use Rattle.std.specs.Prelude.{◌∷◌, get_or, length, set, Option}
use Rattle.std.specs.List.{All}
use Rattle.std.proofs.Common.{◌∙◌, ap, append_assoc, arith, inl, inr, refl, subst, sym}
use Rattle.std.proofs.lemmas.Bool.Decides.{nat_tests}
use Rattle.std.proofs.lemmas.List.{get_or-set_other, get_or-set_same, length-set}
use Rattle.std.proofs.lemmas.List.Elements.{All-head, All-push, All-tail}
use Rattle.format_json_pieces.specs.Begun.{HoldsAfterStep, HoldsAfterValue, last_open, next_step}
use Rattle.format_json_pieces.specs.Begun.{others_open}
use Rattle.format_json_extents.specs.Texts.{MatchesAtStart}
use Rattle.format_json_pieces.specs.Begun.{step_in_name, step_in_text}
use Rattle.format_json_pieces.specs.Extents.{EndsBefore}
use Rattle.format_json_pieces.specs.Extents.{IsClosed}
use Rattle.format_json_pieces.specs.Extents.{IsOpened, IsPlain}
use Rattle.format_json_pieces.specs.Extents.{IsRejectedStep, IsTurn, IsWalkedTo, SkipsIn}
use Rattle.format_json_pieces.specs.Extents.{SkipsPlain}
use Rattle.format_json_pieces.specs.Extents.{bracket_at, brackets_in, byte_of}
use Rattle.format_json_pieces.specs.Inside.{part_behind}
use Rattle.format_json_pieces.specs.declared.begun.Bracket.{Bracket}
use Rattle.format_json_pieces.specs.declared.begun.Bracket.TheVariants as kinds
use Rattle.format_json_pieces.specs.declared.begun.Mode.{Mode}
use Rattle.format_json_pieces.specs.declared.begun.Mode.TheVariants as modes
use Rattle.format_json_pieces.specs.declared.begun.Step.{Step}
use Rattle.format_json_pieces.specs.declared.begun.Step.TheVariants as steps
use Rattle.format_json_pieces.specs.declared.extent.Reason.{Reason}
use Rattle.format_json_pieces.specs.declared.extent.Turn.{Turn}
use Rattle.format_json_pieces.specs.declared.extent.Turn.TheVariants as turns
use Rattle.format_json_pieces.specs.declared.extent.ValueExtent.{ValueExtent}
use Rattle.format_json_pieces.specs.declared.inside.Inner.{Inner}
use Rattle.format_json_pieces.specs.declared.inside.Inner.TheVariants as inners
use Rattle.format_json_pieces.specs.declared.inside.Part.{Part}
use Rattle.format_json_pieces.specs.declared.inside.Part.TheVariants as parts

-- ---- the open brackets

pub brackets_length : (opened : List ℕ) (n : ℕ) → length (brackets_in opened n) ≡ n
brackets_length opened zero = refl
brackets_length opened (suc n) = omega (arith, brackets_length opened n)

brackets_set : (opened : List ℕ) (k b n : ℕ) → n ≤ k
    → brackets_in (set opened k b) n ≡ brackets_in opened n
brackets_set opened k b zero less = refl
brackets_set opened k b (suc n) less =
    ap (λ x. bracket_at x ∷ brackets_in (set opened k b) n)
    (get_or-set_other opened k n b 0 (λ e. omega (arith, e, less)))
    ∙ ap (λ l. bracket_at (get_or opened n 0) ∷ l)
    (brackets_set opened k b n (omega (arith, less)))

written : (k : Bracket) → bracket_at (byte_of k) ≡ k
written kinds.Array = refl
written kinds.Object = refl
written kinds.Whole = refl

brackets_push : (opened : List ℕ) (n : ℕ) (k : Bracket) → n < length opened
    → k ∷ brackets_in opened n ≡ brackets_in (set opened n (byte_of k)) (suc n)
brackets_push opened n k less =
    sym (ap (λ x. bracket_at x ∷ brackets_in (set opened n (byte_of k)) n)
    (get_or-set_same opened n (byte_of k) 0 less)
    ∙ ap (λ x. x ∷ brackets_in (set opened n (byte_of k)) n) (written k)
    ∙ ap (λ l. k ∷ l) (brackets_set opened n (byte_of k) n (omega arith)))

-- ---- one byte

module _ (old : ValueExtent) (opened : List ℕ) (b : ℕ) where
  -- no bytes remain
  abbrev Done : Type 0
  Done = ◌≡◌ {A = List ℕ} [] []

  abbrev On : Mode → List Bracket → Type 0
  On m o = EndsBefore (length opened) m o [] []

  abbrev IsNew : ValueExtent → Mode → List Bracket → Type 0
  IsNew new m o = (m ≡ new.mode) × (o ≡ brackets_in opened new.depth)

  abbrev step : Step
  step = next_step old.mode (last_open (brackets_in opened old.depth)) b

  pub turn_opens : (few : old.depth ≤ length opened) (k : Bracket) → steps.Opens k ≡ step
      → (new : ValueExtent) (others : List ℕ) (turn : Turn)
      → IsOpened old opened k new others turn → IsTurn old opened b new others turn
  turn_opens few k e new others turns.Goes (less, same, deeper, mode) =
      let long : length others ≡ length opened =
      ap (λ l. length l) same ∙ length-set opened old.depth (byte_of k) in
      let P : Step → Type 0 = λ s. HoldsAfterStep ⊥ ⊥
      (λ m o. (m ≡ new.mode) × (o ≡ brackets_in others new.depth)) (length opened)
      (brackets_in opened old.depth) s in (
        long,
        omega (arith, deeper, less),
        subst P e (
          omega (arith, less, brackets_length opened old.depth),
          (
            sym mode,
            brackets_push opened old.depth k less
                ∙ ap (λ l. brackets_in l (suc old.depth)) (sym same)
                ∙ ap (λ n. brackets_in others n) (sym deeper),
          ),
        ),
      )
  turn_opens few k e new others turns.Ended x = absurd x
  turn_opens few k e new others turns.Ends x = absurd x
  turn_opens few k e new others (turns.Never reason) (full, is) =
      let P : Reason → Type 0 = λ r. IsRejectedStep old opened step r in
      subst P (sym is) (k, sym e, full)

  -- after a value, with the brackets that remain
  after_to : (n : ℕ) (new : ValueExtent) (was : ℕ) (before : Type 0) → was ≡ n
      → IsClosed was new turns.Goes
      → HoldsAfterValue before (IsNew new) (brackets_in opened n)
  after_to zero new was before e (some, deep, mode) = absurd (omega (arith, e, some))
  after_to (suc n) new was before e (some, deep, mode) =
      (sym mode, ap (λ m. brackets_in opened m) (sym e ∙ sym deep))

  after_ends : (n : ℕ) (was : ℕ) (new : ValueExtent) (on : Mode → List Bracket → Type 0)
      (ended : Type 0) → was ≡ n → IsClosed was new turns.Ends → ended
      → HoldsAfterValue ended on (brackets_in opened n)
  after_ends zero was new on ended e none x = x
  after_ends (suc n) was new on ended e none x = absurd (omega (arith, e, none))

  module _ (few : old.depth ≤ length opened) (was : ℕ) (new : ValueExtent) where
    pub turn_ends : steps.Ends ≡ step → was ≡ old.depth → (turn : Turn)
        → IsClosed was new turn → IsTurn old opened b new opened turn
    turn_ends e same turns.Goes x =
        let P : Step → Type 0 = λ s. HoldsAfterStep ⊥ ⊥ (IsNew new) (length opened)
        (brackets_in opened old.depth) s in
        (refl, omega (arith, few, same, x.1), subst P e (after_to old.depth new was ⊥ same x))
    turn_ends e same turns.Ends x =
        let P : Step → Type 0 = λ s. HoldsAfterStep (b ∷ [] ≡ []) Done On (length opened)
        (brackets_in opened old.depth) s in
        subst P e (after_ends old.depth was new On Done same x refl)
    turn_ends e same turns.Ended x = absurd x
    turn_ends e same (turns.Never reason) x = absurd x

    others_are : (n : ℕ) → others_open (brackets_in opened n) ≡ brackets_in opened (n - 1)
    others_are zero = refl
    others_are (suc n) = ap (λ m. brackets_in opened m) (omega arith)

    pub turn_closes : steps.Closes ≡ step → was ≡ old.depth - 1 → (turn : Turn)
        → IsClosed was new turn → IsTurn old opened b new opened turn
    turn_closes e same turns.Goes x =
        let P : Step → Type 0 = λ s. HoldsAfterStep ⊥ ⊥ (IsNew new) (length opened)
        (brackets_in opened old.depth) s in
        let Q : List Bracket → Type 0 = λ l. HoldsAfterValue ⊥ (IsNew new) l in (
          refl,
          omega (arith, few, same, x.1),
          subst P e
              (subst Q (sym (others_are old.depth)) (after_to (old.depth - 1) new was ⊥ same x)),
        )
    turn_closes e same turns.Ends x =
        let P : Step → Type 0 = λ s. HoldsAfterStep (b ∷ [] ≡ []) Done On (length opened)
        (brackets_in opened old.depth) s in
        let Q : List Bracket → Type 0 = λ l. HoldsAfterValue Done On l in
        subst P e (subst Q (sym (others_are old.depth))
        (after_ends (old.depth - 1) was new On Done same x refl))
    turn_closes e same turns.Ended x = absurd x
    turn_closes e same (turns.Never reason) x = absurd x

-- ---- bytes of strings

module _ (mode : Mode)
    (same : (o : Option Bracket) (b : ℕ) → IsPlain b → next_step mode o b ≡ steps.Goes mode) where
  plain_on : (front : List ℕ) → All IsPlain front → (level : ℕ) (held : List Bracket)
      → IsWalkedTo level mode held front mode held
  plain_on [] all level held = (refl, refl)
  plain_on (b ∷ front) all level held =
      let P : Step → Type 0 = λ s. HoldsAfterStep ⊥ ⊥
      (λ m o. IsWalkedTo level m o front mode held) level held s in
      subst P (sym (same (last_open held) b (All-head IsPlain b front all)))
      (plain_on front (All-tail IsPlain b front all) level held)

  plain_skips : (bytes rest : List ℕ) → MatchesAtStart (All IsPlain) bytes rest
      → SkipsPlain mode bytes rest
  plain_skips bytes rest it = (it.text, it.splits, plain_on it.text it.is)

plain_stays : (b : ℕ) → IsPlain b → part_behind parts.Plain b ≡ inners.Part parts.Plain
plain_stays b is = grind (arith, nat_tests, is)

pub none_skipped : (mode : Mode) (bytes : List ℕ) → SkipsPlain mode bytes bytes
none_skipped mode bytes = ([], refl, λ level held. (refl, refl))

pub skips : (make : Part → Mode) → ((part : Part) (o : Option Bracket) (b : ℕ)
    → part_behind part b ≡ inners.Part part → next_step (make part) o b ≡ steps.Goes (make part))
    → (mode : Mode) (part : Part) → mode ≡ make part → (bytes rest : List ℕ)
    → SkipsIn part bytes rest → SkipsPlain mode bytes rest
skips make stays mode part e bytes rest it =
    let P : Mode → Type 0 = λ m. SkipsPlain m bytes rest in
    let Q : Part → Type 0 = λ p. SkipsPlain (make p) bytes rest in
    subst P (sym e) (elim it [
      | inl (same, plain) ↦ subst Q (sym same) (plain_skips (make parts.Plain)
          (λ o b is. stays parts.Plain o b (plain_stays b is)) bytes rest plain)
      | inr same ↦
          let R : List ℕ → Type 0 = λ l. SkipsPlain (make part) bytes l in
          subst R same (none_skipped (make part) bytes)
    ])

pub in_text : (part : Part) (o : Option Bracket) (b : ℕ) → part_behind part b ≡ inners.Part part
    → next_step (modes.Text part) o b ≡ steps.Goes (modes.Text part)
in_text part o b is = ap (λ (i : Inner). step_in_text i) is

pub in_name : (part : Part) (o : Option Bracket) (b : ℕ) → part_behind part b ≡ inners.Part part
    → next_step (modes.Name part) o b ≡ steps.Goes (modes.Name part)
in_name part o b is = ap (λ (i : Inner). step_in_name i) is

pub plain_more : (bytes rest more : List ℕ) (b : ℕ) → MatchesAtStart (All IsPlain) bytes rest
    → rest ≡ b ∷ more → IsPlain b → MatchesAtStart (All IsPlain) bytes more
plain_more bytes rest more b it e is = record {
  text = it.text ++ b ∷ [];
  is = All-push IsPlain it.text b it.is is;
  splits = it.splits ∙ ap (λ l. it.text ++ l) e ∙ sym (append_assoc it.text (b ∷ []) more);
}
