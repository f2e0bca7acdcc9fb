-- The walk from the state after some bytes, and with more levels.
use Rattle.std.specs.Prelude.{◌≡◌, ◌↔◌, ◌≤◌, ◌+◌, ◌-◌, ◌++◌, ℕ, List, []}
use Rattle.std.specs.Prelude.{◌∷◌}
use Rattle.std.proofs.Common.{ap, arith, subst, sym}
use Rattle.format_json_pieces.specs.Begun.{HoldsAfterStep, HoldsAfterValue, IsWalked, last_open}
use Rattle.format_json_pieces.specs.Begun.{next_step, others_open}
use Rattle.format_json_pieces.specs.Extents.{EndsBefore}
use Rattle.format_json_pieces.specs.Extents.{IsWalkedTo}
use Rattle.format_json_pieces.specs.declared.begun.Bracket.{Bracket}
use Rattle.format_json_pieces.specs.declared.begun.Mode.{Mode}
use Rattle.format_json_pieces.specs.declared.begun.Mode.TheVariants as modes
use Rattle.format_json_pieces.specs.declared.begun.Step.{Step}
use Rattle.format_json_pieces.specs.declared.begun.Step.TheVariants as steps
pub mod Passed
pub mod Turns
pub mod Values
pub mod Whole

-- ---- bytes after others

-- `Q` is defined by the walk, as `IsWalked` is. It holds for bytes if and only if it holds for the
-- bytes after a passed prefix, in the state after this.
module _ (level : ℕ) (Q : Mode → List Bracket → List ℕ → Type 0) (before : ℕ → List ℕ → Type 0)
    (ended : List ℕ → Type 0) where
  abbrev Next : List Bracket → ℕ → List ℕ → Step → Type 0
  Next held b l s = HoldsAfterStep (before b l) (ended l) (λ m o. Q m o l) level held s

  module _ (into : (m : Mode) (o : List Bracket) (b : ℕ) (l : List ℕ)
      → Next o b l (next_step m (last_open o) b) → Q m o (b ∷ l))
      (from : (m : Mode) (o : List Bracket) (b : ℕ) (l : List ℕ)
      → Q m o (b ∷ l) → Next o b l (next_step m (last_open o) b))
      (last : Mode) (inner : List Bracket) (more : List ℕ) where
    abbrev To : List ℕ → Mode → List Bracket → Type 0
    To front m o = IsWalkedTo level m o front last inner

    module _ (b : ℕ) (front : List ℕ) (on : (m : Mode) (o : List Bracket) → To front m o
        → Q last inner more ↔ Q m o (front ++ more)) where
      after_on : (held : List Bracket) → HoldsAfterValue ⊥ (λ m o. To front m o) held
          → Q last inner more
          ↔ HoldsAfterValue (ended (front ++ more)) (λ m o. Q m o (front ++ more)) held
      after_on [] w = absurd w
      after_on (k ∷ held) w = on modes.After (k ∷ held) w

      step_on : (held : List Bracket) (s : Step)
          → HoldsAfterStep ⊥ ⊥ (λ m o. To front m o) level held s
          → Q last inner more ↔ Next held b (front ++ more) s
      step_on held steps.Invalid w = absurd w
      step_on held steps.Ended w = absurd w
      step_on held (steps.Goes m) w = on m held w
      step_on held (steps.Opens k) w =
          let (to, of) = on modes.First (k ∷ held) w.1 in ((λ x. (w.0, to x)), (λ x. of x.1))
      step_on held steps.Closes w = after_on (others_open held) w
      step_on held steps.Ends w = after_on held w

    pub passed_on : (front : List ℕ) (m : Mode) (o : List Bracket) → To front m o
        → Q last inner more ↔ Q m o (front ++ more)
    passed_on [] m o (same, held) = (
      (λ x. subst (λ y. Q y o more) (sym same) (subst (λ y. Q last y more) (sym held) x)),
      (λ x. subst (λ y. Q last y more) held (subst (λ y. Q y o more) same x)),
    )
    passed_on (b ∷ front) m o w =
        let (to, of) = step_on b front (λ n p. passed_on front n p) o
        (next_step m (last_open o) b) w in (
          (λ x. into m o b (front ++ more) (to x)),
          (λ x. of (from m o b (front ++ more) x)),
        )

-- the walk, to the end of a value, and to a state
pub walked_on : (ends : List ℕ → Type 0) (level : ℕ) (last : Mode) (inner : List Bracket)
    (more front : List ℕ) (m : Mode) (o : List Bracket) → IsWalkedTo level m o front last inner
    → IsWalked ends level last inner more ↔ IsWalked ends level m o (front ++ more)
walked_on ends level last inner more front m o w =
    passed_on level (λ n p l. IsWalked ends level n p l) (λ b l. ends (b ∷ l)) ends
    (λ n p b l x. x) (λ n p b l x. x) last inner more front m o w

pub ends_on : (rest : List ℕ) (level : ℕ) (last : Mode) (inner : List Bracket)
    (more front : List ℕ) (m : Mode) (o : List Bracket) → IsWalkedTo level m o front last inner
    → EndsBefore level last inner more rest ↔ EndsBefore level m o (front ++ more) rest
ends_on rest level last inner more front m o w =
    passed_on level (λ n p l. EndsBefore level n p l rest) (λ b l. b ∷ l ≡ rest) (λ l. l ≡ rest)
    (λ n p b l x. x) (λ n p b l x. x) last inner more front m o w

pub to_on : (final : Mode) (end : List Bracket) (level : ℕ) (last : Mode) (inner : List Bracket)
    (more front : List ℕ) (m : Mode) (o : List Bracket) → IsWalkedTo level m o front last inner
    → IsWalkedTo level last inner more final end → IsWalkedTo level m o (front ++ more) final end
to_on final end level last inner more front m o w =
    (passed_on level (λ n p l. IsWalkedTo level n p l final end) (λ b l. ⊥) (λ l. ⊥)
    (λ n p b l x. x) (λ n p b l x. x) last inner more front m o w).0

-- ---- more levels

module _ (level deep : ℕ) (less : level ≤ deep) where
  module _ (b : ℕ) (l : List ℕ) (Q R : Mode → List Bracket → Type 0) (before ended : Type 0)
      (on : (m : Mode) (o : List Bracket) → Q m o → R m o) where
    deeper_after : (held : List Bracket) → HoldsAfterValue ended Q held
        → HoldsAfterValue ended R held
    deeper_after [] x = x
    deeper_after (k ∷ held) x = on modes.After (k ∷ held) x

    deeper_step : (held : List Bracket) (s : Step) → HoldsAfterStep before ended Q level held s
        → HoldsAfterStep before ended R deep held s
    deeper_step held steps.Invalid x = x
    deeper_step held steps.Ended x = x
    deeper_step held (steps.Goes m) x = on m held x
    deeper_step held (steps.Opens k) x =
        (omega (arith, less, x.0), on modes.First (k ∷ held) x.1)
    deeper_step held steps.Closes x = deeper_after (others_open held) x
    deeper_step held steps.Ends x = deeper_after held x

  pub walked_deeper : (ends : List ℕ → Type 0) (bytes : List ℕ) (m : Mode) (o : List Bracket)
      → IsWalked ends level m o bytes → IsWalked ends deep m o bytes
  walked_deeper ends [] m o x = x
  walked_deeper ends (b ∷ bytes) m o x =
      deeper_step b bytes (λ n p. IsWalked ends level n p bytes)
      (λ n p. IsWalked ends deep n p bytes)
      (ends (b ∷ bytes)) (ends bytes) (λ n p. walked_deeper ends bytes n p) o
      (next_step m (last_open o) b) x

  pub to_deeper : (last : Mode) (inner : List Bracket) (bytes : List ℕ) (m : Mode)
      (o : List Bracket) → IsWalkedTo level m o bytes last inner
      → IsWalkedTo deep m o bytes last inner
  to_deeper last inner [] m o x = x
  to_deeper last inner (b ∷ bytes) m o x =
      deeper_step b bytes (λ n p. IsWalkedTo level n p bytes last inner)
      (λ n p. IsWalkedTo deep n p bytes last inner) ⊥ ⊥ (λ n p. to_deeper last inner bytes n p) o
      (next_step m (last_open o) b) x

-- ---- more bytes after a value
module _ (level : ℕ) (rest : List ℕ) where
  ends_before_after : (bytes more : List ℕ) (on : (m : Mode) (o : List Bracket)
      → EndsBefore level m o bytes rest → EndsBefore level m o (bytes ++ more) (rest ++ more))
      → (held : List Bracket)
      → HoldsAfterValue (bytes ≡ rest) (λ m o. EndsBefore level m o bytes rest) held
      → HoldsAfterValue (bytes ++ more ≡ rest ++ more)
      (λ m o. EndsBefore level m o (bytes ++ more) (rest ++ more)) held
  ends_before_after bytes more on [] x = ap (λ l. l ++ more) x
  ends_before_after bytes more on (k ∷ held) x = on modes.After (k ∷ held) x

  ends_before_step : (b : ℕ) (bytes more : List ℕ) (on : (m : Mode) (o : List Bracket)
      → EndsBefore level m o bytes rest → EndsBefore level m o (bytes ++ more) (rest ++ more))
      → (held : List Bracket) (s : Step)
      → HoldsAfterStep (b ∷ bytes ≡ rest) (bytes ≡ rest)
      (λ m o. EndsBefore level m o bytes rest) level
      held s
      → HoldsAfterStep (b ∷ (bytes ++ more) ≡ rest ++ more) (bytes ++ more ≡ rest ++ more)
      (λ m o. EndsBefore level m o (bytes ++ more) (rest ++ more)) level held s
  ends_before_step b bytes more on held steps.Invalid x = x
  ends_before_step b bytes more on held steps.Ended x = ap (λ l. l ++ more) x
  ends_before_step b bytes more on held (steps.Goes m) x = on m held x
  ends_before_step b bytes more on held (steps.Opens k) x = (x.0, on modes.First (k ∷ held) x.1)
  ends_before_step b bytes more on held steps.Closes x =
      ends_before_after bytes more on (others_open held) x
  ends_before_step b bytes more on held steps.Ends x = ends_before_after bytes more on held x

  pub ends_longer : (bytes more : List ℕ) (m : Mode) (o : List Bracket)
      → EndsBefore level m o bytes rest → EndsBefore level m o (bytes ++ more) (rest ++ more)
  ends_longer [] more m o x = absurd x
  ends_longer (b ∷ bytes) more m o x =
      ends_before_step b bytes more (λ n p. ends_longer bytes more n p) o
      (next_step m (last_open o) b) x
