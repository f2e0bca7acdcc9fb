-- The walk over bytes: it ends at one place, and it accepts fewer bytes too.
use Rattle.std.specs.Prelude.{⊤}
use Rattle.std.proofs.Common.{◌++◌, ◌∙◌, ◌∷◌, ◌≡◌, [], ℕ, List, sym}
use Rattle.format_json_pieces.specs.Begun.{HoldsAfterStep, HoldsAfterValue, IsViablePrefix}
use Rattle.format_json_pieces.specs.Begun.{IsWalked, last_open, next_step, others_open, value_step}
use Rattle.format_json_pieces.specs.declared.begun.Bracket.{Bracket}
use Rattle.format_json_pieces.specs.declared.begun.Mode.{Mode}
use Rattle.format_json_pieces.specs.declared.begun.Mode.TheVariants as modes
use Rattle.format_json_pieces.specs.declared.begun.Step.{Step}
use Rattle.format_json_pieces.specs.declared.begun.Step.TheVariants as steps

module _ (ends : List ℕ → Type 0) (level : ℕ) where
  abbrev pub At : Mode → List Bracket → List ℕ → Type 0
  At = IsWalked ends level

  abbrev pub Next : List Bracket → ℕ → List ℕ → Step → Type 0
  Next held b l s = HoldsAfterStep (ends (b ∷ l)) (ends l) (λ m o. At m o l) level held s

  abbrev pub AfterValue : List Bracket → List ℕ → Type 0
  AfterValue held l = HoldsAfterValue (ends l) (λ m o. At m o l) held

  -- a value is to come, in whatever mode
  abbrev pub Started : List Bracket → List ℕ → Type 0
  Started held [] = ends []
  Started held (b ∷ l) = (mode : Mode) → Next held b l (value_step mode b)

-- ---- fewer bytes

abbrev pub AnyRest : List ℕ → Type 0
AnyRest rest = ⊤

module _ (level : ℕ) where
  module _ (b : ℕ) (bytes l : List ℕ) (fewer : (mode : Mode) (held : List Bracket)
      → At AnyRest level mode held l → At AnyRest level mode held bytes) where
    behind_front : (held : List Bracket) → AfterValue AnyRest level held l
        → AfterValue AnyRest level held bytes
    behind_front [] y = tt
    behind_front (k ∷ held) y = fewer modes.After (k ∷ held) y

    next_front : (held : List Bracket) (s : Step) → Next AnyRest level held b l s
        → Next AnyRest level held b bytes s
    next_front held steps.Invalid y = y
    next_front held steps.Ended y = tt
    next_front held (steps.Goes m) y = fewer m held y
    next_front held (steps.Opens k) y = (y.0, fewer modes.First (k ∷ held) y.1)
    next_front held steps.Closes y = behind_front (others_open held) y
    next_front held steps.Ends y = behind_front held y

  pub viable_prefix_of_viable : (bytes more : List ℕ) (mode : Mode) (held : List Bracket)
      → IsViablePrefix level mode held (bytes ++ more) → IsViablePrefix level mode held bytes
  viable_prefix_of_viable [] more mode held x = tt
  viable_prefix_of_viable (b ∷ bytes) more mode held x =
      next_front b bytes (bytes ++ more) (λ m o. viable_prefix_of_viable bytes more m o) held
      (next_step mode (last_open held) b) x

-- a walk has one end
module _ (level : ℕ) (rest other : List ℕ) where
  abbrev To : List ℕ → Mode → List Bracket → List ℕ → Type 0
  To end = IsWalked (λ l. l ≡ end) level

  module _ (b : ℕ) (l : List ℕ)
      (one : (mode : Mode) (held : List Bracket) → To rest mode held l → To other mode held l
      → rest ≡ other) where
    after_one : (held : List Bracket) → AfterValue (λ l. l ≡ rest) level held l
        → AfterValue (λ l. l ≡ other) level held l → rest ≡ other
    after_one [] x y = sym x ∙ y
    after_one (k ∷ held) x y = one modes.After (k ∷ held) x y

    step_one : (held : List Bracket) (s : Step) → Next (λ l. l ≡ rest) level held b l s
        → Next (λ l. l ≡ other) level held b l s → rest ≡ other
    step_one held steps.Invalid x y = absurd x
    step_one held steps.Ended x y = sym x ∙ y
    step_one held (steps.Goes mode) x y = one mode held x y
    step_one held (steps.Opens k) x y = one modes.First (k ∷ held) x.1 y.1
    step_one held steps.Closes x y = after_one (others_open held) x y
    step_one held steps.Ends x y = after_one held x y

  pub walk_end_unique : (bytes : List ℕ) (mode : Mode) (held : List Bracket)
      → To rest mode held bytes
      → To other mode held bytes → rest ≡ other
  walk_end_unique [] mode held x y = sym x ∙ y
  walk_end_unique (b ∷ bytes) mode held x y =
      step_one b bytes (λ m o. walk_end_unique bytes m o) held
      (next_step mode (last_open held) b) x y
