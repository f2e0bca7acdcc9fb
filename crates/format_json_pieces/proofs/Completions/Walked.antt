-- The bytes of a walk, in front of a text that completes the value after them.
use Rattle.std.specs.Prelude.{◌≡◌, ◌+◌, ◌≤◌, ◌∷◌, ◌++◌, ◌⊎◌, ℕ, [], List, length}
use Rattle.std.specs.Str.{IsUtf8}
use Rattle.std.proofs.Common.{ap, arith, inl, inr, refl, subst, sym}
use Rattle.std.proofs.lemmas.Str.{IsUtf8-nil}
use Rattle.format_json_pieces.proofs.Completions.{Completes, CompletesAfter}
use Rattle.format_json_pieces.proofs.Completions.Bytes.{IsFine, Utf8Mode, step_fine, step_utf8}
use Rattle.format_json_pieces.proofs.Completions.Values.{step_back}
use Rattle.format_json_pieces.specs.Begun.{HoldsAfterStep, HoldsAfterValue, IsViablePrefix}
use Rattle.format_json_pieces.specs.Begun.{last_open, next_step, others_open}
use Rattle.format_json_pieces.specs.Extents.{EndsBefore, IsWalkedTo}
use Rattle.format_json_pieces.specs.declared.begun.Bracket.{Bracket}
use Rattle.format_json_pieces.specs.declared.begun.Mode.{Mode}
use Rattle.format_json_pieces.specs.declared.begun.Mode.TheVariants as modes
use Rattle.format_json_pieces.specs.declared.begun.Step.{Step}
use Rattle.format_json_pieces.specs.declared.begun.Step.TheVariants as steps

module _ (level : ℕ) where
  -- `text` completes the value, and makes UTF-8 of the bytes before
  abbrev pub Both : Mode → List Bracket → List ℕ → Type 0
  Both mode held text = Completes level mode held text × Utf8Mode mode text

  abbrev pub BothAfter : List Bracket → List ℕ → Type 0
  BothAfter held text = CompletesAfter level held text × IsUtf8 text

  -- ---- one byte

  module _ {E F : Type 0} {P Q : Mode → List Bracket → Type 0} (ended : E → F)
      (on : (m : Mode) (o : List Bracket) → P m o → Q m o) where
    after_as : (held : List Bracket) → HoldsAfterValue E P held → HoldsAfterValue F Q held
    after_as [] x = ended x
    after_as (k ∷ held) x = on modes.After (k ∷ held) x

    next_as : (held : List Bracket) (s : Step) → HoldsAfterStep ⊥ E P level held s
        → HoldsAfterStep ⊥ F Q level held s
    next_as held steps.Invalid x = x
    next_as held steps.Ended x = x
    next_as held (steps.Goes m) x = on m held x
    next_as held (steps.Opens k) x = (x.0, on modes.First (k ∷ held) x.1)
    next_as held steps.Closes x = after_as (others_open held) x
    next_as held steps.Ends x = after_as held x

  module _ (text : List ℕ) where
    abbrev pub BothStep : List Bracket → Step → Type 0
    BothStep held step =
        HoldsAfterStep ⊥ (BothAfter [] text) (λ m o. Both m o text) level held step

    pub into_after : (held : List Bracket) → BothAfter held text
        → HoldsAfterValue (BothAfter [] text) (λ m o. Both m o text) held
    into_after [] x = x
    into_after (k ∷ held) x = x

    pub both_back : (b : ℕ) (mode : Mode) (held : List Bracket)
        → BothStep held (next_step mode (last_open held) b) → Both mode held (b ∷ text)
    both_back b mode held x =
        let s = next_step mode (last_open held) b in (
          step_back level b text mode held
              (next_as {P = λ m o. Both m o text} {Q = λ m o. Completes level m o text}
              (λ y. y.0) (λ m o y. y.0) held s x),
          step_utf8 level b text held mode
              (next_as {P = λ m o. Both m o text} {Q = λ m o. Utf8Mode m text}
              (λ y. y.1) (λ m o y. y.1) held s x),
        )

  -- ---- the bytes of a walk

  pub walked_to : (last : Mode) (inner : List Bracket) (more : List ℕ) → Both last inner more
      → (bytes : List ℕ) (mode : Mode) (held : List Bracket)
      → IsWalkedTo level mode held bytes last inner → Both mode held (bytes ++ more)
  walked_to last inner more is [] mode held (same, brackets) =
      subst (λ m. Both m held more) (sym same) (subst (λ o. Both last o more) (sym brackets) is)
  walked_to last inner more is (b ∷ bytes) mode held x =
      both_back (bytes ++ more) b mode held
      (next_as {P = λ m o. IsWalkedTo level m o bytes last inner}
      {Q = λ m o. Both m o (bytes ++ more)}
      (λ y. absurd y) (λ m o y. walked_to last inner more is bytes m o y) held
      (next_step mode (last_open held) b) x)

  module _ (rest : List ℕ) where
    -- the bytes are such a text, and then the rest
    abbrev pub Found : (List ℕ → Type 0) → List ℕ → Type 0
    Found P bytes = (text : List ℕ) × (bytes ≡ text ++ rest) × P text

    module _ (b : ℕ) (bytes : List ℕ) (on : (mode : Mode) (held : List Bracket)
        → EndsBefore level mode held bytes rest → Found (Both mode held) bytes) where
      after_found : (held : List Bracket)
          → HoldsAfterValue (bytes ≡ rest) (λ m o. EndsBefore level m o bytes rest) held
          → Found (λ text. HoldsAfterValue (BothAfter [] text) (λ m o. Both m o text) held) bytes
      after_found [] e = ([], e, (refl, IsUtf8-nil))
      after_found (k ∷ held) x = on modes.After (k ∷ held) x

      step_found : (mode : Mode) (held : List Bracket) (s : Step)
          → ((text : List ℕ) → BothStep text held s → Both mode held (b ∷ text))
          → IsFine level mode held s
          → HoldsAfterStep (b ∷ bytes ≡ rest) (bytes ≡ rest)
          (λ m o. EndsBefore level m o bytes rest)
          level held s → Found (Both mode held) (b ∷ bytes)
      step_found mode held steps.Invalid back fine x = absurd x
      step_found mode held steps.Ended back fine x = ([], x, (fine.1, fine.2))
      step_found mode held (steps.Goes m) back fine x =
          let (text, e, is) = on m held x in (b ∷ text, ap (λ l. b ∷ l) e, back text is)
      step_found mode held (steps.Opens k) back fine x =
          let (text, e, is) = on modes.First (k ∷ held) x.1 in
          (b ∷ text, ap (λ l. b ∷ l) e, back text (x.0, is))
      step_found mode held steps.Closes back fine x =
          let (text, e, is) = after_found (others_open held) x in
          (b ∷ text, ap (λ l. b ∷ l) e, back text is)
      step_found mode held steps.Ends back fine x =
          let (text, e, is) = after_found held x in
          (b ∷ text, ap (λ l. b ∷ l) e, back text is)

    pub walked_found : (bytes : List ℕ) (mode : Mode) (held : List Bracket)
        → EndsBefore level mode held bytes rest → Found (Both mode held) bytes
    walked_found [] mode held x = absurd x
    walked_found (b ∷ bytes) mode held x =
        step_found b bytes (λ m o y. walked_found bytes m o y) mode held
        (next_step mode (last_open held) b) (λ text y. both_back text b mode held y)
        (step_fine level b mode held) x

  -- ---- how a walk ends

  -- the walk comes to the end of a value, or stays in it
  abbrev pub Outcome : Mode → List Bracket → List ℕ → Type 0
  Outcome mode held bytes =
      ((rest : List ℕ) × EndsBefore level mode held bytes rest)
      ⊎ ((last : Mode) × (inner : List Bracket) × IsWalkedTo level mode held bytes last inner
      × (length inner ≤ length held + length bytes))

  module _ (b : ℕ) (bytes : List ℕ) (on : (mode : Mode) (held : List Bracket)
      → IsViablePrefix level mode held bytes → Outcome mode held bytes) where
    abbrev StepOutcome : List Bracket → Step → Type 0
    StepOutcome held s =
        ((rest : List ℕ) × HoldsAfterStep (b ∷ bytes ≡ rest) (bytes ≡ rest)
        (λ m o. EndsBefore level m o bytes rest) level held s)
        ⊎ ((last : Mode) × (inner : List Bracket)
        × HoldsAfterStep ⊥ ⊥ (λ m o. IsWalkedTo level m o bytes last inner) level held s
        × (length inner ≤ length held + length (b ∷ bytes)))

    abbrev AfterOutcome : List Bracket → Type 0
    AfterOutcome held =
        ((rest : List ℕ)
        × HoldsAfterValue (bytes ≡ rest) (λ m o. EndsBefore level m o bytes rest) held)
        ⊎ ((last : Mode) × (inner : List Bracket)
        × HoldsAfterValue ⊥ (λ m o. IsWalkedTo level m o bytes last inner) held
        × (length inner ≤ length held + length bytes))

    after_outcome : (held : List Bracket)
        → HoldsAfterValue (Unit {0}) (λ m o. IsViablePrefix level m o bytes) held
        → AfterOutcome held
    after_outcome [] x = inl (bytes, refl)
    after_outcome (k ∷ held) x = on modes.After (k ∷ held) x

    others_few : (held : List Bracket) → length (others_open held) ≤ length held
    others_few [] = omega arith
    others_few (k ∷ held) = omega arith

    step_outcome : (held : List Bracket) (s : Step)
        → HoldsAfterStep (Unit {0}) (Unit {0}) (λ m o. IsViablePrefix level m o bytes) level held s
        → StepOutcome held s
    step_outcome held steps.Invalid x = absurd x
    step_outcome held steps.Ended x = inl (b ∷ bytes, refl)
    step_outcome held (steps.Goes m) x = elim (on m held x) [
      | inl (rest, y) ↦ inl (rest, y)
      | inr (last, inner, y, few) ↦ inr (last, inner, y, omega (arith, few))
    ]
    step_outcome held (steps.Opens k) x = elim (on modes.First (k ∷ held) x.1) [
      | inl (rest, y) ↦ inl (rest, (x.0, y))
      | inr (last, inner, y, few) ↦ inr (last, inner, (x.0, y), omega (arith, few))
    ]
    step_outcome held steps.Closes x = elim (after_outcome (others_open held) x) [
      | inl (rest, y) ↦ inl (rest, y)
      | inr (last, inner, y, few) ↦ inr (last, inner, y, omega (arith, few, others_few held))
    ]
    step_outcome held steps.Ends x = elim (after_outcome held x) [
      | inl (rest, y) ↦ inl (rest, y)
      | inr (last, inner, y, few) ↦ inr (last, inner, y, omega (arith, few))
    ]

  pub outcome : (bytes : List ℕ) (mode : Mode) (held : List Bracket)
      → IsViablePrefix level mode held bytes → Outcome mode held bytes
  outcome [] mode held x = inr (mode, held, (refl, refl), omega arith)
  outcome (b ∷ bytes) mode held x =
      step_outcome b bytes (λ m o y. outcome bytes m o y) held (next_step mode (last_open held) b) x
