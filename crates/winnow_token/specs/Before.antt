-- The number of tokens before an offset.
use Rattle.std.specs.Prelude.{◌≡◌, ◌≤◌, ◌↔◌, IsTrue, ℕ, Bool, List, ◌++◌, length}

-- `answer` is whether at least `n` tokens precede the offset.
abbrev pub SaysAtLeast : {T : Type 0} → (List T → ℕ) → List T → ℕ → ℕ → Bool → Type 0
SaysAtLeast {T} units tokens n offset answer =
    (front rest : List T) → tokens ≡ front ++ rest → offset ≡ units front
    → (IsTrue answer ↔ (n ≤ length front))

-- `answer` is whether at most `n` tokens precede the offset.
abbrev pub SaysAtMost : {T : Type 0} → (List T → ℕ) → List T → ℕ → ℕ → Bool → Type 0
SaysAtMost {T} units tokens n offset answer =
    (front rest : List T) → tokens ≡ front ++ rest → offset ≡ units front
    → (IsTrue answer ↔ (length front ≤ n))
