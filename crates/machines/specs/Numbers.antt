-- Numerals, and data after them.
use Rattle.std.specs.Prelude.{◌≡◌, ◌+◌, ◌⊎◌, ℕ, List, [], ◌∷◌, ◌++◌, length, Bool, IsTrue, ⊤}
use Rattle.std.specs.Prelude.{Option, Some, None}
use Rattle.machines.specs.Languages.{Concat, Derivative, Language, NeverStarts}

-- `spells at n`: the words that complete a numeral of `n` in the state `at`; and a bound on the
-- first bytes of numerals.
pub record Numerals (S : Type 0) : Type 1 where
  pub start : S
  pub spells : S → ℕ → Language
  pub firsts : ℕ → Bool

-- The bytes lead from one state to another, by derivatives for each number.
abbrev pub Steps : {S : Type 0} → Numerals S → S → List ℕ → S → Type 0
Steps g from [] to = from ≡ to
Steps {S} g from (b ∷ bytes) to = (next : S)
    × ((n : ℕ) → Derivative (g.spells from n) (b ∷ []) (g.spells next n)) × Steps g next bytes to

-- no numeral continues with the next byte
abbrev pub HasNoNext : {S : Type 0} → Numerals S → S → List ℕ → Type 0
HasNoNext g at [] = ⊤
HasNoNext g at (b ∷ bytes) = (n : ℕ) → NeverStarts (g.spells at n) b

-- The longest prefix that some numeral continues leads from `from` to `to`.
pub record Reads {S : Type 0} (g : Numerals S) (from : S) (bytes : List ℕ) (to : S)
    (left : List ℕ) : Type 0 where
  pub front : List ℕ
  pub splits : bytes ≡ front ++ left
  pub steps : Steps g from front to
  pub stopped : HasNoNext g to left

-- The number of a numeral that is complete in the state, if one is.
abbrev pub HasValue : {S : Type 0} → Numerals S → S → Option ℕ → Type 0
HasValue g at None = (n : ℕ) → g.spells at n [] → ⊥
HasValue g at (Some n) = g.spells at n []

-- No numeral is empty or a proper prefix of another. Each has one number, and each state can be
-- completed.
pub record AreNumerals {S : Type 0} (g : Numerals S) : Type 0 where
  pub first : (n b : ℕ) (word : List ℕ) → g.spells g.start n (b ∷ word) → IsTrue (g.firsts b)
  pub filled : (n : ℕ) → g.spells g.start n [] → ⊥
  pub one : (at : S) (n m : ℕ) → g.spells at n [] → g.spells at m [] → n ≡ m
  pub ended : (at : S) (n m b : ℕ) → g.spells at n [] → NeverStarts (g.spells at m) b
  pub live : (at : S) → (n : ℕ) × (word : List ℕ) × g.spells at n word

-- The words of `n` bytes.
abbrev pub OfLength : ℕ → Language
OfLength n bytes = length bytes ≡ n

-- A numeral of some `n`, and then `n` bytes.
abbrev pub WithCount : (ℕ → Language) → Language
WithCount spells bytes = (n : ℕ) × Concat (spells n) (OfLength n) bytes

-- The longest prefix of at most `size` bytes; `more` are missing.
pub record PassesData (size : ℕ) (bytes : List ℕ) (more : ℕ) (left : List ℕ) : Type 0 where
  pub front : List ℕ
  pub splits : bytes ≡ front ++ left
  pub count : size ≡ length front + more
  pub stopped : (more ≡ 0) ⊎ (left ≡ [])
