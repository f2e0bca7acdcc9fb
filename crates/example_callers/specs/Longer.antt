-- A call on partial input, and one on the same input followed by more tokens.
use Rattle.std.specs.Prelude.{◌≡◌, ℕ, Bool, List}
use Rattle.winnow.specs.Form.{Answer}
use Rattle.winnow.specs.Input.{Input, with_more}
use Rattle.winnow.specs.Left.{extend, left_of}
use Rattle.winnow.specs.Longer.{IsFinal}
use Rattle.winnow.specs.LongerBits.{BytesCounted}
use Rattle.winnow.specs.Outcome.{Alike, outcome_of}

-- A call on `i` returns `a` and leaves `j`; one on `k` returns `b` and leaves `l`. If `a` is final
-- and `k` is `i` followed by more tokens, partial or complete, the results are an equal output or
-- errors of one kind, and `l` is `j` followed by these tokens; or `b` is out of memory.
pub record HasSameResult {T O : Type 0} (alike : O → O → Type 0) (i : Input T) (a : Answer O)
    (j k : Input T) (b : Answer O) (l : Input T) : Type 0 where
  pub result : IsFinal a → (more : List T) (flag : Bool) → k ≡ with_more i more flag
      → Alike alike (outcome_of a (extend more (left_of j))) (outcome_of b (left_of l))

-- This of bytes whose bits can be counted.
pub record HasSameFields {O : Type 0} (alike : O → O → Type 0) (i : Input ℕ) (a : Answer O)
    (j k : Input ℕ) (b : Answer O) (l : Input ℕ) : Type 0 where
  pub result : IsFinal a → (more : List ℕ) (flag : Bool) → BytesCounted i.left.tokens more
      → k ≡ with_more i more flag
      → Alike alike (outcome_of a (extend more (left_of j))) (outcome_of b (left_of l))

-- In one state a closure makes one value, and has one next state.
abbrev pub MakesOnce : {G R : Type 0} → (G → R → G → Type 0) → Type 0
MakesOnce {G} {R} starts = (g : G) (r q : R) (h k : G) → starts g r h → starts g q k
    → (r ≡ q) × (h ≡ k)

-- For one byte and one value in one state a closure makes one value, and has one next state.
abbrev pub FoldsOnce : {H R : Type 0} → (H → R → ℕ → R → H → Type 0) → Type 0
FoldsOnce {H} {R} step = (h : H) (r : R) (o : ℕ) (a b : R) (k l : H) → step h r o a k
    → step h r o b l → (a ≡ b) × (k ≡ l)
