-- Numbers in both orders of bytes.
use Rattle.std.specs.Prelude.{◌≡◌, ℕ, List}
use Rattle.winnow.specs.Form.{Answer}
use Rattle.winnow.specs.Outcome.{Alike, outcome_of}

-- Two calls return the same number, or errors of one kind, and leave the same rest.
abbrev pub SameNumber : Answer ℕ → List ℕ → Answer ℕ → List ℕ → Type 0
SameNumber answer rest other end =
    Alike (λ m n. m ≡ n) (outcome_of answer rest) (outcome_of other end)
