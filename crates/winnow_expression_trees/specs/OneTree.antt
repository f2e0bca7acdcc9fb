-- The relation of an expression's call to the trees over its reading.
use Rattle.std.specs.Prelude.{◌≡◌, ℤ, Bool, Ok, Err}
use Rattle.streams.specs.Input.{Input}
use Rattle.streams.specs.Kind.{Kind}
use Rattle.stream_errors.specs.Form.{Answer}
use Rattle.winnow_expression.specs.Grammar.{Grammar}
use Rattle.winnow_expression_trees.specs.Alike.{AlikeTree}
use Rattle.winnow_expression_trees.specs.Failure.{FailsBy, RejectedByPrecedence}
use Rattle.winnow_expression_trees.specs.Keeps.{RespectsPrecedence}
use Rattle.winnow_expression_trees.specs.Premises.{FoldAlike, FoldsAlike, NotMemory}
use Rattle.winnow_expression_trees.specs.Reading.{IsTreeOver, OperandStep, OperatorStep}
use Rattle.winnow_expression_trees.specs.Tree.{Tree}
use Rattle.winnow_expression_trees.specs.Value.{Value}
pub mod Alike
pub mod Exact
pub mod TreeCalls
pub mod Unique
pub mod Views

-- A tree over a prefix of the parts' reading respects precedence at a level, and ends at `j`.
abbrev pub KeepsOver : {S W T V F G H : Type 0} → Grammar S W T V F G H → S × W → ℤ → Input T
    → Tree V F G H → Input T → Bool → Type 0
KeepsOver g s level i r j all =
    IsTreeOver (OperandStep g s) (OperatorStep g s) r i j
    × RespectsPrecedence (OperatorStep g s) level r j all

abbrev pub Alike : {S W T V F G H : Type 0} → Grammar S W T V F G H → (V → V → Type 0)
    → Tree V F G H
    → Tree V F G H → Type 0
Alike g alike r u =
    AlikeTree alike (FoldAlike alike g.folding.before) (FoldAlike alike g.behind)
    (FoldsAlike alike g.folding.between) r u

-- At most one tree respects precedence. An output is the value of one, which ends at the rest of
-- the input. If one has a value, the result is equivalent to it. After a failure that is not that
-- of a fold, there is no such tree. Out of memory is excepted.
pub record IsTheOneTree {S W T V F G H : Type 0} (g : Grammar S W T V F G H)
    (alike : V → V → Type 0)
    (s : S × W) (level : ℤ) (i : Input T) (answer : Answer V) (t : S × W)
    (j : Input T) : Type 0 where
  pub one : (r u : Tree V F G H) (m n : Input T) (b c : Bool) → KeepsOver g s level i r m b
      → KeepsOver g s level i u n c → Alike g alike r u × (m ≡ n)
  pub finds : (v : V) → answer ≡ Ok v
      → (r : Tree V F G H) × (all : Bool) × KeepsOver g s level i r j all × Value g r v
  pub agrees : (r : Tree V F G H) (n : Input T) (all : Bool) (x : V) → KeepsOver g s level i r n all
      → Value g r x → NotMemory answer → (v : V) × (answer ≡ Ok v) × (j ≡ n) × alike v x
  pub keeps : (v : V) → answer ≡ Ok v → (t.0 ≡ s.0) × (t.1 ≡ s.1)
  pub fails : (k : Kind) → answer ≡ Err k → NotMemory answer → FailsBy g s level i k j
  pub refuses : (k : Kind) → answer ≡ Err k → NotMemory answer → (r : Tree V F G H) (n : Input T)
      (all : Bool) → KeepsOver g s level i r n all → RejectedByPrecedence g s level i k j
