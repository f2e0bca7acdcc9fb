-- Where failures come from.
use Rattle.std.specs.Prelude.{◌≡◌, ◌⊎◌, ◌≤ℤ◌, ℤ, Bool, true, false, Some, Ok, Err}
use Rattle.streams.specs.Input.{Input}
use Rattle.streams.specs.Kind.{Kind}
use Rattle.winnow_expression.specs.Grammar.{Grammar}
use Rattle.winnow_expression.specs.Operators.{fold_of, left_power, right_power}
use Rattle.winnow_expression.specs.Units.{units_left}
use Rattle.winnow_expression.specs.declared.combinator.operators.Infix.{Infix}
use Rattle.winnow_expression_trees.specs.Keeps.{Binds, LeftEdgeReaches, RespectsPrecedence}
use Rattle.winnow_expression_trees.specs.Keeps.{RightEdgeBelow}
use Rattle.winnow_expression_trees.specs.Reading.{IsTreeOver, OperandStep, OperatorStep, power_of}
use Rattle.winnow_expression_trees.specs.Tree.{Tree, top_neither}
use Rattle.winnow_expression_trees.specs.Value.{Value}
use Rattle.winnow_expression.specs.declared.combinator.places.First.{First}
use Rattle.winnow_expression.specs.declared.combinator.places.First.TheVariants.{Operand}
use Rattle.winnow_expression.specs.declared.combinator.places.First.TheVariants.{
  Prefix as prefix_read,
}
use Rattle.winnow_expression.specs.declared.combinator.places.Next.{Next}
use Rattle.winnow_expression.specs.declared.combinator.places.Next.TheVariants.{Postfix}
use Rattle.winnow_expression.specs.declared.combinator.places.Next.TheVariants.{Infix as infix_read}

-- The reading that starts at an operand's place comes to a place: an operand's (true), or an
-- operator's (false).
pub data ReadsTo {V F G H P : Type 0} (first : P → First V F → P → Type 0)
    (next : P → Next G H → P → Type 0) (start : P) : Bool → P → Type 0 where
  comes_start : ReadsTo first next start true start
  comes_operand : (j k : P) (v : V) → ReadsTo first next start true j → first j (Operand v) k
      → ReadsTo first next start false k
  comes_prefix : (j k : P) (p : ℤ) (f : F) → ReadsTo first next start true j
      → first j (prefix_read p f) k
      → ReadsTo first next start true k
  comes_postfix : (j k : P) (p : ℤ) (f : G) → ReadsTo first next start false j
      → next j (Postfix p f) k
      → ReadsTo first next start false k
  comes_infix : (j k : P) (o : Infix H) → ReadsTo first next start false j → next j (infix_read o) k
      → ReadsTo first next start true k

-- An answer ends the reading, and leaves j.
abbrev pub EndedBy : {S W T V F G H : Type 0} → Grammar S W T V F G H → S × W → Input T → Kind
    → Input T
    → Type 0
EndedBy {S} {W} {T} {V} {F} {G} {H} g s0 start kind j =
    ((k : Input T) × (t : S) × ReadsTo (OperandStep g s0) (OperatorStep g s0) start true k
    × g.first s0.0 k (Err kind) t j)
    ⊎ ((k : Input T) × (t : W) × ReadsTo (OperandStep g s0) (OperatorStep g s0) start false k
    × g.next s0.1 k (Err kind) t j)

-- `TakesLeft m l p`: in an operand of the least power `m`, an operator of the left power `p` takes
-- the left operand `l`. That respects precedence, its left edge reaches `m`, and `p` reaches `m`
-- and no right power on its right edge.
abbrev pub TakesLeft : {V F G H : Type 0} → ℤ → Tree V F G H → ℤ → Type 0
TakesLeft m l p = Binds l × LeftEdgeReaches m l × (m ≤ℤ p) × RightEdgeBelow l p

-- An infix takes the left operand, which is not a neither of the infix's power.
abbrev pub InfixTakes : {V F G H : Type 0} → ℤ → Tree V F G H → Infix H → Type 0
InfixTakes m l o =
    TakesLeft m l (left_power o) × (top_neither l ≡ Some (left_power o) → ⊥)

-- An operand of a least power begins at an offset. It is all of the expression, whose least power
-- is its level; or the right operand of a prefix that begins an operand; or that of an infix, after
-- a left operand that it takes and that has a value.
pub data StartsOperand {S W T V F G H : Type 0} (g : Grammar S W T V F G H) (s : S × W) (level : ℤ)
    (start : Input T) : ℤ → Input T → Type 0 where
  begins_whole : StartsOperand g s level start level start
  begins_prefix : (m p : ℤ) (i j : Input T) (f : F) → StartsOperand g s level start m i
      → OperandStep g s i (prefix_read p f) j → StartsOperand g s level start p j
  begins_infix : (m p : ℤ) (i j k : Input T) (o : Infix H) (l : Tree V F G H) (v : V)
      → StartsOperand g s level start m i
      → IsTreeOver (OperandStep g s) (OperatorStep g s) l i j → Value g l v
      → InfixTakes m l o → OperatorStep g s j (infix_read o) k → p ≡ right_power o
      → StartsOperand g s level start p k

-- The fold of an operator fails, for the values of its operands. The operator is one of the tree
-- that respects precedence, as far as that is read. It is in an operand that begins there, it takes
-- its left operand, and its right operand respects precedence at its right power.
abbrev pub RejectedByPrecedence : {S W T V F G H : Type 0} → Grammar S W T V F G H → S × W → ℤ
    → Input T
    → Kind
    → Input T → Type 0
RejectedByPrecedence {S} {W} {T} {V} {F} {G} {H} g s0 level start kind j =
    -- that of a prefix
    ((m : ℤ) × (i : Input T) × (k : Input T) × (n : Input T) × (p : ℤ) × (f : F)
    × (r : Tree V F G H) × (all : Bool) × (v : V) × StartsOperand g s0 level start m i
    × OperandStep g s0 i (prefix_read p f) k
    × IsTreeOver (OperandStep g s0) (OperatorStep g s0) r k n
    × RespectsPrecedence (OperatorStep g s0) p r n all × Value g r v
    × g.folding.before f n v (Err kind) j)
    -- that of a postfix
    ⊎ (((m : ℤ) × (i : Input T) × (k : Input T) × (n : Input T) × (p : ℤ) × (f : G)
    × (l : Tree V F G H) × (v : V) × StartsOperand g s0 level start m i
    × IsTreeOver (OperandStep g s0) (OperatorStep g s0) l i k × TakesLeft m l p
    × OperatorStep g s0 k (Postfix p f) n × Value g l v × g.behind f n v (Err kind) j)
    -- that of an infix
    ⊎ ((m : ℤ) × (i : Input T) × (k : Input T) × (n : Input T) × (z : Input T) × (o : Infix H)
    × (l : Tree V F G H) × (r : Tree V F G H) × (all : Bool) × (v : V) × (w : V)
    × StartsOperand g s0 level start m i × IsTreeOver (OperandStep g s0) (OperatorStep g s0) l i k
    × InfixTakes m l o × OperatorStep g s0 k (infix_read o) n
    × IsTreeOver (OperandStep g s0) (OperatorStep g s0) r n z
    × RespectsPrecedence (OperatorStep g s0) (right_power o) r z all
    × Value g l v × Value g r w × g.folding.between (fold_of o) z v w (Err kind) j))

-- An operator is read that consumes nothing: a prefix, which ends the reading, or another.
abbrev pub HasEmptyOperator : {S W T V F G H : Type 0} → Grammar S W T V F G H → S × W → Input T
    → Type 0
HasEmptyOperator {S} {W} {T} {V} {F} {G} {H} g s0 start =
    ((k : Input T) × (n : Input T) × (p : ℤ) × (f : F)
    × ReadsTo (OperandStep g s0) (OperatorStep g s0) start true k
    × g.first s0.0 k (Ok (prefix_read p f)) s0.0 n
    × (units_left g.folding.units n ≡ units_left g.folding.units k))
    ⊎ ((k : Input T) × (n : Input T) × (x : Next G H) × (p : ℤ)
    × ReadsTo (OperandStep g s0) (OperatorStep g s0) start false k × OperatorStep g s0 k x n
    × (power_of x ≡ Some p)
    × (units_left g.folding.units n ≡ units_left g.folding.units k))

-- where a failure's kind and rest come from
abbrev pub FailsBy : {S W T V F G H : Type 0} → Grammar S W T V F G H → S × W → ℤ → Input T → Kind
    → Input T → Type 0
FailsBy g s0 level start kind j =
    EndedBy g s0 start kind j
    ⊎ (RejectedByPrecedence g s0 level start kind j ⊎ HasEmptyOperator g s0 start)
