-- The calls that read trees.
use Rattle.std.specs.Prelude.{◌≡◌, ◌≤ℤ◌, ℤ, Bool, true, false, Some}
use Rattle.winnow_expression.specs.Operators.{left_power, right_power}
use Rattle.winnow_expression_trees.specs.Tree.{Tree, leaf, before, behind, between, top_neither}
use Rattle.winnow_expression.specs.declared.combinator.places.First.{First}
use Rattle.winnow_expression.specs.declared.combinator.places.First.TheVariants.{Operand}
use Rattle.winnow_expression.specs.declared.combinator.places.First.TheVariants.{
  Prefix as prefix_read,
}
use Rattle.winnow_expression.specs.declared.combinator.places.Next.{Next}
use Rattle.winnow_expression.specs.declared.combinator.places.Next.TheVariants.{Postfix}
use Rattle.winnow_expression.specs.declared.combinator.places.Next.TheVariants.{Infix as infix_read}
use Rattle.winnow_expression.specs.declared.combinator.operators.Infix.{Infix}
use Rattle.winnow_expression_trees.specs.Reading.{IsBelowPower}

mutual
  -- A call of a least power reads a tree, from one place to another; every open call ends, or not.
  pub data Reads {V F G H P : Type 0} (first : P → First V F → P → Type 0)
      (next : P → Next G H → P → Type 0) : ℤ → P → Tree V F G H → P → Bool → Type 0 where
    reads_operand : (m : ℤ) (v : V) (i j k : P) (t : Tree V F G H) (b : Bool)
        → first i (Operand v) j → Grows first next m (leaf v) j t k b → Reads first next m i t k b
    reads_prefix : (m p : ℤ) (f : F) (i j k n : P) (r t : Tree V F G H) (b : Bool)
        → first i (prefix_read p f) j → Reads first next p j r k false
        → Grows first next m (before p f r) k t n b → Reads first next m i t n b
    reads_ended : (m p : ℤ) (f : F) (i j k : P) (r : Tree V F G H)
        → first i (prefix_read p f) j → Reads first next p j r k true
        → Reads first next m i (before p f r) k true

  -- It continues from a tree.
  pub data Grows {V F G H P : Type 0} (first : P → First V F → P → Type 0)
      (next : P → Next G H → P → Type 0) : ℤ → Tree V F G H → P → Tree V F G H → P → Bool
      → Type 0 where
    grows_stop : (m : ℤ) (l : Tree V F G H) (i j : P) (x : Next G H) → next i x j
        → IsBelowPower m x → Grows first next m l i l i false
    grows_block : (m : ℤ) (o : Infix H) (l : Tree V F G H) (i j : P) → next i (infix_read o) j
        → m ≤ℤ left_power o → top_neither l ≡ Some (left_power o) → Grows first next m l i l i true
    grows_postfix : (m p : ℤ) (f : G) (l t : Tree V F G H) (i j k : P) (b : Bool)
        → next i (Postfix p f) j → m ≤ℤ p → Grows first next m (behind p f l) j t k b
        → Grows first next m l i t k b
    grows_infix : (m : ℤ) (o : Infix H) (l r t : Tree V F G H) (i j k n : P) (b : Bool)
        → next i (infix_read o) j → m ≤ℤ left_power o
        → (top_neither l ≡ Some (left_power o) → ⊥) → Reads first next (right_power o) j r k false
        → Grows first next m (between o l r) k t n b → Grows first next m l i t n b
    grows_ended : (m : ℤ) (o : Infix H) (l r : Tree V F G H) (i j k : P)
        → next i (infix_read o) j → m ≤ℤ left_power o
        → (top_neither l ≡ Some (left_power o) → ⊥) → Reads first next (right_power o) j r k true
        → Grows first next m l i (between o l r) k true
