-- Expressions whose parts read items. For each part, the remaining tokens determine whether they
-- start with an item of its own, which item, and the rest after it. Folds give values.
use Rattle.std.specs.Prelude.{◌≡◌, ◌<◌, ◌⊎◌, ◌++◌, ℕ, ℤ, Bool, List, Ok, Err}
use Rattle.streams.specs.Input.{Input}
use Rattle.streams.specs.Kind.{backtrack}
use Rattle.stream_errors.specs.Form.{Answer}
use Rattle.parser_definitions.specs.Outcome.{Does, backs, took}
use Rattle.winnow_expression.specs.Operators.{fold_of}
use Rattle.winnow_expression.specs.declared.combinator.operators.Infix.{Infix}
use Rattle.winnow_expression.specs.declared.combinator.operators.Postfix.{Postfix}
use Rattle.winnow_expression.specs.declared.combinator.operators.Prefix.{Prefix}
use Rattle.winnow_expression.specs.declared.combinator.places.First.{First}
use Rattle.winnow_expression.specs.declared.combinator.places.First.TheVariants.{Operand}
use Rattle.winnow_expression.specs.declared.combinator.places.First.TheVariants.{
  Prefix as prefix_read,
}
use Rattle.winnow_expression.specs.declared.combinator.places.Next.{Next}
use Rattle.winnow_expression.specs.declared.combinator.places.Next.TheVariants.{Nothing}
use Rattle.winnow_expression.specs.declared.combinator.places.Next.TheVariants.{
  Postfix as postfix_read,
}
use Rattle.winnow_expression.specs.declared.combinator.places.Next.TheVariants.{Infix as infix_read}
use Rattle.winnow_expression_trees.specs.Keeps.{RespectsPrecedence}
use Rattle.winnow_expression_trees.specs.Premises.{NotMemory}
use Rattle.winnow_expression_trees.specs.Reading.{IsTreeOver}
use Rattle.winnow_expression_trees.specs.Tree.{Tree, leaf, before, behind, between}
pub mod Grammar
pub mod Laws
pub mod Premises

-- The items of a part: the tokens start with this item, followed by the rest.
abbrev pub Items : Type 0 → Type 0 → Type 1
Items T O = List T → O → List T → Type 0

-- No item begins there.
abbrev pub NoItem : {T O : Type 0} → Items T O → List T → Type 0
NoItem {T} {O} item tokens = (o : O) (rest : List T) → item tokens o rest → ⊥

-- the input with these tokens left, of a stream that keeps no place
abbrev pub left_at : {T : Type 0} → Input T → List T → Input T
left_at i rest = record i { left = record i.left { tokens = rest } }

-- A call of a part that reads its item, or backtracks if the tokens do not start with one.
abbrev pub ItemRuns : {T O : Type 0} → Items T O → Input T → Answer O → Input T → Type 0
ItemRuns {T} {O} item i answer j =
    ((o : O) × (rest : List T) × item i.left.tokens o rest × (answer ≡ Ok o)
    × (j ≡ left_at i rest))
    ⊎ (NoItem item i.left.tokens × (answer ≡ Err backtrack) × (j ≡ i))

-- The definition of such a part, which keeps its state.
abbrev pub ItemDoes : {S T O : Type 0} → Items T O → Does S T O
ItemDoes {T = T} {O} item at s w y =
    ((o : O) × (rest : List T) × item w.tokens o rest
    × (y ≡ took o (s, record w { tokens = rest })))
    ⊎ (NoItem item w.tokens × (y ≡ backs (s, w)))

-- At most one item begins at an offset, and it is a prefix of the tokens that has some units.
pub record AreItems {T O : Type 0} (units : List T → ℕ) (item : Items T O) : Type 0 where
  pub one : (tokens : List T) (o p : O) (r q : List T) → item tokens o r → item tokens p q
      → (o ≡ p) × (r ≡ q)
  pub some : (tokens : List T) (o : O) (r : List T) → item tokens o r → units r < units tokens
  pub front : (tokens : List T) (o : O) (r : List T) → item tokens o r
      → (front : List T) × (tokens ≡ front ++ r)

-- The reading where an operand is expected: an operand, or, without an operand, a prefix.
abbrev pub FirstItems : {T V F : Type 0} → Items T V → Items T (Prefix F) → List T → First V F
    → List T → Type 0
FirstItems operand prefix i (Operand v) j = operand i v j
FirstItems operand prefix i (prefix_read p f) j = NoItem operand i × prefix i (p, f) j

-- The reading where an operator is expected: a postfix, or, without a postfix, an infix.
abbrev pub NextItems : {T G H : Type 0} → Items T (Postfix G) → Items T (Infix H) → List T
    → Next G H → List T → Type 0
NextItems postfix infix_ i Nothing j = NoItem postfix i × NoItem infix_ i × (j ≡ i)
NextItems postfix infix_ i (postfix_read p g) j = postfix i (p, g) j
NextItems postfix infix_ i (infix_read o) j = NoItem postfix i × infix_ i o j

-- A tree over the items that the tokens start with, up to this rest, respects precedence at a
-- level.
abbrev pub ItemsTree : {T V F G H : Type 0} → Items T V → Items T (Prefix F)
    → Items T (Postfix G) → Items T (Infix H) → ℤ → List T → Tree V F G H → List T → Bool
    → Type 0
ItemsTree operand prefix postfix infix_ level i tree j all =
    IsTreeOver (FirstItems operand prefix) (NextItems postfix infix_) tree i j
    × RespectsPrecedence (NextItems postfix infix_) level tree j all

-- The result of a fold: a value, or an error without one. It leaves the input unchanged.
abbrev pub FoldGives : {T V : Type 0} → (V → Type 0) → Input T → Answer V → Input T → Type 0
FoldGives {T} {V} given i answer j =
    ((v : V) × given v × (answer ≡ Ok v) × (j ≡ i))
    ⊎ (((v : V) → given v → ⊥) × (answer ≡ Err backtrack) × (j ≡ i))

-- at most one value is given
abbrev pub GivesAtMostOne : {V : Type 0} → (V → Type 0) → Type 0
GivesAtMostOne {V} given = (v w : V) → given v → given w → v ≡ w

-- The value of a tree, by the values of the folds. There is no value if a fold fails.
abbrev pub HasValue : {V F G H : Type 0} → (F → V → V → Type 0) → (G → V → V → Type 0)
    → (H → V → V → V → Type 0) → Tree V F G H → V → Type 0
HasValue one other two (leaf w) v = v ≡ w
HasValue {V = V} one other two (before p f r) v = (w : V) × HasValue one other two r w × one f w v
HasValue {V = V} one other two (behind p g l) v = (w : V) × HasValue one other two l w × other g w v
HasValue {V = V} one other two (between o l r) v =
    (w : V) × (x : V) × HasValue one other two l w × HasValue one other two r x
    × two (fold_of o) w x v

-- A call succeeds if and only if a tree over the items respects precedence and has a value. It
-- returns that value and leaves the rest after the tree. There is at most one such tree. Out of
-- memory is excepted.
pub record ReadsItems {T V F G H : Type 0} (operand : Items T V) (prefix : Items T (Prefix F))
    (postfix : Items T (Postfix G)) (infix_ : Items T (Infix H)) (one : F → V → V → Type 0)
    (other : G → V → V → Type 0) (two : H → V → V → V → Type 0) (level : ℤ) (i : Input T)
    (answer : Answer V) (j : Input T) : Type 0 where
  pub finds : (v : V) → answer ≡ Ok v
      → (tree : Tree V F G H) × (all : Bool)
      × ItemsTree operand prefix postfix infix_ level i.left.tokens tree j.left.tokens all
      × HasValue one other two tree v
  pub agrees : (tree : Tree V F G H) (rest : List T) (all : Bool) (v : V)
      → ItemsTree operand prefix postfix infix_ level i.left.tokens tree rest all
      → HasValue one other two tree v → NotMemory answer
      → (answer ≡ Ok v) × (j.left.tokens ≡ rest)
