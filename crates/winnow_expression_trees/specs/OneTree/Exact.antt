-- A call reads exactly the trees that respect precedence.
use Rattle.std.specs.Prelude.{◌≡◌, ◌<ℤ◌, ℤ, Bool, true, false, Some}
use Rattle.std.proofs.Common.{refl, ◌∙◌, subst, inl, inr}
use Rattle.winnow_expression.specs.Operators.{left_power, right_power}
use Rattle.winnow_expression_trees.specs.Tree.{Tree, leaf, before, behind, between}
use Rattle.winnow_expression.specs.declared.combinator.places.First.{First}
use Rattle.winnow_expression.specs.declared.combinator.places.Next.{Next}
use Rattle.winnow_expression.specs.declared.combinator.places.Next.TheVariants.{Postfix}
use Rattle.winnow_expression.specs.declared.combinator.places.Next.TheVariants.{Infix as infix_read}
use Rattle.winnow_expression.specs.declared.combinator.operators.Infix.{Infix}
use Rattle.winnow_expression_trees.specs.Reading.{IsTreeOver, power_of}
use Rattle.winnow_expression_trees.specs.OneTree.TreeCalls.{Reads, Grows, reads_operand}
use Rattle.winnow_expression_trees.specs.OneTree.TreeCalls.{reads_prefix}
use Rattle.winnow_expression_trees.specs.OneTree.TreeCalls.{reads_ended, grows_stop, grows_block}
use Rattle.winnow_expression_trees.specs.OneTree.TreeCalls.{grows_postfix, grows_infix, grows_ended}
use Rattle.winnow_expression_trees.specs.Keeps.{LeftEdgeReaches, RightEdgeBelow, Binds, Meets}
use Rattle.winnow_expression_trees.specs.Keeps.{MeetsHere, Above, Ends, Outcome, RespectsPrecedence}
use Rattle.winnow_expression_trees.specs.OneTree.Alike.{Decided, alike_power}

-- completeness
above_one : {V F G H : Type 0} (t : Tree V F G H) (p : ℤ) (x : Next G H) → power_of x ≡ Some p
    → RightEdgeBelow t p → Above t x
above_one t p x is e q other =
    let same : p ≡ q = cc in subst (λ z. RightEdgeBelow t z) same e

builds : {V F G H P : Type 0} (first : P → First V F → P → Type 0)
    (next : P → Next G H → P → Type 0)
    (t : Tree V F G H) (m : ℤ) (i j k n : P) (x : Next G H) (u : Tree V F G H) (b : Bool)
    → Binds t → LeftEdgeReaches m t → IsTreeOver first next t i j → next j x k → Above t x
    → Grows first next m t j u n b → Reads first next m i u n b
builds first next (leaf v) m i j k n x u b binds reaches over read above grows =
    reads_operand m v i j n u b over grows
builds first next (before p f t) m i j k n x u b binds reaches over read above grows =
    reads_prefix m p f i over.0 j n t u b over.1
    (builds first next t p over.0 j k j x t false binds.0 binds.1 over.2 read
    (λ q is. (above q is).1)
    (grows_stop p t j k x read (λ q is. (above q is).0))) grows
builds first next (behind p g t) m i j k n x u b binds reaches over read above grows =
    builds first next t m i over.0 j n (Postfix p g) u b binds.0 reaches.1 over.1 over.2
    (above_one t p (Postfix p g) refl binds.1)
    (grows_postfix m p g t u over.0 j n b over.2 reaches.0 grows)
builds first next (between o l t) m i j k n x u b binds reaches over read above grows =
    builds first next l m i over.0 over.1 n (infix_read o) u b binds.0 reaches.1 over.2 over.3
    (above_one l (left_power o) (infix_read o) refl binds.2)
    (grows_infix m o l t u over.0 over.1 j n b over.3 reaches.0 binds.3
    (builds first next t (right_power o) over.1 j k j x t false binds.1 binds.4 over.4 read
    (λ q is. (above q is).1)
    (grows_stop (right_power o) t j k x read (λ q is. (above q is).0))) grows)

builds_here : {V F G H P : Type 0} (first : P → First V F → P → Type 0)
    (next : P → Next G H → P → Type 0) (t : Tree V F G H) (m : ℤ) (i j k : P) (c : Infix H)
    → Binds t → LeftEdgeReaches m t → IsTreeOver first next t i j → next j (infix_read c) k
    → MeetsHere m t (left_power c) → Reads first next m i t j true
builds_here first next t m i j k c binds reaches over read (above, reach, top) =
    builds first next t m i j k j (infix_read c) t true binds reaches over read
    (above_one t (left_power c) (infix_read c) refl above) (grows_block m c t j k read reach top)

builds_met : {V F G H P : Type 0} (first : P → First V F → P → Type 0)
    (next : P → Next G H → P → Type 0) (t : Tree V F G H) (m : ℤ) (i j k : P) (c : Infix H)
    → Binds t → LeftEdgeReaches m t → IsTreeOver first next t i j → next j (infix_read c) k
    → Meets t (left_power c)
    → Reads first next m i t j true
builds_met first next (leaf v) m i j k c binds reaches over read e = absurd e
builds_met first next (behind p g l) m i j k c binds reaches over read e = absurd e
builds_met first next (before p f t) m i j k c binds reaches over read (inl e) =
    reads_ended m p f i over.0 j t over.1
    (builds_met first next t p over.0 j k c binds.0 binds.1 over.2 read e)
builds_met first next (before p f t) m i j k c binds reaches over read (inr e) =
    reads_ended m p f i over.0 j t over.1
    (builds_here first next t p over.0 j k c binds.0 binds.1 over.2 read e)
builds_met first next (between o l t) m i j k c binds reaches over read (inl e) =
    builds first next l m i over.0 over.1 j (infix_read o) (between o l t) true binds.0
    reaches.1 over.2
    over.3 (above_one l (left_power o) (infix_read o) refl binds.2)
    (grows_ended m o l t over.0 over.1 j over.3 reaches.0 binds.3
    (builds_met first next t (right_power o) over.1 j k c binds.1 binds.4 over.4 read e))
builds_met first next (between o l t) m i j k c binds reaches over read (inr e) =
    builds first next l m i over.0 over.1 j (infix_read o) (between o l t) true binds.0
    reaches.1 over.2
    over.3 (above_one l (left_power o) (infix_read o) refl binds.2)
    (grows_ended m o l t over.0 over.1 j over.3 reaches.0 binds.3
    (builds_here first next t (right_power o) over.1 j k c binds.1 binds.4 over.4 read e))

outcome_reads : {V F G H P : Type 0} (first : P → First V F → P → Type 0)
    (next : P → Next G H → P → Type 0) (m : ℤ) (t : Tree V F G H) (i j k : P) (x : Next G H)
    (b : Bool)
    → Binds t → LeftEdgeReaches m t → IsTreeOver first next t i j → next j x k → Outcome b m t x
    → Reads first next m i t j b
outcome_reads first next m t i j k x false binds reaches over read (below, above) =
    builds first next t m i j k j x t false binds reaches over read above
    (grows_stop m t j k x read below)
outcome_reads first next m t i j k x true binds reaches over read (o, is, inl met) =
    builds_met first next t m i j k o binds reaches over (subst (λ z. next j z k) is read) met
outcome_reads first next m t i j k x true binds reaches over read (o, is, inr met) =
    builds_here first next t m i j k o binds reaches over (subst (λ z. next j z k) is read) met

pub reads_tree_over : {V F G H P : Type 0} (first : P → First V F → P → Type 0)
    (next : P → Next G H → P → Type 0) (m : ℤ) (t : Tree V F G H) (i j : P) (b : Bool)
    → IsTreeOver first next t i j → RespectsPrecedence next m t j b → Reads first next m i t j b
reads_tree_over first next m t i j b over keeps =
    outcome_reads first next m t i j keeps.then_at keeps.then_read b keeps.binds keeps.reaches
    over keeps.reads keeps.ends

-- what is read after a right operand does not bind within it
pub above_later : {V F G H P : Type 0} {av : V → V → Type 0} {af : F → F → Type 0}
    {ag : G → G → Type 0} {ah : H → H → Type 0} {first : P → First V F → P → Type 0}
    {next : P → Next G H → P → Type 0} (d : Decided av af ag ah first next) (p : ℤ)
    (r : Tree V F G H) (i k n : P) (x y : Next G H) → next i x k → Ends p r x → next i y n
    → (q : ℤ) → power_of y ≡ Some q → (q <ℤ p) × RightEdgeBelow r q
above_later {ag = ag} {ah} d p r i k n x y read ends later q is =
    let same = alike_power ag ah x y (d.nexts i k n x y read later).0 ∙ is in
    (ends.0 q same, ends.1 q same)
