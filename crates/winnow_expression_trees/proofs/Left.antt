-- What a call has read: the tree before the next operator, and why it fails.
use Rattle.std.specs.Prelude.{◌≡◌, ◌⊎◌, ◌≤ℤ◌, ℤ, Bool, true, false, Some, Ok, Err}
use Rattle.std.proofs.Common.{sym, subst, inl, inr}
use Rattle.streams.specs.Input.{Input}
use Rattle.streams.specs.Kind.{Kind, backtrack, cut, incomplete, memory}
use Rattle.parser_definitions.specs.Left.{End}
use Rattle.parser_definitions.specs.Outcome.{Outcome as CallOutcome, Setting, asks, backs, cuts}
use Rattle.parser_definitions.specs.Outcome.{outcome_of, took, wants}
use Rattle.winnow_expression.specs.Did.{here}
use Rattle.winnow_expression.specs.Units.{units_left}
use Rattle.parser_definitions.specs.Expression.{Call}
use Rattle.winnow_expression.specs.Grammar.{Grammar}
use Rattle.winnow_expression.specs.Operators.{fold_of}
use Rattle.winnow_expression.specs.declared.combinator.places.First.{First}
use Rattle.winnow_expression.specs.declared.combinator.places.Next.{Next}
use Rattle.winnow_expression_trees.specs.Alike.{AlikeTree}
use Rattle.winnow_expression_trees.specs.Failure.{EndedBy, HasEmptyOperator, ReadsTo}
use Rattle.winnow_expression_trees.specs.Failure.{RejectedByPrecedence, StartsOperand, TakesLeft}
use Rattle.winnow_expression_trees.specs.Failure.{begins_infix, begins_prefix, begins_whole}
use Rattle.winnow_expression_trees.specs.Failure.{comes_infix, comes_operand, comes_postfix}
use Rattle.winnow_expression_trees.specs.Failure.{comes_prefix, comes_start}
use Rattle.winnow_expression_trees.specs.Keeps.{Above, Binds, LeftEdgeReaches, Outcome}
use Rattle.winnow_expression_trees.specs.Keeps.{RespectsPrecedence}
use Rattle.winnow_expression_trees.specs.OneTree.TreeCalls.{Reads, Grows, grows_block}
use Rattle.winnow_expression_trees.specs.OneTree.TreeCalls.{grows_ended, grows_infix}
use Rattle.winnow_expression_trees.specs.OneTree.TreeCalls.{grows_postfix, grows_stop}
use Rattle.winnow_expression_trees.specs.OneTree.Views.{Follows}
use Rattle.winnow_expression_trees.specs.Reading.{IsTreeOver, OperandStep, OperatorStep, power_of}
use Rattle.winnow_expression_trees.specs.Tree.{Tree, leaf, before, behind, between, top_neither}
use Rattle.winnow_expression_trees.specs.Value.{Value}
use Rattle.winnow_expression_trees.proofs.Plain.{Plain}

comes_over : {V F G H P : Type 0} (first : P → First V F → P → Type 0)
    (next : P → Next G H → P → Type 0) (start : P) (t : Tree V F G H) (i j : P)
    → ReadsTo first next start true i → IsTreeOver first next t i j
    → ReadsTo first next start false j
comes_over first next start (leaf v) i j c o = comes_operand i j v c o
comes_over first next start (before p f r) i j c o =
    comes_over first next start r o.0 j (comes_prefix i o.0 p f c o.1) o.2
comes_over first next start (behind p f l) i j c o =
    comes_postfix o.0 j p f (comes_over first next start l i o.0 c o.1) o.2
comes_over first next start (between x l r) i j c o =
    comes_over first next start r o.1 j
    (comes_infix o.0 o.1 x (comes_over first next start l i o.0 c o.2) o.3) o.4

module _ {S W T V F G H : Type 0} {g : Grammar S W T V F G H} {alike : V → V → Type 0}
    {af : F → F → Type 0} {ag : G → G → Type 0} {ah : H → H → Type 0} {s0 : S × W}
    (pr : Plain g alike af ag ah s0) where
  abbrev first : Input T → First V F → Input T → Type 0
  first = OperandStep g s0

  abbrev next : Input T → Next G H → Input T → Type 0
  next = OperatorStep g s0

  -- the parts are in their states
  abbrev pub Kept : S × W → Type 0
  Kept s = (s.0 ≡ s0.0) × (s.1 ≡ s0.1)

  -- equivalent trees have equivalent values
  pub value_alike : (t u : Tree V F G H) → AlikeTree alike af ag ah t u → (v w : V) → Value g t v
      → Value g u w → alike v w
  value_alike (leaf a) (leaf b) like v w e f =
      subst (λ z. alike z w) (sym e) (subst (λ z. alike a z) (sym f) like)
  value_alike (before p f r) (before q h s) (power, like, more) v w
      (x, known, i, j, does) (y, other, k, n, did) =
      (pr.befores f h like).same x y i j k n (Ok v) (Ok w) (value_alike r s more x y known other)
      does did tt tt
  value_alike (behind p f r) (behind q h s) (power, like, more) v w
      (x, known, i, j, does) (y, other, k, n, did) =
      (pr.behinds f h like).same x y i j k n (Ok v) (Ok w) (value_alike r s more x y known other)
      does did tt tt
  value_alike (between o l r) (between q m s) (op, one, two) v w
      (x, x2, known, known2, i, j, does) (y, y2, other, other2, k, n, did) =
      (pr.betweens (fold_of o) (fold_of q) op.3).same x x2 y y2 i j k n (Ok v) (Ok w)
      (value_alike l m one x y known other) (value_alike r s two x2 y2 known2 other2)
      does did tt tt
  value_alike (leaf a) (before q h s) e v w x y = absurd e
  value_alike (leaf a) (behind q h s) e v w x y = absurd e
  value_alike (leaf a) (between q m s) e v w x y = absurd e
  value_alike (before p f r) (leaf b) e v w x y = absurd e
  value_alike (before p f r) (behind q h s) e v w x y = absurd e
  value_alike (before p f r) (between q m s) e v w x y = absurd e
  value_alike (behind p f r) (leaf b) e v w x y = absurd e
  value_alike (behind p f r) (before q h s) e v w x y = absurd e
  value_alike (behind p f r) (between q m s) e v w x y = absurd e
  value_alike (between o l r) (leaf b) e v w x y = absurd e
  value_alike (between o l r) (before q h s) e v w x y = absurd e
  value_alike (between o l r) (behind q h s) e v w x y = absurd e

  -- what is finished has values within
  pub grows_value : (m : ℤ) (l : Tree V F G H) (i : Input T) (t : Tree V F G H) (n : Input T)
      (b : Bool) → Grows first next m l i t n b → (x : V) → Value g t x → (y : V) × Value g l y
  grows_value _ _ _ _ _ _ (grows_stop m l i j y read below) x v = (x, v)
  grows_value _ _ _ _ _ _ (grows_block m o l i j read reach top) x v = (x, v)
  grows_value _ _ _ _ _ _ (grows_postfix m p f l t i j k b read reach grows) x v =
      let z = (grows_value m (behind p f l) j t k b grows x v).1 in (z.0, z.1)
  grows_value _ _ _ _ _ _ (grows_infix m o l r t i j k n b read reach free inner grows) x v =
      let z = (grows_value m (between o l r) k t n b grows x v).1 in (z.0, z.2)
  grows_value _ _ _ _ _ _ (grows_ended m o l r i j k read reach free inner) x v = (v.0, v.2)

  pub follows_value : (m : ℤ) (l : Tree V F G H) (i : Input T) (t : Tree V F G H) (n : Input T)
      (inner b : Bool) → Follows first next m l i t n inner b → (x : V) → Value g t x
      → (y : V) × Value g l y
  follows_value m l i t n inner b (inl (is, grows)) x v = grows_value m l i t n b grows x v
  follows_value m l i t n inner b (inr (is, all, tree, stays)) x v =
      (x, subst (λ z. Value g z x) tree v)

  module _ (level : ℤ) (start : Input T) where
    -- A failure of this kind that leaves `j`, of a call of the least power `m` that began at `at`.
    -- The reading ended, and no tree over it respects precedence; or a fold failed, and none has a
    -- value.
    abbrev pub Fails : ℤ → Input T → Kind → Input T → Type 0
    Fails m at k j =
        ((EndedBy g s0 start k j ⊎ HasEmptyOperator g s0 start)
        × ((r : Tree V F G H) (n : Input T) (b : Bool) → Reads first next m at r n b → ⊥))
        ⊎ (RejectedByPrecedence g s0 level start k j
        × ((r : Tree V F G H) (n : Input T) (b : Bool) (x : V) → Reads first next m at r n b
        → Value g r x → ⊥))

    -- The outcome of the call: the value of a tree that respects precedence, or such a failure.
    abbrev pub Told : Setting → ℤ → Input T → CallOutcome (End (S × W × ℤ) T) (V × Bool) → Type 0
    Told at m i (took x e) =
        Kept (e.0.0, e.0.1) × (r : Tree V F G H) × IsTreeOver first next r i (here at e.1)
        × RespectsPrecedence next m r (here at e.1) x.1 × Value g r x.0
    Told at m i (backs e) = Fails m i backtrack (here at e.1)
    Told at m i (cuts e) = Fails m i cut (here at e.1)
    Told at m i (asks need e) = Fails m i (incomplete need) (here at e.1)
    Told at m i wants = Unit {0}

    -- A left operand that the call has read. It respects precedence so far, no operator that may be
    -- read next binds within its right edge, and it has a value. Each tree that the call may read
    -- continues an equivalent one.
    pub record IsLeft (call : Call) (at : Input T) (left : V) (i : Input T) : Type 0 where
      pub tree : Tree V F G H
      pub begins : StartsOperand g s0 level start call.least at
      pub began : call.began ≡ units_left g.folding.units at
      pub over : IsTreeOver first next tree at i
      pub binds : Binds tree
      pub reaches : LeftEdgeReaches call.least tree
      pub above : (x : Next G H) (n : Input T) → next i x n → Above tree x
      pub top : call.neither ≡ top_neither tree
      pub value : Value g tree left
      pub sees : (r : Tree V F G H) (n : Input T) (b : Bool) → Reads first next call.least at r n b
          → (l : Tree V F G H) × AlikeTree alike af ag ah tree l
          × Grows first next call.least l i r n b

    pub comes_begins : (m : ℤ) (i : Input T) → StartsOperand g s0 level start m i
        → ReadsTo first next start true i
    comes_begins _ _ begins_whole = comes_start
    comes_begins _ _ (begins_prefix m p i j f begins read) =
        comes_prefix i j p f (comes_begins m i begins) read
    comes_begins _ _ (begins_infix m p i j k o l v begins over value takes read is) =
        comes_infix j k o (comes_over first next start l i j (comes_begins m i begins) over) read

    pub comes_left : (call : Call) (at : Input T) (left : V) (i : Input T)
        → IsLeft call at left i → ReadsTo first next start false i
    comes_left call at left i known =
        comes_over first next start known.tree at i (comes_begins call.least at known.begins)
        known.over

    -- an operator that reaches the call's least power takes it
    pub left_takes : (call : Call) (at : Input T) (left : V) (i n : Input T) (x : Next G H) (p : ℤ)
        (known : IsLeft call at left i) → next i x n → power_of x ≡ Some p → call.least ≤ℤ p
        → TakesLeft call.least known.tree p
    left_takes call at left i n x p known read is reaches =
        (known.binds, known.reaches, reaches, known.above x n read p is)

    pub failed : (at : Setting) (m : ℤ) (i : Input T) (k : Kind) (e : End (S × W × ℤ) T)
        {y : CallOutcome (End (S × W × ℤ) T) (V × Bool)} → y ≡ outcome_of (Err k) e
        → ((k ≡ memory → ⊥) → Fails m i k (here at e.1)) → Told at m i y
    failed at m i k e is why = subst (λ z. Told at m i z) (sym is) (by k why)
      where
        by : (k : Kind) → ((k ≡ memory → ⊥) → Fails m i k (here at e.1))
            → Told at m i (outcome_of (Err k) e)
        by backtrack why = why (λ e. cc)
        by cut why = why (λ e. cc)
        by (incomplete need) why = why (λ e. cc)
        by memory why = tt

    -- the call ends before the next operator
    pub stops : (at : Setting) (call : Call) (start_ : Input T) (left : V) (i : Input T)
        (known : IsLeft call start_ left i) (x : Next G H) (n : Input T) (all : Bool)
        (e : End (S × W × ℤ) T) {y : CallOutcome (End (S × W × ℤ) T) (V × Bool)}
        → y ≡ took (left, all) e → next i x n → Outcome all call.least known.tree x
        → here at e.1 ≡ i → Kept (e.0.0, e.0.1) → Told at call.least start_ y
    stops at call start_ left i known x n all e is read outcome place kept =
        subst (λ z. Told at call.least start_ z) (sym is) (
          kept,
          known.tree,
          subst (λ k. IsTreeOver first next known.tree start_ k) (sym place) known.over,
          record {
            binds = known.binds;
            reaches = known.reaches;
            then_read = x;
            then_at = n;
            reads = subst (λ k. next k x n) (sym place) read;
            ends = outcome;
          },
          known.value,
        )
