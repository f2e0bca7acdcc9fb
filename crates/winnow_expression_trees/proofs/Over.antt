-- Reading that consumes nothing.
use Rattle.std.specs.Prelude.{◌≡◌, ◌≤ℤ◌, ◌<ℤ◌, ◌≤◌, ◌<◌, ℕ, ℤ, Bool, true, false, Option, Some}
use Rattle.std.specs.Prelude.{None}
use Rattle.std.proofs.Common.{refl, sym, ◌∙◌, ap, subst, arith}
use Rattle.std.specs.Int.Signed.{clash_ℤ}
use Rattle.winnow_expression.specs.Operators.{left_power, neither_power, right_power}
use Rattle.winnow_expression_trees.specs.Tree.{Tree, leaf, before, behind, between, top_neither}
use Rattle.winnow_expression.specs.declared.combinator.places.First.{First}
use Rattle.winnow_expression.specs.declared.combinator.places.First.TheVariants.{Operand}
use Rattle.winnow_expression.specs.declared.combinator.places.First.TheVariants.{
  Prefix as prefix_read,
}
use Rattle.winnow_expression.specs.declared.combinator.places.Next.{Next}
use Rattle.winnow_expression.specs.declared.combinator.places.Next.TheVariants.{Postfix}
use Rattle.winnow_expression.specs.declared.combinator.places.Next.TheVariants.{Infix as infix_read}
use Rattle.winnow_expression.specs.declared.combinator.operators.Infix.{Infix}
use Rattle.winnow_expression_trees.specs.Reading.{IsTreeOver}
use Rattle.winnow_expression_trees.specs.OneTree.TreeCalls.{Reads, Grows, reads_operand}
use Rattle.winnow_expression_trees.specs.OneTree.TreeCalls.{reads_prefix}
use Rattle.winnow_expression_trees.specs.OneTree.TreeCalls.{reads_ended, grows_stop, grows_block}
use Rattle.winnow_expression_trees.specs.OneTree.TreeCalls.{grows_postfix, grows_infix, grows_ended}
use Rattle.winnow_expression_trees.specs.OneTree.Alike.{Decided, alike_power}
use Rattle.winnow_expression_trees.specs.OneTree.Unique.{false_is_not_true}

-- Reading moves towards the end, and stays only if nothing is consumed. Prefixes and neithers
-- consume input.
pub record Moves {V F G H P : Type 0} (units : P → ℕ) (first : P → First V F → P → Type 0)
    (next : P → Next G H → P → Type 0) : Type 0 where
  pub firsts_fall : (i j : P) (x : First V F) → first i x j → units j ≤ units i
  pub nexts_fall : (i j : P) (x : Next G H) → next i x j → units j ≤ units i
  pub firsts_stay : (i j : P) (x : First V F) → first i x j → units j ≡ units i → j ≡ i
  pub nexts_stay : (i j : P) (x : Next G H) → next i x j → units j ≡ units i → j ≡ i
  pub prefix_moves : (i j : P) (p : ℤ) (f : F) → first i (prefix_read p f) j → units j < units i
  pub neither_moves : (i j : P) (o : Infix H) (p : ℤ) → next i (infix_read o) j
      → neither_power o ≡ Some p → units j < units i

none_some : {A : Type 0} {a : A} → ◌≡◌ {A = Option A} None (Some a) → ⊥
none_some e = cc

none_of : {A : Type 0} (x : Option A) → ((a : A) → x ≡ Some a → ⊥) → x ≡ None
none_of None never = refl
none_of (Some a) never = absurd (never a refl)

module _ {V F G H P : Type 0} {units : P → ℕ} {av : V → V → Type 0} {af : F → F → Type 0}
    {ag : G → G → Type 0} {ah : H → H → Type 0} {first : P → First V F → P → Type 0}
    {next : P → Next G H → P → Type 0} (d : Decided av af ag ah first next)
    (moves : Moves units first next) where
  pub tree_over_shortens : (t : Tree V F G H) (i j : P) → IsTreeOver first next t i j
      → units j ≤ units i
  tree_over_shortens (leaf v) i j o = moves.firsts_fall i j (Operand v) o
  tree_over_shortens (before p f r) i j o =
      let a = moves.firsts_fall i o.0 (prefix_read p f) o.1 in
      let b = tree_over_shortens r o.0 j o.2 in omega (arith, a, b)
  tree_over_shortens (behind p g l) i j o =
      let a = tree_over_shortens l i o.0 o.1 in
      let b = moves.nexts_fall o.0 j (Postfix p g) o.2 in omega (arith, a, b)
  tree_over_shortens (between x l r) i j o =
      let a = tree_over_shortens l i o.0 o.2 in
      let b = moves.nexts_fall o.0 o.1 (infix_read x) o.3 in
      let c = tree_over_shortens r o.1 j o.4 in omega (arith, a, b, c)

  -- a tree over nothing begins with an operand over nothing
  pub over_first : (t : Tree V F G H) (i j : P) → IsTreeOver first next t i j → units j ≡ units i
      → (j ≡ i) × (v : V) × first i (Operand v) i
  over_first (leaf v) i j o e =
      let same = moves.firsts_stay i j (Operand v) o e in
      (same, v, subst (λ z. first i (Operand v) z) same o)
  over_first (before p f r) i j o e =
      let a = moves.prefix_moves i o.0 p f o.1 in
      let b = tree_over_shortens r o.0 j o.2 in absurd (omega (arith, a, b, e))
  over_first (behind p g l) i j o e =
      let a = tree_over_shortens l i o.0 o.1 in
      let b = moves.nexts_fall o.0 j (Postfix p g) o.2 in
      let same = over_first l i o.0 o.1 (omega (arith, a, b, e)) in
      let last = moves.nexts_stay o.0 j (Postfix p g) o.2 (omega (arith, a, b, e)) in
      (last ∙ same.0, same.1, same.2)
  over_first (between x l r) i j o e =
      let a = tree_over_shortens l i o.0 o.2 in
      let b = moves.nexts_fall o.0 o.1 (infix_read x) o.3 in
      let c = tree_over_shortens r o.1 j o.4 in
      let same = over_first l i o.0 o.2 (omega (arith, a, b, c, e)) in
      let middle = moves.nexts_stay o.0 o.1 (infix_read x) o.3 (omega (arith, a, b, c, e)) in
      let last = over_first r o.1 j o.4 (omega (arith, a, b, c, e)) in
      (last.0 ∙ middle ∙ same.0, same.1, same.2)

  -- a postfix over nothing is read forever
  pub postfix_forever : (x : P) (p : ℤ) (g : G) → next x (Postfix p g) x
      → (m : ℤ) (l : Tree V F G H)
      (i : P) (t : Tree V F G H) (n : P) (b : Bool) → Grows first next m l i t n b → i ≡ x
      → m ≤ℤ p → ⊥
  postfix_forever x p g read _ _ _ _ _ _ (grows_stop m l i j y other below) e reach =
      let same = d.nexts x j x y (Postfix p g) (subst (λ z. next z y j) e other) read in
      clash_ℤ (below p (alike_power ag ah y (Postfix p g) same.0)) reach
  postfix_forever x p g read _ _ _ _ _ _ (grows_block m o l i j other reaches top) e reach =
      absurd (d.nexts x j x (infix_read o) (Postfix p g)
      (subst (λ z. next z (infix_read o) j) e other) read).0
  postfix_forever x p g read _ _ _ _ _ _ (grows_postfix m q f l t i j k b other reaches grows) e
      reach =
      let same = d.nexts x j x (Postfix q f) (Postfix p g)
      (subst (λ z. next z (Postfix q f) j) e other) read in
      postfix_forever x p g read m (behind q f l) j t k b grows same.1 reach
  postfix_forever x p g read _ _ _ _ _ _
      (grows_infix m o l r t i j k n b other reaches free inner grows) e reach =
      absurd (d.nexts x j x (infix_read o) (Postfix p g)
      (subst (λ z. next z (infix_read o) j) e other) read).0
  postfix_forever x p g read _ _ _ _ _ _ (grows_ended m o l r i j k other reaches free inner) e
      reach =
      absurd (d.nexts x j x (infix_read o) (Postfix p g)
      (subst (λ z. next z (infix_read o) j) e other) read).0

  -- an operand and an infix over nothing are read forever
  mutual
    reads_stays : (x : P) (v : V) (o : Infix H) → first x (Operand v) x → next x (infix_read o) x
        → neither_power o ≡ None → (m : ℤ) (i : P) (t : Tree V F G H) (n : P) (b : Bool)
        → Reads first next m i t n b → i ≡ x → (n ≡ x) × (b ≡ false)
    reads_stays x v o read goes none _ _ _ _ _ (reads_operand m w i j k t b other grows) e =
        let same = d.firsts x j x (Operand w) (Operand v)
        (subst (λ z. first z (Operand w) j) e other) read in
        let stays = grows_stays x v o read goes none m (leaf w) j t k b grows same.1
        (λ z. none_some z) in
        (stays.1, stays.2)
    reads_stays x v o read goes none _ _ _ _ _
        (reads_prefix m p f i j k n r t b other inner grows) e =
        absurd (d.firsts x j x (prefix_read p f) (Operand v)
        (subst (λ z. first z (prefix_read p f) j) e other) read).0
    reads_stays x v o read goes none _ _ _ _ _ (reads_ended m p f i j k r other inner) e =
        absurd (d.firsts x j x (prefix_read p f) (Operand v)
        (subst (λ z. first z (prefix_read p f) j) e other) read).0

    grows_stays : (x : P) (v : V) (o : Infix H) → first x (Operand v) x → next x (infix_read o) x
        → neither_power o ≡ None
        → (m : ℤ) (l : Tree V F G H) (i : P) (t : Tree V F G H) (n : P) (b : Bool)
        → Grows first next m l i t n b → i ≡ x → (top_neither l ≡ Some (left_power o) → ⊥)
        → (left_power o <ℤ m) × (n ≡ x) × (b ≡ false)
    grows_stays x v o read goes none _ _ _ _ _ _ (grows_stop m l i j y other below) e free =
        let same = d.nexts x j x y (infix_read o) (subst (λ z. next z y j) e other) goes in
        (below (left_power o) (alike_power ag ah y (infix_read o) same.0), e, refl)
    grows_stays x v o read goes none _ _ _ _ _ _ (grows_block m q l i j other reaches top) e free =
        let same = d.nexts x j x (infix_read q) (infix_read o)
        (subst (λ z. next z (infix_read q) j) e other) goes in
        absurd (free (top ∙ ap Some same.0.0))
    grows_stays x v o read goes none _ _ _ _ _ _
        (grows_postfix m q f l t i j k b other reaches grows) e free =
        absurd (d.nexts x j x (Postfix q f) (infix_read o)
        (subst (λ z. next z (Postfix q f) j) e other) goes).0
    grows_stays x v o read goes none _ _ _ _ _ _
        (grows_infix m q l r t i j k n b other reaches free_ inner grows) e free =
        let same = d.nexts x j x (infix_read q) (infix_read o)
        (subst (λ z. next z (infix_read q) j) e other) goes in
        let right = reads_stays x v o read goes none (right_power q) j r k false inner same.1 in
        let more = grows_stays x v o read goes none m (between q l r) k t n b grows right.0
        (λ z. none_some (sym (same.0.2 ∙ none) ∙ z)) in
        clash_ℤ more.0 (subst (λ z. m ≤ℤ z) same.0.0 reaches)
    grows_stays x v o read goes none _ _ _ _ _ _
        (grows_ended m q l r i j k other reaches free_ inner) e free =
        let same = d.nexts x j x (infix_read q) (infix_read o)
        (subst (λ z. next z (infix_read q) j) e other) goes in
        false_is_not_true (sym
        (reads_stays x v o read goes none (right_power q) j r k true inner same.1).1)

  -- So no finite reading goes through an infix over nothing, after an operand over nothing.
  no_turn : (x : P) (v : V) (o : Infix H) → first x (Operand v) x → next x (infix_read o) x
      → (m : ℤ) (l t : Tree V F G H) (n : P) (b : Bool) → Grows first next m l x t n b
      → (top_neither l ≡ Some (left_power o) → ⊥) → m ≤ℤ left_power o → ⊥
  no_turn x v o read goes m l t n b grows free reach =
      let none = none_of (neither_power o)
      (λ p is. let moved = moves.neither_moves x x o p goes is
      in absurd (omega (arith, moved))) in
      clash_ℤ (grows_stays x v o read goes none m l x t n b grows refl free).0 reach

  -- nothing was consumed since the call began
  pub no_turn_begun : (start i j : P) (o : Infix H) (m : ℤ) (k l t : Tree V F G H) (n : P)
      (b : Bool) → IsTreeOver first next k start i → next i (infix_read o) j → units j ≡ units start
      → Grows first next m l i t n b → (top_neither l ≡ Some (left_power o) → ⊥)
      → m ≤ℤ left_power o → ⊥
  no_turn_begun start i j o m k l t n b over read still grows free reach =
      let falls = tree_over_shortens k start i over in
      let more = moves.nexts_fall i j (infix_read o) read in
      let (same, v, operand) = over_first k start i over (omega (arith, falls, more, still)) in
      let stays = moves.nexts_stay i j (infix_read o) read (omega (arith, falls, more, still)) in
      no_turn i v o (subst (λ z. first z (Operand v) z) (sym same) operand)
      (subst (λ z. next i (infix_read o) z) stays read) m l t n b grows free reach

  -- nothing was consumed in the turn
  pub no_turn_still : (i j k : P) (o : Infix H) (m : ℤ) (l r t : Tree V F G H) (n : P) (b : Bool)
      → next i (infix_read o) j → IsTreeOver first next r j k → units k ≡ units i
      → Grows first next m l i t n b → (top_neither l ≡ Some (left_power o) → ⊥)
      → m ≤ℤ left_power o → ⊥
  no_turn_still i j k o m l r t n b read over still grows free reach =
      let falls = tree_over_shortens r j k over in
      let more = moves.nexts_fall i j (infix_read o) read in
      let (same, v, operand) = over_first r j k over (omega (arith, falls, more, still)) in
      let stays = moves.nexts_stay i j (infix_read o) read (omega (arith, falls, more, still)) in
      no_turn i v o (subst (λ z. first z (Operand v) z) stays operand)
      (subst (λ z. next i (infix_read o) z) stays read) m l t n b grows free reach

  -- a postfix was folded, and nothing was consumed
  pub no_postfix_still : (i j : P) (p : ℤ) (g : G) (m : ℤ) (l t : Tree V F G H) (n : P) (b : Bool)
      → next i (Postfix p g) j → units j ≡ units i → Grows first next m l i t n b → m ≤ℤ p → ⊥
  no_postfix_still i j p g m l t n b read still grows reach =
      let stays = moves.nexts_stay i j (Postfix p g) read still in
      postfix_forever i p g (subst (λ z. next i (Postfix p g) z) stays read) m l i t n b grows
      refl reach
