-- The grammar of an expression over items.
use Rattle.std.specs.Prelude.{◌≡◌, ◌⊎◌, ◌<◌, ◌++◌, ℕ, ℤ, Bool, List, length, Ok, Err, Result, IfErr}
use Rattle.std.proofs.Common.{refl, sym, ap, inl, inr, ◌∙◌, append_assoc, arith}
use Rattle.streams.specs.Input.{Input, IsEndOf}
use Rattle.streams.specs.Kind.{Kind, backtrack, memory}
use Rattle.streams.specs.Reading.{Reading}
use Rattle.grammars.specs.Grammar.{Grammar, IsUnique, TakesTokens}
use Rattle.stream_errors.specs.Form.{answer_by}
use Rattle.winnow_core.specs.Exact.{Reads}
use Rattle.winnow_expression.specs.Operators.{fold_of, left_power, neither_power, right_power}
use Rattle.winnow_expression.specs.declared.combinator.operators.Infix.{Infix}
use Rattle.winnow_expression.specs.declared.combinator.operators.Postfix.{Postfix}
use Rattle.winnow_expression.specs.declared.combinator.operators.Prefix.{Prefix}
use Rattle.winnow_expression.specs.declared.combinator.places.First.{First}
use Rattle.winnow_expression.specs.declared.combinator.places.First.TheVariants.{Operand}
use Rattle.winnow_expression.specs.declared.combinator.places.First.TheVariants.{
  Prefix as prefix_read,
}
use Rattle.winnow_expression.specs.declared.combinator.places.Next.{Next}
use Rattle.winnow_expression.specs.declared.combinator.places.Next.TheVariants.{Nothing}
use Rattle.winnow_expression.specs.declared.combinator.places.Next.TheVariants.{
  Postfix as postfix_read,
}
use Rattle.winnow_expression.specs.declared.combinator.places.Next.TheVariants.{Infix as infix_read}
use Rattle.winnow_expression_trees.specs.OneTree.Alike.{Decided}
use Rattle.winnow_expression_trees.specs.OneTree.Unique.{one_tree}
use Rattle.winnow_expression_trees.specs.Alike.{AlikeFirst, AlikeInfix, AlikeNext}
use Rattle.winnow_expression_trees.specs.Items.{AreItems, FirstItems, HasValue, Items, ItemsTree}
use Rattle.winnow_expression_trees.specs.Items.{NextItems, ReadsItems}
use Rattle.winnow_expression_trees.specs.Reading.{IsTreeOver}
use Rattle.winnow_expression_trees.specs.Tree.{Tree, leaf, before, behind, between}

-- A tree over the items that the tokens start with respects precedence at a level. It has this
-- value, and this rest follows it.
unfoldable pub ReadsTree : {T V F G H : Type 0} → Items T V → Items T (Prefix F)
    → Items T (Postfix G) → Items T (Infix H) → (F → V → V → Type 0) → (G → V → V → Type 0)
    → (H → V → V → V → Type 0) → ℤ → Grammar T V
ReadsTree {V = V} {F} {G} {H} operand prefix postfix infix_ one other two level tokens v rest =
    (tree : Tree V F G H) × (all : Bool)
    × ItemsTree operand prefix postfix infix_ level tokens tree rest all
    × HasValue one other two tree v

-- one beginning after another is a beginning
joined : {T : Type 0} {i k j : List T} → (front : List T) × (i ≡ front ++ k)
    → (front : List T) × (k ≡ front ++ j) → (front : List T) × (i ≡ front ++ j)
joined {j = j} (x, is) (y, at) =
    (x ++ y, is ∙ ap (λ l. x ++ l) at ∙ sym (append_assoc x y j))

ok_told : {O E : Type 0} (kind : E → Kind) {o : O} → answer_by kind (Ok o) ≡ Ok o
ok_told kind = refl

-- but no error is one
err_told : {O E P : Type 0} (kind : E → Kind) {e : E} {o : O}
    → answer_by {O = O} kind (Err e) ≡ Ok o → P
err_told kind is = absurd (cc)

module _ {T V F G H : Type 0} (operand : Items T V) (prefix : Items T (Prefix F))
    (postfix : Items T (Postfix G)) (infix_ : Items T (Infix H)) (one : F → V → V → Type 0)
    (other : G → V → V → Type 0) (two : H → V → V → V → Type 0) (level : ℤ) where
  pub tree_told : {L E : Type 0} (reading : Reading T L) (kind : E → Kind) (i : Input T)
      (result : Result V E) (j : Input T)
      → ReadsItems operand prefix postfix infix_ one other two level i (answer_by kind result) j
      → IsEndOf reading j i
      → IfErr result (λ e. (kind e ≡ memory) ⊎ (kind e ≡ backtrack))
      → Reads reading kind (ReadsTree operand prefix postfix infix_ one other two level) i result j
  unfolding ReadsTree
  tree_told reading kind i (Ok v) j reads ends soft = record {
    ends = ends;
    stands = λ whole. reads.finds v (ok_told kind);
    none = λ whole. tt;
  }
  tree_told reading kind i (Err e) j reads ends soft = record {
    ends = ends;
    stands = λ whole. tt;
    none = λ whole. elim soft [
      | inl m ↦ inl m
      | inr b ↦ inr (
        b,
        λ v rest (tree, all, keeps, value).
            err_told kind (reads.agrees tree rest all v keeps value
            (λ m. back_not_memory (sym b ∙ m))).0,
      )
    ];
  }
    where
      back_not_memory : ◌≡◌ {A = Kind} backtrack memory → ⊥
      back_not_memory e = absurd (cc)

  -- ---- the grammar leaves one rest, and takes tokens

  module _ (units : List T → ℕ) (operands : AreItems units operand)
      (prefixes : AreItems units prefix) (postfixes : AreItems units postfix)
      (infixes : AreItems units infix_) where
    one_first : (i j k : List T) (x y : First V F) → FirstItems operand prefix i x j
        → FirstItems operand prefix i y k
        → AlikeFirst (λ v w. v ≡ w) (λ f g. f ≡ g) x y × (j ≡ k)
    one_first i j k (Operand v) (Operand w) a b = operands.one i v w j k a b
    one_first i j k (Operand v) (prefix_read p f) a b = absurd (b.0 v j a)
    one_first i j k (prefix_read p f) (Operand v) a b = absurd (a.0 v k b)
    one_first i j k (prefix_read p f) (prefix_read q g) a b =
        let (same, place) = prefixes.one i (p, f) (q, g) j k a.1 b.1 in
        ((ap (λ x. x.0) same, ap (λ x. x.1) same), place)

    same_infix : (o q : Infix H) → o ≡ q → AlikeInfix (λ f g. f ≡ g) o q
    same_infix o q same = (
      ap left_power same,
      ap right_power same,
      ap neither_power same,
      ap fold_of same,
    )

    one_next : (i j k : List T) (x y : Next G H) → NextItems postfix infix_ i x j
        → NextItems postfix infix_ i y k
        → AlikeNext (λ f g. f ≡ g) (λ f g. f ≡ g) x y × (j ≡ k)
    one_next i j k Nothing Nothing a b = (tt, a.2 ∙ sym b.2)
    one_next i j k Nothing (postfix_read q g) a b = absurd (a.0 (q, g) k b)
    one_next i j k Nothing (infix_read q) a b = absurd (a.1 q k b.1)
    one_next i j k (postfix_read p f) Nothing a b = absurd (b.0 (p, f) j a)
    one_next i j k (postfix_read p f) (postfix_read q g) a b =
        let (same, place) = postfixes.one i (p, f) (q, g) j k a b in
        ((ap (λ x. x.0) same, ap (λ x. x.1) same), place)
    one_next i j k (postfix_read p f) (infix_read q) a b = absurd (b.0 (p, f) j a)
    one_next i j k (infix_read o) Nothing a b = absurd (b.1 o j a.1)
    one_next i j k (infix_read o) (postfix_read q g) a b = absurd (a.0 (q, g) k b)
    one_next i j k (infix_read o) (infix_read q) a b =
        let (same, place) = infixes.one i o q j k a.1 b.1 in
        (same_infix o q same, place)

    decided : Decided (λ v w. v ≡ w) (λ f g. f ≡ g) (λ f g. f ≡ g) (λ f g. f ≡ g)
        (FirstItems operand prefix) (NextItems postfix infix_)
    decided = record { firsts = one_first; nexts = one_next }

    one_rest : (tokens : List T) (v w : V) (rest behind_ : List T)
        → ReadsTree operand prefix postfix infix_ one other two level tokens v rest
        → ReadsTree operand prefix postfix infix_ one other two level tokens w behind_
        → rest ≡ behind_
    unfolding ReadsTree
    one_rest tokens v w rest behind_ (t, b, (ot, kt), x) (u, c, (ou, ku), y) =
        (one_tree decided level tokens t u rest behind_ b c ot kt ou ku).1

    over_front : (r : Tree V F G H) (i j : List T)
        → IsTreeOver (FirstItems operand prefix) (NextItems postfix infix_) r i j
        → (front : List T) × (i ≡ front ++ j)
    over_front (leaf v) i j over = operands.front i v j over
    over_front (before p f r) i j (k, (none, read), over) =
        joined (prefixes.front i (p, f) k read) (over_front r k j over)
    over_front (behind p g l) i j (k, over, read) =
        joined (over_front l i k over) (postfixes.front k (p, g) j read)
    over_front (between o l r) i j (k, n, left, (none, read), right) =
        joined (over_front l i k left)
        (joined (infixes.front k o n read) (over_front r n j right))

    pub tree_unique : IsUnique (ReadsTree operand prefix postfix infix_ one other two level)
    unfolding ReadsTree
    tree_unique = record {
      ends = λ tokens v rest (tree, all, (over, keeps), value).
          over_front tree tokens rest over;
      one = one_rest;
    }

  module _ (operands : AreItems length operand) (prefixes : AreItems length prefix)
      (postfixes : AreItems length postfix) (infixes : AreItems length infix_) where
    over_fewer : (r : Tree V F G H) (i j : List T)
        → IsTreeOver (FirstItems operand prefix) (NextItems postfix infix_) r i j
        → length j < length i
    over_fewer (leaf v) i j over = operands.some i v j over
    over_fewer (before p f r) i j (k, (none, read), over) =
        omega (arith, prefixes.some i (p, f) k read, over_fewer r k j over)
    over_fewer (behind p g l) i j (k, over, read) =
        omega (arith, over_fewer l i k over, postfixes.some k (p, g) j read)
    over_fewer (between o l r) i j (k, n, left, (none, read), right) =
        omega (arith, over_fewer l i k left, infixes.some k o n read, over_fewer r n j right)

    pub tree_takes : TakesTokens (ReadsTree operand prefix postfix infix_ one other two level)
    unfolding ReadsTree
    tree_takes = record {
      fewer = λ tokens v rest (tree, all, (over, keeps), value).
          over_fewer tree tokens rest over;
    }
