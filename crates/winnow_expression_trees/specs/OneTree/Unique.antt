-- A call has one result, and at most one tree respects precedence.
use Rattle.std.specs.Prelude.{◌≡◌, ℤ, Bool, true, false}
use Rattle.std.proofs.Common.{refl, sym, ◌∙◌, subst, inl, inr}
use Rattle.std.specs.Int.Signed.{clash_ℤ}
use Rattle.winnow_expression.specs.Operators.{right_power}
use Rattle.winnow_expression_trees.specs.Tree.{Tree, leaf, before, behind, between}
use Rattle.winnow_expression.specs.declared.combinator.places.First.{First}
use Rattle.winnow_expression.specs.declared.combinator.places.Next.{Next}
use Rattle.winnow_expression_trees.specs.Reading.{IsTreeOver}
use Rattle.winnow_expression_trees.specs.Keeps.{RespectsPrecedence}
use Rattle.winnow_expression_trees.specs.OneTree.TreeCalls.{Reads, Grows, reads_operand}
use Rattle.winnow_expression_trees.specs.OneTree.TreeCalls.{reads_prefix}
use Rattle.winnow_expression_trees.specs.OneTree.TreeCalls.{reads_ended, grows_stop, grows_block}
use Rattle.winnow_expression_trees.specs.OneTree.TreeCalls.{grows_postfix, grows_infix, grows_ended}
use Rattle.winnow_expression_trees.specs.OneTree.Alike.{Decided, alike_top}
use Rattle.winnow_expression_trees.specs.Alike.{AlikeTree}
use Rattle.winnow_expression_trees.specs.OneTree.Views.{operand_at, prefix_at, stop_at, postfix_at}
use Rattle.winnow_expression_trees.specs.OneTree.Views.{infix_at}
use Rattle.winnow_expression_trees.specs.OneTree.Exact.{reads_tree_over}

pub false_is_not_true : {X : Type 0} → false ≡ true → X
false_is_not_true e = absurd (cc)

module _ {V F G H P : Type 0} {av : V → V → Type 0} {af : F → F → Type 0} {ag : G → G → Type 0}
    {ah : H → H → Type 0} {first : P → First V F → P → Type 0} {next : P → Next G H → P → Type 0}
    (d : Decided av af ag ah first next) where
  mutual
    pub reads_unique : (m : ℤ) (i : P) (t : Tree V F G H) (j : P) (b : Bool)
        → Reads first next m i t j b → (u : Tree V F G H) (q : P) (c : Bool)
        → Reads first next m i u q c → AlikeTree av af ag ah t u × (j ≡ q) × (b ≡ c)
    reads_unique _ _ _ _ _ (reads_operand m v i j k t b read grows) u q c other =
        let (w, alike, also, more) = operand_at d m i u q c v j other read in
        grows_unique m (leaf v) j t k b grows (leaf w) alike u q c more
    reads_unique _ _ _ _ _ (reads_prefix m p f i j k n r t b read inner grows) u q c other =
        let (g, s, z, e, alike, also, more, follows) =
        prefix_at d m i u q c p f j other read in
        let (same, place, flag) = reads_unique p j r k false inner s z e more in
        elim follows [
          | inl (is, goes)
              ↦ grows_unique m (before p f r) k t n b grows (before p g s) (refl, alike, same) u
              q c
              (subst (λ y. Grows first next m (before p g s) y u q c) (sym place) goes)
          | inr ends ↦ false_is_not_true (flag ∙ ends.0)
        ]
    reads_unique _ _ _ _ _ (reads_ended m p f i j k r read inner) u q c other =
        let (g, s, z, e, alike, also, more, follows) =
        prefix_at d m i u q c p f j other read in
        let (same, place, flag) = reads_unique p j r k true inner s z e more in
        elim follows [
          | inl (is, goes) ↦ false_is_not_true (sym is ∙ sym flag)
          | inr (is, all, tree, stays) ↦ (
            subst (λ y. AlikeTree av af ag ah (before p f r) y) (sym tree) (refl, alike, same),
            place ∙ sym stays,
            sym all,
          )
        ]

    pub grows_unique : (m : ℤ) (l : Tree V F G H) (i : P) (t : Tree V F G H) (j : P) (b : Bool)
        → Grows first next m l i t j b → (o : Tree V F G H) → AlikeTree av af ag ah l o
        → (u : Tree V F G H) (q : P) (c : Bool) → Grows first next m o i u q c
        → AlikeTree av af ag ah t u × (j ≡ q) × (b ≡ c)
    grows_unique _ _ _ _ _ _ (grows_stop m l i j x read below) o like u q c other =
        let (all, tree, stays) =
        stop_at d m o i u q c x j other read below in
        (subst (λ y. AlikeTree av af ag ah l y) (sym tree) like, sym stays, sym all)
    grows_unique _ _ _ _ _ _ (grows_block m x l i j read reach top) o like u q c other =
        let (y, alike, also, goes) = infix_at d m o i u q c x j other read in
        elim goes [
          | inl (less, stops) ↦ clash_ℤ less reach
          | inr (inl (reaches, tops, (all, tree, stays))) ↦
              (subst (λ z. AlikeTree av af ag ah l z) (sym tree) like, sym stays, sym all)
          | inr (inr more) ↦ absurd (more.1 (sym (alike_top av af ag ah l o like) ∙ top))
        ]
    grows_unique _ _ _ _ _ _ (grows_postfix m p f l t i j k b read reach grows) o like u q c other =
        let (g, alike, also, goes) =
        postfix_at d m o i u q c p f j other read in
        elim goes [
          | inl (less, stops) ↦ clash_ℤ less reach
          | inr (reaches, more) ↦
              grows_unique m (behind p f l) j t k b grows (behind p g o) (refl, alike, like) u q
              c more
        ]
    grows_unique _ _ _ _ _ _ (grows_infix m x l r t i j k n b read reach free inner grows) o
        like u q c other =
        let (y, alike, also, goes) = infix_at d m o i u q c x j other read in
        elim goes [
          | inl (less, stops) ↦ clash_ℤ less reach
          | inr (inl (reaches, tops, stops)) ↦ absurd (free (alike_top av af ag ah l o like ∙ tops))
          | inr (inr (reaches, free_, s, z, e, more, follows)) ↦
              let (same, place, flag) = reads_unique (right_power x) j r k false inner s z e more in
              elim follows [
                | inl (is, later)
                    ↦ grows_unique m (between x l r) k t n b grows (between y o s)
                    (alike, like, same) u q c
                    (subst (λ w. Grows first next m (between y o s) w u q c) (sym place) later)
                | inr ends ↦ false_is_not_true (flag ∙ ends.0)
              ]
        ]
    grows_unique _ _ _ _ _ _ (grows_ended m x l r i j k read reach free inner) o like u q c other =
        let (y, alike, also, goes) = infix_at d m o i u q c x j other read in
        elim goes [
          | inl (less, stops) ↦ clash_ℤ less reach
          | inr (inl (reaches, tops, stops)) ↦ absurd (free (alike_top av af ag ah l o like ∙ tops))
          | inr (inr (reaches, free_, s, z, e, more, follows)) ↦
              let (same, place, flag) = reads_unique (right_power x) j r k true inner s z e more in
              elim follows [
                | inl (is, later) ↦ false_is_not_true (sym is ∙ sym flag)
                | inr (is, all, tree, stays) ↦ (
                  subst (λ w. AlikeTree av af ag ah (between x l r) w) (sym tree)
                      (alike, like, same),
                  place ∙ sym stays,
                  sym all,
                )
              ]
        ]

  -- At most one tree over the reading from an offset respects precedence.
  pub one_tree : (m : ℤ) (i : P) (t u : Tree V F G H) (j k : P) (b c : Bool)
      → IsTreeOver first next t i j → RespectsPrecedence next m t j b
      → IsTreeOver first next u i k → RespectsPrecedence next m u k c
      → AlikeTree av af ag ah t u × (j ≡ k) × (b ≡ c)
  one_tree m i t u j k b c ot kt ou ku =
      reads_unique m i t j b (reads_tree_over first next m t i j b ot kt) u k c
      (reads_tree_over first next m u i k c ou ku)
