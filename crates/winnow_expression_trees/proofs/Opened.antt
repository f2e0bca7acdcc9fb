-- Open operators: what a call reads after a right operand.
use Rattle.std.specs.Prelude.{◌≡◌, ◌⊎◌, ◌≤ℤ◌, ◌<ℤ◌, ℕ, ℤ, Bool, Some, None, Ok, Err}
use Rattle.std.proofs.Common.{refl, sym, ◌∙◌, ap, subst, inl, inr, arith}
use Rattle.std.specs.Int.Signed.{clash_ℤ}
use Rattle.stream_errors.specs.Form.Inversion.{ok_is_err, same_kind}
use Rattle.streams.specs.Input.{Input}
use Rattle.streams.specs.Kind.{Kind, memory}
use Rattle.winnow_expression.specs.Units.{units_left}
use Rattle.winnow_expression.specs.Calls.{Open}
use Rattle.parser_definitions.specs.Expression.{Call}
use Rattle.winnow_expression.specs.Operators.{fold_of, left_power, neither_power, right_power}
use Rattle.winnow_expression.specs.Grammar.{Grammar, Closes}
use Rattle.winnow_expression.specs.declared.combinator.operators.Infix.{Infix}
use Rattle.winnow_expression.specs.declared.combinator.calls.Operator.{Operator}
use Rattle.winnow_expression.specs.declared.combinator.calls.Operator.TheVariants.{
  Prefix as prefix_open,
}
use Rattle.winnow_expression.specs.declared.combinator.calls.Operator.TheVariants.{
  Infix as infix_open,
}
use Rattle.winnow_expression.specs.declared.combinator.places.First.{First}
use Rattle.winnow_expression.specs.declared.combinator.places.First.TheVariants.{
  Prefix as prefix_read,
}
use Rattle.winnow_expression.specs.declared.combinator.places.Next.{Next}
use Rattle.winnow_expression.specs.declared.combinator.places.Next.TheVariants.{Infix as infix_read}
use Rattle.winnow_expression_trees.specs.Alike.{AlikeTree}
use Rattle.winnow_expression_trees.specs.Failure.{HasEmptyOperator, RejectedByPrecedence}
use Rattle.winnow_expression_trees.specs.Failure.{StartsOperand}
use Rattle.winnow_expression_trees.specs.Keeps.{Binds, LeftEdgeReaches, Meets, MeetsHere}
use Rattle.winnow_expression_trees.specs.Keeps.{RespectsPrecedence, RightEdgeBelow}
use Rattle.winnow_expression_trees.specs.OneTree.Alike.{alike_top}
use Rattle.winnow_expression_trees.specs.OneTree.TreeCalls.{Reads}
use Rattle.winnow_expression_trees.specs.OneTree.Views.{Follows, infix_at, prefix_at}
use Rattle.winnow_expression_trees.specs.Reading.{IsTreeOver, OperandStep, OperatorStep}
use Rattle.winnow_expression_trees.specs.Tree.{Tree, before, between, top_neither}
use Rattle.winnow_expression_trees.specs.Value.{Value}
use Rattle.winnow_expression_trees.proofs.Left.{IsLeft, comes_left, left_takes, value_alike}
use Rattle.winnow_expression_trees.proofs.Over.{no_turn_still, tree_over_shortens}
use Rattle.winnow_expression_trees.proofs.Plain.{Plain, decided}

module _ {S W T V F G H : Type 0} {g : Grammar S W T V F G H} {alike : V → V → Type 0}
    {af : F → F → Type 0} {ag : G → G → Type 0} {ah : H → H → Type 0} {s0 : S × W}
    (pr : Plain g alike af ag ah s0) (level : ℤ) (start : Input T) where
  abbrev first : Input T → First V F → Input T → Type 0
  first = OperandStep g s0

  abbrev next : Input T → Next G H → Input T → Type 0
  next = OperatorStep g s0

  -- its fold fails, for the value of the right operand
  abbrev FoldFails : Operator V F H → V → Kind → Input T → Input T → Type 0
  FoldFails (prefix_open fold) right k n z = g.folding.before fold n right (Err k) z
  FoldFails (infix_open left fold) right k n z = g.folding.between fold n left right (Err k) z

  -- An operator is open: its right operand begins at `m`, with the least power `p`, and the call
  -- that
  -- it interrupts began at `at`. From the tree of the right operand it builds that of the call.
  pub record Opened (x : Open V F H) (p : ℤ) (m at : Input T) : Type 0 where
    pub build : Tree V F G H → Tree V F G H
    -- each tree that the call may read has one that the right operand may read
    pub sees : (r : Tree V F G H) (n : Input T) (b : Bool) → Reads first next x.call.least at r n b
        → (q t : Tree V F G H) × (z : Input T) × (c : Bool) × Reads first next p m q z c
        × ((u : Tree V F G H) → AlikeTree alike af ag ah u q → AlikeTree alike af ag ah (build u) t)
        × Follows first next x.call.least t z r n c b
        × ((y : V) → Value g t y → (w : V) × Value g q w
        × ((right : V) (k : Kind) (e j : Input T) → alike right w → FoldFails x.operator right k e j
        → (k ≡ memory → ⊥) → ⊥))
    pub begins : StartsOperand g s0 level start x.call.least at
    pub began : x.call.began ≡ units_left g.folding.units at
    pub over : (r : Tree V F G H) (n : Input T) → IsTreeOver first next r m n
        → IsTreeOver first next (build r) at n
    pub binds : (r : Tree V F G H) → Binds r → LeftEdgeReaches p r → Binds (build r)
    pub reaches : (r : Tree V F G H) → LeftEdgeReaches x.call.least (build r)
    pub top : (r : Tree V F G H) → x.call.neither ≡ top_neither (build r)
    pub above : (r : Tree V F G H) (q : ℤ) → q <ℤ p → RightEdgeBelow r q
        → RightEdgeBelow (build r) q
    pub meets : (r : Tree V F G H) (q : ℤ) → Meets r q ⊎ MeetsHere p r q → Meets (build r) q
    pub gives : (r : Tree V F G H) (right v : V) (n z : Input T) → Value g r right
        → Closes g.folding x.operator x.call.turn n right (Ok v) z
        → Value g (build r) v × (z ≡ n)
    pub refuses : (r : Tree V F G H) (right : V) (k : Kind) (n z : Input T) (all : Bool)
        → IsTreeOver first next r m n → RespectsPrecedence next p r n all → Value g r right
        → Closes g.folding x.operator x.call.turn n right (Err k) z → (k ≡ memory → ⊥)
        → (RejectedByPrecedence g s0 level start k z × FoldFails x.operator right k n z)
        ⊎ (HasEmptyOperator g s0 start × ((u : Tree V F G H) (e : Input T) (b : Bool)
        → Reads first next x.call.least at u e b → ⊥))

  pub opened_prefix : (call : Call) (fold : F) (p : ℤ) (i m : Input T)
      → first i (prefix_read p fold) m → StartsOperand g s0 level start call.least i
      → call.began ≡ units_left g.folding.units i → call.neither ≡ None
      → Opened (record { operator = prefix_open fold; call = call }) p m i
  opened_prefix call fold p i m read begins began none = record {
    build = λ r. before p fold r;
    sees = λ r n b reads.
        let (h, q, z, c, like, also, more, follows) =
        prefix_at (decided pr) call.least i r n b p fold m reads read in (
          q,
          before p h q,
          z,
          c,
          more,
          λ u same. (refl, like, same),
          follows,
          λ y (w, known, k, l, does). (
            w,
            known,
            λ right kind e j right_like folded other.
                (pr.befores fold h like).same right w e j k l (Err kind) (Ok y) right_like folded
                does other tt,
          ),
        );
    begins = begins;
    began = began;
    over = λ r n over. (m, read, over);
    binds = λ r b e. (b, e);
    reaches = λ r. tt;
    top = λ r. none;
    above = λ r q less up. (less, up);
    meets = λ r q met. met;
    gives = λ r right v n z known closes. (
      (right, known, n, z, closes),
      (pr.befores fold fold
          ((decided pr).firsts i m m (prefix_read p fold) (prefix_read p fold) read
          read).0.1).leaves
          right n z (Ok v) closes tt,
    );
    refuses = λ r right k n z all over keeps known closes other. inl (
      inl
          (call.least, i, m, n, p, fold, r, all, right, begins, read, over, keeps, known, closes),
      closes,
    );
  }

  infix_folds : (fold : H) (left right v : V) (turn : ℕ) (n z : Input T)
      → Closes g.folding (infix_open left fold) turn n right (Ok v) z
      → g.folding.between fold n left right (Ok v) z
  infix_folds fold left right v turn n z (inl (k, folded, e)) = ok_is_err refl e
  infix_folds fold left right v turn n z (inr (inl (w, folded, same, e))) = ok_is_err refl e
  infix_folds fold left right v turn n z (inr (inr (w, folded, moved, e))) =
      let is : w ≡ v = cc in subst (λ x. g.folding.between fold n left right (Ok x) z) is folded

  infix_fails : (fold : H) (left right : V) (turn : ℕ) (k : Kind) (n z : Input T)
      → Closes g.folding (infix_open left fold) turn n right (Err k) z
      → g.folding.between fold n left right (Err k) z
      ⊎ ((v : V) × g.folding.between fold n left right (Ok v) z
      × (units_left g.folding.units z ≡ turn))
  infix_fails fold left right turn k n z (inl (l, folded, e)) =
      inl (subst (λ x. g.folding.between fold n left right (Err x) z) (sym (same_kind e)) folded)
  infix_fails fold left right turn k n z (inr (inl (v, folded, same, e))) = inr (v, folded, same)
  infix_fails fold left right turn k n z (inr (inr (v, folded, moved, e))) =
      ok_is_err refl (sym e)

  pub opened_infix : (call : Call) (at : Input T) (left : V) (i : Input T) (o : Infix H)
      (m : Input T) (known : IsLeft pr level start call at left i) → next i (infix_read o) m
      → call.least ≤ℤ left_power o → (top_neither known.tree ≡ Some (left_power o) → ⊥)
      → Opened (record {
        operator = infix_open left (fold_of o);
        call = record call {
          turn = units_left g.folding.units i;
          neither = neither_power o;
        };
      }) (right_power o) m at
  opened_infix call at left i o m known read reach free =
      let stays = (pr.betweens (fold_of o) (fold_of o)
      ((decided pr).nexts i m m (infix_read o) (infix_read o) read read).0.3).leaves in
      record {
        build = λ r. between o known.tree r;
        sees = λ r n b reads.
            let (l, like, grows) = known.sees r n b reads in
            let (y, also, other, goes) =
            infix_at (decided pr) call.least l i r n b o m grows read in
            elim goes [
              | inl (less, stops) ↦ clash_ℤ less reach
              | inr (inl (reaches, tops, stops)) ↦
                  absurd (free (alike_top alike af ag ah known.tree l like ∙ tops))
              | inr (inr (reaches, free_, q, z, c, more, follows)) ↦ (
                q,
                between y l q,
                z,
                c,
                more,
                λ u same. (also, like, same),
                follows,
                λ v (x, w, one, two, k, j, does). (
                  w,
                  two,
                  λ right kind e f right_like folded other_.
                      (pr.betweens (fold_of o) (fold_of y) also.3).same left right x w e f k j
                      (Err kind) (Ok v) (value_alike pr known.tree l like left x known.value one)
                      right_like folded does other_ tt,
                ),
              )
            ];
        begins = known.begins;
        began = known.began;
        over = λ r n over. (i, m, known.over, read, over);
        binds = λ r b e.
            (known.binds, b, known.above (infix_read o) m read (left_power o) refl, free, e);
        reaches = λ r. (reach, known.reaches);
        top = λ r. refl;
        above = λ r q less up. (less, up);
        meets = λ r q met. met;
        gives = λ r right v n z value closes.
            let folded = infix_folds (fold_of o) left right v (units_left g.folding.units i) n z
            closes in (
              (left, right, known.value, value, n, z, folded),
              stays left right n z (Ok v) folded tt,
            );
        refuses = λ r right k n z all over keeps value closes other.
            elim (infix_fails (fold_of o) left right (units_left g.folding.units i) k n z closes) [
              | inl folded ↦ inl (
                inr (inr (
                  call.least,
                  at,
                  i,
                  m,
                  n,
                  o,
                  known.tree,
                  r,
                  all,
                  left,
                  right,
                  known.begins,
                  known.over,
                  (
                    left_takes pr level start call at left i m (infix_read o) (left_power o)
                        known read refl reach,
                    free,
                  ),
                  read,
                  over,
                  keeps,
                  known.value,
                  value,
                  folded,
                )),
                folded,
              )
              | inr (v, folded, same) ↦
                  let still : units_left g.folding.units n ≡ units_left g.folding.units i =
                  ap (units_left g.folding.units) (sym (stays left right n z (Ok v) folded tt))
                  ∙ same in
                  let falls = pr.moves.nexts_fall i m (infix_read o) read in
                  let more = tree_over_shortens (decided pr) pr.moves r m n over in
                  inr (
                    inr (
                      i,
                      m,
                      infix_read o,
                      left_power o,
                      comes_left pr level start call at left i known,
                      read,
                      refl,
                      omega (arith, falls, more, still),
                    ),
                    λ u e b reads.
                        let (l, like, grows) = known.sees u e b reads in
                        no_turn_still (decided pr) pr.moves i m n o call.least l r u e b read over
                        still grows
                        (λ met. free (alike_top alike af ag ah known.tree l like ∙ met)) reach,
                  )
            ];
      }
