-- A call gives the value of the tree that it reads, or fails as its parts or a fold do.
use Rattle.std.specs.Prelude.{◌≡◌, ◌⊎◌, ℕ, ℤ, Bool, false, List, Option, Some, None}
use Rattle.std.specs.Prelude.{Ok}
use Rattle.std.proofs.Common.{refl, sym, ◌∙◌, subst, inl, inr}
use Rattle.std.specs.Int.Signed.{clash_ℤ}
use Rattle.streams.specs.Input.{Input}
use Rattle.streams.specs.Reading.{Reading}
use Rattle.stream_errors.specs.Form.{assert_kind}
use Rattle.parser_definitions.specs.Expression.{Call, JoinDoes, Open, TailDoes}
use Rattle.parser_definitions.specs.Expression.{TreeDoes, call_at}
use Rattle.parser_definitions.specs.Expression.{join_ends, join_goes, opened, tail_ends}
use Rattle.parser_definitions.specs.Expression.{tail_infix, tail_postfix, tree_ends, tree_operand}
use Rattle.parser_definitions.specs.Expression.{tree_prefix}
use Rattle.parser_definitions.specs.Left.{End, Left}
use Rattle.parser_definitions.specs.Outcome.{Does, Outcome, Setting}
use Rattle.parser_definitions.specs.Outcome.{took}
use Rattle.winnow_core.specs.Runs.{Runs}
use Rattle.winnow_expression.specs.Covers.Opens.{kept, operator_kept}
use Rattle.winnow_expression.specs.Did.{here}
use Rattle.winnow_expression.specs.Did.Steps as step
use Rattle.winnow_expression.specs.Did.Steps.{Checks, PartsCame, checks, closed}
use Rattle.winnow_expression.specs.Did.Steps.{first_at, folded, next_at, took_came}
use Rattle.winnow_expression.specs.Folds.{DoesBinary, DoesUnary}
use Rattle.winnow_expression.specs.Grammar.{Closes, Grammar}
use Rattle.winnow_expression.specs.Operators.{left_power, right_power}
use Rattle.winnow_expression.specs.declared.combinator.operators.Infix.{Infix}
use Rattle.winnow_expression.specs.declared.combinator.operators.Postfix.{Postfix as PostfixRead}
use Rattle.winnow_expression.specs.declared.combinator.operators.Prefix.{Prefix as PrefixRead}
use Rattle.winnow_expression.specs.declared.combinator.places.First.{First}
use Rattle.winnow_expression.specs.declared.combinator.places.First.TheVariants.{Operand}
use Rattle.winnow_expression.specs.declared.combinator.places.First.TheVariants.{
  Prefix as prefix_read,
}
use Rattle.winnow_expression.specs.declared.combinator.places.Next.{Next}
use Rattle.winnow_expression.specs.declared.combinator.places.Next.TheVariants.{Postfix}
use Rattle.winnow_expression.specs.declared.combinator.places.Next.TheVariants.{Infix as infix_read}
use Rattle.winnow_expression_trees.specs.Failure.{StartsOperand, begins_infix, begins_prefix}
use Rattle.winnow_expression_trees.specs.OneTree.Exact.{above_later, reads_tree_over}
use Rattle.winnow_expression_trees.specs.OneTree.TreeCalls.{Grows}
use Rattle.winnow_expression_trees.specs.OneTree.Unique.{false_is_not_true, reads_unique}
use Rattle.winnow_expression_trees.specs.OneTree.Views.{operand_at, postfix_at}
use Rattle.winnow_expression_trees.specs.Reading.{OperandStep, OperatorStep}
use Rattle.winnow_expression_trees.specs.Tree.{leaf, behind, top_neither}
use Rattle.winnow_expression_trees.proofs.Left.{IsLeft, Kept, Told}
use Rattle.winnow_expression_trees.proofs.Left.{left_takes}
use Rattle.winnow_expression_trees.proofs.Opened.{Opened, opened_infix, opened_prefix}
use Rattle.winnow_expression_trees.proofs.Plain.{Plain, decided, operand_step_of_run}
use Rattle.winnow_expression_trees.proofs.Plain.{operator_step_of_run}
use Rattle.winnow_expression_trees.proofs.TellsEnds.{join_ended, tail_ended, tree_ended}

module _ {S W T L V F G H : Type 0} {reading : Reading T L} {at : Setting}
    {before : DoesUnary F T V} {behind_ : DoesUnary G T V} {between : DoesBinary H T V}
    {run : Runs S T (First V F)} {run_next : Runs W T (Next G H)}
    {one : Does S T (V ⊎ PrefixRead F)} {two : Does W T (Option (PostfixRead G ⊎ Infix H))}
    (p : PartsCame reading at before behind_ between run run_next one two)
    {alike : V → V → Type 0} {af : F → F → Type 0} {ag : G → G → Type 0} {ah : H → H → Type 0}
    {s0 : S × W} (pr : Plain (step.Parts p) alike af ag ah s0) (level : ℤ) (start : Input T) where
  abbrev units : List T → ℕ
  units = reading.units

  abbrev Q : Type 0
  Q = S × W × ℤ

  abbrev g : Grammar S W T V F G H
  g = step.Parts p

  abbrev first : Input T → First V F → Input T → Type 0
  first = OperandStep g s0

  abbrev next : Input T → Next G H → Input T → Type 0
  next = OperatorStep g s0

  abbrev Known : Call → Input T → V → Left T → Type 0
  Known call begin left w = IsLeft pr level start call begin left (here at w)

  -- the fold of a postfix that gives a value
  passed : (fold : G) (left v : V) (m k : Left T) (turn : ℕ)
      → Checks units (assert_kind at.form) turn (λ b j. behind_ at.form fold (here at m) left b j)
      (Ok v) (here at k) → behind_ at.form fold (here at m) left (Ok v) (here at k)
  passed fold left v m k turn (inl (kind, folds, is)) = absurd (cc)
  passed fold left v m k turn (inr (inl (w, folds, still, is))) = absurd (cc)
  passed fold left v m k turn (inr (inr (w, folds, moved, is))) =
      let same_ : w ≡ v = cc in
      subst (λ z. behind_ at.form fold (here at m) left (Ok z) (here at k)) same_ folds

  mutual
    pub tree_told : (call : Call) (q : Q) (w : Left T) (y : Outcome (End Q T) (V × Bool))
        → TreeDoes (step.O p) (step.One p) (step.Two p) at call q w y → Kept pr (q.0, q.1)
        → call.neither ≡ None → call.began ≡ units w.tokens
        → StartsOperand g s0 level start call.least (here at w)
        → Told pr level start at call.least (here at w) y
    tree_told call q w y (tree_ends d) es none began begins =
        tree_ended p pr level start call q w y d es begins
    tree_told call q w y (tree_operand {u = u} {m = m} v read tail) es none began begins =
        let (r, stays, same_) = first_at p q w (took (inl v) (u, m)) read in
        let own = operand_step_of_run pr q.0 u.0 (here at w) (here at m) (Operand v) es.0 r in
        tail_told call v u m y tail (own.0, stays ∙ es.1) (here at w) (record {
          tree = leaf v;
          begins = begins;
          began = began;
          over = own.1;
          binds = tt;
          reaches = tt;
          above = λ x n r q is. tt;
          top = none;
          value = refl;
          sees = λ r n b reads.
              let (x, like, read, grows) = operand_at (decided pr) call.least (here at w) r n b v
              (here at m) reads own.1 in
              (leaf x, like, grows);
        })
    tree_told call q w y (tree_prefix {u = u} {m = m} {z =
        z} x read less inner joined) es none began
        begins =
        let (r, stays, same_) = first_at p q w (took (inr x) (u, m)) read in
        let own = operand_step_of_run pr q.0 u.0 (here at w) (here at m) (prefix_read x.0 x.1)
        es.0 r in
        let step_ : first (here at w) (prefix_read x.0 x.1) (here at m) = (own.1, less) in
        join_told (record { operator = inl x; call = call }) z y joined x.0 (here at m) (here at w)
        (tree_told (call_at x.0 (units m.tokens)) u m z inner (own.0, stays ∙ es.1) refl refl
        (begins_prefix call.least x.0 (here at w) (here at m) x.1 begins step_))
        (opened_prefix pr level start call x.1 x.0 (here at w) (here at m) step_ begins began none)

    tail_told : (call : Call) (left : V) (q : Q) (w : Left T) (y : Outcome (End Q T) (V × Bool))
        → TailDoes (step.O p) (step.One p) (step.Two p) at call left q w y → Kept pr (q.0, q.1)
        → (begin : Input T) → Known call begin left w → Told pr level start at call.least begin y
    tail_told call left q w y (tail_ends d) es begin known =
        tail_ended p pr level start call begin left q w y d es known
    tail_told call left q w y (tail_postfix {u = u} {m = m} {k = k} x v read reaches (z, f, c) tail)
        es begin known =
        let (r, stays, same_) = next_at p q w (took (Some (inl x)) (u, m)) read in
        let own = operator_step_of_run pr q.1 u.1 (here at w) (here at m) (Postfix x.0 x.1) es.1
        r in
        let folds = passed x.1 left v m k (units w.tokens) (took_came at
        (Checks units (assert_kind at.form) (units w.tokens)
        (λ b j. behind_ at.form x.1 (here at m) left b j))
        (checks at units (units w.tokens) (λ b j. behind_ at.form x.1 (here at m) left b j)
        (folded (λ i a j. p.folds.behind at.form x.1 i left a j) f) c)) in
        let alone = pr.behinds x.1 x.1 ((decided pr).nexts (here at w) (here at m) (here at m)
        (Postfix x.0 x.1) (Postfix x.0 x.1) own.1 own.1).0.1 in
        let place = alone.leaves left (here at m) (here at k) (Ok v) folds tt in
        tail_told call v u k y tail (stays ∙ es.0, own.0) begin (record {
          tree = behind x.0 x.1 known.tree;
          begins = known.begins;
          began = known.began;
          over = (
            here at w,
            known.over,
            subst (λ z. next (here at w) (Postfix x.0 x.1) z) (sym place) own.1,
          );
          binds = (known.binds, known.above (Postfix x.0 x.1) (here at m) own.1 x.0 refl);
          reaches = (reaches, known.reaches);
          above = λ x k r q is. tt;
          top = known.top;
          value = (left, known.value, here at m, here at k, folds);
          sees = λ r n b reads.
              let (l, like, grows) = known.sees r n b reads in
              let (q, also, read, goes) = postfix_at (decided pr) call.least l (here at w) r n b x.0
              x.1 (here at m) grows own.1 in
              elim goes [
                | inl (less, ends) ↦ clash_ℤ less reaches
                | inr (reach, more) ↦ (
                  behind x.0 q l,
                  (refl, also, like),
                  subst (λ z. Grows first next call.least (behind x.0 q l) z r n b) (sym place)
                      more,
                )
              ];
        })
    tail_told call left q w y (tail_infix {u = u} {m = m} {z = z} o read (reaches, apart, moved)
        inner joined) es begin known =
        let (r, stays, same_) = next_at p q w (took (Some (inr o)) (u, m)) read in
        let own = operator_step_of_run pr q.1 u.1 (here at w) (here at m) (infix_read o) es.1 r in
        let free : top_neither known.tree ≡ Some (left_power o) → ⊥ =
        λ met. apart (known.top ∙ met) in
        join_told (opened (step.O p) call left o w) z y joined (right_power o) (here at m) begin
        (tree_told (call_at (right_power o) (units m.tokens)) u m z inner (stays ∙ es.0, own.0) refl
        refl (begins_infix call.least (right_power o) begin (here at w) (here at m) o known.tree
        left
        known.begins known.over known.value (
          left_takes pr level start call begin left (here at w) (here at m) (infix_read o)
              (left_power o) known own.1 refl reaches,
          free,
        ) own.1 refl))
        (opened_infix pr level start call begin left (here at w) o (here at m) known own.1 reaches
        free)

    join_told : (x : Open V (PrefixRead F) (Infix H)) (z y : Outcome (End Q T) (V × Bool))
        → JoinDoes (step.O p) (step.One p) (step.Two p) at x z y → (power : ℤ) (m begin : Input T)
        → Told pr level start at power m z → Opened pr level start (kept x) power m begin
        → Told pr level start at x.call.least begin y
    join_told x z y (join_ends e) power m begin told o =
        join_ended p pr level start x z y e power m begin told o
    join_told x _ y (join_goes {q = q} {m = n} {k = k} right v f tail) power m begin
        (es, r0, over, keeps, known) o =
        let closes = took_came at (λ a j. Closes g.folding (operator_kept x.operator) x.call.turn
        (here at n) right a j) (closed p x.operator x.call.turn n right (took v k) f) in
        let (value, place) = o.gives r0 right v (here at n) (here at k) known closes in
        tail_told x.call v q k y tail es begin
        (subst (λ n. IsLeft pr level start x.call begin v n) (sym place) (record {
          tree = o.build r0;
          begins = o.begins;
          began = o.began;
          over = o.over r0 (here at n) over;
          binds = o.binds r0 keeps.binds keeps.reaches;
          reaches = o.reaches r0;
          above = λ y k read q is.
              let (less, up) = above_later (decided pr) power r0 (here at n) keeps.then_at k
              keeps.then_read y keeps.reads keeps.ends read q is in
              o.above r0 q less up;
          top = o.top r0;
          value = value;
          sees = λ r k c reads.
              let (q, u, z, d, more, like, follows, values) = o.sees r k c reads in
              let (same_, place_, flag) = reads_unique (decided pr) power m r0 (here at n) false
              (reads_tree_over first next power r0 m (here at n) false over keeps) q z d more in
              elim follows [
                | inl (is, grows) ↦ (
                  u,
                  like r0 same_,
                  subst (λ y. Grows first next x.call.least u y r k c) (sym place_) grows,
                )
                | inr ends ↦ false_is_not_true (flag ∙ ends.0)
              ];
        }))
