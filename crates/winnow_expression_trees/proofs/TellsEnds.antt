-- What the ends of calls tell: the value of the tree that was read, or why the call fails.
use Rattle.std.specs.Prelude.{◌≡◌, ◌⊎◌, ◌<ℤ◌, ◌≤ℤ◌, ℕ, ℤ, Bool, true, false, List, Option}
use Rattle.std.specs.Prelude.{Some, None, Ok, Err}
use Rattle.std.proofs.Common.{refl, sym, ◌∙◌, ap, subst, inl, inr, arith}
use Rattle.std.specs.Int.Signed.{clash_ℤ}
use Rattle.streams.specs.Input.{Input}
use Rattle.streams.specs.Kind.{Kind, backtrack, cut, incomplete, memory}
use Rattle.streams.specs.Reading.{Reading}
use Rattle.stream_errors.specs.Form.{Answer, assert_kind}
use Rattle.stream_errors.specs.Form.Inversion.{same_err}
use Rattle.parser_definitions.specs.Expression.{Call, JoinEnds, Open, all_end, fails_as}
use Rattle.parser_definitions.specs.Expression.{first_last, next_last}
use Rattle.parser_definitions.specs.Left.{End, Left, back}
use Rattle.parser_definitions.specs.Outcome.{Does, Outcome, Setting, asks, backs, cuts, outcome_of}
use Rattle.parser_definitions.specs.Outcome.{took, wants}
use Rattle.parser_definitions.specs.Then.{ComesOf, Then}
use Rattle.parser_definitions.specs.Then.Steps.{instead, same, where_took}
use Rattle.winnow_core.specs.Runs.{Runs}
use Rattle.winnow_expression.specs.Covers.Steps.{misuse}
use Rattle.winnow_expression.specs.Covers.Opens.{kept, operator_kept}
use Rattle.winnow_expression.specs.Did.{Came, here}
use Rattle.winnow_expression.specs.Did.Steps as step
use Rattle.winnow_expression.specs.Did.Steps.{Checks, PartsCame, all_is, checks, closed}
use Rattle.winnow_expression.specs.Did.Steps.{fails_is, first_at, folded, next_at}
use Rattle.winnow_expression.specs.Folds.{DoesBinary, DoesUnary}
use Rattle.winnow_expression.specs.Grammar.{Closes, Grammar}
use Rattle.winnow_expression.specs.Operators.{left_power}
use Rattle.winnow_expression.specs.Units.{units_left}
use Rattle.winnow_expression.specs.declared.combinator.operators.Infix.{Infix}
use Rattle.winnow_expression.specs.declared.combinator.operators.Postfix.{Postfix as PostfixRead}
use Rattle.winnow_expression.specs.declared.combinator.operators.Prefix.{Prefix as PrefixRead}
use Rattle.winnow_expression.specs.declared.combinator.places.First.{First}
use Rattle.winnow_expression.specs.declared.combinator.places.First.TheVariants.{
  Prefix as prefix_read,
}
use Rattle.winnow_expression.specs.declared.combinator.places.Next.{Next}
use Rattle.winnow_expression.specs.declared.combinator.places.Next.TheVariants.{Nothing, Postfix}
use Rattle.winnow_expression.specs.declared.combinator.places.Next.TheVariants.{Infix as infix_read}
use Rattle.winnow_expression_trees.specs.Failure.{StartsOperand}
use Rattle.winnow_expression_trees.specs.OneTree.Alike.{alike_top}
use Rattle.winnow_expression_trees.specs.OneTree.Exact.{reads_tree_over}
use Rattle.winnow_expression_trees.specs.OneTree.Unique.{reads_unique}
use Rattle.winnow_expression_trees.specs.OneTree.Views.{grows_as, postfix_at, reads_as}
use Rattle.winnow_expression_trees.specs.Reading.{IsTreeOver, OperandStep, OperatorStep}
use Rattle.winnow_expression_trees.specs.Tree.{behind}
use Rattle.winnow_expression_trees.proofs.Left.{Fails, IsLeft, Kept, Told, comes_begins, comes_left}
use Rattle.winnow_expression_trees.proofs.Left.{failed, follows_value, grows_value, left_takes}
use Rattle.winnow_expression_trees.proofs.Left.{stops, value_alike}
use Rattle.winnow_expression_trees.proofs.Opened.{Opened}
use Rattle.winnow_expression_trees.proofs.Over.{no_postfix_still, no_turn_begun, tree_over_shortens}
use Rattle.winnow_expression_trees.proofs.Plain.{Plain, decided, no_prefix, still_prefix}
use Rattle.winnow_expression_trees.proofs.Plain.{failed_has_no_operand_step, operator_step_of_run}
use Rattle.winnow_expression_trees.proofs.Plain.{failed_has_no_operator_step, operand_step_of_run}

some_is : {p q : ℤ} → ◌≡◌ {A = Option ℤ} (Some p) (Some q) → p ≡ q
some_is e = cc

module _ {S W T L V F G H : Type 0} {reading : Reading T L} {at : Setting}
    {before : DoesUnary F T V} {behind_ : DoesUnary G T V} {between : DoesBinary H T V}
    {run : Runs S T (First V F)} {run_next : Runs W T (Next G H)}
    {one : Does S T (V ⊎ PrefixRead F)} {two : Does W T (Option (PostfixRead G ⊎ Infix H))}
    (p : PartsCame reading at before behind_ between run run_next one two)
    {alike : V → V → Type 0} {af : F → F → Type 0} {ag : G → G → Type 0} {ah : H → H → Type 0}
    {s0 : S × W} (pr : Plain (step.Parts p) alike af ag ah s0) (level : ℤ) (start : Input T) where
  abbrev units : List T → ℕ
  units = reading.units

  abbrev Q : Type 0
  Q = S × W × ℤ

  abbrev g : Grammar S W T V F G H
  g = step.Parts p

  abbrev first : Input T → First V F → Input T → Type 0
  first = OperandStep g s0

  abbrev next : Input T → Next G H → Input T → Type 0
  next = OperatorStep g s0

  abbrev Known : Call → Input T → V → Left T → Type 0
  Known call begin left w = IsLeft pr level start call begin left (here at w)

  -- the part for operators fails
  next_fails : (call : Call) (begin : Input T) (left : V) (q : Q) (w : Left T) (k : Kind)
      (e : End Q T) (y : Outcome (End Q T) (V × Bool)) → Kept pr (q.0, q.1)
      → Known call begin left w → step.NextAt p q w (Err k) e.0 (here at e.1)
      → y ≡ outcome_of (Err k) e → Told pr level start at call.least begin y
  next_fails call begin left q w k e y es known (r, stays, same_) is =
      let ran = subst (λ z. run_next z (here at w) (Err k) e.0.1 (here at e.1)) es.1 r in
      failed pr level start at call.least begin k e is
      (λ other. inl (
        inl (inr (
          here at w,
          e.0.1,
          comes_left pr level start call begin left (here at w) known,
          ran,
        )),
        λ u n b reads.
            let (l, like, grows) = known.sees u n b reads in
            let (x, m, step_, more) = grows_as first next call.least l (here at w) u n b grows in
            failed_has_no_operator_step pr e.0.1 (here at w) (here at e.1) m k x ran other step_,
      ))

  -- the fold of a postfix fails, or the turn has consumed nothing
  postfix_fails : (call : Call) (begin : Input T) (left : V) (w : Left T) (power : ℤ) (fold : G)
      (e : End Q T) (y : Outcome (End Q T) (V × Bool)) → Known call begin left w
      → next (here at w) (Postfix power fold) (here at e.1) → call.least ≤ℤ power → (b : Answer V)
      (k : Left T) → Checks units (assert_kind at.form) (units w.tokens)
      (λ b j. behind_ at.form fold (here at e.1) left b j) b (here at k)
      → fails_as e.0 (outcome_of b k) y → Told pr level start at call.least begin y
  postfix_fails call begin left w power fold e y known own reaches (Ok o) k c f = absurd f
  postfix_fails call begin left w power fold e y known own reaches (Err kind) k
      (inl (other, bad, is)) f =
      let same_ = same_err refl is in
      let folds = subst (λ z. behind_ at.form fold (here at e.1) left (Err z) (here at k)) (sym
      same_)
      bad in
      failed pr level start at call.least begin kind (e.0, k) (fails_is V e.0 kind k y f)
      (λ other. inr (
        inr (inl (
          call.least,
          begin,
          here at w,
          here at e.1,
          power,
          fold,
          known.tree,
          left,
          known.begins,
          known.over,
          left_takes pr level start call begin left (here at w) (here at e.1) (Postfix power fold)
              power known own refl reaches,
          own,
          known.value,
          folds,
        )),
        λ u n b x reads val.
            let (l, like, grows) = known.sees u n b reads in
            let (q, also, read, goes) = postfix_at (decided pr) call.least l (here at w) u n b power
            fold (here at e.1) grows own in
            elim goes [
              | inl (less, ends) ↦ clash_ℤ less reaches
              | inr (reach, more) ↦
                  let (v, (x, vx, m, z, does)) = grows_value pr call.least (behind power q l)
                  (here at e.1) u n b more x val in
                  (pr.behinds fold q also).same left x (here at e.1) (here at k) m z (Err kind)
                  (Ok v) (value_alike pr known.tree l like left x known.value vx) folds does
                  other tt
            ],
      ))
  postfix_fails call begin left w power fold e y known own reaches (Err kind) k
      (inr (inl (v, folds, unmoved, is))) f =
      let stays = (pr.behinds fold fold ((decided pr).nexts (here at w) (here at e.1) (here at e.1)
      (Postfix power fold) (Postfix power fold) own own).0.1).leaves left (here at e.1) (here at k)
      (Ok v) folds tt in
      let still : units e.1.tokens ≡ units w.tokens = ap (units_left units) (sym stays) ∙ unmoved in
      failed pr level start at call.least begin kind (e.0, k) (fails_is V e.0 kind k y f)
      (λ other. inl (
        inr (inr (
          here at w,
          here at e.1,
          Postfix power fold,
          power,
          comes_left pr level start call begin left (here at w) known,
          own,
          refl,
          still,
        )),
        λ u n b reads.
            let (l, like, grows) = known.sees u n b reads in
            no_postfix_still (decided pr) pr.moves (here at w) (here at e.1) power fold call.least l
            u n b own still grows reaches,
      ))
  postfix_fails call begin left w power fold e y known own reaches (Err kind) k
      (inr (inr (v, folds, moved, is))) f = absurd (cc)

  pub tail_ended : (call : Call) (begin : Input T) (left : V) (q : Q) (w : Left T)
      (y : Outcome (End Q T) (V × Bool))
      → Then same (step.Two p) (where_took instead (next_last (step.O p) call left)) at q w y
      → Kept pr (q.0, q.1) → Known call begin left w → Told pr level start at call.least begin y
  tail_ended call begin left q w y (x, d, c) es known = by x (next_at p q w x d) c
    where
      own : (x : Next G H) (e : End Q T) → run_next q.1 (here at w) (Ok x) e.0.1 (here at e.1)
          → (e.0.1 ≡ s0.1) × next (here at w) x (here at e.1)
      own x e r = operator_step_of_run pr q.1 e.0.1 (here at w) (here at e.1) x es.1 r

      by : (x : Outcome (End Q T) (Option (PostfixRead G ⊎ Infix H)))
          → Came at (step.NextAt p q w) x
          → ComesOf {Q = Q} (where_took instead (next_last (step.O p) call left)) at q w x y
          → Told pr level start at call.least begin y
      by (took None e) (r, stays, same_) is =
          let (later, read) = own Nothing e r in
          stops pr level start at call begin left (here at w) known Nothing (here at e.1) false e is
          read (λ p is. absurd (cc), known.above Nothing (here at e.1) read)
          (pr.nothing (here at w) (here at e.1) read) (stays ∙ es.0, later)
      by (took (Some (inl x)) e) (r, stays, same_) (inl (less, is)) =
          let (later, read) = own (Postfix x.0 x.1) e r in
          stops pr level start at call begin left (here at w) known (Postfix x.0 x.1) (here at e.1)
          false (e.0, back w e.1) is read (
            λ p is. subst (λ z. z <ℤ call.least) (some_is is) less,
            known.above (Postfix x.0 x.1) (here at e.1) read,
          ) (pr.back (here at w) (here at e.1) (Postfix x.0 x.1) read) (stays ∙ es.0, later)
      by (took (Some (inl x)) e) (r, stays, same_) (inr (reaches, (z, (u, f, c), fails))) =
          let (b, k, told, is) = checks at units (units w.tokens)
          (λ b j. behind_ at.form x.1 (here at e.1) left b j)
          (folded (λ i a j. p.folds.behind at.form x.1 i left a j) f) c in
          postfix_fails call begin left w x.0 x.1 e y known (own (Postfix x.0 x.1) e r).1
          reaches b k
          told (subst (λ z. fails_as e.0 z y) is fails)
      by (took (Some (inr o)) e) (r, stays, same_) (inl (less, is)) =
          let (later, read) = own (infix_read o) e r in
          stops pr level start at call begin left (here at w) known (infix_read o) (here at e.1)
          false (e.0, back w e.1) is read (
            λ p is. subst (λ z. z <ℤ call.least) (some_is is) less,
            known.above (infix_read o) (here at e.1) read,
          ) (pr.back (here at w) (here at e.1) (infix_read o) read) (stays ∙ es.0, later)
      by (took (Some (inr o)) e) (r, stays, same_) (inr (reaches, inl (meets, is))) =
          let (later, read) = own (infix_read o) e r in
          stops pr level start at call begin left (here at w) known (infix_read o) (here at e.1)
          true (e.0, back w e.1) is read (
            o,
            refl,
            inr (
              known.above (infix_read o) (here at e.1) read (left_power o) refl,
              reaches,
              sym known.top ∙ meets,
            ),
          ) (pr.back (here at w) (here at e.1) (infix_read o) read) (stays ∙ es.0, later)
      by (took (Some (inr o)) e) (r, stays, same_) (inr (reaches, inr (apart, inl (still, is)))) =
          let (later, read) = own (infix_read o) e r in
          let falls = pr.moves.nexts_fall (here at w) (here at e.1) (infix_read o) read in
          let more =
          tree_over_shortens (decided pr) pr.moves known.tree begin (here at w) known.over
          in
          failed pr level start at call.least begin (assert_kind at.form) e (is ∙ sym (misuse at e))
          (λ other. inl (
            inr (inr (
              here at w,
              here at e.1,
              infix_read o,
              left_power o,
              comes_left pr level start call begin left (here at w) known,
              read,
              refl,
              omega (arith, falls, more, still, known.began),
            )),
            λ u n b reads.
                let (l, like, grows) = known.sees u n b reads in
                no_turn_begun (decided pr) pr.moves begin (here at w) (here at e.1) o call.least
                known.tree l u n b known.over read (still ∙ known.began) grows
                (λ met. apart (known.top ∙ alike_top alike af ag ah known.tree l like ∙ met))
                reaches,
          ))
      by (took (Some (inr o)) e) r (inr (reaches, inr (apart, inr (moved, is)))) =
          failed pr level start at call.least begin memory e is (λ other. absurd (other refl))
      by (backs e) r is = next_fails call begin left q w backtrack e y es known r is
      by (cuts e) r is = next_fails call begin left q w cut e y es known r is
      by (asks need e) r is = next_fails call begin left q w (incomplete need) e y es known r is
      by wants r is =
          failed pr level start at call.least begin memory (q, w) is (λ other. absurd (other refl))

  pub tree_ended : (call : Call) (q : Q) (w : Left T) (y : Outcome (End Q T) (V × Bool))
      → Then same (step.One p) (where_took instead (first_last units)) at q w y
      → Kept pr (q.0, q.1) → StartsOperand g s0 level start call.least (here at w)
      → Told pr level start at call.least (here at w) y
  tree_ended call q w y (x, d, c) es begins = by x (first_at p q w x d) c
    where
      fails : (k : Kind) (e : End Q T) → step.FirstAt p q w (Err k) e.0 (here at e.1)
          → y ≡ outcome_of (Err k) e → Told pr level start at call.least (here at w) y
      fails k e (r, stays, same_) is =
          let ran = subst (λ z. run z (here at w) (Err k) e.0.0 (here at e.1)) es.0 r in
          failed pr level start at call.least (here at w) k e is
          (λ other. inl (
            inl (inl (
              here at w,
              e.0.0,
              comes_begins pr level start call.least (here at w) begins,
              ran,
            )),
            λ u n b reads.
                let (x, m, step_, more) = reads_as first next call.least (here at w) u n b reads in
                failed_has_no_operand_step pr e.0.0 (here at w) (here at e.1) m k x ran other step_,
          ))

      by : (x : Outcome (End Q T) (V ⊎ PrefixRead F)) → Came at (step.FirstAt p q w) x
          → ComesOf {Q = Q} (where_took instead (first_last units)) at q w x y
          → Told pr level start at call.least (here at w) y
      by (took (inl v) e) r c = absurd c
      by (took (inr x) e) r (inl (less, is)) =
          failed pr level start at call.least (here at w) memory e is
          (λ other. absurd (other refl))
      by (took (inr x) e) (r, stays, same_) (inr (still, is)) =
          let (later, read) = operand_step_of_run pr q.0 e.0.0 (here at w) (here at e.1)
          (prefix_read x.0 x.1) es.0 r in
          let unmoved = still_prefix pr (here at w) (here at e.1) x.0 x.1 read still in
          failed pr level start at call.least (here at w) (assert_kind at.form) e
          (is ∙ sym (misuse at e))
          (λ other. inl (
            inr (inl (
              here at w,
              here at e.1,
              x.0,
              x.1,
              comes_begins pr level start call.least (here at w) begins,
              read,
              unmoved,
            )),
            λ u n b reads.
                let (z, m, step_, more) = reads_as first next call.least (here at w) u n b reads in
                no_prefix pr (here at w) (here at e.1) m x.0 x.1 z read unmoved step_,
          ))
      by (backs e) r is = fails backtrack e r is
      by (cuts e) r is = fails cut e r is
      by (asks need e) r is = fails (incomplete need) e r is
      by wants r is =
          failed pr level start at call.least (here at w) memory (q, w) is
          (λ other. absurd (other refl))

  pub join_ended : (x : Open V (PrefixRead F) (Infix H)) (z y : Outcome (End Q T) (V × Bool))
      → JoinEnds (step.O p) at x z y → (power : ℤ) (m begin : Input T)
      → Told pr level start at power m z → Opened pr level start (kept x) power m begin
      → Told pr level start at x.call.least begin y
  join_ended x z y ended power m begin told o = by z ended told
    where
      fails : (k : Kind) (e : End Q T) → y ≡ outcome_of (Err k) e
          → Fails pr level start power m k (here at e.1)
          → Told pr level start at x.call.least begin y
      fails k e is why = failed pr level start at x.call.least begin k e is (λ other. elim why [
        | inl (cause, none) ↦ inl (
          cause,
          λ r n c reads.
              let (q, u, z, d, more, like, follows, values) = o.sees r n c reads in
              none q z d more,
        )
        | inr (refused, none) ↦ inr (
          refused,
          λ r n c y reads val.
              let (q, u, z, d, more, like, follows, values) = o.sees r n c reads in
              let (v, known) = follows_value pr x.call.least u z r n d c follows y val in
              let (w, other_, never) = values v known in none q z d w more other_,
        )
      ])

      folds : (right : V) (all : Bool) (e : End Q T)
          → Told pr level start at power m (took (right, all) e) → (a : Answer V) (k : Left T)
          → Closes g.folding (operator_kept x.operator) x.call.turn (here at e.1) right a (here
          at k)
          → all_end e.0 all (outcome_of a k) y → Told pr level start at x.call.least begin y
      folds right true e (es, r0, over, keeps, known) (Ok v) k closes is =
          let (value, place) = o.gives r0 right v (here at e.1) (here at k) known closes in
          subst (λ z. Told pr level start at x.call.least begin z) (sym is) (
            es,
            o.build r0,
            subst (λ n. IsTreeOver first next (o.build r0) begin n) (sym place)
                (o.over r0 (here at e.1) over),
            record {
              binds = o.binds r0 keeps.binds keeps.reaches;
              reaches = o.reaches r0;
              then_read = keeps.then_read;
              then_at = keeps.then_at;
              reads = subst (λ n. next n keeps.then_read keeps.then_at) (sym place) keeps.reads;
              ends = (
                keeps.ends.0,
                keeps.ends.1,
                inl (o.meets r0 (left_power keeps.ends.0) keeps.ends.2),
              );
            },
            value,
          )
      folds right false e told (Ok v) k closes is = absurd is
      folds right all e (es, r0, over, keeps, known) (Err kind) k closes is =
          failed pr level start at x.call.least begin kind (e.0, k)
          (all_is {V = V} e.0 all kind k y is)
          (λ other. elim (o.refuses r0 right kind (here at e.1) (here at k) all over keeps known
          closes other) [
            | inl (refused, folded_) ↦ inr (
              refused,
              λ r n c y reads val.
                  let (q, u, z, d, more, like, follows, values) = o.sees r n c reads in
                  let (v, value) = follows_value pr x.call.least u z r n d c follows y val in
                  let (w, other_, never) = values v value in
                  never right kind (here at e.1) (here at k) (value_alike pr r0 q
                  (reads_unique (decided pr) power m r0 (here at e.1) all
                  (reads_tree_over first next power
                  r0 m (here at e.1) all over keeps) q z d more).0 right w known other_) folded_
                  other,
            )
            | inr (unmoved, none) ↦ inl (inr unmoved, none)
          ])

      by : (z : Outcome (End Q T) (V × Bool)) → JoinEnds (step.O p) at x z y
          → Told pr level start at power m z → Told pr level start at x.call.least begin y
      by (took (right, all) e) (u, f, c) told =
          let (a, k, closes, is) = closed p x.operator x.call.turn e.1 right u f in
          folds right all e told a k closes (subst (λ u. all_end e.0 all u y) is c)
      by (backs e) is why = fails backtrack e is why
      by (cuts e) is why = fails cut e is why
      by (asks need e) is why = fails (incomplete need) e is why
      by wants is why =
          subst (λ z. Told pr level start at x.call.least begin z) (sym is) tt
