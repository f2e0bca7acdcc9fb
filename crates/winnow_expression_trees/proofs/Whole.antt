-- The expression's call and the trees over its reading.
use Rattle.std.specs.Prelude.{◌≡◌, ◌⊎◌, ℤ, Bool, Option, Ok, Err, IsOk}
use Rattle.std.proofs.Common.{refl, sym, subst, inl, inr}
use Rattle.stream_errors.specs.Form.{Answer}
use Rattle.stream_errors.specs.Form.Inversion.{ok_is_err, same_kind, same_output}
use Rattle.streams.specs.Input.{Input}
use Rattle.streams.specs.Kind.{Kind, backtrack, cut, incomplete, memory}
use Rattle.streams.specs.Reading.{Reading}
use Rattle.parser_definitions.specs.Expression.{TreesDo, call_at, tree_value}
use Rattle.parser_definitions.specs.Left.{End, Left, left_of}
use Rattle.parser_definitions.specs.Outcome.{Does, Outcome, Setting, asks, backs, cuts, outcome_of}
use Rattle.parser_definitions.specs.Outcome.{took, wants}
use Rattle.parser_definitions.specs.Then.{ComesOf}
use Rattle.winnow_core.specs.Runs.{Runs}
use Rattle.winnow_expression.specs.Definition.{operators}
use Rattle.winnow_expression.specs.Did.{here}
use Rattle.winnow_expression.specs.Did.Steps as step
use Rattle.winnow_expression.specs.Did.Steps.{PartsCame}
use Rattle.winnow_expression.specs.Folds.{DoesBinary, DoesUnary}
use Rattle.winnow_expression.specs.Grammar.{Grammar}
use Rattle.winnow_expression.specs.declared.combinator.operators.Infix.{Infix}
use Rattle.winnow_expression.specs.declared.combinator.operators.Postfix.{Postfix}
use Rattle.winnow_expression.specs.declared.combinator.operators.Prefix.{Prefix}
use Rattle.winnow_expression.specs.declared.combinator.places.First.{First}
use Rattle.winnow_expression.specs.declared.combinator.places.Next.{Next}
use Rattle.winnow_expression_trees.specs.Accepting.{accepted, both_accepted}
use Rattle.winnow_expression_trees.specs.Failure.{EndedBy, FailsBy, HasEmptyOperator}
use Rattle.winnow_expression_trees.specs.Failure.{RejectedByPrecedence, begins_whole}
use Rattle.winnow_expression_trees.specs.OneTree.{IsTheOneTree, KeepsOver}
use Rattle.winnow_expression_trees.specs.OneTree.Exact.{reads_tree_over}
use Rattle.winnow_expression_trees.specs.OneTree.Unique.{one_tree}
use Rattle.winnow_expression_trees.specs.Premises.{FoldAlike, FoldsAlike}
use Rattle.winnow_expression_trees.specs.Reading.{OperandStep, OperatorStep}
use Rattle.winnow_expression_trees.specs.Tree.{Tree}
use Rattle.winnow_expression_trees.specs.Value.{Value}
use Rattle.winnow_expression_trees.proofs.Left.{Fails, Kept, Told, value_alike}
use Rattle.winnow_expression_trees.proofs.Plain.{Plain, decided}
use Rattle.winnow_expression_trees.proofs.Told.{tree_told}

module _ {S W T L V F G H : Type 0} {reading : Reading T L} {at : Setting}
    {before : DoesUnary F T V} {behind : DoesUnary G T V} {between : DoesBinary H T V}
    {run : Runs S T (First V F)} {run_next : Runs W T (Next G H)}
    {one : Does S T (V ⊎ Prefix F)} {two : Does W T (Option (Postfix G ⊎ Infix H))}
    (p : PartsCame reading at before behind between run run_next one two)
    {alike : V → V → Type 0} {af : F → F → Type 0} {ag : G → G → Type 0} {ah : H → H → Type 0}
    {s0 : S × W} (pr : Plain (step.Parts p) alike af ag ah s0) (level : ℤ) (w : Left T) where
  abbrev Q : Type 0
  Q = S × W × ℤ

  abbrev g : Grammar S W T V F G H
  g = step.Parts p

  abbrev FailsNow : Kind → Input T → Type 0
  FailsNow k j = Fails pr level (here at w) level (here at w) k j

  -- the outcome of the call
  abbrev Came : Outcome (End Q T) V → Type 0
  Came (took v e) = Kept pr (e.0.0, e.0.1) × (r : Tree V F G H) × (all : Bool)
      × KeepsOver g s0 level (here at w) r (here at e.1) all × Value g r v
  Came (backs e) = FailsNow backtrack (here at e.1)
  Came (cuts e) = FailsNow cut (here at e.1)
  Came (asks need e) = FailsNow (incomplete need) (here at e.1)
  Came wants = Unit {0}

  came : (y : Outcome (End Q T) V)
      → TreesDo (step.O p) (step.One p) (step.Two p) level at (s0.0, s0.1, level) w y → Came y
  came y (x, d, c) =
      by x (tree_told p pr level (here at w) (call_at level (reading.units w.tokens))
      (s0.0, s0.1, level) w x d (refl, refl) refl refl begins_whole) c
    where
      by : (x : Outcome (End Q T) (V × Bool)) → Told pr level (here at w) at level (here at w) x
          → ComesOf {Q = Q} (tree_value {V = V}) at (s0.0, s0.1, level) w x y → Came y
      by (took o e) (kept, r, over, keeps, value) is =
          subst (λ z. Came z) (sym is) (kept, r, o.1, (over, keeps), value)
      by (backs e) why is = subst (λ z. Came z) (sym is) why
      by (cuts e) why is = subst (λ z. Came z) (sym is) why
      by (asks need e) why is = subst (λ z. Came z) (sym is) why
      by wants why is = subst (λ z. Came z) (sym is) tt

  -- a failure
  failure : (k : Kind) (e : End Q T) → Came (outcome_of (Err k) e) → (k ≡ memory → ⊥)
      → FailsNow k (here at e.1)
  failure backtrack e why other = why
  failure cut e why other = why
  failure (incomplete need) e why other = why
  failure memory e why other = absurd (other refl)

  agrees : (k : Kind) (j : Input T) → FailsNow k j → (r : Tree V F G H) (n : Input T)
      (all : Bool) (x : V) → KeepsOver g s0 level (here at w) r n all → Value g r x → ⊥
  agrees k j (inl (why, none)) r n all x (over, keeps) known =
      none r n all (reads_tree_over (OperandStep g s0) (OperatorStep g s0) level r (here at w) n
      all over keeps)
  agrees k j (inr (refused, none)) r n all x (over, keeps) known =
      none r n all x
      (reads_tree_over (OperandStep g s0) (OperatorStep g s0) level r (here at w) n all
      over
      keeps) known

  causes : (k : Kind) (j : Input T) → FailsNow k j → FailsBy g s0 level (here at w) k j
  causes k j (inl (inl ended, none)) = inl ended
  causes k j (inl (inr unmoved, none)) = inr (inr unmoved)
  causes k j (inr (refused, none)) = inr (inl refused)

  refuses : (k : Kind) (j : Input T) → FailsNow k j → (r : Tree V F G H) (n : Input T)
      (all : Bool) → KeepsOver g s0 level (here at w) r n all
      → RejectedByPrecedence g s0 level (here at w) k j
  refuses k j (inl (why, none)) r n all (over, keeps) =
      absurd (none r n all
      (reads_tree_over (OperandStep g s0) (OperatorStep g s0) level r (here at w) n all over keeps))
  refuses k j (inr (refused, none)) r n all keeps = refused

pub expression_exact : {S W T L V F G H : Type 0} {reading : Reading T L} {at : Setting}
    {before : DoesUnary F T V} {behind : DoesUnary G T V} {between : DoesBinary H T V}
    {run : Runs S T (First V F)} {run_next : Runs W T (Next G H)}
    {one : Does S T (V ⊎ Prefix F)} {two : Does W T (Option (Postfix G ⊎ Infix H))}
    (p : PartsCame reading at before behind between run run_next one two)
    {alike : V → V → Type 0} {s0 : S × W} (pr : Plain (step.Parts p) alike
    (FoldAlike alike (before at.form)) (FoldAlike alike (behind at.form))
    (FoldsAlike alike (between at.form)) s0) (level : ℤ) (w : Left T) (answer : Answer V)
    (t : S × W × ℤ) (j : Input T) → j ≡ here at (left_of j)
    → TreesDo (step.O p) (step.One p) (step.Two p) level at (s0.0, s0.1, level) w
    (outcome_of answer (t, left_of j))
    → IsTheOneTree (step.Parts p) alike s0 level (here at w) answer (t.0, t.1) j
expression_exact {S} {W} {T} {V = V} {F} {G} {H} {at =
    at} p {alike} {s0} pr level w answer t j place
    did =
    subst (λ n. IsTheOneTree (step.Parts p) alike s0 level (here at w) answer (t.0, t.1) n)
    (sym place) (by answer (came p pr level w (outcome_of answer (t, left_of j)) did))
  where
    g : Grammar S W T V F G H
    g = step.Parts p

    gave : (v : V) → Came p pr level w (took v (t, left_of j))
        → IsTheOneTree (step.Parts p) alike s0 level (here at w) (Ok v) (t.0, t.1)
        (here at (left_of j))
    gave v (kept, r, all, tree, value) = record {
      one = λ u z m n b c x y.
          let (like, place, flag) =
          one_tree (decided pr) level (here at w) u z m n b c x.0 x.1 y.0 y.1 in
          (like, place);
      finds = λ z e. (r, all, tree, subst (λ z. Value (step.Parts p) r z) (same_output e) value);
      agrees = λ u n b x keeps known other.
          let (like, place, flag) = one_tree (decided pr) level (here at w) r u
          (here at (left_of j)) n all b tree.0 tree.1 keeps.0 keeps.1 in
          (v, refl, place, value_alike pr r u like v x value known);
      keeps = λ z e. kept;
      fails = λ k e. ok_is_err refl e;
      refuses = λ k e. ok_is_err refl e;
    }

    failed : (k : Kind) → ((k ≡ memory → ⊥) → FailsNow p pr level w k (here at (left_of j)))
        → IsTheOneTree (step.Parts p) alike s0 level (here at w) (Err k) (t.0, t.1)
        (here at (left_of j))
    failed k why = record {
      one = λ u z m n b c x y.
          let (like, place, flag) =
          one_tree (decided pr) level (here at w) u z m n b c x.0 x.1 y.0 y.1 in
          (like, place);
      finds = λ z e. ok_is_err e refl;
      agrees = λ u n b x keeps known other.
          absurd (agrees p pr level w k (here at (left_of j)) (why other) u n b x keeps known);
      keeps = λ z e. ok_is_err e refl;
      fails = λ l e other. subst (λ z. FailsBy (step.Parts p) s0 level (here at w) z
          (here at (left_of j))) (same_kind e)
          (causes p pr level w k (here at (left_of j)) (why other));
      refuses = λ l e other u n b keeps. subst
          (λ z. RejectedByPrecedence (step.Parts p) s0 level (here at
          w) z
          (here at (left_of j))) (same_kind e)
          (refuses p pr level w k (here at (left_of j)) (why other) u n b keeps);
    }

    by : (a : Answer V) → Came p pr level w (outcome_of a (t, left_of j))
        → IsTheOneTree (step.Parts p) alike s0 level (here at w) a (t.0, t.1) (here at (left_of j))
    by (Ok v) told = gave v told
    by (Err k) told = failed k (λ other. failure p pr level w k (t, left_of j) told other)

-- If no fold of an operator that is read fails, and every such operator consumes input, a failure
-- has the kind and the rest of the result that ended the reading.
pub expression_fails : {S W T V F G H : Type 0} {g : Grammar S W T V F G H}
    {alike : V → V → Type 0} {s : S × W} {level : ℤ} {i : Input T} (k : Kind) {t : S × W}
    {j : Input T} → IsTheOneTree g alike s level i (Err k) t j → (k ≡ memory → ⊥)
    → (RejectedByPrecedence g s level i k j → ⊥) → (HasEmptyOperator g s i → ⊥) → EndedBy g s i k j
expression_fails k exact other accepts moves =
    elim (exact.fails k refl other) [
      | inl ended ↦ ended
      | inr (inl refused) ↦ absurd (accepts refused)
      | inr (inr unmoved) ↦ absurd (moves unmoved)
    ]

-- ---- calls in which no fold fails

no_error : {X : Type 0} (V : Type 0) (k : Kind) → IsOk {T = V} {E = Kind} (Err k) → X
no_error V k e = absurd (cc)

module _ {S W T L V F G H : Type 0} {reading : Reading T L} {at : Setting}
    {before : DoesUnary F T V} {behind : DoesUnary G T V} {between : DoesBinary H T V}
    {run : Runs S T (First V F)} {run_next : Runs W T (Next G H)}
    {one : Does S T (V ⊎ Prefix F)} {two : Does W T (Option (Postfix G ⊎ Infix H))}
    (p : PartsCame reading at before behind between run run_next one two)
    {alike : V → V → Type 0} {af : F → F → Type 0} {ag : G → G → Type 0} {ah : H → H → Type 0}
    {s0 : S × W} (pr : Plain (step.Parts p) alike af ag ah s0) (level : ℤ) (w : Left T) (k : Kind)
    (t : S × W × ℤ) (j : Input T) (place : j ≡ here at (left_of j))
    (did : TreesDo (operators reading.units (accepted before) (accepted behind)
    (both_accepted between)) (step.One p) (step.Two p) level at (s0.0, s0.1, level) w
    (outcome_of (Err k) (t, left_of j)))
    (other : k ≡ memory → ⊥) where
  parts : PartsCame reading at (accepted before) (accepted behind) (both_accepted between) run
      run_next one two
  parts = record {
    reads_first = p.reads_first;
    reads_next = p.reads_next;
    folds = record {
      before = λ form f i v a j r. p.folds.before form f i v a j r.0;
      behind = λ form f i v a j r. p.folds.behind form f i v a j r.0;
      between = λ form f i v u a j r. p.folds.between form f i v u a j r.0;
    };
  }

  plain_accepting : Plain (step.Parts parts) alike af ag ah s0
  plain_accepting = record {
    first_keeps = pr.first_keeps;
    first_decided = pr.first_decided;
    next_keeps = pr.next_keeps;
    next_decided = pr.next_decided;
    nothing = pr.nothing;
    back = pr.back;
    prefix_falls = pr.prefix_falls;
    moves = pr.moves;
    befores = λ f h e. record {
      same = λ v w i j k n a b like x y na nb.
          (pr.befores f h e).same v w i j k n a b like x.0 y.0 na nb;
      leaves = λ v i j a x na. (pr.befores f h e).leaves v i j a x.0 na;
    };
    behinds = λ f h e. record {
      same = λ v w i j k n a b like x y na nb.
          (pr.behinds f h e).same v w i j k n a b like x.0 y.0 na nb;
      leaves = λ v i j a x na. (pr.behinds f h e).leaves v i j a x.0 na;
    };
    betweens = λ f h e. record {
      same = λ v x w y i j k n a b like more p q na nb.
          (pr.betweens f h e).same v x w y i j k n a b like more p.0 q.0 na nb;
      leaves = λ v x i j a p na. (pr.betweens f h e).leaves v x i j a p.0 na;
    };
  }

  no_refusal : RejectedByPrecedence (step.Parts parts) s0 level (here at w) k
      (here at (left_of j)) → ⊥
  no_refusal (inl (m, z, x, n, p, f, r, all, v, begins, read, over, keeps, value, folds)) =
      no_error V k folds.1
  no_refusal (inr (inl (m, z, x, n, p, f, l, v, begins, over, takes, read, value, folds))) =
      no_error V k folds.1
  no_refusal (inr (inr (
    m,
    z,
    x,
    n,
    y,
    o,
    l,
    r,
    all,
    v,
    w,
    begins,
    over,
    takes,
    read,
    more,
    keeps,
    value,
    also,
    folds,
  ))) =
      no_error V k folds.1

  failed_now : FailsNow parts plain_accepting level w k (here at (left_of j))
  failed_now = failure parts plain_accepting level w k (t, left_of j)
      (came parts plain_accepting level w (outcome_of (Err k) (t, left_of j)) did) other

  pub failure_excludes : (r : Tree V F G H) (n : Input T) (all : Bool)
      → KeepsOver (step.Parts p) s0 level (here at w) r n all → ⊥
  failure_excludes r n all keeps =
      no_refusal (refuses parts plain_accepting level w k (here at (left_of j)) failed_now r n all
      keeps)

  -- and it is the answer that ended the reading, or an operator was read that consumes nothing
  pub failure_ended : EndedBy (step.Parts p) s0 (here at w) k j
      ⊎ HasEmptyOperator (step.Parts p) s0 (here at w)
  failure_ended =
      elim (causes parts plain_accepting level w k (here at (left_of j)) failed_now) [
        | inl ended ↦ inl
            (subst (λ n. EndedBy (step.Parts p) s0 (here at w) k n) (sym place) ended)
        | inr (inl refused) ↦ absurd (no_refusal refused)
        | inr (inr unmoved) ↦ inr unmoved
      ]
