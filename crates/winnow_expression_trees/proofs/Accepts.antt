-- Calls in which no part or no fold fails, among the others.
use Rattle.std.specs.Prelude.{◌≡◌, ◌⊎◌, ⊤, ℤ, Option, Ok, Err, IsOk}
use Rattle.std.proofs.Common.{refl, sym, subst, inl, inr}
use Rattle.stream_errors.specs.Form.{Answer, ErrorForm, assert_kind}
use Rattle.streams.specs.Input.{Input, IsEndOf}
use Rattle.streams.specs.Kind.{Kind, backtrack, cut, incomplete, memory}
use Rattle.streams.specs.Reading.{Reading}
use Rattle.parser_definitions.specs.Does.{Ran}
use Rattle.parser_definitions.specs.Left.{End, Left, left_of}
use Rattle.parser_definitions.specs.Outcome.{Does, Outcome, Setting, asks, backs, cuts, outcome_of}
use Rattle.parser_definitions.specs.Outcome.{setting_of, took, wants}
use Rattle.parser_definitions.specs.Places.{FirstDoes, NextDoes}
use Rattle.parser_definitions.specs.Then.{ComesOf}
use Rattle.parser_definitions.specs.Then.Steps.{In, hands_on}
use Rattle.winnow_core.specs.Settings.{at_end}
use Rattle.winnow_expression.specs.Definition.{Folded, operators}
use Rattle.winnow_expression.specs.Did.{here, is_here}
use Rattle.winnow_expression.specs.Ending.{Ending}
use Rattle.winnow_expression.specs.Folds.{DoesBinary, DoesUnary, FoldsLeaveEnds}
use Rattle.winnow_expression.specs.Operators.{fold_of}
use Rattle.winnow_expression.specs.Parts.{PartsDo, did_grammar}
use Rattle.winnow_expression.specs.declared.combinator.operators.Infix.{Infix}
use Rattle.winnow_expression.specs.declared.combinator.operators.Postfix.{Postfix}
use Rattle.winnow_expression.specs.declared.combinator.operators.Prefix.{Prefix}
use Rattle.winnow_expression_trees.specs.Accepting.{AcceptingDo, AssertingDo}
use Rattle.winnow_expression_trees.specs.Accepting.{FoldAnswers, FoldFails}
use Rattle.winnow_expression_trees.specs.Accepting.{IsTook, Sure, accepted, both_accepted}
use Rattle.winnow_expression_trees.specs.Premises.{NotMemory}
use Rattle.winnow_expression.specs.Monotone.{Ends, Fine, any_fine, no_ends, trees_map}

-- ---- outcomes and their kinds

took_fine : {L O : Type 0} (allowed : Kind → Type 0) (a : Answer O) (l : L) {y : Outcome L O}
    → IsOk a → y ≡ outcome_of a l → Fine allowed y
took_fine allowed (Ok o) l ok is = subst (λ z. Fine allowed z) (sym is) tt
took_fine allowed (Err k) l ok is = absurd (cc)

-- a part whose outcomes are restricted to outputs, in the state of the whole
sure_fine : {S Q T O : Type 0} (allowed : Kind → Type 0) (put : Q → S → Q) (at : Setting) (q : Q)
    (w : Left T) (x : Outcome (End S T) O) (y : Outcome (End Q T) O) → IsTook x
    → ComesOf {Q = Q} (hands_on put) at q w x y → Fine allowed y
sure_fine allowed put at q w (took o e) y sure is = subst (λ z. Fine allowed z) (sym is) tt
sure_fine allowed put at q w (backs e) y sure is = absurd sure
sure_fine allowed put at q w (cuts e) y sure is = absurd sure
sure_fine allowed put at q w (asks need e) y sure is = absurd sure
sure_fine allowed put at q w wants y sure is = absurd sure

-- a fold that fails, or not
gives : {T L V : Type 0} (reading : Reading T L) (at : Setting) (m : Left T)
    (runs : Input T → Answer V → Input T → Type 0) (refused : Kind → Left T → Type 0)
    → ((i : Input T) (a : Answer V) (j : Input T) → runs i a j → IsEndOf reading j i)
    → ((k : Kind) (i : Input T) (l : Left T) → runs i (Err k) (here at l) → refused k l)
    → (z : Outcome (Left T) V) → Folded at m runs z
    → (Folded at m (λ i a j. runs i a j × IsOk a) z × Fine (λ k. ⊤) z) ⊎ Ends refused (λ l. l) z
gives {T} {V = V} reading at m runs refused ends fails z (i, a, j, start, is, r, e) = by a r e
  where
    ended : (k : Kind) → runs i (Err k) j → refused k (left_of j)
    ended k r =
        let end = at_end start (ends i (Err k) j r) in
        fails k i (left_of j) (subst (λ x. runs i (Err k) x) (is_here at end.more end.possible) r)

    by : (a : Answer V) → runs i a j → z ≡ outcome_of a (left_of j)
        → (Folded at m (λ i a j. runs i a j × IsOk a) z × Fine (λ k. ⊤) z)
        ⊎ Ends refused (λ l. l) z
    by (Ok v) r e = inl ((i, Ok v, j, start, is, (r, refl), e), any_fine z)
    by (Err backtrack) r e =
        inr (subst (λ z. Ends refused (λ l. l) z) (sym e) (ended backtrack r))
    by (Err cut) r e = inr (subst (λ z. Ends refused (λ l. l) z) (sym e) (ended cut r))
    by (Err (incomplete need)) r e =
        inr (subst (λ z. Ends refused (λ l. l) z) (sym e) (ended (incomplete need) r))
    by (Err memory) r e =
        inr (subst (λ z. Ends refused (λ l. l) z) (sym e) (left_of j, ended memory r))

-- ---- calls of an expression

module _ {S1 S2 S3 S4 T V L F G H : Type 0} (reading : Reading T L) (form : ErrorForm)
    (d1 : Does S1 T V) (d2 : Does S2 T (Prefix F)) (d3 : Does S3 T (Postfix G))
    (d4 : Does S4 T (Infix H)) (before : DoesUnary F T V) (behind : DoesUnary G T V)
    (between : DoesBinary H T V) (s : (S1 × S2) × (S3 × S4) × ℤ) (i : Input T) (answer : Answer V)
    (t : (S1 × S2) × (S3 × S4) × ℤ) (j : Input T) where
  abbrev Q : Type 0
  Q = (S1 × S2) × (S3 × S4) × ℤ

  abbrev first : Does (S1 × S2) T (V ⊎ Prefix F)
  first = FirstDoes (Ending reading d1) (Ending reading d2)

  abbrev next : Does (S3 × S4) T (Option (Postfix G ⊎ Infix H))
  next = NextDoes reading.units (Ending reading d3) (Ending reading d4)

  abbrev One : Does (S1 × S2) T (V ⊎ Prefix F) → Does Q T (V ⊎ Prefix F)
  One does = In (λ q. q.0) (λ q u. (u, q.1, q.2)) does

  abbrev Two : Does (S3 × S4) T (Option (Postfix G ⊎ Infix H))
      → Does Q T (Option (Postfix G ⊎ Infix H))
  Two does = In (λ q. q.1) (λ q u. (q.0, u, q.2)) does

  abbrev at : Setting
  at = setting_of form i

  abbrev y : Outcome (End Q T) V
  y = outcome_of answer (t, left_of j)

  pub asserting_accepts : Ran reading (AssertingDo reading d1 d2 d3 d4 before behind between) form s
      i answer t j
      → Ran reading (AcceptingDo reading d1 d2 d3 d4 before behind between) form s i answer t j
  asserting_accepts (ends, more, possible, did) =
      let other = operators reading.units (accepted before) (accepted behind) (both_accepted
      between)
      in
      elim (trees_map other (One (Sure first)) (One first) (Two (Sure next)) (Two next) other.before
      other.behind other.between at (λ k. ⊤) (λ k l. ⊥) (record {
        firsts = λ q w y (x, d, is). ((x, d.0, is), any_fine y);
        nexts = λ q w y (x, d, is). ((x, d.0, is), any_fine y);
        befores = λ x m v z f. inl (f, any_fine z);
        behinds = λ p m v z f. inl (f, any_fine z);
        betweens = λ o m v r z f. inl (f, any_fine z);
        misuses = tt;
      }) s.2 s (left_of i) y did) [
        | inl (told, fine) ↦ (ends, more, possible, told)
        | inr none ↦ no_ends y none
      ]

  pub accepting_ran : Ran reading (AcceptingDo reading d1 d2 d3 d4 before behind between) form s i
      answer t j
      → Ran reading (PartsDo reading d1 d2 d3 d4 before behind between) form s i answer t j
  accepting_ran (ends, more, possible, did) =
      let other = operators reading.units before behind between in
      elim (trees_map
      (operators reading.units (accepted before) (accepted behind) (both_accepted between))
      (One first) (One first) (Two next) (Two next) other.before other.behind other.between at
      (λ k. ⊤) (λ k l. ⊥) (record {
        firsts = λ q w y d. (d, any_fine y);
        nexts = λ q w y d. (d, any_fine y);
        befores = λ x m v z (i, a, j, start, is, r, e).
            inl ((i, a, j, start, is, r.0, e), any_fine z);
        behinds = λ p m v z (i, a, j, start, is, r, e).
            inl ((i, a, j, start, is, r.0, e), any_fine z);
        betweens = λ o m v u z (i, a, j, start, is, r, e).
            inl ((i, a, j, start, is, r.0, e), any_fine z);
        misuses = tt;
      }) s.2 s (left_of i) y did) [
        | inl (told, fine) ↦ (ends, more, possible, told)
        | inr none ↦ no_ends y none
      ]

  abbrev Failing : Kind → Input T → Type 0
  Failing k n = FoldFails (did_grammar reading form d1 d2 d3 d4 before behind between) k n

  -- each other call ends with the result of a fold that fails
  pub accepts_or_fails : FoldsLeaveEnds reading before behind between
      → Ran reading (PartsDo reading d1 d2 d3 d4 before behind between) form s i answer t j
      → Ran reading (AcceptingDo reading d1 d2 d3 d4 before behind between) form s i answer t j
      ⊎ ((k : Input T) × FoldAnswers
      (did_grammar reading form d1 d2 d3 d4 before behind between) answer k
      × (NotMemory answer → k ≡ j))
  accepts_or_fails folds (ends, more, possible, did) =
      let other =
      operators reading.units (accepted before) (accepted behind) (both_accepted between) in
      elim (trees_map (operators reading.units before behind between) (One first) (One first)
      (Two next) (Two next) other.before other.behind other.between at (λ k. ⊤)
      (λ k l. Failing k (here at l)) (record {
        firsts = λ q w y d. (d, any_fine y);
        nexts = λ q w y d. (d, any_fine y);
        befores = λ x m v. gives reading at m (λ i a j. before form x.1 i v a j)
            (λ k l. Failing k (here at l)) (λ i a j r. folds.before form x.1 i v a j r)
            (λ k i l r. inl (x.1, i, v, r));
        behinds = λ p m v. gives reading at m (λ i a j. behind form p.1 i v a j)
            (λ k l. Failing k (here at l)) (λ i a j r. folds.behind form p.1 i v a j r)
            (λ k i l r. inr (inl (p.1, i, v, r)));
        betweens = λ o m v u. gives reading at m (λ i a j. between form (fold_of o) i v u a j)
            (λ k l. Failing k (here at l))
            (λ i a j r. folds.between form (fold_of o) i v u a j r)
            (λ k i l r. inr (inr (fold_of o, i, v, u, r)));
        misuses = tt;
      }) s.2 s (left_of i) y did) [
        | inl (told, fine) ↦ inl (ends, more, possible, told)
        | inr failed ↦ inr (by answer failed)
      ]
    where
      by : (answer : Answer V) → Ends {L = End Q T} (λ k l. Failing k (here at l)) (λ e. e.1)
          (outcome_of {O = V} answer (t, left_of j))
          → (k : Input T) × FoldAnswers
          (did_grammar reading form d1 d2 d3 d4 before behind between) answer k
          × (NotMemory answer → k ≡ j)
      by (Ok v) failed = absurd failed
      by (Err backtrack) failed = (
        here at (left_of j),
        (backtrack, refl, failed),
        λ other. sym (is_here at more possible),
      )
      by (Err cut) failed = (
        here at (left_of j),
        (cut, refl, failed),
        λ other. sym (is_here at more possible),
      )
      by (Err (incomplete need)) failed = (
        here at (left_of j),
        (incomplete need, refl, failed),
        λ other. sym (is_here at more possible),
      )
      by (Err memory) (l, failed) =
          (here at l, (memory, refl, failed), λ other. absurd (other refl))

-- where neither a part nor a fold fails, an assert rule does
pub failure_kind : {S1 S2 S3 S4 T V L F G H : Type 0} (reading : Reading T L) (form : ErrorForm)
    (d1 : Does S1 T V) (d2 : Does S2 T (Prefix F)) (d3 : Does S3 T (Postfix G))
    (d4 : Does S4 T (Infix H)) (before : DoesUnary F T V) (behind : DoesUnary G T V)
    (between : DoesBinary H T V) (s : (S1 × S2) × (S3 × S4) × ℤ) (i : Input T) (kind : Kind)
    (t : (S1 × S2) × (S3 × S4) × ℤ) (j : Input T)
    → Ran reading (AssertingDo reading d1 d2 d3 d4 before behind between) form s i (Err kind) t j
    → (kind ≡ assert_kind form) ⊎ (kind ≡ memory)
failure_kind {S1} {S2} {S3} {S4} {T} {V} reading form d1 d2 d3 d4 before behind between s i kind t j
    (ends, more, possible, did) =
    let at = setting_of form i in
    let g = operators reading.units (accepted before) (accepted behind) (both_accepted between) in
    let first = One reading form d1 d2 d3 d4 before behind between s i (Err kind) t j
    (Sure (FirstDoes (Ending reading d1) (Ending reading d2))) in
    let next = Two reading form d1 d2 d3 d4 before behind between s i (Err kind) t j
    (Sure (NextDoes reading.units (Ending reading d3) (Ending reading d4))) in
    elim (trees_map g first first next next g.before g.behind g.between at Allowed (λ k l. ⊥)
    (record {
      firsts = λ q w y (x, d, is). (
        (x, d, is),
        sure_fine Allowed (λ q u. (u, q.1, q.2)) at q w x y d.1 is,
      );
      nexts = λ q w y (x, d, is). (
        (x, d, is),
        sure_fine Allowed (λ q u. (q.0, u, q.2)) at q w x y d.1 is,
      );
      befores = λ x m v z (i, a, j, start, is, r, e).
          inl ((i, a, j, start, is, r, e), took_fine Allowed a (left_of j) r.1 e);
      behinds = λ p m v z (i, a, j, start, is, r, e).
          inl ((i, a, j, start, is, r, e), took_fine Allowed a (left_of j) r.1 e);
      betweens = λ o m v u z (i, a, j, start, is, r, e).
          inl ((i, a, j, start, is, r, e), took_fine Allowed a (left_of j) r.1 e);
      misuses = inl refl;
    }) s.2 s (left_of i) (outcome_of (Err kind) (t, left_of j)) did) [
      | inl (told, fine) ↦ by kind fine
      | inr none ↦ no_ends (outcome_of {O = V} (Err kind) (t, left_of j)) none
    ]
  where
    Allowed : Kind → Type 0
    Allowed k = (k ≡ assert_kind form) ⊎ (k ≡ memory)

    by : (k : Kind) → Fine {L = End ((S1 × S2) × (S3 × S4) × ℤ) T} Allowed
        (outcome_of {O = V} (Err k) (t, left_of j)) → Allowed k
    by backtrack fine = fine
    by cut fine = fine
    by (incomplete need) fine = fine
    by memory fine = inr refl
