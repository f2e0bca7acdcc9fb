-- Open operators, as the machine has them and as the definition has them.
use Rattle.std.specs.Prelude.{◌≡◌, ◌⊎◌, ℕ, ℤ, Bool, true, List, Option, Ok, Err}
use Rattle.std.proofs.Common.{refl, sym, subst, ap, ◌∙◌, inl, inr}
use Rattle.streams.specs.Input.{Input}
use Rattle.streams.specs.Kind.{Kind, backtrack, cut, incomplete, memory}
use Rattle.streams.specs.Reading.{Reading}
use Rattle.stream_errors.specs.Form.{Answer}
use Rattle.parser_definitions.specs.Expression.{FoldsOpen, JoinEnds}
use Rattle.parser_definitions.specs.Expression.{Open, Operators, all_end}
use Rattle.parser_definitions.specs.Expression.{checked}
use Rattle.parser_definitions.specs.Left.{End, left_of}
use Rattle.parser_definitions.specs.Outcome.{Does, Outcome, Setting}
use Rattle.parser_definitions.specs.Outcome.{outcome_of, took}
use Rattle.winnow_core.specs.Results.{gave}
use Rattle.winnow_core.specs.Runs.{Runs}
use Rattle.winnow_expression.specs.Covers.Steps as step
use Rattle.winnow_expression.specs.Covers.{Within, within_end}
use Rattle.winnow_expression.specs.Covers.{within_same}
use Rattle.winnow_expression.specs.Covers.Steps.{PartsCovered, checked_error}
use Rattle.winnow_expression.specs.Covers.Steps.{misuse}
use Rattle.winnow_expression.specs.Calls as lib
use Rattle.winnow_expression.specs.Folds.{DoesBinary, DoesUnary}
use Rattle.winnow_expression.specs.Grammar.{Closes, Folding, Grammar}
use Rattle.winnow_expression.specs.Grammar.{ResumeEnds}
use Rattle.winnow_expression.specs.Operators.{fold_of}
use Rattle.winnow_expression.specs.declared.combinator.calls.Operator.{Operator}
use Rattle.winnow_expression.specs.declared.combinator.calls.Operator.TheVariants.{
  Prefix as prefix_open,
}
use Rattle.winnow_expression.specs.declared.combinator.calls.Operator.TheVariants.{
  Infix as infix_open,
}
use Rattle.winnow_expression.specs.declared.combinator.operators.Infix.{Infix}
use Rattle.winnow_expression.specs.declared.combinator.operators.Postfix.{Postfix}
use Rattle.winnow_expression.specs.declared.combinator.operators.Prefix.{Prefix}
use Rattle.winnow_expression.specs.declared.combinator.places.First.{First}
use Rattle.winnow_expression.specs.declared.combinator.places.Next.{Next}

-- ---- open operators, as the machine has them

abbrev pub operator_kept : {V F H : Type 0} → Prefix F ⊎ (V × Infix H) → Operator V F H
operator_kept (inl p) = prefix_open p.1
operator_kept (inr o) = infix_open o.0 (fold_of o.1)

abbrev pub kept : {V F H : Type 0} → Open V (Prefix F) (Infix H) → lib.Open V F H
kept x = record { operator = operator_kept x.operator; call = x.call }

-- ---- trees

module _ {S W T L V F G H : Type 0} {reading : Reading T L} {at : Setting}
    {start : Input T} {before : DoesUnary F T V} {behind : DoesUnary G T V}
    {between : DoesBinary H T V} {first : Runs S T (First V F)} {next : Runs W T (Next G H)}
    {one : Does S T (V ⊎ Prefix F)} {two : Does W T (Option (Postfix G ⊎ Infix H))}
    (p : PartsCovered reading at start before behind between first next one two) (level : ℤ) where
  abbrev units : List T → ℕ
  units = reading.units

  abbrev Here : Input T → Type 0
  Here i = Within reading at start i

  abbrev Q : Type 0
  Q = step.Q p level

  abbrev O : Operators T V (Prefix F) (Postfix G) (Infix H)
  O = step.O p level

  abbrev Folds : Folding T V F H
  Folds = step.Folds p level

  abbrev Parts : Grammar S W T V F G H
  Parts = step.Parts p level

  abbrev full : S × W → Q
  full s = (s.0, s.1, level)

  -- an open operator is folded
  pub closed : (o : Prefix F ⊎ (V × Infix H)) (turn : ℕ) (i : Input T) (v : V) (a : Answer V)
      (j : Input T) → Here i → Closes Folds (operator_kept o) turn i v a j
      → FoldsOpen O at o turn (left_of i) v (outcome_of a (left_of j)) × Here j
  closed (inl x) turn i v a j here folds = (
    (i, a, j, here.setting, refl, folds, refl),
    within_end here (p.folds.before at.form x.1 i v a j folds),
  )
  closed (inr o) turn i v a j here (inl (k, folds, e)) =
      let P : Answer V → Type 0 = λ b. checked units turn at (outcome_of (Err k) (left_of j))
      (outcome_of b (left_of j)) in (
        (
          outcome_of (Err k) (left_of j),
          (i, Err k, j, here.setting, refl, folds, refl),
          subst P (sym e) (checked_error V units turn at k (left_of j)),
        ),
        within_end here (p.folds.between at.form (fold_of o.1) i o.0 v (Err k) j folds),
      )
  closed (inr o) turn i v a j here (inr (inl (value, folds, still, e))) = (
    (
      took value (left_of j),
      (i, Ok value, j, here.setting, refl, folds, refl),
      inl (still, gave (left_of j) e ∙ misuse at (left_of j)),
    ),
    within_end here (p.folds.between at.form (fold_of o.1) i o.0 v (Ok value) j folds),
  )
  closed (inr o) turn i v a j here (inr (inr (value, folds, moved, e))) = (
    (
      took value (left_of j),
      (i, Ok value, j, here.setting, refl, folds, refl),
      inr (moved, gave (left_of j) e),
    ),
    within_end here (p.folds.between at.form (fold_of o.1) i o.0 v (Ok value) j folds),
  )

  -- an interrupted call ends
  pub join_ended : (d : Open V (Prefix F) (Infix H)) (b a : Answer (V × Bool)) (s t : S × W)
      (i j : Input T) → Here i → ResumeEnds Parts (kept d) b i a j → t ≡ s
      → JoinEnds O at d (outcome_of b (full s, left_of i)) (outcome_of a (full t, left_of j))
      × Here j
  join_ended d b a s t i j here (inl (k, e, f, put)) is =
      let P : Answer (V × Bool) → Answer (V × Bool) → S × W → Input T → Type 0 = λ b a t j.
      JoinEnds O at d (outcome_of b (full s, left_of i)) (outcome_of a (full t, left_of j)) in (
        subst (λ b. P b a t j) (sym e) (subst (λ a. P (Err k) a t j) (sym f)
            (subst (λ t. P (Err k) (Err k) t j) (sym is)
            (subst (λ j. P (Err k) (Err k) s j) (sym put) (by k)))),
        within_same put here,
      )
    where
      by : (k : Kind) → JoinEnds O at d (outcome_of (Err k) (full s, left_of i))
          (outcome_of (Err k) (full s, left_of i))
      by backtrack = refl
      by cut = refl
      by (incomplete need) = refl
      by memory = refl
  join_ended d b a s t i j here (inr (inl (right, all, k, e, closes, f))) is =
      let c = closed d.operator d.call.turn i right (Err k) j here closes in
      let P : Answer (V × Bool) → Type 0 = λ b.
      JoinEnds O at d (outcome_of b (full s, left_of i)) (outcome_of a (full t, left_of j)) in
      let E : Answer (V × Bool) → S × W → Type 0 = λ a t. all_end (full s) all
      (outcome_of (Err k) (left_of j)) (outcome_of a (full t, left_of j)) in (
        subst P (sym e) (
          outcome_of (Err k) (left_of j),
          c.0,
          subst (λ a. E a t) (sym f) (subst (λ t. E (Err k) t) (sym is) (by k)),
        ),
        c.1,
      )
    where
      by : (k : Kind) → all_end (full s) all (outcome_of {O = V} (Err k) (left_of j))
          (outcome_of (Err k) (full s, left_of j))
      by backtrack = refl
      by cut = refl
      by (incomplete need) = refl
      by memory = refl
  join_ended d b a s t i j here (inr (inr (right, value, e, closes, f))) is =
      let c = closed d.operator d.call.turn i right (Ok value) j here closes in
      let P : Answer (V × Bool) → Type 0 = λ b.
      JoinEnds O at d (outcome_of b (full s, left_of i)) (outcome_of a (full t, left_of j)) in
      let E : S × W → Outcome (End Q T) (V × Bool) =
      λ t. took (value, true) (full t, left_of j) in (
        subst P (sym e)
            (took value (left_of j), c.0, gave (full t, left_of j) f ∙ ap E is),
        c.1,
      )
