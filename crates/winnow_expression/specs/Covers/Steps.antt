-- The steps of a call are covered.
use Rattle.std.specs.Prelude.{◌≡◌, ◌⊎◌, ℕ, ℤ, Bool, true, false, List, Option, Some, None, Ok, Err}
use Rattle.std.proofs.Common.{refl, sym, subst, ap, ◌∙◌, inl, inr}
use Rattle.streams.specs.Input.{Input}
use Rattle.streams.specs.Kind.{Kind, backtrack, cut, incomplete, memory}
use Rattle.streams.specs.Reading.{Reading}
use Rattle.stream_errors.specs.Form.{Answer, ErrorForm, assert_kind, modal, plain}
use Rattle.parser_definitions.specs.Expression.{Call}
use Rattle.parser_definitions.specs.Expression.{Operators}
use Rattle.parser_definitions.specs.Expression.{checked, fails_as, first_last}
use Rattle.parser_definitions.specs.Expression.{next_last}
use Rattle.parser_definitions.specs.Left.{End, Left, left_of}
use Rattle.parser_definitions.specs.Outcome.{Does, Setting, misused, misused_by}
use Rattle.parser_definitions.specs.Outcome.{outcome_of, took}
use Rattle.parser_definitions.specs.Then.{Comes, ComesOf, Then}
use Rattle.parser_definitions.specs.Then.Steps.{In, hands_on, instead, same, where_took}
use Rattle.winnow_core.specs.Results.{gave, left_at}
use Rattle.winnow_core.specs.Runs.{Runs}
use Rattle.winnow_expression.specs.Covers.{Reads, Within, within_back, within_end, within_same}
use Rattle.winnow_expression.specs.Definition.{OutputAs, first_side, made_as, next_side, operators}
use Rattle.winnow_expression.specs.Folds.{DoesBinary, DoesUnary, FoldsLeaveEnds}
use Rattle.winnow_expression.specs.Grammar.{CallEnds, Folding, Grammar, TurnEnds}
use Rattle.winnow_expression.specs.Grammar.{folding, grammar}
use Rattle.winnow_expression.specs.declared.combinator.operators.Infix.{Infix}
use Rattle.winnow_expression.specs.declared.combinator.operators.Postfix.{Postfix}
use Rattle.winnow_expression.specs.declared.combinator.operators.Prefix.{Prefix}
use Rattle.winnow_expression.specs.declared.combinator.places.First.{First}
use Rattle.winnow_expression.specs.declared.combinator.places.First.TheVariants.{
  Prefix as prefix_read,
}
use Rattle.winnow_expression.specs.declared.combinator.places.Next.{Next}
use Rattle.winnow_expression.specs.declared.combinator.places.Next.TheVariants.{Nothing}
use Rattle.winnow_expression.specs.declared.combinator.places.Next.TheVariants.{
  Postfix as postfix_read,
}
use Rattle.winnow_expression.specs.declared.combinator.places.Next.TheVariants.{Infix as infix_read}

-- ---- errors

pub misuse : {L O : Type 0} (at : Setting) (l : L)
    → outcome_of {O = O} (Err (assert_kind at.form)) l ≡ misused at l
misuse {L} {O} at l = by at.form
  where
    by : (form : ErrorForm) → outcome_of {O = O} (Err (assert_kind form)) l ≡ misused_by form l
    by modal = refl
    by plain = refl

-- an error of a part is that of the call
failed_as : {Q T O X U : Type 0} (to : O → X) (came : X → Comes Q Q T U) (at : Setting) (q : Q)
    (w : Left T) (k : Kind) (end : End Q T) (a : Answer U) → a ≡ Err k
    → ComesOf (where_took instead came) at q w (made_as to (outcome_of (Err k) end))
    (outcome_of a end)
failed_as to came at q w backtrack end a e = gave end e
failed_as to came at q w cut end a e = gave end e
failed_as to came at q w (incomplete need) end a e = gave end e
failed_as to came at q w memory end a e = gave end e

pub checked_error : {T : Type 0} (V : Type 0) (units : List T → ℕ) (turn : ℕ) (at : Setting)
    (k : Kind) (l : Left T)
    → checked {V = V} units turn at (outcome_of (Err k) l) (outcome_of (Err k) l)
checked_error V units turn at backtrack l = refl
checked_error V units turn at cut l = refl
checked_error V units turn at (incomplete need) l = refl
checked_error V units turn at memory l = refl

fails_error : {Q T U : Type 0} (V : Type 0) (q : Q) (k : Kind) (l : Left T) (a : Answer U)
    → a ≡ Err k → fails_as q (outcome_of {O = V} (Err k) l) (outcome_of a (q, l))
fails_error V q backtrack l a e = gave (q, l) e
fails_error V q cut l a e = gave (q, l) e
fails_error V q (incomplete need) l a e = gave (q, l) e
fails_error V q memory l a e = gave (q, l) e

fails_misused : {Q T U : Type 0} (V : Type 0) (form : ErrorForm) (q : Q) (l : Left T) (a : Answer U)
    → a ≡ Err (assert_kind form) → fails_as {V = V} q (misused_by form l) (outcome_of a (q, l))
fails_misused V plain q l a e = gave (q, l) e
fails_misused V modal q l a e = gave (q, l) e

-- ---- the steps of a call

-- Within a call, the parts are covered, and folds leave suffixes of their input.
pub record PartsCovered {S W T L V F G H : Type 0} (reading : Reading T L) (at : Setting)
    (start : Input T) (before : DoesUnary F T V) (behind : DoesUnary G T V)
    (between : DoesBinary H T V) (first : Runs S T (First V F)) (next : Runs W T (Next G H))
    (one : Does S T (V ⊎ Prefix F)) (two : Does W T (Option (Postfix G ⊎ Infix H))) : Type 0 where
  pub reads_first : Reads reading at start first (OutputAs first_side one)
  pub reads_next : Reads reading at start next (OutputAs next_side two)
  pub folds : FoldsLeaveEnds reading before behind between

module _ {S W T L V F G H : Type 0} {reading : Reading T L} {at : Setting}
    {start : Input T} {before : DoesUnary F T V} {behind : DoesUnary G T V}
    {between : DoesBinary H T V} {first : Runs S T (First V F)} {next : Runs W T (Next G H)}
    {one : Does S T (V ⊎ Prefix F)} {two : Does W T (Option (Postfix G ⊎ Infix H))}
    (p : PartsCovered reading at start before behind between first next one two) (level : ℤ) where
  abbrev units : List T → ℕ
  units = reading.units

  abbrev Here : Input T → Type 0
  Here i = Within reading at start i

  abbrev pub Q : Type 0
  Q = S × W × ℤ

  abbrev pub O : Operators T V (Prefix F) (Postfix G) (Infix H)
  O = operators units before behind between

  abbrev pub Folds : Folding T V F H
  Folds = folding (before at.form) (between at.form) units (assert_kind at.form)

  abbrev pub Parts : Grammar S W T V F G H
  Parts = grammar first next (behind at.form) Folds

  abbrev pub One : Does Q T (V ⊎ Prefix F)
  One = In (λ q. q.0) (λ q u. (u, q.1, q.2)) one

  abbrev pub Two : Does Q T (Option (Postfix G ⊎ Infix H))
  Two = In (λ q. q.1) (λ q u. (q.0, u, q.2)) two

  abbrev pub full : S × W → Q
  full s = (s.0, s.1, level)

  pub first_did : (s u : S × W) (i m : Input T) (a : Answer (First V F)) → Here i
      → first s.0 i a u.0 m → u.1 ≡ s.1
      → One at (full s) (left_of i) (made_as first_side (outcome_of a (full u, left_of m)))
      × Here m
  first_did s u i m a here r same =
      let d = p.reads_first.reads s.0 i a u.0 m here r in
      let P : W → Type 0 = λ w. ComesOf {Q = Q} (hands_on (λ q u. (u, q.1, q.2))) at (full s)
      (left_of i) (made_as first_side (outcome_of a (u.0, left_of m)))
      (made_as first_side (outcome_of a ((u.0, w, level), left_of m))) in (
        (made_as first_side (outcome_of a (u.0, left_of m)), d.0, subst P (sym same) (by a)),
        d.1,
      )
    where
      by : (a : Answer (First V F))
          → ComesOf {Q = Q} (hands_on (λ q u. (u, q.1, q.2))) at (full s) (left_of i)
          (made_as first_side (outcome_of a (u.0, left_of m)))
          (made_as first_side (outcome_of a ((u.0, s.1, level), left_of m)))
      by (Ok o) = refl
      by (Err backtrack) = refl
      by (Err cut) = refl
      by (Err (incomplete need)) = refl
      by (Err memory) = refl

  pub next_did : (s u : S × W) (i m : Input T) (a : Answer (Next G H)) → Here i
      → next s.1 i a u.1 m → u.0 ≡ s.0
      → Two at (full s) (left_of i) (made_as next_side (outcome_of a (full u, left_of m)))
      × Here m
  next_did s u i m a here r same =
      let d = p.reads_next.reads s.1 i a u.1 m here r in
      let P : S → Type 0 = λ z. ComesOf {Q = Q} (hands_on (λ q u. (q.0, u, q.2))) at (full s)
      (left_of i) (made_as next_side (outcome_of a (u.1, left_of m)))
      (made_as next_side (outcome_of a ((z, u.1, level), left_of m))) in (
        (made_as next_side (outcome_of a (u.1, left_of m)), d.0, subst P (sym same) (by a)),
        d.1,
      )
    where
      by : (a : Answer (Next G H))
          → ComesOf {Q = Q} (hands_on (λ q u. (q.0, u, q.2))) at (full s) (left_of i)
          (made_as next_side (outcome_of a (u.1, left_of m)))
          (made_as next_side (outcome_of a ((s.0, u.1, level), left_of m)))
      by (Ok o) = refl
      by (Err backtrack) = refl
      by (Err cut) = refl
      by (Err (incomplete need)) = refl
      by (Err memory) = refl

  -- a call ends at its beginning
  pub tree_ended : (call : Call) (s t : S × W) (i j : Input T) (k : Kind)
      (a : Answer (V × Bool)) → Here i
      → CallEnds H units first (assert_kind at.form) call s.0 i k t.0 j → t.1 ≡ s.1
      → a ≡ Err k
      → Then same One (where_took instead (first_last units)) at (full s) (left_of i)
      (outcome_of a (full t, left_of j)) × Here j
  tree_ended call s t i j k a here (inl r) is e =
      let d = first_did s t i j (Err k) here r is in (
        (
          made_as first_side (outcome_of (Err k) (full t, left_of j)),
          d.0,
          failed_as first_side (first_last units) at (full s) (left_of i) k (full t, left_of j) a e,
        ),
        d.1,
      )
  tree_ended call s t i j k a here (inr (inl (power, fold, r, still, f))) is e =
      let d = first_did s t i j (Ok (prefix_read power fold)) here r is in (
        (
          took (inr (power, fold)) (full t, left_of j),
          d.0,
          inr (
            still,
            gave (full t, left_of j) (e ∙ ap Err f) ∙ misuse at (full t, left_of j),
          ),
        ),
        d.1,
      )
  tree_ended call s t i j k a here (inr (inr (x, power, (fold, r, less, shape), f))) is e =
      let d = first_did s t i j (Ok (prefix_read power fold)) here r is in (
        (
          took (inr (power, fold)) (full t, left_of j),
          d.0,
          inl (less, gave (full t, left_of j) (e ∙ ap Err f)),
        ),
        d.1,
      )

  -- a call ends after a value
  pub tail_ended : (call : Call) (v : V) (s t : S × W) (i j : Input T) (a : Answer (V × Bool))
      → Here i
      → TurnEnds F units next (behind at.form) (assert_kind at.form) call v s.1 i a t.1 j
      → t.0 ≡ s.0
      → Then same Two (where_took instead (next_last O call v)) at (full s) (left_of i)
      (outcome_of a (full t, left_of j)) × Here j
  tail_ended call v s t i j a here (inl (r, e)) is =
      let d = next_did s t i j (Ok Nothing) here r is in
      ((took None (full t, left_of j), d.0, gave (full t, left_of j) e), d.1)
  tail_ended call v s t i j a here (inr (inl (k, r, e))) is =
      let d = next_did s t i j (Err k) here r is in (
        (
          made_as next_side (outcome_of (Err k) (full t, left_of j)),
          d.0,
          failed_as next_side (next_last O call v) at (full s) (left_of i) k
              (full t, left_of j) a e,
        ),
        d.1,
      )
  tail_ended call v s t i j a here (inr (inr (inl (power, fold, m, r, less, put, e)))) is =
      let d = next_did s t i m (Ok (postfix_read power fold)) here r is in (
        (
          took (Some (inl (power, fold))) (full t, left_of m),
          d.0,
          inl (
            less,
            gave (full t, left_of j) e ∙ left_at (full t) (Ok (v, false)) put,
          ),
        ),
        within_same put (within_back here d.1),
      )
  tail_ended call v s t i j a here
      (inr (inr (inr (inl (power, fold, m, k, r, reaches, folds, e))))) is =
      let d = next_did s t i m (Ok (postfix_read power fold)) here r is in (
        (
          took (Some (inl (power, fold))) (full t, left_of m),
          d.0,
          inr (
            reaches,
            (
              outcome_of (Err k) (left_of j),
              (
                outcome_of (Err k) (left_of j),
                (m, Err k, j, d.1.setting, refl, folds, refl),
                checked_error V units (units i.left.tokens) at k (left_of j),
              ),
              fails_error V (full t) k (left_of j) a e,
            ),
          ),
        ),
        within_end d.1 (p.folds.behind at.form fold m v (Err k) j folds),
      )
  tail_ended call v s t i j a here
      (inr (inr (inr (inr (inl (power, fold, m, value, r, reaches, folds, still, e)))))) is =
      let d = next_did s t i m (Ok (postfix_read power fold)) here r is in (
        (
          took (Some (inl (power, fold))) (full t, left_of m),
          d.0,
          inr (
            reaches,
            (
              misused at (left_of j),
              (
                took value (left_of j),
                (m, Ok value, j, d.1.setting, refl, folds, refl),
                inl (still, refl),
              ),
              fails_misused V at.form (full t) (left_of j) a e,
            ),
          ),
        ),
        within_end d.1 (p.folds.behind at.form fold m v (Ok value) j folds),
      )
  tail_ended call v s t i j a here (inr (inr (inr (inr (inr (inl (o, m, r, less, put, e))))))) is =
      let d = next_did s t i m (Ok (infix_read o)) here r is in (
        (
          took (Some (inr o)) (full t, left_of m),
          d.0,
          inl (
            less,
            gave (full t, left_of j) e ∙ left_at (full t) (Ok (v, false)) put,
          ),
        ),
        within_same put (within_back here d.1),
      )
  tail_ended call v s t i j a here
      (inr (inr (inr (inr (inr (inr (inl (o, m, r, reaches, meets, put, e)))))))) is =
      let d = next_did s t i m (Ok (infix_read o)) here r is in (
        (
          took (Some (inr o)) (full t, left_of m),
          d.0,
          inr (
            reaches,
            inl (
              meets,
              gave (full t, left_of j) e ∙ left_at (full t) (Ok (v, true)) put,
            ),
          ),
        ),
        within_same put (within_back here d.1),
      )
  tail_ended call v s t i j a here
      (inr (inr (inr (inr (inr (inr (inr (inl (o, r, reaches, apart, still, e))))))))) is =
      let d = next_did s t i j (Ok (infix_read o)) here r is in (
        (
          took (Some (inr o)) (full t, left_of j),
          d.0,
          inr (
            reaches,
            inr (
              apart,
              inl (still, gave (full t, left_of j) e ∙ misuse at (full t, left_of j)),
            ),
          ),
        ),
        d.1,
      )
  tail_ended call v s t i j a here
      (inr (inr (inr (inr (inr (inr (inr
      (inr (x, power, (o, r, reaches, apart, moved, right, shape), e))))))))) is =
      let d = next_did s t i j (Ok (infix_read o)) here r is in (
        (
          took (Some (inr o)) (full t, left_of j),
          d.0,
          inr (reaches, inr (apart, inr (moved, gave (full t, left_of j) e))),
        ),
        d.1,
      )
