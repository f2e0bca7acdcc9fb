-- The outcomes of parts and folds, as runs.
use Rattle.std.specs.Prelude.{◌≡◌, ◌⊎◌, ℕ, ℤ, Bool, List, Option, Ok, Err}
use Rattle.std.proofs.Common.{refl, sym, subst, ap, ◌∙◌, inl, inr}
use Rattle.streams.specs.Input.{Input, IsEndOf}
use Rattle.streams.specs.Kind.{Kind, backtrack, cut, incomplete, memory}
use Rattle.streams.specs.Reading.{Reading}
use Rattle.stream_errors.specs.Form.{Answer, assert_kind}
use Rattle.parser_definitions.specs.Does.{Ran}
use Rattle.parser_definitions.specs.Expression.{FoldsOpen, Operators, all_end, checked, fails_as}
use Rattle.parser_definitions.specs.Left.{End, Left, left_of}
use Rattle.parser_definitions.specs.Outcome.{Does, Outcome, Setting}
use Rattle.parser_definitions.specs.Outcome.{outcome_of, took}
use Rattle.parser_definitions.specs.Places.{FirstDoes, NextDoes}
use Rattle.parser_definitions.specs.Then.Steps.{In}
use Rattle.winnow_core.specs.Settings.{at_end}
use Rattle.winnow_core.specs.Runs.{Runs}
use Rattle.winnow_expression.specs.Covers.Steps.{misuse}
use Rattle.winnow_expression.specs.Covers.Opens.{operator_kept}
use Rattle.winnow_expression.specs.Definition.{Folded, operators}
use Rattle.winnow_expression.specs.Did.{Came, came_in, here, is_here}
use Rattle.winnow_expression.specs.Did.Parts.{as_first, as_next, first_came, next_came}
use Rattle.winnow_expression.specs.Ending.{Ending}
use Rattle.winnow_expression.specs.Folds.{DoesBinary, DoesUnary, FoldsLeaveEnds}
use Rattle.winnow_expression.specs.Grammar.{Closes, Folding, Grammar, folding, grammar}
use Rattle.winnow_expression.specs.Operators.{fold_of}
use Rattle.winnow_expression.specs.Places.{FirstRuns, NextRuns}
use Rattle.winnow_expression.specs.Units.{units_left}
use Rattle.winnow_expression.specs.declared.combinator.operators.Infix.{Infix}
use Rattle.winnow_expression.specs.declared.combinator.operators.Postfix.{Postfix}
use Rattle.winnow_expression.specs.declared.combinator.operators.Prefix.{Prefix}
use Rattle.winnow_expression.specs.declared.combinator.places.First.{First}
use Rattle.winnow_expression.specs.declared.combinator.places.Next.{Next}

-- ---- outcomes of folds

-- A fold with this outcome.
abbrev pub FoldCame : {T V : Type 0} → Setting → (Answer V → Input T → Type 0) → Outcome (Left T) V
    → Type 0
FoldCame {T} {V} at R z = (a : Answer V) × (k : Left T) × R a (here at k) × (z ≡ outcome_of a k)

pub folded : {T L V : Type 0} {reading : Reading T L} {at : Setting}
    {runs : Input T → Answer V → Input T → Type 0} {m : Left T} {z : Outcome (Left T) V}
    → ((i : Input T) (a : Answer V) (j : Input T) → runs i a j → IsEndOf reading j i)
    → Folded at m runs z → FoldCame at (λ a j. runs (here at m) a j) z
folded {at = at} {runs} ends (i, a, j, start, is, r, e) =
    let end = at_end start (ends i a j r) in (
      a,
      left_of j,
      subst (λ x. runs x a (here at (left_of j)))
          (is_here at start.more start.possible ∙ ap (λ w. here at w) is)
          (subst (λ x. runs i a x) (is_here at end.more end.possible) r),
      e,
    )

-- a fold of a turn that is to consume something
abbrev pub Checks : {T V : Type 0} → (List T → ℕ) → Kind → ℕ → (Answer V → Input T → Type 0)
    → Answer V → Input T → Type 0
Checks {V = V} units refusal turn R a j =
    ((kind : Kind) × R (Err kind) j × (a ≡ Err kind))
    ⊎ (((value : V) × R (Ok value) j × (units_left units j ≡ turn) × (a ≡ Err refusal))
    ⊎ ((value : V) × R (Ok value) j × (units_left units j ≡ turn → ⊥) × (a ≡ Ok value)))

pub checks : {T V : Type 0} (at : Setting) (units : List T → ℕ) (turn : ℕ)
    (R : Answer V → Input T → Type 0) {u z : Outcome (Left T) V} → FoldCame at R u
    → checked units turn at u z → FoldCame at (Checks units (assert_kind at.form) turn R) z
checks {T} {V} at units turn R {z = z} (a, k, r, is) c =
    by a r (subst (λ u. checked units turn at u z) is c)
  where
    by : (a : Answer V) → R a (here at k) → checked units turn at (outcome_of a k) z
        → FoldCame at (Checks units (assert_kind at.form) turn R) z
    by (Ok v) r (inl (still, e)) =
        (Err (assert_kind at.form), k, inr (inl (v, r, still, refl)), e ∙ sym (misuse at k))
    by (Ok v) r (inr (moved, e)) = (Ok v, k, inr (inr (v, r, moved, refl)), e)
    by (Err backtrack) r e = (Err backtrack, k, inl (backtrack, r, refl), e)
    by (Err cut) r e = (Err cut, k, inl (cut, r, refl), e)
    by (Err (incomplete need)) r e =
        (Err (incomplete need), k, inl (incomplete need, r, refl), e)
    by (Err memory) r e = (Err memory, k, inl (memory, r, refl), e)

-- the run of an output
pub took_came : {T V : Type 0} (at : Setting) (R : Answer V → Input T → Type 0) {v : V} {l : Left T}
    → FoldCame at R (took v l) → R (Ok v) (here at l)
took_came at R {v} {l} (Ok o, k, r, e) =
    let value : o ≡ v = cc in
    let rest : k ≡ l = cc in
    subst (λ x. R (Ok x) (here at l)) value (subst (λ x. R (Ok o) (here at x)) rest r)
took_came at R (Err backtrack, k, r, e) = absurd (cc)
took_came at R (Err cut, k, r, e) = absurd (cc)
took_came at R (Err (incomplete need), k, r, e) = absurd (cc)
took_came at R (Err memory, k, r, e) = absurd (cc)

pub fails_is : {Q T U : Type 0} (V : Type 0) (q : Q) (k : Kind) (l : Left T) (y : Outcome (End Q
    T) U)
    → fails_as {V = V} q (outcome_of (Err k) l) y → y ≡ outcome_of (Err k) (q, l)
fails_is V q backtrack l y e = e
fails_is V q cut l y e = e
fails_is V q (incomplete need) l y e = e
fails_is V q memory l y e = e

pub all_is : {Q T V : Type 0} (q : Q) (all : Bool) (k : Kind) (l : Left T)
    (y : Outcome (End Q T) (V × Bool)) → all_end {V = V} q all (outcome_of (Err k) l) y
    → y ≡ outcome_of (Err k) (q, l)
all_is q all backtrack l y e = e
all_is q all cut l y e = e
all_is q all (incomplete need) l y e = e
all_is q all memory l y e = e

-- ---- two parts

-- The outcomes of the parts are those of runs, and folds leave suffixes of their input.
pub record PartsCame {S W T L V F G H : Type 0} (reading : Reading T L) (at : Setting)
    (before : DoesUnary F T V) (behind : DoesUnary G T V) (between : DoesBinary H T V)
    (first : Runs S T (First V F))
    (next : Runs W T (Next G H)) (one : Does S T (V ⊎ Prefix F))
    (two : Does W T (Option (Postfix G ⊎ Infix H))) : Type 0 where
  pub reads_first : (s : S) (w : Left T) (y : Outcome (End S T) (V ⊎ Prefix F)) → one at s w y
      → Came at (λ a t j. first s (here at w) (as_first a) t j) y
  pub reads_next : (s : W) (w : Left T) (y : Outcome (End W T) (Option (Postfix G ⊎ Infix H)))
      → two at s w y → Came at (λ a t j. next s (here at w) (as_next a) t j) y
  pub folds : FoldsLeaveEnds reading before behind between

module _ {S W T L V F G H : Type 0} {reading : Reading T L} {at : Setting}
    {before : DoesUnary F T V} {behind : DoesUnary G T V} {between : DoesBinary H T V}
    {first : Runs S T (First V F)} {next : Runs W T (Next G H)} {one : Does S T (V ⊎ Prefix F)}
    {two : Does W T (Option (Postfix G ⊎ Infix H))}
    (p : PartsCame reading at before behind between first next one two) where
  abbrev units : List T → ℕ
  units = reading.units

  abbrev pub Q : Type 0
  Q = S × W × ℤ

  abbrev pub O : Operators T V (Prefix F) (Postfix G) (Infix H)
  O = operators units before behind between

  abbrev pub Folds : Folding T V F H
  Folds = folding (before at.form) (between at.form) units (assert_kind at.form)

  abbrev pub Parts : Grammar S W T V F G H
  Parts = grammar first next (behind at.form) Folds

  abbrev pub One : Does Q T (V ⊎ Prefix F)
  One = In (λ q. q.0) (λ q u. (u, q.1, q.2)) one

  abbrev pub Two : Does Q T (Option (Postfix G ⊎ Infix H))
  Two = In (λ q. q.1) (λ q u. (q.0, u, q.2)) two

  abbrev pub FirstAt : Q → Left T → Answer (V ⊎ Prefix F) → Q → Input T → Type 0
  FirstAt q w a t j =
      first q.0 (here at w) (as_first a) t.0 j × (t.1 ≡ q.1) × (t.2 ≡ q.2)

  abbrev pub NextAt : Q → Left T → Answer (Option (Postfix G ⊎ Infix H)) → Q → Input T → Type 0
  NextAt q w a t j = next q.1 (here at w) (as_next a) t.1 j × (t.0 ≡ q.0) × (t.2 ≡ q.2)

  pub first_at : (q : Q) (w : Left T) (y : Outcome (End Q T) (V ⊎ Prefix F)) → One at q w y
      → Came at (FirstAt q w) y
  first_at q w y (x, d, is) =
      came_in at (λ q u. (u, q.1, q.2)) q w {R = λ a t j. first q.0 (here at w) (as_first a) t j}
      (FirstAt q w) (λ a t j r. (r, refl, refl)) x y (p.reads_first q.0 w x d) is

  pub next_at : (q : Q) (w : Left T) (y : Outcome (End Q T) (Option (Postfix G ⊎ Infix H)))
      → Two at q w y → Came at (NextAt q w) y
  next_at q w y (x, d, is) =
      came_in at (λ q u. (q.0, u, q.2)) q w {R = λ a t j. next q.1 (here at w) (as_next a) t j}
      (NextAt q w) (λ a t j r. (r, refl, refl)) x y (p.reads_next q.1 w x d) is

  -- ---- open operators

  pub closed : (x : Prefix F ⊎ (V × Infix H)) (turn : ℕ) (m : Left T) (v : V)
      (z : Outcome (Left T) V) → FoldsOpen O at x turn m v z
      → FoldCame at (λ a j. Closes Folds (operator_kept x) turn (here at m) v a j) z
  closed (inl x) turn m v z f = folded (λ i a j. p.folds.before at.form x.1 i v a j) f
  closed (inr o) turn m v z (u, f, c) =
      checks at units turn (λ b j. between at.form (fold_of o.1) (here at m) o.0 v b j)
      (folded (λ i a j. p.folds.between at.form (fold_of o.1) i o.0 v a j) f) c

-- the four parts of an expression
pub four_parts : {S1 S2 S3 S4 T V L F G H : Type 0} (reading : Reading T L) (at : Setting)
    {before : DoesUnary F T V} {behind : DoesUnary G T V} {between : DoesBinary H T V}
    (d1 : Does S1 T V) (d2 : Does S2 T (Prefix F)) (d3 : Does S3 T (Postfix G))
    (d4 : Does S4 T (Infix H)) → FoldsLeaveEnds reading before behind between
    → PartsCame reading at before behind between
    (FirstRuns (Ran reading d1 at.form) (Ran reading d2 at.form))
    (NextRuns reading.units (Ran reading d3 at.form) (Ran reading d4 at.form))
    (FirstDoes (Ending reading d1) (Ending reading d2))
    (NextDoes reading.units (Ending reading d3) (Ending reading d4))
four_parts reading at d1 d2 d3 d4 folds = record {
  reads_first = first_came reading at d1 d2;
  reads_next = next_came reading at d3 d4;
  folds = folds;
}
