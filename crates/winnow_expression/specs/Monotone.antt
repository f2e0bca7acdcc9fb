-- Trees over other parts and folds: which outcomes they have too, and how they fail.
use Rattle.std.specs.Prelude.{◌≡◌, ◌⊎◌, ⊤, ℕ, ℤ, Bool, true, false, Option, Some, None}
use Rattle.std.proofs.Common.{sym, subst, inl, inr}
use Rattle.stream_errors.specs.Form.{ErrorForm, assert_kind, modal, plain}
use Rattle.streams.specs.Kind.{Kind, backtrack, cut, incomplete, memory}
use Rattle.parser_definitions.specs.Expression.{Binary, Call, FoldsOpen, JoinDoes, JoinEnds, Open}
use Rattle.parser_definitions.specs.Expression.{Operators, TailDoes, TreeDoes, TreesDo, Unary}
use Rattle.parser_definitions.specs.Expression.{all_end, call_at, checked, fails_as, first_last}
use Rattle.parser_definitions.specs.Expression.{join_ends, join_goes, next_last, opened, tail_ends}
use Rattle.parser_definitions.specs.Expression.{tail_infix, tail_postfix, tree_ends, tree_operand}
use Rattle.parser_definitions.specs.Expression.{tree_prefix, tree_value}
use Rattle.parser_definitions.specs.Left.{End, Left}
use Rattle.parser_definitions.specs.Outcome.{Does, Outcome, Setting, asks, backs, cuts}
use Rattle.parser_definitions.specs.Outcome.{misused_by, took, wants}
use Rattle.parser_definitions.specs.Then.{ComesOf, Then}
use Rattle.parser_definitions.specs.Then.Steps.{instead, same, where_took}

-- a failure has a kind that is allowed
abbrev pub Fine : {L O : Type 0} → (Kind → Type 0) → Outcome L O → Type 0
Fine allowed (took o l) = ⊤
Fine allowed (backs l) = allowed backtrack
Fine allowed (cuts l) = allowed cut
Fine allowed (asks need l) = allowed (incomplete need)
Fine allowed wants = ⊤

-- The outcome is a failure that the other folds do not have.
abbrev pub Ends : {T L O : Type 0} → (Kind → Left T → Type 0) → (L → Left T) → Outcome L O → Type 0
Ends refused of (took o l) = ⊥
Ends refused of (backs l) = refused backtrack (of l)
Ends refused of (cuts l) = refused cut (of l)
Ends refused of (asks need l) = refused (incomplete need) (of l)
Ends {T} refused of wants = (l : Left T) × refused memory l

pub any_fine : {L O : Type 0} (y : Outcome L O) → Fine (λ k. ⊤) y
any_fine (took o l) = tt
any_fine (backs l) = tt
any_fine (cuts l) = tt
any_fine (asks need l) = tt
any_fine wants = tt

pub no_ends : {X T Q V : Type 0} (y : Outcome (End Q T) V)
    → Ends {T = T} (λ k l. ⊥) (λ e. e.1) y → X
no_ends (took o l) none = absurd none
no_ends (backs l) none = absurd none
no_ends (cuts l) none = absurd none
no_ends (asks need l) none = absurd none
no_ends wants none = absurd none.1

module _ {Q T V X Y Z : Type 0} (g : Operators T V X Y Z) (one other_one : Does Q T (V ⊎ X))
    (two other_two : Does Q T (Option (Y ⊎ Z))) (before : Unary X T V) (behind : Unary Y T V)
    (between : Binary Z T V) (at : Setting) (Allowed : Kind → Type 0)
    (Refused : Kind → Left T → Type 0) where
  abbrev other : Operators T V X Y Z
  other = record g { before = before; behind = behind; between = between }

  abbrev Folded : (R M : Outcome (Left T) V → Type 0) → Type 0
  Folded R M = (z : Outcome (Left T) V) → R z → (M z × Fine Allowed z) ⊎ Ends Refused (λ l. l) z

  -- The outcomes of parts and folds are those of the others, and fail with an allowed kind, but for
  -- folds that fail otherwise.
  pub record Maps : Type 0 where
    pub firsts : (q : Q) (w : Left T) (y : Outcome (End Q T) (V ⊎ X)) → one at q w y
        → other_one at q w y × Fine Allowed y
    pub nexts : (q : Q) (w : Left T) (y : Outcome (End Q T) (Option (Y ⊎ Z))) → two at q w y
        → other_two at q w y × Fine Allowed y
    pub befores : (x : X) (m : Left T) (v : V)
        → Folded (λ z. g.before at x m v z) (λ z. before at x m v z)
    pub behinds : (p : Y) (m : Left T) (v : V)
        → Folded (λ z. g.behind at p m v z) (λ z. behind at p m v z)
    pub betweens : (o : Z) (m : Left T) (v r : V)
        → Folded (λ z. g.between at o m v r z) (λ z. between at o m v r z)
    pub misuses : Allowed (assert_kind at.form)

  module _ (up : Maps) where
    fine_as : {L O : Type 0} {y z : Outcome L O} → y ≡ z → Fine Allowed z → Fine Allowed y
    fine_as e fine = subst (λ x. Fine Allowed x) (sym e) fine

    ends_as : {L O : Type 0} (of : L → Left T) {y z : Outcome L O} → y ≡ z → Ends Refused of z
        → Ends Refused of y
    ends_as of e ends = subst (λ x. Ends Refused of x) (sym e) ends

    misused_fine : {L : Type 0} (O : Type 0) (l : L) → Fine {O = O} Allowed (misused_by at.form l)
    misused_fine O l = by at.form up.misuses
      where
        by : (form : ErrorForm) → Allowed (assert_kind form)
            → Fine {O = O} Allowed (misused_by form l)
        by modal told = told
        by plain told = told

    -- ---- folds

    checked_fine : (turn : ℕ) (u z : Outcome (Left T) V) → Fine Allowed u
        → checked g.units turn at u z
        → Fine Allowed z
    checked_fine turn (took v k) z fine (inl (still, e)) = fine_as e (misused_fine V k)
    checked_fine turn (took v k) z fine (inr (moved, e)) = fine_as e tt
    checked_fine turn (backs k) z fine e = fine_as e fine
    checked_fine turn (cuts k) z fine e = fine_as e fine
    checked_fine turn (asks need k) z fine e = fine_as e fine
    checked_fine turn wants z fine e = fine_as e fine

    checked_ends : (turn : ℕ) (u z : Outcome (Left T) V) → Ends Refused (λ l. l) u
        → checked g.units turn at u z → Ends Refused (λ l. l) z
    checked_ends turn (took v k) z ends c = absurd ends
    checked_ends turn (backs k) z ends e = ends_as (λ l. l) e ends
    checked_ends turn (cuts k) z ends e = ends_as (λ l. l) e ends
    checked_ends turn (asks need k) z ends e = ends_as (λ l. l) e ends
    checked_ends turn wants z ends e = ends_as (λ l. l) e ends

    -- of a turn that is to consume something
    turn_maps : (turn : ℕ) (R M : Outcome (Left T) V → Type 0) → Folded R M
        → Folded (λ z. (u : Outcome (Left T) V) × R u × checked g.units turn at u z)
        (λ z. (u : Outcome (Left T) V) × M u × checked g.units turn at u z)
    turn_maps turn R M folds z (u, f, c) = elim (folds u f) [
      | inl (more, fine) ↦ inl ((u, more, c), checked_fine turn u z fine c)
      | inr ends ↦ inr (checked_ends turn u z ends c)
    ]

    open_maps : (x : X ⊎ (V × Z)) (turn : ℕ) (m : Left T) (v : V)
        → Folded (λ z. FoldsOpen g at x turn m v z) (λ z. FoldsOpen other at x turn m v z)
    open_maps (inl x) turn m v z f = up.befores x m v z f
    open_maps (inr o) turn m v z f =
        turn_maps turn (λ u. g.between at o.1 m o.0 v u) (λ u. between at o.1 m o.0 v u)
        (up.betweens o.1 m o.0 v) z f

    -- ---- the ends of calls

    fails_fine : {U : Type 0} (q : Q) (z : Outcome (Left T) V) (y : Outcome (End Q T) U)
        → Fine Allowed z
        → fails_as q z y → Fine Allowed y
    fails_fine q (took v k) y fine e = absurd e
    fails_fine q (backs k) y fine e = fine_as e fine
    fails_fine q (cuts k) y fine e = fine_as e fine
    fails_fine q (asks need k) y fine e = fine_as e fine
    fails_fine q wants y fine e = fine_as e fine

    fails_ends : {U : Type 0} (q : Q) (z : Outcome (Left T) V) (y : Outcome (End Q T) U)
        → Ends Refused (λ l. l) z → fails_as q z y → Ends Refused (λ e. e.1) y
    fails_ends q (took v k) y ends e = absurd e
    fails_ends q (backs k) y ends e = ends_as (λ e. e.1) e ends
    fails_ends q (cuts k) y ends e = ends_as (λ e. e.1) e ends
    fails_ends q (asks need k) y ends e = ends_as (λ e. e.1) e ends
    fails_ends q wants y ends e = ends_as (λ e. e.1) e ends

    all_fine : (q : Q) (all : Bool) (z : Outcome (Left T) V) (y : Outcome (End Q T) (V × Bool))
        → Fine Allowed z → all_end q all z y → Fine Allowed y
    all_fine q true (took v k) y fine e = fine_as e tt
    all_fine q false (took v k) y fine e = absurd e
    all_fine q all (backs k) y fine e = fine_as e fine
    all_fine q all (cuts k) y fine e = fine_as e fine
    all_fine q all (asks need k) y fine e = fine_as e fine
    all_fine q all wants y fine e = fine_as e fine

    all_ends : (q : Q) (all : Bool) (z : Outcome (Left T) V) (y : Outcome (End Q T) (V × Bool))
        → Ends Refused (λ l. l) z → all_end q all z y → Ends Refused (λ e. e.1) y
    all_ends q all (took v k) y ends e = absurd ends
    all_ends q all (backs k) y ends e = ends_as (λ e. e.1) e ends
    all_ends q all (cuts k) y ends e = ends_as (λ e. e.1) e ends
    all_ends q all (asks need k) y ends e = ends_as (λ e. e.1) e ends
    all_ends q all wants y ends e = ends_as (λ e. e.1) e ends

    first_fine : (q : Q) (w : Left T) (x : Outcome (End Q T) (V ⊎ X))
        (y : Outcome (End Q T) (V × Bool)) → Fine Allowed x
        → ComesOf {Q = Q} (where_took instead (first_last g.units)) at q w x y → Fine Allowed y
    first_fine q w (took (inl v) e) y fine c = absurd c
    first_fine q w (took (inr x) e) y fine (inl (less, is)) = fine_as is tt
    first_fine q w (took (inr x) e) y fine (inr (still, is)) =
        fine_as is (misused_fine (V × Bool) e)
    first_fine q w (backs e) y fine is = fine_as is fine
    first_fine q w (cuts e) y fine is = fine_as is fine
    first_fine q w (asks need e) y fine is = fine_as is fine
    first_fine q w wants y fine is = fine_as is fine

    tail_ended : (call : Call) (v : V) (q : Q) (w : Left T) (y : Outcome (End Q T) (V × Bool))
        → Then same two (where_took instead (next_last g call v)) at q w y
        → (TailDoes other other_one other_two at call v q w y × Fine Allowed y)
        ⊎ Ends Refused (λ e. e.1) y
    tail_ended call v q w y (x, d, c) = let (r, fine) = up.nexts q w x d in by x r fine c
      where
        by : (x : Outcome (End Q T) (Option (Y ⊎ Z))) → other_two at q w x → Fine Allowed x
            → ComesOf {Q = Q} (where_took instead (next_last g call v)) at q w x y
            → (TailDoes other other_one other_two at call v q w y × Fine Allowed y)
            ⊎ Ends Refused (λ e. e.1) y
        by (took None e) r fine is = inl (tail_ends (took None e, r, is), fine_as is tt)
        by (took (Some (inl p)) e) r fine (inl (less, is)) =
            inl (tail_ends (took (Some (inl p)) e, r, inl (less, is)), fine_as is tt)
        by (took (Some (inl p)) e) r fine (inr (reaches, (z, f, fails))) =
            elim (turn_maps (g.units w.tokens) (λ u. g.behind at p e.1 v u)
            (λ u. behind at p e.1 v u) (up.behinds p e.1 v) z f) [
              | inl (more, told) ↦ inl (
                tail_ends (took (Some (inl p)) e, r, inr (reaches, (z, more, fails))),
                fails_fine e.0 z y told fails,
              )
              | inr ends ↦ inr (fails_ends e.0 z y ends fails)
            ]
        by (took (Some (inr o)) e) r fine (inl (less, is)) =
            inl (tail_ends (took (Some (inr o)) e, r, inl (less, is)), fine_as is tt)
        by (took (Some (inr o)) e) r fine (inr (reaches, inl (meets, is))) =
            inl (
              tail_ends (took (Some (inr o)) e, r, inr (reaches, inl (meets, is))),
              fine_as is tt,
            )
        by (took (Some (inr o)) e) r fine (inr (reaches, inr (apart, inl (still, is)))) = inl (
          tail_ends (took (Some (inr o)) e, r, inr (reaches, inr (apart, inl (still, is)))),
          fine_as is (misused_fine (V × Bool) e),
        )
        by (took (Some (inr o)) e) r fine (inr (reaches, inr (apart, inr (moved, is)))) = inl (
          tail_ends (took (Some (inr o)) e, r, inr (reaches, inr (apart, inr (moved, is)))),
          fine_as is tt,
        )
        by (backs e) r fine is = inl (tail_ends (backs e, r, is), fine_as is fine)
        by (cuts e) r fine is = inl (tail_ends (cuts e, r, is), fine_as is fine)
        by (asks need e) r fine is = inl (tail_ends (asks need e, r, is), fine_as is fine)
        by wants r fine is = inl (tail_ends (wants, r, is), fine_as is fine)

    join_ended : (x : Open V X Z) (z y : Outcome (End Q T) (V × Bool)) → JoinEnds g at x z y
        → Fine Allowed z
        → (JoinDoes other other_one other_two at x z y × Fine Allowed y) ⊎ Ends Refused (λ e. e.1) y
    join_ended x (took r end) y (u, f, c) fine =
        elim (open_maps x.operator x.call.turn end.1 r.0 u f) [
          | inl (more, told) ↦ inl (join_ends (u, more, c), all_fine end.0 r.1 u y told c)
          | inr ends ↦ inr (all_ends end.0 r.1 u y ends c)
        ]
    join_ended x (backs end) y e fine = inl (join_ends e, fine_as e fine)
    join_ended x (cuts end) y e fine = inl (join_ends e, fine_as e fine)
    join_ended x (asks need end) y e fine = inl (join_ends e, fine_as e fine)
    join_ended x wants y e fine = inl (join_ends e, fine_as e fine)

    -- where the right operand fails otherwise, so does the call that waits for it
    join_by : (x : Open V X Z) (z y : Outcome (End Q T) (V × Bool)) → JoinDoes g one two at x z y
        → Ends Refused (λ e. e.1) z → Ends Refused (λ e. e.1) y
    join_by x _ y (join_goes v r f tail) ends = absurd ends
    join_by x z y (join_ends e) ends = by z e ends
      where
        by : (z : Outcome (End Q T) (V × Bool)) → JoinEnds g at x z y → Ends Refused (λ e. e.1) z
            → Ends Refused (λ e. e.1) y
        by (took r end) e ends = absurd ends
        by (backs end) e ends = ends_as (λ e. e.1) e ends
        by (cuts end) e ends = ends_as (λ e. e.1) e ends
        by (asks need end) e ends = ends_as (λ e. e.1) e ends
        by wants e ends = ends_as (λ e. e.1) e ends

    -- ---- trees

    mutual
      tree_maps : (call : Call) (q : Q) (w : Left T) (y : Outcome (End Q T) (V × Bool))
          → TreeDoes g one two at call q w y
          → (TreeDoes other other_one other_two at call q w y × Fine Allowed y)
          ⊎ Ends Refused (λ e. e.1) y
      tree_maps call q w y (tree_operand {u = u} {m = m} v read tail) =
          elim (tail_maps call v u m y tail) [
            | inl (more, told) ↦ inl
                (tree_operand v (up.firsts q w (took (inl v) (u, m)) read).0 more, told)
            | inr ends ↦ inr ends
          ]
      tree_maps call q w y (tree_prefix {u = u} {m = m} {z = z} x read less inner joined) =
          let above : Open V X Z = record { operator = inl x; call = call } in
          elim (tree_maps (call_at (g.prefix_power x) (g.units m.tokens)) u m z inner) [
            | inl (more, told) ↦ elim (join_maps above z y joined told) [
              | inl (goes, known) ↦ inl (
                tree_prefix x (up.firsts q w (took (inr x) (u, m)) read).0 less more goes,
                known,
              )
              | inr ends ↦ inr ends
            ]
            | inr ends ↦ inr (join_by above z y joined ends)
          ]
      tree_maps call q w y (tree_ends (x, d, c)) =
          let (r, fine) = up.firsts q w x d in
          inl (tree_ends (x, r, c), first_fine q w x y fine c)

      tail_maps : (call : Call) (v : V) (q : Q) (w : Left T) (y : Outcome (End Q T) (V × Bool))
          → TailDoes g one two at call v q w y
          → (TailDoes other other_one other_two at call v q w y × Fine Allowed y)
          ⊎ Ends Refused (λ e. e.1) y
      tail_maps call v q w y (tail_postfix {u = u} {m = m} {k = k} p r read reaches f tail) =
          elim (turn_maps (g.units w.tokens) (λ z. g.behind at p m v z) (λ z. behind at p m v z)
          (up.behinds p m v) (took r k) f) [
            | inl (folds, known) ↦ elim (tail_maps call r u k y tail) [
              | inl (more, told) ↦ inl (
                tail_postfix p r (up.nexts q w (took (Some (inl p)) (u, m)) read).0 reaches folds
                    more,
                told,
              )
              | inr ends ↦ inr ends
            ]
            | inr ends ↦ absurd ends
          ]
      tail_maps call v q w y (tail_infix {u = u} {m = m} {z = z} o read accepts inner joined) =
          let above : Open V X Z = opened g call v o w in
          elim (tree_maps (call_at (g.right_power o) (g.units m.tokens)) u m z inner) [
            | inl (more, told) ↦ elim (join_maps above z y joined told) [
              | inl (goes, known) ↦ inl (
                tail_infix o (up.nexts q w (took (Some (inr o)) (u, m)) read).0 accepts more goes,
                known,
              )
              | inr ends ↦ inr ends
            ]
            | inr ends ↦ inr (join_by above z y joined ends)
          ]
      tail_maps call v q w y (tail_ends d) = tail_ended call v q w y d

      join_maps : (x : Open V X Z) (z y : Outcome (End Q T) (V × Bool))
          → JoinDoes g one two at x z y → Fine Allowed z
          → (JoinDoes other other_one other_two at x z y × Fine Allowed y)
          ⊎ Ends Refused (λ e. e.1) y
      join_maps x _ y (join_goes {q = q} {m = m} {k = k} v r f tail) told =
          elim (open_maps x.operator x.call.turn m v (took r k) f) [
            | inl (folds, known) ↦ elim (tail_maps x.call r q k y tail) [
              | inl (more, fine) ↦ inl (join_goes v r folds more, fine)
              | inr ends ↦ inr ends
            ]
            | inr ends ↦ absurd ends
          ]
      join_maps x z y (join_ends e) told = join_ended x z y e told

    pub trees_map : (level : ℤ) (q : Q) (w : Left T) (y : Outcome (End Q T) V)
        → TreesDo g one two level at q w y
        → (TreesDo other other_one other_two level at q w y × Fine Allowed y)
        ⊎ Ends Refused (λ e. e.1) y
    trees_map level q w y (x, d, c) = elim (tree_maps (call_at level (g.units w.tokens)) q w x d) [
      | inl (more, told) ↦ inl ((x, more, c), by x c told)
      | inr ends ↦ inr (otherwise x c ends)
    ]
      where
        by : (x : Outcome (End Q T) (V × Bool))
            → ComesOf {Q = Q} (tree_value {V = V}) at q w x y → Fine Allowed x → Fine Allowed y
        by (took o e) is fine = fine_as is fine
        by (backs e) is fine = fine_as is fine
        by (cuts e) is fine = fine_as is fine
        by (asks need e) is fine = fine_as is fine
        by wants is fine = fine_as is fine

        otherwise : (x : Outcome (End Q T) (V × Bool))
            → ComesOf {Q = Q} (tree_value {V = V}) at q w x y → Ends Refused (λ e. e.1) x
            → Ends Refused (λ e. e.1) y
        otherwise (took o e) is ends = absurd ends
        otherwise (backs e) is ends = ends_as (λ e. e.1) is ends
        otherwise (cuts e) is ends = ends_as (λ e. e.1) is ends
        otherwise (asks need e) is ends = ends_as (λ e. e.1) is ends
        otherwise wants is ends = ends_as (λ e. e.1) is ends
