-- A repetition of any number of items calls its parser at most once a unit, and once more.
use Rattle.std.specs.List.{FoldsTo}
use Rattle.std.specs.Prelude.{⊤}
use Rattle.std.proofs.Common.{◌≡◌, ◌<◌, ◌≤◌, ◌+◌, ℕ, List, [], ◌∷◌, length, Option, Some, None}
use Rattle.std.proofs.Common.{refl, sym, subst, ap, inl, inr, arith}
use Rattle.streams.specs.Equal.{none_is_some}
use Rattle.streams.specs.Reading.{Reading}
use Rattle.stream_errors.specs.Form.{ErrorForm, modal, plain}
use Rattle.stream_sets.specs.Accumulator.{Accumulator}
use Rattle.stream_sets.specs.Range.{Bounds, bounds_of, from_to}
use Rattle.stream_sets.specs.declared.range.Range.{Range}
use Rattle.parser_definitions.specs.Consumes.{Item}
use Rattle.parser_definitions.specs.Folding.{Folding, gathering}
use Rattle.parser_definitions.specs.Items.{ItemsTurn}
use Rattle.parser_definitions.specs.Left.{End, Left}
use Rattle.parser_definitions.specs.Loop.{LoopDoes, Turn, again, continues, last, returns}
use Rattle.parser_definitions.specs.Outcome.{Does, Outcome, Setting, asks, backs, cuts, misused_by}
use Rattle.parser_definitions.specs.Outcome.{took, wants}
use Rattle.parser_definitions.specs.Repeat.{RepeatDoes, Repeated}
use Rattle.parser_definitions.specs.Then.Steps.{first, with_first}
use Rattle.winnow_repeat.specs.Turns.{AddsItem, LastTurn}
use Rattle.winnow_repeat.specs.RepeatLaws.{EndsOnceAUnit, RunsAtMostOnceAUnit}
use Rattle.winnow_repeat.proofs.RepeatLemmas.{length-units}

-- an item that is added consumes
abbrev Fewer : {S T O : Type 0} → Left T → Outcome (End S T) (Option O) → Type 0
Fewer w (took (Some o) l) = length l.1.tokens < length w.tokens
Fewer w (took None l) = ⊤
Fewer w (backs l) = ⊤
Fewer w (cuts l) = ⊤
Fewer w (asks need l) = ⊤
Fewer w wants = ⊤

item_fewer : {S T O : Type 0} (does : Does S T O) (at : Setting) (s : S) (w : Left T)
    (y : Outcome (End S T) (Option O)) → Item does at s w y → Fewer w y
item_fewer does at s w y (took o l, a, inl (less, e)) = subst (λ z. Fewer w z) (sym e) less
item_fewer does at s w y (took o l, a, inr (not, e)) = subst (λ z. Fewer w z) (sym e) tt
item_fewer does at s w y (backs l, a, e) = subst (λ z. Fewer w z) (sym e) tt
item_fewer does at s w y (cuts l, a, e) = subst (λ z. Fewer w z) (sym e) tt
item_fewer does at s w y (asks need l, a, e) = subst (λ z. Fewer w z) (sym e) tt
item_fewer does at s w y (wants, a, e) = subst (λ z. Fewer w z) (sym e) tt

module _ {S Q T C O : Type 0} (get : Q → S) (put : Q → S → Q) (f : Folding Q C O)
    (bounds : Bounds) (does : Does S T O) (at : Setting) where
  abbrev Adds : C × Q × Left T → O → C × Q × Left T → Type 0
  Adds a o b = AddsItem get put f bounds (Item does) at a o b

  -- a turn that continues adds an item
  abbrev Goes : C × ℕ → Q → Left T → Outcome (End Q T) (Turn (C × ℕ) C) → Type 0
  Goes x q w (took (continues d) l) =
      (o : O) × Adds (x.0, q, w) o (d.0, l.0, l.1) × (d.1 ≡ x.1 + 1)
  Goes x q w (took (returns c) l) = ⊤
  Goes x q w (backs l) = ⊤
  Goes x q w (cuts l) = ⊤
  Goes x q w (asks need l) = ⊤
  Goes x q w wants = ⊤

  goes : (x : C × ℕ) (q : Q) (w : Left T) (y : Outcome (End Q T) (Turn (C × ℕ) C))
      → ItemsTurn get put f bounds (Item does) x at q w y → Goes x q w y
  goes x q w y (inl (full, e)) = subst (λ z. Goes x q w z) (sym e) tt
  goes x q w y (inr (less, (took None l, a, e))) =
      subst (λ z. Goes x q w z) (sym e) (by at.form)
    where
      by : (form : ErrorForm) → Goes x q w (misused_by form (put q l.0, l.1))
      by modal = tt
      by plain = tt
  goes x q w y (inr (less, (took (Some o) l, a, inl (d, u, takes, e)))) =
      subst (λ z. Goes x q w z) (sym e) (o, (l.0, a, takes), refl)
  goes x q w y (inr (less, (took (Some o) l, a, inr (inl (u, none, e))))) =
      subst (λ z. Goes x q w z) (sym e) tt
  goes x q w y (inr (less, (took (Some o) l, a, inr (inr (grows, e))))) =
      subst (λ z. Goes x q w z) (sym e) tt
  goes x q w y (inr (less, (backs l, a, inl (many, e)))) = subst (λ z. Goes x q w z) (sym e) tt
  goes x q w y (inr (less, (backs l, a, inr (few, e)))) = subst (λ z. Goes x q w z) (sym e) tt
  goes x q w y (inr (less, (cuts l, a, e))) = subst (λ z. Goes x q w z) (sym e) tt
  goes x q w y (inr (less, (asks need l, a, e))) = subst (λ z. Goes x q w z) (sym e) tt
  goes x q w y (inr (less, (wants, a, e))) = subst (λ z. Goes x q w z) (sym e) tt

  -- the items of a loop, and its last turn
  turns_done : {y : Outcome (End Q T) C} (x : C × ℕ) (q : Q) (w : Left T)
      → LoopDoes (ItemsTurn get put f bounds (Item does)) at x q w y
      → (outputs : List O) × (b : C × Q × Left T) × FoldsTo Adds (x.0, q, w) outputs b
      × LastTurn get put f bounds (Item does) (b.0, x.1 + length outputs) at b.1 b.2 y
  turns_done {y} x q w (last l) = (
    [],
    (x.0, q, w),
    refl,
    subst (λ n. LastTurn get put f bounds (Item does) (x.0, n) at q w y) (omega arith) l,
  )
  turns_done {y} x q w (again {d = d} {u = u} {m = m} turn rest) =
      let (o, adds, count) = goes x q w (took (continues d) (u, m)) turn in
      let (outputs, b, went, l) = turns_done d u m rest in (
        o ∷ outputs,
        b,
        ((d.0, u, m), adds, went),
        subst (λ n. LastTurn get put f bounds (Item does) (b.0, n) at b.1 b.2 y)
            (omega (arith, count)) l,
      )

  added_fewer : (outputs : List O) (a b : C × Q × Left T) → FoldsTo Adds a outputs b
      → length outputs + length b.2.tokens ≤ length a.2.tokens
  added_fewer [] a b e = omega (arith, ap (λ x. length x.2.tokens) e)
  added_fewer (o ∷ os) a b (c, (v, d, takes), went) = omega (
    arith,
    item_fewer does at (get a.1) a.2 (took (Some o) (v, c.2)) d,
    added_fewer os c b went,
  )

pub runs_at_most_once_a_unit : {S T L O C : Type 0} (reading : Reading T L) (does : Does S T O)
    (into : Accumulator C O)
    → RunsAtMostOnceAUnit reading.units does into (RepeatDoes into does)
runs_at_most_once_a_unit {S} {T} reading does into at s w x any did =
    let P : Range → Type 0 =
    λ r. Repeated first with_first (gathering into) does (bounds_of r) at s w x in
    by (subst P any did)
  where
    by : Repeated first with_first (gathering into) does (from_to 0 None) at s w x
        → EndsOnceAUnit reading.units does into at s w x
    by (inl (one, ran)) = absurd (omega (arith, one.0))
    by (inr (not, inl ((most, is, less), e))) = none_is_some is
    by (inr (not, inr (within, inr wanting))) = inr wanting
    by (inr (not, inr (within, inl (empty, u, (starts, kept), items)))) =
        let (outputs, b, went, l) = turns_done first with_first (gathering into) (from_to 0 None)
        does at (empty, 0) u w items in
        let Q : S × Range → Type 0 = λ q. FoldsTo
        (AddsItem first with_first (gathering into) (from_to 0 None) (Item does) at) (empty, q, w)
        outputs b in inl (
          empty,
          outputs,
          b,
          starts,
          subst Q kept went,
          subst (λ n. LastTurn first with_first (gathering into) (from_to 0 None) (Item does)
              (b.0, n) at b.1 b.2 x) (omega arith) l,
          omega (
            arith,
            added_fewer first with_first (gathering into) (from_to 0 None) does at outputs
                (empty, u, w) b went,
            length-units reading w.tokens,
          ),
        )
