-- Turns of a repetition of any number, by the calls of its items. `at` is the setting.
use Rattle.std.specs.Prelude.{◌≡◌, ◌⊎◌, ◌<◌, ℕ, List, [], ◌∷◌, length, Option, Some, None}
use Rattle.std.specs.List.{FoldsTo}
use Rattle.std.proofs.Common.{refl, sym, ap, subst, inl, inr, ◌∙◌, arith}
use Rattle.streams.specs.Equal.{none_is_some}
use Rattle.streams.specs.Kind.{Kind, backtrack, memory}
use Rattle.stream_errors.specs.Form.{assert_kind}
use Rattle.stream_sets.specs.Accumulator.{Accumulator}
use Rattle.stream_sets.specs.Range.{Bounds, IsBelow, from_to}
use Rattle.parser_definitions.specs.Consumes.{Consumes}
use Rattle.parser_definitions.specs.Folding.{gathering}
use Rattle.parser_definitions.specs.Items.{items_next}
use Rattle.parser_definitions.specs.Left.{End, Left, back}
use Rattle.parser_definitions.specs.Loop.{LoopDoes, Turn, continues, returns, again, last}
use Rattle.parser_definitions.specs.Outcome.{Does, Outcome, Setting, asks, backs, cuts, took}
use Rattle.parser_definitions.specs.Outcome.{wants}
use Rattle.parser_definitions.specs.Then.{ComesOf}
use Rattle.parser_definitions.specs.Inversion.Outcomes.{Failing, FailsAt, fails_by, misused_at}
use Rattle.parser_definitions.specs.Inversion.Outcomes.{misused_none, same_took}
use Rattle.parser_definitions.specs.Inversion.Sequences.{ThenCases, then_err, then_ok}

-- A definition of items is given by the relation `Child`, which has the outcomes of one from a
-- state
-- of the whole; `put` puts its state into the whole's.
abbrev pub Calls : Type 0 → Type 0 → Type 0 → Type 0 → Type 1
Calls S Q T O = Setting → Q → Left T → Outcome (End S T) O → Type 0

-- the output of an item, or none if it consumed nothing
abbrev pub ItemCases : {S Q T O : Type 0} → Calls S Q T O → Calls S Q T (Option O)
ItemCases Child at q w =
    ThenCases (Child at q w) (λ o a y. (Consumes w a × (y ≡ took (Some o) a))
    ⊎ ((Consumes w a → ⊥) × (y ≡ took None a))) (λ a. a.0)

-- a turn after a number of items
abbrev pub TurnCases : {S Q T C O : Type 0} → Accumulator C O → Calls S Q T O → (Q → S → Q)
    → Bounds → C × ℕ → Does Q T (Turn (C × ℕ) C)
TurnCases {S} {T = T} {O = O} into Child put bounds x at q w y =
    ((bounds.greatest ≡ Some x.1) × (y ≡ took (returns x.0) (q, w)))
    ⊎ (IsBelow bounds.greatest x.1 × ((z : Outcome (End S T) (Option O)) × ItemCases Child at q w z
    × ComesOf (items_next put (gathering into) bounds.least x) at q w z y))

-- an item that consumed input, from a state and what is left to a state and what is left
abbrev pub IsItem : {S Q T O : Type 0} → Calls S Q T O → (Q → S → Q) → Setting → End Q T → O
    → End Q T → Type 0
IsItem {S} Child put at p o e = (s : S) × Child at p.0 p.1 (took o (s, e.1)) × (e.0 ≡ put p.0 s)
    × (length e.1.tokens < length p.1.tokens)

module _ {S Q T C O : Type 0} (into : Accumulator C O) (Child : Calls S Q T O) (put : Q → S → Q)
    (at : Setting) where
  -- Why a repetition fails after some items.
  abbrev pub Failure : End Q T → Kind → Left T → Type 0
  Failure p k left =
      -- an item fails, and does not backtrack
      (Failing (Child at p.0 p.1) k left × (k ≡ backtrack → ⊥))
      -- one consumes nothing
      ⊎ (((o : O) × (a : End S T) × Child at p.0 p.1 (took o a) × (Consumes p.1 a → ⊥)
      × (k ≡ assert_kind at.form))
      -- one too many for the memory
      ⊎ ((o : O) × (some : C) × (a : End S T) × Child at p.0 p.1 (took o a)
      × into.grows some o × (k ≡ memory)))

  -- ---- items

  item_some : (q : Q) (w : Left T) {o : O} {a : End S T}
      → ItemCases Child at q w (took (Some o) a) → Child at q w (took o a) × Consumes w a
  item_some q w {o} {a} ran = by (then_ok ran)
    where
      same_some : {x y : O} → Some x ≡ Some y → x ≡ y
      same_some e = cc

      by : (p : O) × (b : End S T) × Child at q w (took p b)
          × ((Consumes w b × (took (Some o) a ≡ took (Some p) b))
          ⊎ ((Consumes w b → ⊥) × (took (Some o) a ≡ took None b)))
          → Child at q w (took o a) × Consumes w a
      by (p, b, d, inl (some, e)) =
          let told = same_took e in
          let P : O → Type 0 = λ x. Child at q w (took x b) × Consumes w b in
          subst (λ l. Child at q w (took o l) × Consumes w l) (sym told.1)
          (subst P (sym (same_some told.0)) (d, some))
      by (p, b, d, inr (none, e)) = absurd (cc (same_took e).0)

  item_none : (q : Q) (w : Left T) {a : End S T} → ItemCases Child at q w (took None a)
      → (o : O) × Child at q w (took o a) × (Consumes w a → ⊥)
  item_none q w {a} (took p b, d, inl (some, e)) = absurd (cc (same_took e).0)
  item_none q w {a} (took p b, d, inr (none, e)) =
      let P : End S T → Type 0 = λ l. Child at q w (took p l) × (Consumes w l → ⊥) in
      let both = subst P (sym (same_took e).1) (d, none) in (p, both.0, both.1)
  item_none q w (backs b, d, e) = absurd (cc)
  item_none q w (cuts b, d, e) = absurd (cc)
  item_none q w (asks need b, d, e) = absurd (cc)
  item_none q w (wants, d, e) = absurd (cc)

  item_backs : (q : Q) (w : Left T) {a : End S T} → ItemCases Child at q w (backs a)
      → Child at q w (backs a)
  item_backs q w (took p b, d, inl (some, e)) = absurd (cc)
  item_backs q w (took p b, d, inr (none, e)) = absurd (cc)
  item_backs q w (backs b, d, e) = subst (λ l. Child at q w (backs l)) (sym (same_backs e)) d
    where
      same_backs : {x y : End S T} → ◌≡◌ {A = Outcome (End S T) (Option O)} (backs x) (backs y)
          → x ≡ y
      same_backs e = cc
  item_backs q w (cuts b, d, e) = absurd (cc)
  item_backs q w (asks need b, d, e) = absurd (cc)
  item_backs q w (wants, d, e) = absurd (cc)

  item_err : (q : Q) (w : Left T) {k : Kind} {left : Left T}
      → Failing (ItemCases Child at q w) k left → Failing (Child at q w) k left
  item_err q w ran = elim (then_err ran) [
    | inl failed ↦ failed
    | inr (o, a, d, (y, inl (some, e), fails)) ↦ absurd ((fails_by e fails).is)
    | inr (o, a, d, (y, inr (none, e), fails)) ↦ absurd ((fails_by e fails).is)
  ]

  -- ---- turns of any number of items

  abbrev Turns : C × ℕ → Does Q T (Turn (C × ℕ) C)
  Turns = TurnCases into Child put (from_to 0 None)

  same_continues : {x y : C × ℕ} {l m : End Q T}
      → ◌≡◌ {A = Outcome (End Q T) (Turn (C × ℕ) C)} (took (continues x) l) (took (continues y) m)
      → (x ≡ y) × (l ≡ m)
  same_continues e = (cc, cc)

  same_returns : {c d : C} {l m : End Q T}
      → ◌≡◌ {A = Outcome (End Q T) (Turn (C × ℕ) C)} (took (returns c) l) (took (returns d) m)
      → (c ≡ d) × (l ≡ m)
  same_returns e = (cc, cc)

  -- a turn that continues is an item
  one_more : (x y : C × ℕ) (p e : End Q T) → Turns x at p.0 p.1 (took (continues y) e)
      → (o : O) × IsItem Child put at p o e × into.takes x.0 o y.0
  one_more x y p e (inl (full, is)) = none_is_some full
  one_more x y p e (inr (below, (took None a, d, is))) = misused_none at.form _ _ (continues y) is
  one_more x y p e (inr (below, (took (Some o) a, d, inl (c, u, (takes, same), is)))) =
      let (told, there) = same_continues is in
      let (did, some) = item_some p.0 p.1 d in
      let E : End Q T → Type 0 = λ l.
      (s : S) × Child at p.0 p.1 (took o (s, l.1)) × (l.0 ≡ put p.0 s)
      × (length l.1.tokens < length p.1.tokens) in (
        o,
        subst E (sym there) (a.0, did, same, some),
        subst (λ c. into.takes x.0 o c.0) (sym told) takes,
      )
  one_more x y p e (inr (below, (took (Some o) a, d, inr (inl (u, none, is))))) = absurd none
  one_more x y p e (inr (below, (took (Some o) a, d, inr (inr (grows, is))))) = absurd (cc)
  one_more x y p e (inr (below, (backs a, d, inl (enough, is)))) = absurd (cc)
  one_more x y p e (inr (below, (backs a, d, inr (few, is)))) = absurd (cc)
  one_more x y p e (inr (below, (cuts a, d, is))) = absurd (cc)
  one_more x y p e (inr (below, (asks need a, d, is))) = absurd (cc)
  one_more x y p e (inr (below, (wants, d, is))) = absurd (cc)

  -- one that returns is an item that backtracked
  returned : (x : C × ℕ) (p e : End Q T) (all : C) → Turns x at p.0 p.1 (took (returns all) e)
      → (stop : End S T) × Child at p.0 p.1 (backs stop) × (all ≡ x.0)
      × (e.1 ≡ back p.1 stop.1)
  returned x p e all (inl (full, is)) = none_is_some full
  returned x p e all (inr (below, (took None a, d, is))) =
      misused_none at.form _ _ (returns all) is
  returned x p e all (inr (below, (took (Some o) a, d, inl (c, u, takes, is)))) = absurd (cc)
  returned x p e all (inr (below, (took (Some o) a, d, inr (inl (u, none, is))))) = absurd none
  returned x p e all (inr (below, (took (Some o) a, d, inr (inr (grows, is))))) = absurd (cc)
  returned x p e all (inr (below, (backs a, d, inl (enough, is)))) =
      let (told, there) = same_returns is in
      (a, item_backs p.0 p.1 d, told, ap (λ l. l.1) there)
  returned x p e all (inr (below, (backs a, d, inr (few, is)))) = absurd (cc)
  returned x p e all (inr (below, (cuts a, d, is))) = absurd (cc)
  returned x p e all (inr (below, (asks need a, d, is))) = absurd (cc)
  returned x p e all (inr (below, (wants, d, is))) = absurd (cc)

  turn_err : (x : C × ℕ) (p : End Q T) {k : Kind} {left : Left T}
      → Failing (Turns x at p.0 p.1) k left → Failure p k left
  turn_err x p (y, inl (full, is), fails) = none_is_some full
  turn_err x p (y, inr (below, (took None a, d, is)), fails) =
      let (o, did, none) = item_none p.0 p.1 d in
      inr (inl (o, a, did, none, (misused_at at.form (put p.0 a.0, a.1) (fails_by is fails)).0))
  turn_err x p (y, inr (below, (took (Some o) a, d, inl (c, u, takes, is))), fails) =
      absurd ((fails_by is fails).is)
  turn_err x p (y, inr (below, (took (Some o) a, d, inr (inl (u, none, is)))), fails) = absurd none
  turn_err x p (y, inr (below, (took (Some o) a, d, inr (inr (grows, is)))), fails) =
      inr (inr (o, x.0, a, (item_some p.0 p.1 d).0, grows, (fails_by is fails).is))
  turn_err x p (y, inr (below, (backs a, d, inl (enough, is))), fails) =
      absurd ((fails_by is fails).is)
  turn_err x p (y, inr (below, (backs a, d, inr (few, is))), fails) = absurd (omega (arith, few))
  turn_err x p (y, inr (below, (cuts a, d, e)), fails) =
      let is = (fails_by e fails).is in
      inl (item_err p.0 p.1 (cuts a, d, record { is = is }), λ so. absurd (cc (sym so ∙ is.0)))
  turn_err x p (y, inr (below, (asks need a, d, e)), fails) =
      let is = (fails_by e fails).is in
      inl (item_err p.0 p.1 (asks need a, d, record { is = is }), λ so. absurd (cc (sym so ∙ is.0)))
  turn_err x p (y, inr (below, (wants, d, e)), fails) =
      let is = (fails_by e fails).is in
      inl (item_err p.0 p.1 (wants, d, record { is = is }), λ so. absurd (cc (sym so ∙ is)))

  -- ---- the turns together

  pub loop_ok : (x : C × ℕ) (q : Q) (w : Left T) {all : C} {e : End Q T}
      → LoopDoes Turns at x q w (took all e)
      → (outputs : List O) × (there : End Q T) × (stop : End S T)
      × FoldsTo (IsItem Child put at) (q, w) outputs there × FoldsTo into.takes x.0 outputs all
      × Child at there.0 there.1 (backs stop) × (e.1 ≡ back there.1 stop.1)
  loop_ok x q w (again {d = y} {u = u} {m = m} turn more) =
      let (o, item, takes) = one_more x y (q, w) (u, m) turn in
      let (outputs, there, stop, chain, folds, ended, reset) = loop_ok y u m more in (
        o ∷ outputs,
        there,
        stop,
        ((u, m), item, chain),
        (y.0, takes, folds),
        ended,
        reset,
      )
  loop_ok x q w (last (took (continues c) a, d, never)) = absurd never
  loop_ok x q w (last (took (returns r) a, d, e)) =
      let (told, there) = same_took e in
      let (stop, ended, is, reset) = returned x (q, w) a r d in
      ([], (q, w), stop, refl, sym (told ∙ is), ended, ap (λ l. l.1) there ∙ reset)
  loop_ok x q w (last (backs a, d, e)) = absurd (cc)
  loop_ok x q w (last (cuts a, d, e)) = absurd (cc)
  loop_ok x q w (last (asks need a, d, e)) = absurd (cc)
  loop_ok x q w (last (wants, d, e)) = absurd (cc)

  pub loop_err : (x : C × ℕ) (q : Q) (w : Left T) (y : Outcome (End Q T) C) {k : Kind}
      {left : Left T}
      → LoopDoes Turns at x q w y → FailsAt k left y
      → (outputs : List O) × (there : End Q T) × FoldsTo (IsItem Child put at) (q, w) outputs there
      × Failure there k left
  loop_err x q w y (again {d = c} {u = u} {m = m} turn more) fails =
      let (o, item, takes) = one_more x c (q, w) (u, m) turn in
      let (outputs, there, chain, why) = loop_err c u m y more fails in
      (o ∷ outputs, there, ((u, m), item, chain), why)
  loop_err x q w y (last (took (continues c) a, d, never)) fails = absurd never
  loop_err x q w y (last (took (returns r) a, d, e)) fails = absurd ((fails_by e fails).is)
  loop_err x q w y (last (backs a, d, e)) fails =
      ([], (q, w), refl, turn_err x (q, w) (backs a, d, record { is = (fails_by e fails).is }))
  loop_err x q w y (last (cuts a, d, e)) fails =
      ([], (q, w), refl, turn_err x (q, w) (cuts a, d, record { is = (fails_by e fails).is }))
  loop_err x q w y (last (asks need a, d, e)) fails =
      ([], (q, w), refl, turn_err x (q, w) (asks need a, d, record { is = (fails_by e fails).is }))
  loop_err x q w y (last (wants, d, e)) fails =
      ([], (q, w), refl, turn_err x (q, w) (wants, d, record { is = (fails_by e fails).is }))
