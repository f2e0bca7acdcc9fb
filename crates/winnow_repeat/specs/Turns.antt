-- Turns of a repetition: the items that it adds, and its last turn.
use Rattle.std.specs.Prelude.{◌≡◌, ◌<◌, ◌≤◌, ℕ, Option, Some, None, Ok, Err}
use Rattle.std.proofs.Common.{refl, ap, ◌∙◌, inl, inr}
use Rattle.streams.specs.Kind.{Kind, backtrack, cut, incomplete, memory}
use Rattle.stream_errors.specs.Form.{Answer, ErrorForm, assert_kind, modal, plain}
use Rattle.stream_sets.specs.Range.{Bounds, IsBelow}
use Rattle.winnow_core.specs.Results.{failed, gave}
use Rattle.parser_definitions.specs.Folding.{Folding}
use Rattle.parser_definitions.specs.Items.{ItemsTurn, items_next}
use Rattle.parser_definitions.specs.Left.{End, Left, back}
use Rattle.parser_definitions.specs.Loop.{Turn, last_comes, last_turn, returns}
use Rattle.parser_definitions.specs.Outcome.{Does, Setting, backs, misused, outcome_of, took}
use Rattle.parser_definitions.specs.Outcome.{wants}
use Rattle.parser_definitions.specs.Then.{ComesOf, Then}
use Rattle.parser_definitions.specs.Then.Steps.{instead, same}

-- the error of a misuse has its outcome
pub misuse : {L O : Type 0} (at : Setting) (l : L)
    → outcome_of {O = O} (Err (assert_kind at.form)) l ≡ misused at l
misuse {L} {O} at l = by at.form
  where
    by : (form : ErrorForm) → outcome_of {O = O} (Err (assert_kind form)) l
        ≡ misused (record { form = form; more = at.more; possible = at.possible }) l
    by modal = refl
    by plain = refl

module _ {S Q T C O : Type 0} (get : Q → S) (put : Q → S → Q) (f : Folding Q C O)
    (bounds : Bounds) (item : Does S T (Option O)) where
  abbrev Turns : C × ℕ → Does Q T (Turn (C × ℕ) C)
  Turns = ItemsTurn get put f bounds item

  -- the last turn, after a number of items
  abbrev pub LastTurn : C × ℕ → Does Q T C
  LastTurn x = Then same (Turns x) last_turn

  -- an item whose output is added
  abbrev pub AddsItem : Setting → C × Q × Left T → O → C × Q × Left T → Type 0
  AddsItem at a o b = (v : S) × item at (get a.1) a.2 (took (Some o) (v, b.2))
      × f.takes (put a.1 v) a.0 o b.0 b.1

  module _ (at : Setting) (x : C × ℕ) (q : Q) (w : Left T) where
    -- the greatest number is reached
    pub ends_full : bounds.greatest ≡ Some x.1 → (a : Answer C) (l : End Q T) → a ≡ Ok x.0
        → l ≡ (q, w) → LastTurn x at q w (outcome_of a l)
    ends_full full a l e is = (
      took (returns x.0) (q, w),
      inl (full, refl),
      gave l e ∙ ap (λ l. took x.0 l) is,
    )

    module _ (less : IsBelow bounds.greatest x.1) (v : S) (end : Left T) where
      -- an item backtracks, and there are enough
      pub ends_enough : bounds.least ≤ x.1 → item at (get q) w (backs (v, end)) → (a : Answer C)
          (l : End Q T) → a ≡ Ok x.0 → l ≡ (put q v, back w end)
          → LastTurn x at q w (outcome_of a l)
      ends_enough many d a l e is = (
        took (returns x.0) (put q v, back w end),
        inr (less, (backs (v, end), d, inl (many, refl))),
        gave l e ∙ ap (λ l. took x.0 l) is,
      )

      comes_failed : (k : Kind) → (k ≡ backtrack → x.1 < bounds.least)
          → ComesOf (items_next put f bounds.least x) at q w (outcome_of (Err k) (v, end))
          (outcome_of (Err k) (put q v, end))
      comes_failed backtrack few = inr (few refl, refl)
      comes_failed cut few = refl
      comes_failed (incomplete need) few = refl
      comes_failed memory few = refl

      -- it fails: by another kind, or too early
      pub ends_failed : (k : Kind) → (k ≡ backtrack → x.1 < bounds.least)
          → item at (get q) w (outcome_of (Err k) (v, end)) → (a : Answer C) (t : Q) → a ≡ Err k
          → t ≡ put q v → LastTurn x at q w (outcome_of a (t, end))
      ends_failed k few d a t e kept = (
        outcome_of (Err k) (put q v, end),
        inr (less, (outcome_of (Err k) (v, end), d, comes_failed k few)),
        failed instead last_comes at q w k end (put q v) t a e kept,
      )

      -- it consumes nothing
      pub ends_stuck : item at (get q) w (took None (v, end)) → (a : Answer C) (t : Q)
          → a ≡ Err (assert_kind at.form) → t ≡ put q v
          → LastTurn x at q w (outcome_of a (t, end))
      ends_stuck d a t e kept = (
        outcome_of (Err (assert_kind at.form)) (put q v, end),
        inr (less, (took None (v, end), d, misuse at (put q v, end))),
        failed instead last_comes at q w (assert_kind at.form) end (put q v) t a e kept,
      )

      module _ (o : O) (d : item at (get q) w (took (Some o) (v, end))) where
        -- its output is rejected
        pub ends_rejected : (u : Q) → f.rejects (put q v) x.0 o u → (a : Answer C) (l : End Q T)
            → a ≡ Err backtrack → l ≡ (u, back w end) → LastTurn x at q w (outcome_of a l)
        ends_rejected u none a l e is = (
          backs (u, back w end),
          inr (less, (took (Some o) (v, end), d, inr (inl (u, none, refl)))),
          gave l e ∙ ap (λ l. backs l) is,
        )

        -- an allocation for its output fails
        pub ends_wanting : f.grows (put q v) x.0 o → (a : Answer C) (l : End Q T)
            → a ≡ Err memory → LastTurn x at q w (outcome_of a l)
        ends_wanting grows a l e =
            (wants, inr (less, (took (Some o) (v, end), d, inr (inr (grows, refl)))), gave l e)
