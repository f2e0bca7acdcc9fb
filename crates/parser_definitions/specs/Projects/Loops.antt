-- Grammars of loops.
use Rattle.std.specs.Prelude.{◌≡◌, List}
use Rattle.std.proofs.Common.{subst}
use Rattle.grammars.specs.Grammar.{Grammar}
use Rattle.parser_definitions.specs.Left.{End, Left}
use Rattle.parser_definitions.specs.Loop.{LoopDoes, Turn, again, continues, last, last_turn}
use Rattle.parser_definitions.specs.Loop.{returns}
use Rattle.parser_definitions.specs.Outcome.{Does, Outcome, asks, backs, cuts, took, wants}
use Rattle.parser_definitions.specs.Projects.{Complete, Judged, Judgement, complete, judged_as}
use Rattle.parser_definitions.specs.Projects.{judged_by}
use Rattle.parser_definitions.specs.Then.{ComesOf}

-- A turn that continues, or returns.
abbrev pub EitherTurn : {T C R : Type 0} → (C → List T → C → List T → Type 0)
    → (C → Grammar T R) → C → Grammar T (Turn C R)
EitherTurn goes good c tokens (continues d) rest = goes c tokens d rest
EitherTurn goes good c tokens (returns r) rest = good c tokens r rest

-- A loop with the value `c` has the outputs of `good c`, and fails on the tokens of `bad c`, if
-- each
-- turn has those or goes on to such.
module _ {Q T C R : Type 0} {b m : Type 0} (turn : C → Does Q T (Turn C R)) {at : Complete} {q : Q}
    (goes : C → List T → C → List T → Type 0) (good : C → Grammar T R) (bad : C → List T → Type 0)
    (turns : (c : C) (w : Left T) (x : Outcome (End Q T) (Turn C R)) → turn c (complete at) q w x
    → Judged b m q (EitherTurn goes good c) (bad c) w.tokens x)
    (on : (c : C) (tokens : List T) (d : C) (mid : List T) (r : R) (rest : List T)
    → goes c tokens d mid → good d mid r rest → good c tokens r rest)
    (off : (c : C) (tokens : List T) (d : C) (mid : List T) → goes c tokens d mid → bad d mid
    → bad c tokens) where
  -- the last turn
  last_judged : (c : C) (w : Left T) (x : Outcome (End Q T) (Turn C R))
      → Judgement b m q (EitherTurn goes good c) (bad c) w.tokens x
      → (y : Outcome (End Q T) R) → ComesOf last_turn (complete at) q w x y
      → Judged b m q (good c) (bad c) w.tokens y
  last_judged c w (took (continues d) end) a y came = absurd came
  last_judged c w (took (returns r) end) a y came = judged_by {y = took r end} came a
  last_judged c w (backs end) a y came = judged_by {y = backs end} came a
  last_judged c w (cuts end) a y came = judged_by {y = cuts end} came a
  last_judged c w (asks need end) never y came = absurd never
  last_judged c w wants not y came = judged_by {y = wants} came not

  pub loop_judged : (c : C) (u : Q) (w : Left T) (y : Outcome (End Q T) R) → u ≡ q
      → LoopDoes turn (complete at) c u w y → Judged b m q (good c) (bad c) w.tokens y
  loop_judged c u w y here (again {d = d} {u = v} {m = left} a rest) =
      let P : Q → Type 0 = λ z. turn c (complete at) z w (took (continues d) (v, left)) in
      let (step, kept) = (turns c w (took (continues d) (v, left)) (subst P here a)).is in
      judged_as (λ r end. on c w.tokens d left.tokens r end step)
      (off c w.tokens d left.tokens step) (loop_judged d v left y kept rest)
  loop_judged c u w y here (last (x, a, came)) =
      let P : Q → Type 0 = λ z. turn c (complete at) z w x in
      let Came : Q → Type 0 = λ z. ComesOf last_turn (complete at) z w x y in
      last_judged c w x (turns c w x (subst P here a)).is y (subst Came here came)
