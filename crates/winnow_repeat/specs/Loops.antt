-- Calls of loops, turn by turn.
use Rattle.std.specs.Prelude.{◌≡◌, ℕ, zero, suc, List, [], ◌∷◌, slice_set}
use Rattle.std.proofs.Common.{refl, ap}
use Rattle.streams.specs.Input.{Input, IsEndOf, is_end_of_refl, is_end_of_trans}
use Rattle.streams.specs.Reading.{Reading}
use Rattle.stream_errors.specs.Form.{Answer, ErrorForm}
use Rattle.parser_definitions.specs.Does.{Ran}
use Rattle.parser_definitions.specs.Fill.{overwrite}
use Rattle.parser_definitions.specs.Left.{End, left_of}
use Rattle.parser_definitions.specs.Loop.{Loop, LoopDoes, Turn, again, continues, last, last_turn}
use Rattle.parser_definitions.specs.Outcome.{Does, Outcome, outcome_of, setting_of, took}
use Rattle.parser_definitions.specs.Then.{Then}
use Rattle.parser_definitions.specs.Then.Steps.{same}

module _ {Q T L C R : Type 0} (reading : Reading T L) (turn : C → Does Q T (Turn C R))
    (form : ErrorForm) where
  -- A loop that began with `c`, in state `q` at input `i`, is at `d`, in `u` at `m`. Each outcome
  -- that it has from there on is one of the whole.
  pub record Reached (c : C) (q : Q) (i : Input T) (d : C) (u : Q) (m : Input T) : Type 0 where
    pub ends : IsEndOf reading m i
    pub leads : (y : Outcome (End Q T) R) → LoopDoes turn (setting_of form i) d u (left_of m) y
        → LoopDoes turn (setting_of form i) c q (left_of i) y

  pub reached_none : (c : C) (q : Q) (i : Input T) → Reached c q i c q i
  reached_none c q i = record { ends = is_end_of_refl reading i; leads = λ y d. d }

  module _ (c : C) (q : Q) (i : Input T) (d : C) (u : Q) (m : Input T)
      (so : Reached c q i d u m) where
    -- a turn that continues
    pub reached_more : (e : C) (v : Q) (x : Input T) → IsEndOf reading x m
        → turn d (setting_of form i) u (left_of m) (took (continues e) (v, left_of x))
        → Reached c q i e v x
    reached_more e v x after did = record {
      ends = is_end_of_trans after so.ends;
      leads = λ y rest. so.leads y (again did rest);
    }

    -- the last turn
    pub reached_last : (a : Answer R) (t : Q) (j : Input T) → IsEndOf reading j m
        → Then same (turn d) last_turn (setting_of form i) u (left_of m)
        (outcome_of a (t, left_of j))
        → Ran reading (Loop turn c) form q i a t j
    reached_last a t j after did =
        let ends = is_end_of_trans after so.ends in
        (ends, ends.cut, ends.ends.possible, so.leads (outcome_of a (t, left_of j)) (last did))

-- a write to a slice overwrites an element
pub set_overwrites : {O : Type 0} (now : List O) (n : ℕ) (o : O)
    → slice_set now n o ≡ overwrite n o now
set_overwrites [] n o = refl
set_overwrites (x ∷ xs) zero o = refl
set_overwrites (x ∷ xs) (suc n) o = ap (λ l. x ∷ l) (set_overwrites xs n o)
