-- The loop that fills a buffer.
use Rattle.std.specs.Prelude.{slice_set}
use Rattle.std.proofs.Common.{◌≡◌, ◌<◌, ◌+◌, ℕ, List, length, Ok, Err, refl, ap, inl, inr}
use Rattle.streams.specs.Input.{Input, is_end_of_refl}
use Rattle.streams.specs.Kind.{Kind}
use Rattle.streams.specs.Reading.{Reading}
use Rattle.stream_errors.specs.Form.{ErrorForm}
use Rattle.parser_definitions.specs.Does.{Ran}
use Rattle.parser_definitions.specs.Fill.{FillDoes, FillTurn, fills}
use Rattle.parser_definitions.specs.Left.{left_of}
use Rattle.parser_definitions.specs.Loop.{continues, last_comes, returns}
use Rattle.parser_definitions.specs.Outcome.{Does, outcome_of, setting_of, took}
use Rattle.parser_definitions.specs.Then.Steps.{instead, with_first}
use Rattle.winnow_core.specs.Results.{failed}
use Rattle.winnow_repeat.specs.Called.{there}
use Rattle.winnow_repeat.specs.Fill.{Buffer, buffer_of}
use Rattle.winnow_repeat.specs.Loops.{Reached, reached_last, reached_more, reached_none}
use Rattle.winnow_repeat.specs.Loops.{set_overwrites}

module _ {S T L O : Type 0} (reading : Reading T L) (does : Does S T O) (form : ErrorForm)
    (old : List O) (s : S) (i : Input T) where
  -- the first `n` elements are overwritten, whichever reference it is
  abbrev pub Filled : List O → ℕ → S → Input T → Type 0
  Filled now n u m = (name : ℕ)
      → Reached reading (FillTurn does) form 0 (s, buffer_of name old) i n (u, buffer_of name now) m

  pub filled_none : Filled old 0 s i
  filled_none name = reached_none reading (FillTurn does) form 0 (s, buffer_of name old) i

  module _ (now : List O) (n : ℕ) (u : S) (m : Input T) (so : Filled now n u m) (name : ℕ) where
    -- all are
    pub filled_ran : length now ≡ n
        → Ran reading (FillDoes does) form (s, buffer_of name old) i (Ok tt)
        (u, buffer_of name now) m
    filled_ran all =
        reached_last reading (FillTurn does) form 0 (s, buffer_of name old) i n
        (u, buffer_of name now) m (so name) (Ok tt) (u, buffer_of name now) m
        (is_end_of_refl reading m)
        (took (returns tt) ((u, buffer_of name now), left_of m), inl (all, refl), refl)

    module _ (less : n < length now) (v : S) (x : Input T) where
      -- the call for the next fails
      pub unfilled_ran : (k : Kind) → Ran reading does form u m (Err k) v x
          → Ran reading (FillDoes does) form (s, buffer_of name old) i (Err k)
          (v, buffer_of name now) x
      unfilled_ran k ran =
          let q : S × Buffer O = (u, buffer_of name now) in
          let t : S × Buffer O = (v, buffer_of name now) in
          let at = setting_of form i in
          reached_last reading (FillTurn does) form 0 (s, buffer_of name old) i n q m (so name)
          (Err k) t x ran.0 (
            outcome_of (Err k) (t, left_of x),
            inr (
              less,
              (
                outcome_of (Err k) (v, left_of x),
                there reading does form i m u (Err k) v x (so name).ends ran,
                failed with_first (λ o. fills n o) at q (left_of m) k (left_of x) v t (Err k) refl
                    refl,
              ),
            ),
            failed instead last_comes at q (left_of m) k (left_of x) t t (Err k) refl refl,
          )

      -- it succeeds
      pub filled_more : (o : O) → Ran reading does form u m (Ok o) v x
          → Reached reading (FillTurn does) form 0 (s, buffer_of name old) i (n + 1)
          (v, buffer_of name (slice_set now n o)) x
      filled_more o ran =
          reached_more reading (FillTurn does) form 0 (s, buffer_of name old) i n
          (u, buffer_of name now) m (so name) (n + 1) (v, buffer_of name (slice_set now n o)) x
          ran.0 (inr (
            less,
            (
              took o (v, left_of x),
              there reading does form i m u (Ok o) v x (so name).ends ran,
              ap (λ l. took (continues (n + 1)) ((v, buffer_of name l), left_of x))
                  (set_overwrites now n o),
            ),
          ))
