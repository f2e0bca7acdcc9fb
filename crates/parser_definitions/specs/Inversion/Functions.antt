-- Calls of functions over streams, by what holds for each.
use Rattle.std.specs.Prelude.{◌≡◌, Bool, Result, Ok, Err}
use Rattle.std.proofs.Common.{sym, ap, subst, ◌∙◌}
use Rattle.streams.specs.Input.{Input, IsEndOf}
use Rattle.streams.specs.Kind.{Kind, backtrack, cut, incomplete, memory}
use Rattle.streams.specs.Reading.{Reading}
use Rattle.stream_errors.specs.Form.{Answer, answer_by}
use Rattle.parser_definitions.specs.Left.{End, Left, left_of}
use Rattle.parser_definitions.specs.Outcome.{Outcome, Setting, outcome_of, took}
use Rattle.parser_definitions.specs.Inversion.Outcomes.{FailsAt, Failing, fails_by, same_took}

-- the input in a setting with this left
abbrev pub input_at : {T : Type 0} → Setting → Left T → Input T
input_at at w = record {
  left = record { tokens = w.tokens; place = w.place; possible = at.possible };
  status = record { cut = at.more; recorded = w.recorded };
}

is_input_at : {T : Type 0} (at : Setting) {w : Left T} {i : Input T} → left_of i ≡ w
    → i.status.cut ≡ at.more → i.left.possible ≡ at.possible → i ≡ input_at at w
is_input_at {T} at {w} {i} left more_comes possible =
    let make : Left T → Bool → Bool → Input T = λ l c p. record {
      left = record { tokens = l.tokens; place = l.place; possible = p };
      status = record { cut = c; recorded = l.recorded };
    } in
    ap (λ l. make l i.status.cut i.left.possible) left
    ∙ ap (λ c. make w c i.left.possible) more_comes
    ∙ ap (λ p. make w at.more p) possible

-- one call of the function: `FuncDoes`
abbrev pub FuncCases : {F I T O E : Type 0} → (I → Input T) → (E → Kind)
    → (I → Result O E → F → I → Type 0) → Setting → Left T → Outcome (End F T) O → Type 0
FuncCases {F} {I} {T} {O} {E} view kind Called at w y =
    (x : I) × (r : Result O E) × (g : F) × (z : I) × Called x r g z × (left_of (view x) ≡ w)
    × ((view x).status.cut ≡ at.more) × ((view x).left.possible ≡ at.possible)
    × (y ≡ outcome_of (answer_by kind r) (g, left_of (view z)))

module _ {F I T L O E : Type 0} (view : I → Input T) {kind : E → Kind}
    {Called : I → Result O E → F → I → Type 0} (at : Setting) {w : Left T} {reading : Reading T L}
    (P : Input T → Answer O → Input T → Type 0)
    (ends : (i : Input T) (answer : Answer O) (j : Input T) → P i answer j → IsEndOf reading j i)
    (each : (x : I) (r : Result O E) (g : F) (z : I) → Called x r g z
    → P (view x) (answer_by kind r) (view z)) where
  -- What holds for each call holds for one with an output, and one with an error.
  pub func_ok : {o : O} {e : End F T} → FuncCases view kind Called at w (took o e)
      → P (input_at at w) (Ok o) (input_at at e.1)
  func_ok {o} {e} (x, r, g, z, call, left, more_comes, may, is) =
      by (answer_by kind r) (each x r g z call) is
    where
      by : (answer : Answer O) → P (view x) answer (view z)
          → took o e ≡ outcome_of answer (g, left_of (view z))
          → P (input_at at w) (Ok o) (input_at at e.1)
      by (Ok p) met same =
          let told = same_took same in
          let end = ends (view x) (Ok p) (view z) met in
          subst (λ i. P i (Ok o) (input_at at e.1)) (is_input_at at left more_comes may)
          (subst (λ j. P (view x) (Ok o) j)
          (is_input_at at (sym (ap (λ q. q.1) told.1)) (end.cut ∙ more_comes)
          (end.ends.possible ∙ may))
          (subst (λ a. P (view x) (Ok a) (view z)) (sym told.0) met))
      by (Err backtrack) met same = absurd (cc)
      by (Err cut) met same = absurd (cc)
      by (Err (incomplete need)) met same = absurd (cc)
      by (Err memory) met same = absurd (cc)

  pub func_err : {k : Kind} {left : Left T} → Failing (FuncCases view kind Called at w) k left
      → (j : Input T) × P (input_at at w) (Err k) j
  func_err {k} {left = rest} (y, (x, r, g, z, call, left, more_comes, may, is), fails) = (
    view z,
    subst (λ i. P i (Err k) (view z)) (is_input_at at left more_comes may)
        (by (answer_by kind r) (each x r g z call) (fails_by is fails)),
  )
    where
      same : {l : Kind} → P (view x) (Err l) (view z) → k ≡ l → P (view x) (Err k) (view z)
      same met is = subst (λ l. P (view x) (Err l) (view z)) (sym is) met

      by : (answer : Answer O) → P (view x) answer (view z)
          → FailsAt k rest (outcome_of answer (g, left_of (view z)))
          → P (view x) (Err k) (view z)
      by (Ok o) met told = absurd (told.is)
      by (Err backtrack) met told = same met told.is.0
      by (Err cut) met told = same met told.is.0
      by (Err (incomplete need)) met told = same met told.is.0
      by (Err memory) met told = same met told.is
