-- Runs that one state and one input decide.
use Rattle.std.specs.Prelude.{◌≡◌, Ok, Err}
use Rattle.stream_errors.specs.Form.{Answer}
pub mod Inputs

-- Both are equal outputs, or errors of the same kind.
abbrev pub EqualResults : {O : Type 0} → (O → O → Type 0) → Answer O → Answer O → Type 0
EqualResults alike (Ok o) (Ok p) = alike o p
EqualResults alike (Ok o) (Err l) = ⊥
EqualResults alike (Err k) (Ok p) = ⊥
EqualResults alike (Err k) (Err l) = k ≡ l
