-- Calls of functions over bytes, by what holds for each.
use Rattle.std.proofs.Common.{ℕ, List, true, false, Ok, Err}
use Rattle.std.specs.Borrow.{Bor, MutBor}
use Rattle.std.specs.Fn.{CalledAtMut, Mut}
use Rattle.std.specs.Prelude.{Result}
use Rattle.winnow.specs.Bytes.{bytes_input, bytes_reading}
use Rattle.winnow.specs.Form.{Answer, ErrorForm, modal}
use Rattle.winnow.specs.Func.{CalledWithMut}
use Rattle.winnow.specs.FuncCalls.{CallsBy, CallsWithBy, called_by, called_with_by}
use Rattle.winnow.specs.FuncDefinition.{FuncDoes, FuncWithDoes}
use Rattle.winnow.specs.Input.{Input, IsEndOf}
use Rattle.winnow.specs.Inversion.Functions.{func_err, func_ok, input_at}
use Rattle.winnow.specs.Inversion.Outcomes.{Failing}
use Rattle.winnow.specs.Kind.{Kind}
use Rattle.winnow.specs.Left.{End, Left}
use Rattle.winnow.specs.Outcome.{Setting, took}

abbrev pub seen : Bor (List ℕ) → Input ℕ
seen x = bytes_input x.now

-- how a parser over bytes is called
abbrev pub bytes_in : ErrorForm → Setting
bytes_in form = record { form = form; more = false; possible = true }

abbrev pub over_bytes : Setting
over_bytes = bytes_in modal

abbrev pub whole : Left ℕ → Input ℕ
whole w = input_at over_bytes w

-- a function over bytes, and one with an argument
abbrev pub Function : Type 0 → Type 0 → Type 0 → Type 1
Function F E O = Mut F (MutBor (Bor (List ℕ)) × Unit {0})
    (Result O E × (MutBor (Bor (List ℕ)) × Unit {0}))

abbrev pub FunctionWith : Type 0 → Type 0 → Type 0 → Type 0 → Type 1
FunctionWith A F E O = Mut F (A × (MutBor (Bor (List ℕ)) × Unit {0}))
    (Result O E × (MutBor (Bor (List ℕ)) × Unit {0}))

-- every call leaves a suffix
abbrev pub LeavesEnds : {O : Type 0} → (Input ℕ → Answer O → Input ℕ → Type 0) → Type 0
LeavesEnds {O} P = (i : Input ℕ) (answer : Answer O) (j : Input ℕ) → P i answer j
    → IsEndOf bytes_reading j i

module _ {F O E : Type 0} {kind : E → Kind} {g : Function F E O}
    (P : Input ℕ → Answer O → Input ℕ → Type 0) (ends : LeavesEnds P)
    (each : CallsBy seen kind g P) {f : F} {w : Left ℕ} where
  pub ok_by : {o : O} {e : End F ℕ}
      → FuncDoes seen kind (CalledAtMut g) over_bytes f w (took o e)
      → P (whole w) (Ok o) (whole e.1)
  ok_by did = func_ok seen over_bytes P ends (called_by seen P each) did

  pub err_by : {k : Kind} {left : Left ℕ}
      → Failing (FuncDoes seen kind (CalledAtMut g) over_bytes f w) k left
      → (j : Input ℕ) × P (whole w) (Err k) j
  err_by failed = func_err seen over_bytes P ends (called_by seen P each) failed

module _ {A F O E : Type 0} {kind : E → Kind} {g : FunctionWith A F E O}
    (P : Input ℕ → Answer O → Input ℕ → Type 0) (ends : LeavesEnds P)
    (each : CallsWithBy seen kind g P) {s : A × F} {w : Left ℕ} where
  pub ok_with_by : {o : O} {e : End (A × F) ℕ}
      → FuncWithDoes seen kind (CalledWithMut g) over_bytes s w (took o e)
      → P (whole w) (Ok o) (whole e.1)
  ok_with_by did = func_ok seen over_bytes P ends (called_with_by seen P each) did

  pub err_with_by : {k : Kind} {left : Left ℕ}
      → Failing (FuncWithDoes seen kind (CalledWithMut g) over_bytes s w) k left
      → (j : Input ℕ) × P (whole w) (Err k) j
  err_with_by failed = func_err seen over_bytes P ends (called_with_by seen P each) failed
