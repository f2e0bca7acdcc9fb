-- A statement about a result, by a statement about each output.
use Rattle.std.specs.Prelude.{◌≡◌, Result, Ok, Err, IfOk}
use Rattle.std.proofs.Common.{refl}

pub if_ok : {A E : Type 0} (P : A → Type 0) (result : Result A E)
    → ((a : A) → result ≡ Ok a → P a) → IfOk result P
if_ok P (Ok a) holds = holds a refl
if_ok P (Err e) holds = tt
