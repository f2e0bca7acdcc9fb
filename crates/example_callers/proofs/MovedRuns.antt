-- Runs from equal states and inputs.
use Rattle.std.specs.Prelude.{◌≡◌}
use Rattle.std.proofs.Common.{subst}
use Rattle.winnow.specs.Form.{Answer}
use Rattle.winnow.specs.Input.{Input}
use Rattle.winnow.specs.Runs.{Runs}

pub moved : {S T O : Type 0} (run : Runs S T O) (s u : S) (i k : Input T) (answer : Answer O)
    (t : S) (j : Input T) → s ≡ u → i ≡ k → run s i answer t j
    → (t : S) × (j : Input T) × run u k answer t j
moved {S} {T} run s u i k answer t j e f r =
    let From : S → Type 0 = λ x. run x i answer t j in
    let On : Input T → Type 0 = λ x. run u x answer t j in
    (t, j, subst On f (subst From e r))
