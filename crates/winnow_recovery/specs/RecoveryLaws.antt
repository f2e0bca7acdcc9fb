-- Laws of recovery.
use Rattle.std.specs.Prelude.{◌≡◌, [], Option, Some, Ok}
use Rattle.std.specs.declared.vec.Vec.{Vec}
use Rattle.streams.specs.Input.{Input}
use Rattle.streams.specs.Kind.{Kind}
use Rattle.winnow_core.specs.Runs.{Runs}
use Rattle.winnow_recovery.specs.RecoverableParse.{RecoverableParses}

-- If a whole parse returns no error, it returns an output, and its call consumed all input.
abbrev pub NoErrorIsAWholeParse : {S I T O R : Type 0} → (A : Type 0) → (I → Input T)
    → (R → Kind) → Runs S T O → Type 0
NoErrorIsAWholeParse {S} {I} {T} {O} {R} A view kind run =
    (s t : S) (input back : I) (output : Option O) (errors : Vec R A)
    → RecoverableParses view kind (view input) (λ answer j. run s (view input) answer t j)
    (Ok (back, output, errors)) → errors.items ≡ []
    → (o : O) × (j : Input T) × (output ≡ Some o) × run s (view input) (Ok o) t j
    × (j.left.tokens ≡ [])
