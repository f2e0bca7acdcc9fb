-- An output that another parser reads.
use Rattle.std.specs.Prelude.{◌≡◌, false}
use Rattle.streams.specs.Input.{Input}

-- an input to which no more comes
abbrev pub completed : {T : Type 0} → Input T → Input T
completed i = record i { status = record i.status { cut = false } }

-- Equal outputs are the same input.
abbrev pub OneInput : {V O : Type 0} → (O → Input V) → (O → O → Type 0) → Type 0
OneInput {O = O} view alike = (o p : O) → alike o p → view o ≡ view p
