-- The view of a stream that records errors.
use Rattle.std.specs.Prelude.{List, ◌++◌, map}
use Rattle.streams.specs.Input.{Input, Status}
use Rattle.streams.specs.Kind.{Kind}
use Rattle.stream_recovery.specs.declared.recoverable.Recoverable.{Recoverable}

-- a status with kinds after those that were recorded before
abbrev pub behind : Status → List Kind → Status
behind s kinds = record s { recorded = s.recorded ++ kinds }

-- an input with such a status
abbrev pub with_kinds : {T : Type 0} → Input T → List Kind → Input T
with_kinds i kinds = record i { status = behind i.status kinds }

-- the errors that a stream has recorded, in order
abbrev pub recorded_errors : {I R A : Type 0} → Recoverable I R A → List R
recorded_errors s = s.errors.items

-- the stream inside
abbrev pub recorded_input : {I R A : Type 0} → Recoverable I R A → I
recorded_input s = s.input

-- what is seen of a stream that records errors: the input inside, and their kinds
abbrev pub recoverable_view : {I R A T : Type 0} → (I → Input T) → (R → Kind) → Recoverable I R A
    → Input T
recoverable_view view kind s = with_kinds (view (recorded_input s)) (map kind (recorded_errors s))
