-- The result of a growth.
use Rattle.std.specs.Prelude.{Option, Some, None, Result, Ok, Err}

-- the value, unless there is an error in its place
abbrev pub grown : {T E : Type 0} → Result T E → Option T
grown (Ok value) = Some value
grown (Err error) = None
