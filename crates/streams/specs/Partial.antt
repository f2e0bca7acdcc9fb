-- Streams that may get more.
use Rattle.std.specs.Prelude.{Bool}
use Rattle.streams.specs.Input.{Input}

-- An input with a flag of its own: whether more may come.
abbrev pub with_flag : {T : Type 0} → Input T → Bool → Input T
with_flag i cut = record i { status = record i.status { cut = cut } }
