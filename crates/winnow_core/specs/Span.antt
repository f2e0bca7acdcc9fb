-- The places between which a parser read.
use Rattle.std.specs.Prelude.{ℕ}
use Rattle.std.specs.declared.ops.Range.{Range}
use Rattle.streams.specs.Input.{Input}

-- the places from one input to another, in units from the start
abbrev pub places : {T : Type 0} → Input T → Input T → Range ℕ
places i j = record { start = i.left.place.passed; end = j.left.place.passed }
