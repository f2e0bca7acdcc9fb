-- Text with escapes, into an accumulator.
use Rattle.std.specs.Prelude.{◌⊎◌, Option, Some, None, Ok, Err}
use Rattle.std.proofs.Common.{inl, inr}
use Rattle.stream_errors.specs.Form.{Answer}
use Rattle.winnow_escapes.specs.declared.ascii.impls.escaped.Escaped.{Escaped}
use Rattle.winnow_escapes.specs.declared.ascii.turns.Turn.{Turn}
use Rattle.winnow_escapes.specs.declared.ascii.turns.Turn.TheVariants.{Normal, Escape}

-- the parser of literal text
abbrev pub escaped_normal : {N K X I O D P C E A : Type 0} → Escaped N K X I O D P C E A → N
escaped_normal s = s.normal

-- the parser of the control
abbrev pub escaped_control : {N K X I O D P C E A : Type 0} → Escaped N K X I O D P C E A → K
escaped_control s = s.control

-- the parser of the input after a control
abbrev pub escaped_escape : {N K X I O D P C E A : Type 0} → Escaped N K X I O D P C E A → X
escaped_escape s = s.escape

-- The output of a turn in its definition.
abbrev pub side : {O P : Type 0} → Turn O P → O ⊎ P
side (Normal o) = inl o
side (Escape p) = inr p

-- so if there may be no turn, or a failure
abbrev pub some_side : {O P : Type 0} → Option (Turn O P) → Option (O ⊎ P)
some_side (Some o) = Some (side o)
some_side None = None

abbrev pub tried_side : {O P : Type 0} → Answer (Option (Turn O P)) → Answer (Option (O ⊎ P))
tried_side (Ok found) = Ok (some_side found)
tried_side (Err k) = Err k
