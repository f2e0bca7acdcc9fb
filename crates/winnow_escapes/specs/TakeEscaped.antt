-- Text with escapes, as it stands.
use Rattle.winnow_core.specs.Take.{take_parser}
use Rattle.winnow_escapes.specs.Escaped.{escaped_control, escaped_escape}
use Rattle.winnow_escapes.specs.Escaped.{escaped_normal}
use Rattle.winnow_escapes.specs.declared.ascii.impls.take_escaped.TakeEscaped.{TakeEscaped}

-- the parser of literal text
abbrev pub take_escaped_normal : {N K X I O D P E : Type 0} → TakeEscaped N K X I O D P E → N
take_escaped_normal s = escaped_normal (take_parser s.taken)

-- the parser of the control
abbrev pub take_escaped_control : {N K X I O D P E : Type 0} → TakeEscaped N K X I O D P E → K
take_escaped_control s = escaped_control (take_parser s.taken)

-- the parser of the input after a control
abbrev pub take_escaped_escapable : {N K X I O D P E : Type 0} → TakeEscaped N K X I O D P E → X
take_escaped_escapable s = escaped_escape (take_parser s.taken)
