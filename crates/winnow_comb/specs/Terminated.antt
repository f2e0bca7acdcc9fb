-- A child before one whose output is let go.
use Rattle.winnow_comb.specs.declared.combinator.impls.terminated.Terminated.{Terminated}

-- the parser whose output is kept
abbrev pub terminated_parser : {P1 P2 I O1 O2 E : Type 0} → Terminated P1 P2 I O1 O2 E → P1
terminated_parser s = s.parser
