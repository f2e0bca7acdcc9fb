-- The parser after a reference.
use Rattle.std.specs.Prelude.{ℕ}
use Rattle.winnow_core.specs.declared.combinator.impls.by_ref.ByRef.{ByRef}

-- the parser after the reference
abbrev pub by_ref_parser : {P I O E : Type 0} → ByRef P I O E → P
by_ref_parser s = s.parser.now

-- which reference it is
abbrev pub by_ref_name : {P I O E : Type 0} → ByRef P I O E → ℕ
by_ref_name s = s.parser.ghost_name
