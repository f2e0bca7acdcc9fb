-- The slice that a parser read.
use Rattle.winnow_core.specs.declared.combinator.impls.take.Take.{Take}
pub mod Laws

-- the parser whose slice is returned
abbrev pub take_parser : {F I O E : Type 0} → Take F I O E → F
take_parser s = s.parser
