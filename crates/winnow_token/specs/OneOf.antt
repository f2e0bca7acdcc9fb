-- One token of a set.
use Rattle.winnow_token.specs.declared.token.impls.one_of.OneOf.{OneOf}
pub mod Laws

-- the set that the token must belong to
abbrev pub one_of_set : {S I E : Type 0} → OneOf S I E → S
one_of_set s = s.set
