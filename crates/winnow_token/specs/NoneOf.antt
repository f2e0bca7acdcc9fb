-- One token outside a set.
use Rattle.winnow_token.specs.declared.token.impls.none_of.NoneOf.{NoneOf}

-- the set that the token must not belong to
abbrev pub none_of_set : {S I E : Type 0} → NoneOf S I E → S
none_of_set s = s.set
