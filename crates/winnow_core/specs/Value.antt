-- The semantics of `value`.
use Rattle.winnow_core.specs.declared.combinator.impls.value.Value.{Value}

-- the parser whose output is replaced
abbrev pub value_parser : {F I O U E : Type 0} → Value F I O U E → F
value_parser s = s.parser

-- the value that replaces it
abbrev pub value_kept : {F I O U E : Type 0} → Value F I O U E → U
value_kept s = s.value

-- Clones of one value.
abbrev pub AlikeClones : {U : Type 0} → (U → U → Type 0) → U → U → Type 0
AlikeClones {U} IsClone u v = (value : U) × IsClone value u × IsClone value v
