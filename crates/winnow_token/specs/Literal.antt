-- A literal: its runs are those of a literal by value.
use Rattle.winnow_token.specs.declared.token.impls.literal.Literal.{Literal}

-- the literal that is compared
abbrev pub literal_value : {T I E : Type 0} → Literal T I E → T
literal_value s = s.literal
