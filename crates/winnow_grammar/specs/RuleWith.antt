-- Rules by functions with an argument: their parts.
use Rattle.winnow_grammar.specs.declared.by_with.ByWith.{ByWith}

abbrev pub with_rule : {N A F : Type 0} → ByWith N A F → N
with_rule p = p.rule

abbrev pub with_argument : {N A F : Type 0} → ByWith N A F → A
with_argument p = p.argument

abbrev pub with_run : {N A F : Type 0} → ByWith N A F → F
with_run p = p.run
