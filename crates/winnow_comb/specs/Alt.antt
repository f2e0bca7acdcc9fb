-- Choices: branch by branch, each from the start, to the first answer that does not backtrack.
use Rattle.winnow_comb.specs.declared.combinator.impls.alt.AltParser.{AltParser}

-- the branches
abbrev pub alt_alternatives : {A I O E : Type 0} → AltParser A I O E → A
alt_alternatives s = s.alternatives
