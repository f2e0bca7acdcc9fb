-- Elements with separators between them, folded to the right.
pub use Rattle.parser_definitions.specs.SeparatedFold.{FoldsRight}
use Rattle.winnow_separated.specs.declared.combinator.impls.separated_foldr1.SeparatedFoldr1.{
  SeparatedFoldr1,
}

-- the parser of the elements
abbrev pub foldr1_parser : {P S H I O D E A : Type 0} → SeparatedFoldr1 P S H I O D E A → P
foldr1_parser s = s.pair.1

-- the parser of the separators
abbrev pub foldr1_separator : {P S H I O D E A : Type 0} → SeparatedFoldr1 P S H I O D E A → S
foldr1_separator s = s.pair.0
