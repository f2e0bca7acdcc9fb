-- Elements with separators between them, folded to the left.
use Rattle.std.specs.Prelude.{◌≡◌, List, [], ◌∷◌}
use Rattle.winnow_separated.specs.declared.combinator.impls.separated_foldl1.SeparatedFoldl1.{
  SeparatedFoldl1,
}

-- the parser of the elements
abbrev pub foldl1_parser : {P S H I O D E : Type 0} → SeparatedFoldl1 P S H I O D E → P
foldl1_parser s = s.link.parser

-- the parser of the separators
abbrev pub foldl1_separator : {P S H I O D E : Type 0} → SeparatedFoldl1 P S H I O D E → S
foldl1_separator s = s.link.separator

-- The value of a first element and the links after it, from the left: the closure joins the value
-- so far, a separator and the element after it.
abbrev pub FoldsLeft : {Q O D : Type 0} → (Q → O → D → O → O → Q → Type 0) → Q → O → List (D × O)
    → O → Q → Type 0
FoldsLeft step q first [] value p = (value ≡ first) × (p ≡ q)
FoldsLeft {Q} {O} step q first (link ∷ links) value p =
    (more : O) × (c : Q) × step q first link.0 link.1 more c
    × FoldsLeft step c more links value p
