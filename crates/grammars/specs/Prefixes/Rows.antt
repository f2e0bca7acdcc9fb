-- The prefixes of repetitions, and of elements with separators between them.
use Rattle.grammars.specs.Texts.{BothText, Text}

-- ---- lists of elements: none, or one and the others

-- a separator and an element
abbrev pub NextText : {T O D : Type 0} → Text T D → Text T O → Text T O
NextText separator text = BothText (λ d o. o) separator text
