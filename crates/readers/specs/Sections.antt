-- The names and the pairs of the reader's sections.
use Rattle.std.specs.Prelude.{ℕ, List, map}
use Rattle.std.specs.Borrow.{Bor}
use Rattle.readers.specs.declared.ini.sections.Section.{Section}
use Rattle.readers.specs.Document.{SectionText}

-- the bytes of a key and a value
abbrev pub pair_text : Bor (List ℕ) × Bor (List ℕ) → List ℕ × List ℕ
pair_text p = (p.0.now, p.1.now)

-- the name of a section, and its pairs
abbrev pub section_text : {A : Type 0} → Section A → SectionText
section_text s = (s.name.now, map pair_text s.pairs.items)
