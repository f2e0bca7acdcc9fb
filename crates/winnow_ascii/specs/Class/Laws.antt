-- Laws of parsers of a character class.
use Rattle.std.specs.Prelude.{⊤, ℕ, None}
use Rattle.streams.specs.Reading.{Reading}
use Rattle.stream_sets.specs.Range.{from_to}
use Rattle.grammars.specs.Grammar.{Class, InClass, IsUnique}
use Rattle.parser_definitions.specs.Class.{CharIsFunction, class_once}
use Rattle.parser_definitions.specs.Projects.Tokens.{longest_unique}

pub class_unique : {K T L : Type 0} (class : ℕ → Type 0) (least : ℕ) (code : K → ℕ) (seen : K → T)
    (reading : Reading T L) → CharIsFunction seen code
    → IsUnique (Class class least code seen reading)
class_unique class least code seen reading once =
    longest_unique reading seen (InClass class code) tt (from_to least None)
    (class_once {S = ⊤} class least code seen reading once tt)
