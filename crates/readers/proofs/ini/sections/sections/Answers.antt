use denote.Param.Always.{mut_total}
use Rattle.winnow.specs.FuncCalls.{calls_with_leave}
use Rattle.readers.specs.Sections.{section_text}
use Rattle.readers.proofs.DocumentReading.{reads_section, sections_repeated}
use Rattle.readers.proofs.ini.sections.sections.Goals as goal

pub returns : goal.returns
returns g c =
    sections_repeated (reads_section section_text (λ s x r y t met. met)) _ _ _ _ _
    c.repeat.ensures.occurrences c.parse_next.ensures.ran.0 c.parse_next.ensures.ran.3

pub parse_next-requires : goal.parse_next-requires
parse_next-requires g c = (mut_total _ _ (λ s a. tt), calls_with_leave _ _ (λ s x r y t met. met.0))
