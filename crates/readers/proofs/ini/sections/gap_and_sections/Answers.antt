use denote.Param.Always.{mut_total}
use Rattle.std.specs.Prelude.{map}
use Rattle.winnow.specs.FuncCalls.{calls_with_leave}
use Rattle.readers.specs.Sections.{section_text}
use Rattle.readers.proofs.DocumentReading.{document_read}
use Rattle.readers.proofs.ini.sections.gap_and_sections.Goals as goal

pub returns : goal.returns
returns g c =
    document_read (λ all. map section_text all.items) (λ s x r y t met. met)
    (λ s x r y t met. met) _ _ _ _ c.parse_next.ensures.ran.0 c.parse_next.ensures.ran.3

pub parse_next-requires : goal.parse_next-requires
parse_next-requires g c = (
  (mut_total _ _ (λ s a. tt), calls_with_leave _ _ (λ s x r y t met. met.0)),
  (mut_total _ _ (λ s a. tt), calls_with_leave _ _ (λ s x r y t met. met.0)),
)
