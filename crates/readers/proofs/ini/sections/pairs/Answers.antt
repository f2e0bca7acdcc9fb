use denote.Param.Always.{mut_total}
use Rattle.winnow.specs.FuncCalls.{calls_leave, calls_with_leave}
use Rattle.readers.proofs.SectionLemmas.{pairs_repeated, reads_pair}
use Rattle.readers.proofs.ini.sections.pairs.Goals as goal

pub returns : goal.returns
returns g c =
    pairs_repeated (reads_pair (λ f x r y h met. met) (λ s x r y t met. met)) _ _ _ _ _
    c.repeat.ensures.occurrences c.parse_next.ensures.ran.0 c.parse_next.ensures.ran.3

pub parse_next-requires : goal.parse_next-requires
parse_next-requires g c = (
  (mut_total _ _ (λ s a. tt), calls_leave _ _ (λ f x r y h met. met.0)),
  (mut_total _ _ (λ s a. tt), calls_with_leave _ _ (λ s x r y t met. met.0)),
)
