use denote.Param.Always.{mut_total}
use Rattle.std.proofs.Common.{◌≡◌, ap, rules}
use Rattle.std.specs.Prelude.{map}
use Rattle.readers.specs.Sections.{pair_text, section_text}
use Rattle.winnow.specs.FuncCalls.{calls_with_leave}
use Rattle.readers.proofs.SectionLemmas.{same_text, section_read}
use Rattle.readers.proofs.ini.sections.one_section.Goals as goal

pub parse_next-requires : goal.parse_next-requires
parse_next-requires g c = (
  (
    (
      (mut_total _ _ (λ s a. tt), calls_with_leave _ _ (λ s x r y t met. met.0)),
      (mut_total _ _ (λ s a. tt), calls_with_leave _ _ (λ s x r y t met. met.0)),
    ),
    (mut_total _ _ (λ s a. tt), calls_with_leave _ _ (λ s x r y t met. met.0)),
  ),
  mut_total _ _ (λ s a. tt),
)

pub returns : goal.returns
returns g c =
    section_read (λ all. map pair_text all.items) (λ s x r y t met. met) (λ s x r y t met. met)
    (λ s x r y t met. met) section_text _ _ _ _ c.parse_next.ensures.ran.0
    c.parse_next.ensures.ran.3
    (λ o u h step.
    let named : u.name ≡ o.0 = search rules in
    let paired : u.pairs ≡ o.1 = search rules in
    same_text (ap (λ n. n.now) named) (ap (λ v. map pair_text v.items) paired))
