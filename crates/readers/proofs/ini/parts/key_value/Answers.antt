use denote.Param.Always.{mut_total}
use Rattle.std.proofs.Common.{ap, refl, inl, inr, Err}
use Rattle.winnow.specs.Bytes.{bytes_reading}
use Rattle.winnow.specs.Input.{is_end_of_refl}
use Rattle.winnow.specs.FuncCalls.{calls_leave}
use Rattle.winnow.specs.Inversion.Outcomes.{fails_at}
use Rattle.winnow.specs.Inversion.Sequences.{both_err, terminated_ok}
use Rattle.readers.proofs.KeyValueLemmas.{front_err, front_ok, pair_read, remark_never_fails}
use Rattle.readers.proofs.KeyValueLemmas.{remark_read}
use Rattle.readers.proofs.ini.parts.key_value.Goals as goal

pub returns-in-Ok : goal.returns-in-Ok
returns-in-Ok c =
    let (o2, a, s, r1, r2) = terminated_ok c.in-Ok.ensures.ran.3 in
    let (before, lead, body, laid, some, trail, text) = front_ok (λ f x r y h met. met)
    (λ f x r y h met. met) (λ f x r y h met. met) r1 in
    let (remark, is_remark, rest, ends) =
    remark_read (λ f x r y h met. met) o2 laid.body_ends r2 in
    let (p, begins, keys, values) =
    pair_read _ _ _ _ _ _ _ _ _ laid some trail text is_remark rest ends in
    (c.in-Ok.ensures.ran.0, inl (p, _, _, begins, keys, values, refl))

pub returns-in-Err : goal.returns-in-Err
returns-in-Err c =
    elim (both_err (_, c.in-Err.ensures.ran.3, fails_at _ _)) [
      | inl r1 ↦
          let (none, is) = front_err (λ f x r y h met. met) (λ f x r y h met. met)
          (λ f x r y h met. met) r1 in
          (is_end_of_refl bytes_reading _, inr (none, refl, ap Err is))
      | inr (o1, a, r1, r2) ↦ remark_never_fails (λ f x r y h met. met) r2
    ]

pub parse_next-requires : goal.parse_next-requires
parse_next-requires c = (
  (
    (mut_total _ _ (λ s a. tt), calls_leave _ _ (λ f x r y h met. met.0)),
    (mut_total _ _ (λ s a. tt), calls_leave _ _ (λ f x r y h met. met.0)),
    (mut_total _ _ (λ s a. tt), calls_leave _ _ (λ f x r y h met. met.0)),
  ),
  (mut_total _ _ (λ s a. tt), calls_leave _ _ (λ f x r y h met. met.0)),
)
