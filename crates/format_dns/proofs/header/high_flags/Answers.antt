use Rattle.std.proofs.Common.{◌∙◌, ap, arith, length}
use Rattle.winnow_bits.specs.BitTake.{bit_take_count}
use Rattle.format_dns.proofs.HeaderRuns.{high_fails, high_must, high_read}
use Rattle.format_dns.proofs.header.high_flags.Goals as goal

pub returns-in-Ok-clause-flags : goal.returns-in-Ok-clause-flags
returns-in-Ok-clause-flags g c =
    high_read g.I.Stream.reading _ _ _ _ _
    (ap (λ p. bit_take_count p.1) c.bits.ensures ∙ c.high.ensures.opcode) c.shows_bytes.ensures
    c.in-Ok.ensures.ran

pub returns-in-Ok-clause-left : goal.returns-in-Ok-clause-left
returns-in-Ok-clause-left g c =
    let it = high_read g.I.Stream.reading _ _ _ _ _
    (ap (λ p. bit_take_count p.1) c.bits.ensures ∙ c.high.ensures.opcode) c.shows_bytes.ensures
    c.in-Ok.ensures.ran in
    omega (arith, ap (λ l. length l) it.splits)

pub returns-in-Err-clause-accepts : goal.returns-in-Err-clause-accepts
returns-in-Err-clause-accepts g c some fits =
    absurd (high_must g.I.Stream.reading _ _ _ _ _
    (ap (λ p. bit_take_count p.1) c.bits.ensures ∙ c.high.ensures.opcode) some fits
    c.in-Err.ensures.ran)

pub returns-in-Err-clause-fails : goal.returns-in-Err-clause-fails
returns-in-Err-clause-fails g c =
    high_fails g.I.Stream.reading _ _ _ _ _
    (ap (λ p. bit_take_count p.1) c.bits.ensures ∙ c.high.ensures.opcode) c.in-Err.ensures.ran

pub returns-in-Ok-clause-ends : goal.returns-in-Ok-clause-ends
returns-in-Ok-clause-ends g c = c.in-Ok.ensures.ran.0

pub returns-in-Err-clause-ends : goal.returns-in-Err-clause-ends
returns-in-Err-clause-ends g c = c.in-Err.ensures.ran.0
