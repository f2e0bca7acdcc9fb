use Rattle.std.proofs.Common.{◌∙◌, refl, subst, sym}
use Rattle.format_resp.proofs.FirstBytes.{byte_of_injective}
use Rattle.format_resp.specs.Resp.{IsInProtocol}
use Rattle.format_resp.proofs.marks.mark_of.Goals as goal

pub returns-in_err-mark-clause-none : goal.returns-in_err-mark-clause-none
returns-in_err-mark-clause-none c e mark within is = c.in_err-mark.ensures.none refl mark is

pub returns-else-is_in-clause-none : goal.returns-else-is_in-clause-none
returns-else-is_in-clause-none c e mark within is =
    c.if-is_in.ensures (subst (λ m. IsInProtocol c.args.protocol m)
    (byte_of_injective mark c.in_ok-mark.mark (sym is ∙ c.in_ok-mark.ensures.some)) within)
