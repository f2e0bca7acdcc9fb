use Rattle.std.proofs.Common.{subst, sym}
use Rattle.format_resp.specs.Resp.{IsInProtocol}
use Rattle.format_resp.proofs.write.is_foreign.Goals as goal

pub returns-then-is_in : goal.returns-then-is_in
returns-then-is_in g c =
    subst (λ m. IsInProtocol c.args.protocol m) c.begins.ensures c.if-is_in.ensures

pub returns-else-is_in : goal.returns-else-is_in
returns-else-is_in g c within =
    c.if-is_in.ensures (subst (λ m. IsInProtocol c.args.protocol m) (sym c.begins.ensures) within)
