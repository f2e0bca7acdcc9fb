use mathlib.Core.Bool.{false≢true}
use Rattle.std.proofs.Common.{refl}
use Rattle.format_http.proofs.HeadsLemmas.UriSteps.{host_colon, host_none, host_path}
use Rattle.format_http.proofs.heads.uris.step_after_host.Goals as goal

pub returns-then-byte-eq58 : goal.returns-then-byte-eq58
returns-then-byte-eq58 c bytes = host_colon c.args.byte bytes c.args.of c.if-byte-eq58.true

pub returns-then-is_start : goal.returns-then-is_start
returns-then-is_start c bytes = host_path c.args.byte bytes c.args.of c.if-byte-eq58.false
    (c.if-is_start.ensures.0 refl)

pub returns : goal.returns
returns c bytes = host_none c.args.byte bytes c.args.of c.if-byte-eq58.false
    (λ t. false≢true (c.if-is_start.ensures.1 t))
