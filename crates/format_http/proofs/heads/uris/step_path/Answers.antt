use mathlib.Core.Bool.{false≢true}
use Rattle.std.proofs.Common.{refl}
use Rattle.format_http.proofs.HeadsLemmas.UriSteps.{path_in, path_none, path_percent}
use Rattle.format_http.proofs.heads.uris.step_path.Goals as goal

pub returns-then-is_path : goal.returns-then-is_path
returns-then-is_path c bytes = path_in c.args.byte bytes (c.if-is_path.ensures.0 refl)

pub returns-then-byte-eq37 : goal.returns-then-byte-eq37
returns-then-byte-eq37 c bytes = path_percent c.args.byte bytes
    (λ t. false≢true (c.if-is_path.ensures.1 t)) c.if-byte-eq37.true

pub returns : goal.returns
returns c bytes = path_none c.args.byte bytes (λ t. false≢true (c.if-is_path.ensures.1 t))
    c.if-byte-eq37.false
