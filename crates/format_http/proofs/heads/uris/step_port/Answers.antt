use mathlib.Core.Bool.{false≢true}
use Rattle.std.proofs.Common.{refl}
use Rattle.format_http.proofs.HeadsLemmas.UriSteps.{port_in, port_none, port_path}
use Rattle.format_http.proofs.heads.uris.step_port.Goals as goal

pub returns-then-is_digit : goal.returns-then-is_digit
returns-then-is_digit c bytes =
    port_in c.args.byte bytes c.args.of (c.if-is_digit.ensures.0 refl)

pub returns-then-is_start : goal.returns-then-is_start
returns-then-is_start c bytes = port_path c.args.byte bytes c.args.of
    (λ t. false≢true (c.if-is_digit.ensures.1 t)) (c.if-is_start.ensures.0 refl)

pub returns : goal.returns
returns c bytes = port_none c.args.byte bytes c.args.of
    (λ t. false≢true (c.if-is_digit.ensures.1 t)) (λ t. false≢true (c.if-is_start.ensures.1 t))
