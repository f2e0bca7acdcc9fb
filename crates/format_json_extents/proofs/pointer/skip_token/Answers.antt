use Rattle.format_json_extents.proofs.Pointing.{rooted_at, rooted_none, token_of}
use Rattle.format_json_extents.proofs.Runs.{run_extends_by_one}
use Rattle.format_json_extents.specs.Pointer.{IsTokenByte}
use Rattle.format_json_extents.proofs.pointer.skip_token.Goals as goal

pub token-preserved : goal.token-preserved
token-preserved c =
    run_extends_by_one IsTokenByte c.token.invariant c.in-Some.ensures.cases.0 c.if-first-eq47.false

pub returns-then-first-eq47 : goal.returns-then-first-eq47
returns-then-first-eq47 c =
    token_of c.token.invariant (rooted_at c.in-Some.ensures.cases.0 c.if-first-eq47.true)

pub returns-in-None : goal.returns-in-None
returns-in-None c = token_of c.token.invariant (rooted_none _ c.in-None.ensures.cases)
