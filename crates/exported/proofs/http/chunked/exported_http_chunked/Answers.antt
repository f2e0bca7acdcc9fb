use Rattle.exported.proofs.Chunked.{tells}
use Rattle.exported.proofs.http.chunked.exported_http_chunked.Goals as goal

pub returns-clause-told : goal.returns-clause-told
returns-clause-told c = tells _ _ _ _ _ _ _ _ _ c.of_state-decoder.ensures c.state.ensures
    c.step_of-code.ensures.taken c.step_of-code.ensures.writes c.advance-said.ensures.spent
    c.advance-said.ensures.told
