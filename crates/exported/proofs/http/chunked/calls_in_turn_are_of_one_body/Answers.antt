use Rattle.exported.proofs.Chunked.{calls_in_turn}
use Rattle.exported.proofs.http.chunked.calls_in_turn_are_of_one_body.Goals as goal

pub returns : goal.returns
returns c first is calls state taken content trailers turns =
    calls_in_turn first is calls state taken content trailers turns
