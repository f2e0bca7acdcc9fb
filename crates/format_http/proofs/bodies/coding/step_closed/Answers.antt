use Rattle.format_http.proofs.BodiesLemmas.Steps.{closed_semicolon, closed_white}
use Rattle.format_http_chunked.proofs.Turns.{white_of}
use Rattle.format_http.proofs.bodies.coding.step_closed.Goals as goal

pub returns-in-59 : goal.returns-in-59
returns-in-59 c bytes = closed_semicolon c.args.byte bytes c.in-59.is

pub returns-in-32 : goal.returns-in-32
returns-in-32 c bytes = closed_white c.args.byte bytes (white_of _ c.in-32.is)
