use Rattle.format_http.proofs.BodiesLemmas.Steps.{step_in}
use Rattle.format_http.proofs.bodies.coding.step_at.Goals as goal

pub returns-in-Start : goal.returns-in-Start
returns-in-Start c = step_in c.in-Start.is _ _ c.step_start.ensures

pub returns-in-Token : goal.returns-in-Token
returns-in-Token c = step_in c.in-Token.is _ _ c.step_token.ensures

pub returns-in-Closed : goal.returns-in-Closed
returns-in-Closed c = step_in c.in-Closed.is _ _ c.step_closed.ensures

pub returns-in-White : goal.returns-in-White
returns-in-White c = step_in c.in-White.is _ _ c.step_white.ensures

pub returns-in-Semicolon : goal.returns-in-Semicolon
returns-in-Semicolon c = step_in c.in-Semicolon.is _ _ c.step_semicolon.ensures

pub returns-in-Name : goal.returns-in-Name
returns-in-Name c = step_in c.in-Name.is _ _ c.step_name.ensures

pub returns-in-NameWhite : goal.returns-in-NameWhite
returns-in-NameWhite c = step_in c.in-NameWhite.is _ _ c.step_name_white.ensures

pub returns-in-Equals : goal.returns-in-Equals
returns-in-Equals c = step_in c.in-Equals.is _ _ c.step_equals.ensures

pub returns-in-Quotes : goal.returns-in-Quotes
returns-in-Quotes c = step_in c.in-Quotes.is _ _ c.step_quotes.ensures

pub returns-in-Escape : goal.returns-in-Escape
returns-in-Escape c = step_in c.in-Escape.is _ _ c.step_escape.ensures
