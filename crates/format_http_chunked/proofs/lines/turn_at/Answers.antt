use Rattle.format_http_chunked.proofs.Turns.{turn_in}
use Rattle.format_http_chunked.proofs.lines.turn_at.Goals as goal

pub returns-in-AfterSize : goal.returns-in-AfterSize
returns-in-AfterSize c size = turn_in c.in-AfterSize.is _ _ _ (c.turn_behind.ensures size)

pub returns-in-White : goal.returns-in-White
returns-in-White c size = turn_in c.in-White.is _ _ _ (c.turn_white.ensures size)

pub returns-in-Semicolon : goal.returns-in-Semicolon
returns-in-Semicolon c size = turn_in c.in-Semicolon.is _ _ _ (c.turn_semicolon.ensures size)

pub returns-in-Name : goal.returns-in-Name
returns-in-Name c size = turn_in c.in-Name.is _ _ _ (c.turn_name.ensures size)

pub returns-in-NameWhite : goal.returns-in-NameWhite
returns-in-NameWhite c size = turn_in c.in-NameWhite.is _ _ _ (c.turn_name_white.ensures size)

pub returns-in-Equals : goal.returns-in-Equals
returns-in-Equals c size = turn_in c.in-Equals.is _ _ _ (c.turn_equals.ensures size)

pub returns-in-Token : goal.returns-in-Token
returns-in-Token c size = turn_in c.in-Token.is _ _ _ (c.turn_token.ensures size)

pub returns-in-Quotes : goal.returns-in-Quotes
returns-in-Quotes c size = turn_in c.in-Quotes.is _ _ _ (c.turn_quotes.ensures size)

pub returns-in-Escape : goal.returns-in-Escape
returns-in-Escape c size = turn_in c.in-Escape.is _ _ _ (c.turn_escape.ensures size)

pub returns-in-Return : goal.returns-in-Return
returns-in-Return c size = turn_in c.in-Return.is _ _ _ (c.turn_return.ensures size)
