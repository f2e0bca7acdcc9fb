-- The requests of HTTP/1.1 that a server must reject because of their heads (RFC 9112, sections 3.2
-- and 6).
use Rattle.std.specs.Prelude.{List, Result, Some, None, Ok, Err}
use Rattle.format_http.specs.Bodies.Framing.{IsBodyLength}
use Rattle.format_http.specs.Heads.Head.{Pair, Request as Line}
use Rattle.format_http.specs.Heads.Hosts.{HasHostError}
use Rattle.format_http.specs.Heads.Targets.{IsTargetOf}
use Rattle.format_http.specs.declared.bodies.framing.BodyLength.{BodyLength}
use Rattle.format_http.specs.declared.bodies.framing.Message.TheVariants.{Request}
use Rattle.format_http.specs.declared.bodies.refusals.Reason.{Reason}
use Rattle.format_http.specs.declared.bodies.refusals.Reason.TheVariants.{Body, Host, Target}

-- The target of the line is of a form that its method may have.
abbrev pub HasTarget : Line → Type 0
HasTarget line = IsTargetOf line.method line.target

-- The length of the body of a request of this line with these fields, or the reason to reject it.
-- The target comes first, and then the Host fields.
abbrev pub IsFraming : Line → List Pair → Result BodyLength Reason → Type 0
IsFraming line fields (Err Target) = HasTarget line → ⊥
IsFraming line fields (Err (Host error)) = HasTarget line × HasHostError line fields (Some error)
IsFraming line fields (Err (Body error)) =
    HasTarget line × HasHostError line fields None
    × IsBodyLength Request line.major line.minor fields (Err error)
IsFraming line fields (Ok length) =
    HasTarget line × HasHostError line fields None
    × IsBodyLength Request line.major line.minor fields (Ok length)
