-- The head of a response of HTTP/1.1 (RFC 9112, section 2.1): a status line, field lines, and an
-- empty line.
use Rattle.std.specs.Prelude.{◌++◌, ℕ, List, [], map}
use Rattle.format_http.specs.Heads.Head.{AreFields, Pair, pair}
use Rattle.format_http.specs.Responses.StatusLine.{IsStatusLine}
use Rattle.format_http.specs.declared.bodies.framing.Message.{Message}
use Rattle.format_http.specs.declared.bodies.framing.Message.TheVariants.{Response}
use Rattle.format_http.specs.declared.responses.head.ResponseHead.{ResponseHead}
use Rattle.format_http.specs.declared.responses.status_line.StatusLine.{StatusLine}
use Rattle.grammars.specs.Grammar.{Grammar}

-- The contents of a status line, independent of its address: the two numbers of the version, the
-- status code, and the reason.
pub record Status : Type 0 where
  pub major : ℕ
  pub minor : ℕ
  pub status : ℕ
  pub reason : List ℕ

-- what a status line that was read says
abbrev pub status_of : StatusLine → Status
status_of line = record {
  major = line.major;
  minor = line.minor;
  status = line.status;
  reason = line.reason.now;
}

-- The bytes are the head of this response with these fields, and then the rest.
pub record IsResponseHead (line : Status) (fields : List Pair) (bytes rest : List ℕ) : Type 0 where
  pub behind : List ℕ
  pub is_line : IsStatusLine line.major line.minor line.status line.reason bytes behind
  pub are_fields : AreFields fields behind rest

-- The bytes start with this head.
abbrev pub ResponseStands : {A : Type 0} → Grammar ℕ (ResponseHead A)
ResponseStands bytes head rest =
    IsResponseHead (status_of head.line) (map pair head.fields.items) bytes rest

-- a response of this status code to a request of this method
abbrev pub response_to : List ℕ → ℕ → Message
response_to method status = Response (record { ref_ptr = (0, 0); now = method }) status

-- Whatever comes after the bytes, they begin with no head.
abbrev pub NoResponseHead : List ℕ → Type 0
NoResponseHead bytes =
    (line : Status) (fields : List Pair) (more rest : List ℕ)
    → IsResponseHead line fields (bytes ++ more) rest → ⊥

-- With more after them the bytes are a head.
abbrev pub BeginsResponseHead : List ℕ → Type 0
BeginsResponseHead bytes =
    (line : Status) × (fields : List Pair) × (more : List ℕ)
    × IsResponseHead line fields (bytes ++ more) []
