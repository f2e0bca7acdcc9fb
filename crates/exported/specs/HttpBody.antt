-- The length of the body of a message, or why the message must be rejected, by its head.
use Rattle.std.specs.Prelude.{◌≡◌, ◌⊎◌, ℕ, List, Result, map, Ok, Err}
use Rattle.std.specs.declared.alloc.Global.{Global}
use Rattle.format_http.specs.Bodies.Framing.{Answer, IsBodyLength}
use Rattle.format_http.specs.Bodies.Refusals.{IsFraming}
use Rattle.format_http.specs.Heads.Head.{HeadStands, Pair, pair, request}
use Rattle.format_http.specs.Responses.Head.{ResponseStands, response_to}
use Rattle.format_http.specs.declared.bodies.framing.BodyLength.{BodyLength}
use Rattle.format_http.specs.declared.bodies.framing.BodyLength.TheVariants as lengths
use Rattle.format_http.specs.declared.bodies.framing.FramingError.{FramingError}
use Rattle.format_http.specs.declared.bodies.framing.FramingError.TheVariants as fault
use Rattle.format_http.specs.declared.bodies.refusals.Reason.{Reason}
use Rattle.format_http.specs.declared.bodies.refusals.Reason.TheVariants.{Body, Host, Target}
use Rattle.format_http.specs.declared.heads.head.Head.{Head}
use Rattle.format_http.specs.declared.heads.hosts.HostError.TheVariants.{Invalid, Many, Missing}
use Rattle.format_http.specs.declared.responses.head.ResponseHead.{ResponseHead}
use Rattle.exported.specs.Code.{done, invalid}
use Rattle.exported.specs.declared.http.body.HttpBody.{HttpBody}

-- ---- numbers

-- the number of the reason why the end of a body is ambiguous
abbrev pub fault_number : FramingError → ℕ
fault_number fault.CodingBeforeVersion = 4
fault_number fault.LengthBesideCoding = 5
fault_number fault.ChunkedNotLast = 6
fault_number fault.NotChunked = 7
fault_number fault.LengthsDiffer = 8
fault_number fault.LengthIsNoNumber = 9
fault_number fault.LengthTooLarge = 10
fault_number fault.InvalidCoding = 13

-- the number of the reason to reject a request
abbrev pub reason_number : Reason → ℕ
reason_number Target = 12
reason_number (Host Missing) = 2
reason_number (Host Many) = 3
reason_number (Host Invalid) = 11
reason_number (Body why) = fault_number why

-- no length and no error
abbrev pub no_body : HttpBody
no_body = record { kind = 0; error = 0; length = 0 }

-- `HasLength out kind n`: `out` has this kind, this number of bytes, and no error.
abbrev pub HasLength : HttpBody → ℕ → ℕ → Type 0
HasLength out kind n = (out.kind ≡ kind) × (out.error ≡ 0) × (out.length ≡ n)

-- `HasError out error`: `out` has this error, and zeros.
abbrev pub HasError : HttpBody → ℕ → Type 0
HasError out error = (out.kind ≡ 0) × (out.error ≡ error) × (out.length ≡ 0)

-- `IsWritten length out`: `out` reports this length.
abbrev pub IsWritten : BodyLength → HttpBody → Type 0
IsWritten lengths.NoBody out = HasLength out 0 0
IsWritten lengths.Chunked out = HasLength out 1 0
IsWritten (lengths.Length n) out = HasLength out 2 n
IsWritten lengths.UntilClose out = HasLength out 3 0
IsWritten lengths.Tunnel out = HasLength out 4 0

-- `Writes answer code out`: `code` and `out` report the length of a body, or the error.
abbrev pub Writes : Answer → ℕ → HttpBody → Type 0
Writes (Ok length) code out = (code ≡ done) × IsWritten length out
Writes (Err why) code out = (code ≡ invalid) × HasError out (fault_number why)

-- Likewise of a request.
abbrev pub WritesRequest : Result BodyLength Reason → ℕ → HttpBody → Type 0
WritesRequest (Ok length) code out = (code ≡ done) × IsWritten length out
WritesRequest (Err why) code out = (code ≡ invalid) × HasError out (reason_number why)

-- ---- requests

abbrev pub fields_of : Head Global → List Pair
fields_of head = map pair head.fields.items

-- `FramesRequest bytes code out`: `bytes` starts with the head of a request. `code` and `out`
-- report
-- the length of its body, or the reason to reject it.
pub record FramesRequest (bytes : List ℕ) (code : ℕ) (out : HttpBody) : Type 0 where
  pub head : Head Global
  pub rest : List ℕ
  pub stands : HeadStands bytes head rest
  pub framing : Result BodyLength Reason
  pub is_framing : IsFraming (request head.line) (fields_of head) framing
  pub writes : WritesRequest framing code out

-- The bytes do not start with the head of a request.
abbrev pub NoRequest : List ℕ → Type 0
NoRequest bytes = (head : Head Global) (rest : List ℕ) → HeadStands bytes head rest → ⊥

-- `RejectsRequest bytes code out`: `out` has the reason to reject the request.
abbrev pub RejectsRequest : List ℕ → ℕ → HttpBody → Type 0
RejectsRequest bytes code out =
    (NoRequest bytes × HasError out 1) ⊎ FramesRequest bytes code out

-- ---- responses

-- `FramesResponse method bytes code out`: `bytes` starts with the head of a response. `code` and
-- `out` report the length of its body, or the error.
pub record FramesResponse (method bytes : List ℕ) (code : ℕ) (out : HttpBody) : Type 0 where
  pub head : ResponseHead Global
  pub rest : List ℕ
  pub stands : ResponseStands bytes head rest
  pub answer : Answer
  pub is_answer : IsBodyLength (response_to method head.line.status) head.line.major
      head.line.minor (map pair head.fields.items) answer
  pub writes : Writes answer code out

-- The bytes do not start with the head of a response.
abbrev pub NoResponse : List ℕ → Type 0
NoResponse bytes =
    (head : ResponseHead Global) (rest : List ℕ) → ResponseStands bytes head rest → ⊥

-- `RejectsResponse method bytes code out`: `out` has the reason to reject the response.
abbrev pub RejectsResponse : List ℕ → List ℕ → ℕ → HttpBody → Type 0
RejectsResponse method bytes code out =
    (NoResponse bytes × HasError out 1) ⊎ FramesResponse method bytes code out
