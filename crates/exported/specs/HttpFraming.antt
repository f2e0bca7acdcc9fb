-- Where a message ends whose head was read, what of it is rejected, and whether the connection
-- persists after it.
use Rattle.std.specs.Prelude.{◌≡◌, ◌↔◌, ◌⊎◌, ◌++◌, ◌∷◌, ⊤, ℕ, List, Result, Ok, Err, IsTrue}
use Rattle.std.specs.Prelude.{codes, map, take}
use Rattle.std.specs.List.{AllByRecursion}
use Rattle.format_http.specs.Bodies.Framing.{Answer, IsBodyLength}
use Rattle.format_http.specs.Bodies.Refusals.{IsFraming}
use Rattle.format_http.specs.Heads.Head.{Pair, Request}
use Rattle.format_http.specs.Heads.Named.{IsNamed}
use Rattle.format_http.specs.Persistence.{Persists}
use Rattle.format_http.specs.Responses.Head.{Status, response_to}
use Rattle.format_http.specs.declared.bodies.framing.BodyLength.{BodyLength}
use Rattle.format_http.specs.declared.bodies.framing.BodyLength.TheVariants as lengths
use Rattle.format_http.specs.declared.bodies.refusals.Reason.{Reason}
use Rattle.format_http.specs.declared.bodies.refusals.Reason.TheVariants.{Body, Host, Target}
use Rattle.format_http.specs.declared.heads.hosts.HostError.TheVariants.{Invalid, Many, Missing}
use Rattle.format_http_places.specs.Slices.{pair_at, text_at}
use Rattle.format_http_places.specs.declared.places.Field.{Field}
use Rattle.format_http_places.specs.declared.places.Span.{Span}
use Rattle.exported.specs.HttpBody.{Writes, WritesRequest}
use Rattle.exported.specs.declared.http.HttpRequest.{HttpRequest}
use Rattle.exported.specs.declared.http.framing.HttpFraming.{HttpFraming}
use Rattle.exported.specs.declared.http.response.HttpResponse.{HttpResponse}

-- ---- what is at the positions

-- the request line at the positions of a head
abbrev pub line_at : List ℕ → HttpRequest → Request
line_at bytes head = record {
  method = text_at bytes head.method;
  target = text_at bytes head.target;
  major = head.major;
  minor = head.minor;
}

-- the status line of a head
abbrev pub status_at : List ℕ → HttpResponse → Status
status_at bytes head = record {
  major = head.major;
  minor = head.minor;
  status = head.status;
  reason = text_at bytes head.reason;
}

-- the first `count` fields
abbrev pub fields_at : List ℕ → ℕ → List Field → List Pair
fields_at bytes count places = map (pair_at bytes) (take count places)

-- the span of nothing
abbrev pub nowhere : Span
nowhere = record { offset = 0; length = 0 }

-- ---- framing

-- "In order to remain persistent, all messages on a connection need to have a self-defined message
-- length (i.e., one not defined by closure of the connection)" (RFC 9112, section 9.3).
abbrev pub IsDelimited : BodyLength → Type 0
IsDelimited lengths.NoBody = ⊤
IsDelimited lengths.Chunked = ⊤
IsDelimited (lengths.Length n) = ⊤
IsDelimited lengths.UntilClose = ⊥
IsDelimited lengths.Tunnel = ⊥

-- A message of this version with these fields and this framing leaves the connection open.
abbrev pub Remains : {E : Type 0} → ℕ → ℕ → List Pair → Result BodyLength E → Type 0
Remains major minor fields (Ok length) = IsDelimited length × Persists major minor fields
Remains major minor fields (Err why) = ⊥

-- `FramesLine line fields code out`: `code` and `out` report the length of the body of a request of
-- this line with these fields, or the reason to reject it, and whether the connection persists.
pub record FramesLine (line : Request) (fields : List Pair) (code : ℕ) (out : HttpFraming)
    : Type 0 where
  pub framing : Result BodyLength Reason
  pub is_framing : IsFraming line fields framing
  pub writes : WritesRequest framing code out.body
  pub persists : IsTrue out.persists ↔ Remains line.major line.minor fields framing

-- Likewise of a response to a request of this method.
pub record FramesStatus (method : List ℕ) (line : Status) (fields : List Pair) (code : ℕ)
    (out : HttpFraming) : Type 0 where
  pub answer : Answer
  pub is_answer : IsBodyLength (response_to method line.status) line.major line.minor fields answer
  pub writes : Writes answer code out.body
  pub persists : IsTrue out.persists ↔ Remains line.major line.minor fields answer

-- ---- Host fields

-- The name at the position of the field is Host.
abbrev pub IsHostAt : List ℕ → Field → Type 0
IsHostAt bytes field = IsNamed (codes "host") (text_at bytes field.name)

-- None of the fields is named Host.
abbrev pub HasNoHost : List ℕ → List Field → Type 0
HasNoHost bytes = AllByRecursion (λ field. IsHostAt bytes field → ⊥)

-- `IsNextHost bytes fields field behind`: `field` is the first that is named Host, and `behind` are
-- the fields after it.
pub record IsNextHost (bytes : List ℕ) (fields : List Field) (field : Field)
    (behind : List Field) : Type 0 where
  pub before : List Field
  pub splits : fields ≡ before ++ field ∷ behind
  pub none_before : HasNoHost bytes before
  pub is_host : IsHostAt bytes field

-- At most one of the fields is named Host.
abbrev pub HasOneHost : List ℕ → List Field → Type 0
HasOneHost bytes fields =
    HasNoHost bytes fields ⊎ ((field : Field) × (behind : List Field)
    × IsNextHost bytes fields field behind × HasNoHost bytes behind)

-- `place` is the value of the first Host field.
abbrev pub IsFirstValue : List ℕ → List Field → Span → Type 0
IsFirstValue bytes fields place =
    (field : Field) × (behind : List Field) × IsNextHost bytes fields field behind
    × (place ≡ field.value)

-- `place` is the name of the second Host field.
abbrev pub IsSecondName : List ℕ → List Field → Span → Type 0
IsSecondName bytes fields place =
    (field : Field) × (behind : List Field) × IsNextHost bytes fields field behind
    × (second : Field) × (others : List Field) × IsNextHost bytes behind second others
    × (place ≡ second.name)

-- ---- what is rejected

-- The position of what is rejected, if there are as many Host fields as the reason says.
abbrev pub IsPlaceOf : List ℕ → List Field → Span → Result BodyLength Reason → Span → Type 0
IsPlaceOf bytes fields target (Err Target) place = place ≡ target
IsPlaceOf bytes fields target (Err (Host Many)) place =
    HasOneHost bytes fields ⊎ IsSecondName bytes fields place
IsPlaceOf bytes fields target (Err (Host Invalid)) place =
    HasNoHost bytes fields ⊎ IsFirstValue bytes fields place
IsPlaceOf bytes fields target (Err (Host Missing)) place = place ≡ nowhere
IsPlaceOf bytes fields target (Err (Body why)) place = place ≡ nowhere
IsPlaceOf bytes fields target (Ok length) place = place ≡ nowhere

-- `IsRejectedAt bytes fields target error place`: `place` is the position of what is rejected for
-- the error of this number: the target, the second Host field, or the value of the Host field.
pub record IsRejectedAt (bytes : List ℕ) (fields : List Field) (target : Span) (error : ℕ)
    (place : Span) : Type 0 where
  pub at_target : error ≡ 12 → place ≡ target
  pub at_second : error ≡ 3 → IsSecondName bytes fields place
  pub at_value : error ≡ 11 → IsFirstValue bytes fields place
  pub others : (error ≡ 12 → ⊥) → (error ≡ 3 → ⊥) → (error ≡ 11 → ⊥) → place ≡ nowhere
