-- Heads of requests and of responses as callers see them.
use Rattle.std.specs.Prelude.{◌≡◌, ◌⊎◌, ℕ, List, length, take}
use Rattle.format_http.specs.Heads.Head.{BeginsHead}
use Rattle.format_http.specs.Responses.Head.{BeginsResponseHead}
use Rattle.format_http_places.specs.Refusals.{IsRefused, NoneRead}
use Rattle.format_http_places.specs.Responses.{IsResponseRefused, NoResponseRead}
use Rattle.format_http_places.specs.States.{IsIn}
use Rattle.format_http_places.specs.declared.parts.HeadKind.{HeadKind}
use Rattle.format_http_places.specs.declared.parts.HeadKind.TheVariants as kind
use Rattle.format_http_places.specs.declared.parts.HeadPart.{HeadPart}
use Rattle.format_http_places.specs.declared.parts.HeadPart.TheVariants as part
use Rattle.format_http_places.specs.declared.places.FieldLines.{FieldLines}
use Rattle.format_http_places.specs.declared.places.Head.{Head as Places}
use Rattle.format_http_places.specs.declared.places.ResponseHead.{ResponseHead as ResponsePlaces}
use Rattle.exported.specs.declared.http.HttpRequest.{HttpRequest}
use Rattle.exported.specs.declared.http.response.HttpResponse.{HttpResponse}
use Rattle.exported.specs.declared.http.trailers.HttpFields.{HttpFields}

-- the number of a part of a head
abbrev pub part_number : HeadPart → ℕ
part_number part.Method = 1
part_number part.Target = 2
part_number part.Version = 3
part_number part.StatusCode = 4
part_number part.FieldName = 5
part_number part.Colon = 6
part_number part.Value = 7
part_number part.LineEnding = 8

-- `error` is the number of the part of a head of this kind that the byte at this offset is in.
pub record HasPart (k : HeadKind) (bytes : List ℕ) (place error : ℕ) : Type 0 where
  pub part : HeadPart
  pub is_in : IsIn k (take place bytes) part
  pub is_number : error ≡ part_number part

-- the places of a head
abbrev pub places_of : HttpRequest → Places
places_of head = record {
  method = head.method;
  target = head.target;
  fields = head.fields;
  length = head.length;
  major = head.major;
  minor = head.minor;
}

-- Only the number of fields and the offset of an error may differ from 0.
abbrev pub HasNoParts : HttpRequest → Type 0
HasNoParts head = (head.method ≡ record { offset = 0; length = 0 })
    × (head.target ≡ record { offset = 0; length = 0 }) × (head.length ≡ 0)
    × (head.major ≡ 0) × (head.minor ≡ 0)

-- `bytes` does not start with a head: `place` is the first offset at which no head can continue,
-- and `error` its part of the head; or `bytes` ends at `place` within a head, and `error` is 9.
abbrev pub IsNoHead : List ℕ → ℕ → ℕ → Type 0
IsNoHead bytes place error = (IsRefused bytes place × HasPart kind.Request bytes place error)
    ⊎ ((place ≡ length bytes) × BeginsHead bytes × NoneRead bytes × (error ≡ 9))

-- ---- responses

-- the numbers and the places of a head
abbrev pub response_of : HttpResponse → ResponsePlaces
response_of head = record {
  reason = head.reason;
  fields = head.fields;
  length = head.length;
  status = head.status;
  major = head.major;
  minor = head.minor;
}

-- Only the number of fields and the offset of an error may differ from 0.
abbrev pub HasNoResponseParts : HttpResponse → Type 0
HasNoResponseParts head = (head.reason ≡ record { offset = 0; length = 0 }) × (head.length ≡ 0)
    × (head.status ≡ 0) × (head.major ≡ 0) × (head.minor ≡ 0)

-- Likewise of a response.
abbrev pub IsNoResponse : List ℕ → ℕ → ℕ → Type 0
IsNoResponse bytes place error =
    (IsResponseRefused bytes place × HasPart kind.Response bytes place error)
    ⊎ ((place ≡ length bytes) × BeginsResponseHead bytes × NoResponseRead bytes × (error ≡ 9))

-- ---- field lines

-- the number and the length of field lines
abbrev pub lines_of : HttpFields → FieldLines
lines_of lines = record { fields = lines.fields; length = lines.length }
