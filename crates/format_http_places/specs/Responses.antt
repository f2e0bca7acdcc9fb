-- The offsets of the parts of a response's head, and the contracts of reading bytes.
use Rattle.std.specs.Prelude.{◌≡◌, ◌+◌, ◌<◌, ◌≤◌, ℕ, List, ◌++◌, length, take}
use Rattle.std.specs.Prelude.{Result, Ok, Err}
use Rattle.format_http.specs.Heads.Bytes.{line_end}
use Rattle.format_http.specs.Heads.Head.{Pair}
use Rattle.format_http.specs.Responses.Head.{BeginsResponseHead, NoResponseHead}
use Rattle.format_http.specs.Responses.StatusLine.{IsEnding}
use Rattle.format_http.specs.Responses.Head.{IsResponseHead, Status}
use Rattle.format_http.specs.Responses.StatusLine.{IsCode, IsStatusLine, three}
use Rattle.format_http_places.specs.Places.{AreShown, StandsAt}
use Rattle.format_http_places.specs.Refusals.{IsRefusedBy}
use Rattle.format_http_places.specs.States.{IsIn}
use Rattle.format_http_places.specs.declared.parts.HeadKind.TheVariants as kind
use Rattle.format_http_places.specs.declared.places.Field.{Field}
use Rattle.format_http_places.specs.declared.places.ResponseHead.{ResponseHead}
use Rattle.format_http_places.specs.declared.read.HeadError.{HeadError}
use Rattle.format_http_places.specs.declared.read.HeadError.TheVariants.{Incomplete, Invalid}
use Rattle.format_http_places.specs.declared.read.HeadError.TheVariants.{TooManyFields}
use Rattle.format_http_places.specs.declared.status.Reason.{Reason}
use Rattle.format_http_places.specs.declared.status.StatusLine.{StatusLine}

-- The input starts with a head, which has these numbers and whose parts are at these positions: the
-- reason before the end of its line, and each field in its own line, after that.
pub record ShowsResponse (input : List ℕ) (head : ResponseHead) (places : List Field)
    : Type 0 where
  pub line : Status
  pub fields : List Pair
  pub rest : List ℕ
  pub is_head : IsResponseHead line fields input rest
  pub major : head.major ≡ line.major
  pub minor : head.minor ≡ line.minor
  pub status : head.status ≡ line.status
  pub reason : StandsAt input head.reason line.reason (line_end ++ is_head.behind)
  pub count : head.fields ≡ length fields
  pub are_shown : AreShown input is_head.behind places fields (line_end ++ rest)
  pub ends : head.length + length rest ≡ length input

-- The input starts with a head of `count` fields.
pub record IsResponseWanted (input : List ℕ) (count : ℕ) : Type 0 where
  pub line : Status
  pub fields : List Pair
  pub rest : List ℕ
  pub is_head : IsResponseHead line fields input rest
  pub counts : count ≡ length fields

-- The bytes begin with no head.
abbrev pub NoResponseRead : List ℕ → Type 0
NoResponseRead bytes = (line : Status) (fields : List Pair) (rest : List ℕ)
    → IsResponseHead line fields bytes rest → ⊥

-- `place` is the first offset at which no head can continue: some head starts with the bytes before
-- it, and none with these and the next byte.
abbrev pub IsResponseRefused : List ℕ → ℕ → Type 0
IsResponseRefused bytes place = IsRefusedBy BeginsResponseHead NoResponseHead bytes place

-- The contract of reading bytes: a head, whose fields are in the first entries; a head with more
-- fields than entries; the offset at which no head continues; or incomplete, if some longer input
-- starts with a head, and these bytes do not.
abbrev pub ReadsResponse : List ℕ → Result ResponseHead HeadError → List Field → Type 0
ReadsResponse bytes (Ok head) fields = ShowsResponse bytes head (take head.fields fields)
ReadsResponse bytes (Err (TooManyFields count)) fields =
    IsResponseWanted bytes count × (length fields < count)
ReadsResponse bytes (Err (Invalid it)) fields =
    IsResponseRefused bytes it.place × IsIn kind.Response (take it.place bytes) it.part
ReadsResponse bytes (Err Incomplete) fields = BeginsResponseHead bytes × NoResponseRead bytes

-- The bytes start with a head, and the entries hold as many of its fields as there is room for.
abbrev pub ReadsResponseParts : List ℕ → ResponseHead → List Field → Type 0
ReadsResponseParts bytes head fields =
    (head.fields ≤ length fields → ShowsResponse bytes head (take head.fields fields))
    × IsResponseWanted bytes head.fields

-- ---- status lines

-- The bytes start with the three digits of this status code.
pub record IsCodeFirst (status : ℕ) (bytes rest : List ℕ) : Type 0 where
  pub hundreds : ℕ
  pub tens : ℕ
  pub ones : ℕ
  pub splits : bytes ≡ three hundreds tens ones ++ rest
  pub is_code : IsCode status hundreds tens ones

-- `bytes` are the end of an input of length `whole`, and start with a space and this reason, or
-- nothing, and a line ending.
pub record ShowsReason (whole : ℕ) (bytes : List ℕ) (reason : Reason) : Type 0 where
  pub text : List ℕ
  pub is_ending : IsEnding text bytes reason.rest.now
  pub shows : (input before : List ℕ) → input ≡ before ++ bytes → length input ≡ whole
      → StandsAt input reason.place text (line_end ++ reason.rest.now)

-- The input begins with this status line.
pub record ShowsStatus (input : List ℕ) (line : StatusLine) : Type 0 where
  pub reason : List ℕ
  pub is_line : IsStatusLine line.major line.minor line.status reason input line.rest.now
  pub reason_at : StandsAt input line.reason reason (line_end ++ line.rest.now)
