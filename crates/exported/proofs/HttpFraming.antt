-- Lemmas about the positions of Host fields, and about the heads at positions.
use Rattle.std.specs.Prelude.{◌≡◌, ◌<◌, ◌++◌, ◌∷◌, ◌⊎◌, [], ℕ, List, Result, Ok, Err}
use Rattle.std.specs.Prelude.{length, map}
use Rattle.std.proofs.Common.{◌∙◌, ap, append-nil, arith, inl, inr, subst, sym}
use Rattle.format_http.specs.Bodies.Refusals.{IsFraming}
use Rattle.format_http.specs.Heads.Head.{Pair, Request}
use Rattle.format_http.specs.Heads.Hosts.{AreHosts, HasInvalidHost}
use Rattle.format_http.specs.declared.bodies.framing.BodyLength.{BodyLength}
use Rattle.format_http.specs.declared.bodies.framing.BodyLength.TheVariants as lengths
use Rattle.format_http.specs.declared.bodies.framing.FramingError.{FramingError}
use Rattle.format_http.specs.declared.bodies.framing.FramingError.TheVariants as fault
use Rattle.format_http.specs.declared.bodies.refusals.Reason.{Reason}
use Rattle.format_http.specs.declared.bodies.refusals.Reason.TheVariants.{Body, Host, Target}
use Rattle.format_http.specs.declared.heads.hosts.HostError.TheVariants.{Invalid, Many, Missing}
use Rattle.format_http_places.specs.Places.{ShowsHead}
use Rattle.format_http_places.specs.Responses.{ShowsResponse}
use Rattle.format_http_places.specs.Slices.{pair_at, text_at}
use Rattle.format_http_places.specs.declared.places.Field.{Field}
use Rattle.format_http_places.specs.declared.places.Span.{Span}
use Rattle.exported.specs.Http.{places_of, response_of}
use Rattle.exported.specs.HttpBody.{IsWritten, WritesRequest, fault_number}
use Rattle.exported.specs.HttpFraming.{FramesLine, FramesStatus, HasNoHost, HasOneHost}
use Rattle.exported.specs.HttpFraming.{IsFirstValue, IsHostAt, IsPlaceOf}
use Rattle.exported.specs.HttpFraming.{IsRejectedAt, IsSecondName, line_at, nowhere, status_at}
use Rattle.exported.specs.declared.http.HttpRequest.{HttpRequest}
use Rattle.exported.specs.declared.http.body.HttpBody.{HttpBody}
use Rattle.exported.specs.declared.http.framing.HttpFraming.{HttpFraming}
use Rattle.exported.specs.declared.http.response.HttpResponse.{HttpResponse}

-- ---- the search for a Host field

pub host_more : (bytes : List ℕ) (before : List Field) (field : Field) → HasNoHost bytes before
    → (IsHostAt bytes field → ⊥) → HasNoHost bytes (before ++ field ∷ [])
host_more bytes [] field none not = (not, tt)
host_more bytes (f ∷ before) field (other, none) not =
    (other, host_more bytes before field none not)

pub none_after : (bytes : List ℕ) (before left : List Field) → length left ≡ 0
    → HasNoHost bytes before → HasNoHost bytes (before ++ left)
none_after bytes before [] empty none =
    subst (λ l. HasNoHost bytes l) (sym (append-nil before)) none
none_after bytes before (x ∷ left) empty none = absurd (omega (arith, empty))

-- ---- how many Host fields there are

module _ (bytes : List ℕ) where
  abbrev pairs : List Field → List Pair
  pairs = map (pair_at bytes)

  no_hosts : (fields : List Field) (n : ℕ) → HasNoHost bytes fields → AreHosts (pairs fields) n
      → n ≡ 0
  no_hosts [] n none are = are
  no_hosts (f ∷ fields) n none (inl (named, more, is, x)) = absurd (none.0 named)
  no_hosts (f ∷ fields) n none (inr (not, x)) = no_hosts fields n none.1 x

  one_host : (before : List Field) (host : Field) (behind : List Field) (n : ℕ)
      → HasNoHost bytes before → HasNoHost bytes behind
      → AreHosts (pairs (before ++ host ∷ behind)) n → n < 2
  one_host [] host behind n none others (inl (named, more, is, x)) =
      omega (arith, is, no_hosts behind more others x)
  one_host [] host behind n none others (inr (not, x)) =
      omega (arith, no_hosts behind n others x)
  one_host (f ∷ before) host behind n none others (inl (named, more, is, x)) = absurd (none.0 named)
  one_host (f ∷ before) host behind n none others (inr (not, x)) =
      one_host before host behind n none.1 others x

  none_invalid : (fields : List Field) → HasNoHost bytes fields → HasInvalidHost (pairs fields)
      → ⊥
  none_invalid [] none invalid = invalid
  none_invalid (f ∷ fields) none (inl (named, x)) = none.0 named
  none_invalid (f ∷ fields) none (inr x) = none_invalid fields none.1 x

  at_most_one : (fields : List Field) (n : ℕ) → HasOneHost bytes fields
      → AreHosts (pairs fields) n → n < 2
  at_most_one fields n (inl none) are = omega (arith, no_hosts fields n none are)
  at_most_one fields n (inr (host, behind, next, others)) are =
      let P : List Field → Type 0 = λ l. AreHosts (pairs l) n in
      one_host next.before host behind n next.none_before others (subst P next.splits are)

-- ---- numbers of errors

no_error : (length : BodyLength) (out : HttpBody) → IsWritten length out → out.error ≡ 0
no_error lengths.NoBody out (kind, error, bytes) = error
no_error lengths.Chunked out (kind, error, bytes) = error
no_error (lengths.Length n) out (kind, error, bytes) = error
no_error lengths.UntilClose out (kind, error, bytes) = error
no_error lengths.Tunnel out (kind, error, bytes) = error

-- The number is of no error of the target or the Host fields that has a position.
abbrev IsOther : ℕ → Type 0
IsOther n = (n ≡ 12 → ⊥) × (n ≡ 3 → ⊥) × (n ≡ 11 → ⊥)

between : (n : ℕ) → 3 < n → n < 11 → IsOther n
between n more less =
    ((λ e. omega (arith, less, e)), (λ e. omega (arith, more, e)), (λ e. omega (arith, less, e)))

none_is_other : IsOther 0
none_is_other = ((λ e. omega (arith, e)), (λ e. omega (arith, e)), (λ e. omega (arith, e)))

missing_is_other : IsOther 2
missing_is_other = ((λ e. omega (arith, e)), (λ e. omega (arith, e)), (λ e. omega (arith, e)))

others : (why : FramingError) → IsOther (fault_number why)
others fault.CodingBeforeVersion = between 4 (omega arith) (omega arith)
others fault.LengthBesideCoding = between 5 (omega arith) (omega arith)
others fault.ChunkedNotLast = between 6 (omega arith) (omega arith)
others fault.NotChunked = between 7 (omega arith) (omega arith)
others fault.LengthsDiffer = between 8 (omega arith) (omega arith)
others fault.LengthIsNoNumber = between 9 (omega arith) (omega arith)
others fault.LengthTooLarge = between 10 (omega arith) (omega arith)
others fault.InvalidCoding =
    ((λ e. omega (arith, e)), (λ e. omega (arith, e)), (λ e. omega (arith, e)))

-- ---- what is rejected

module _ (bytes : List ℕ) (fields : List Field) (target : Span) (place : Span) (error : ℕ) where
  at_nowhere : IsOther error → place ≡ nowhere → IsRejectedAt bytes fields target error place
  at_nowhere (not, nor, none) is = record {
    at_target = λ e. absurd (not e);
    at_second = λ e. absurd (nor e);
    at_value = λ e. absurd (none e);
    others = λ a b c. is;
  }

  at_target_only : error ≡ 12 → place ≡ target → IsRejectedAt bytes fields target error place
  at_target_only e is = record {
    at_target = λ _. is;
    at_second = λ f. absurd (omega (arith, e, f));
    at_value = λ f. absurd (omega (arith, e, f));
    others = λ not _ _. absurd (not e);
  }

  at_second_only : error ≡ 3 → IsSecondName bytes fields place
      → IsRejectedAt bytes fields target error place
  at_second_only e is = record {
    at_target = λ f. absurd (omega (arith, e, f));
    at_second = λ _. is;
    at_value = λ f. absurd (omega (arith, e, f));
    others = λ _ not _. absurd (not e);
  }

  at_value_only : error ≡ 11 → IsFirstValue bytes fields place
      → IsRejectedAt bytes fields target error place
  at_value_only e is = record {
    at_target = λ f. absurd (omega (arith, e, f));
    at_second = λ f. absurd (omega (arith, e, f));
    at_value = λ _. is;
    others = λ _ _ not. absurd (not e);
  }

second_is : (bytes : List ℕ) (fields : List Field) (place : Span) (n : ℕ) → 1 < n
    → AreHosts (map (pair_at bytes) fields) n
    → HasOneHost bytes fields ⊎ IsSecondName bytes fields place → IsSecondName bytes fields place
second_is bytes fields place n many are (inl one) =
    absurd (omega (arith, many, at_most_one bytes fields n one are))
second_is bytes fields place n many are (inr is) = is

first_is : (bytes : List ℕ) (fields : List Field) (place : Span)
    → HasInvalidHost (map (pair_at bytes) fields)
    → HasNoHost bytes fields ⊎ IsFirstValue bytes fields place → IsFirstValue bytes fields place
first_is bytes fields place invalid (inl none) = absurd (none_invalid bytes fields none invalid)
first_is bytes fields place invalid (inr is) = is

-- where the position is that of the reason, it is that of its number
pub rejected_of : (bytes : List ℕ) (fields : List Field) (target place : Span) (line : Request)
    (found : Result BodyLength Reason) (code : ℕ) (out : HttpBody)
    → IsFraming line (map (pair_at bytes) fields) found → WritesRequest found code out
    → IsPlaceOf bytes fields target found place → IsRejectedAt bytes fields target out.error place
rejected_of bytes fields target place line (Ok n) code out framing (done, written) is =
    at_nowhere bytes fields target place out.error
    (subst IsOther (sym (no_error n out written)) none_is_other) is
rejected_of bytes fields target place line (Err Target) code out framing
    (invalid, (kind, error, none)) is =
    at_target_only bytes fields target place out.error error is
rejected_of bytes fields target place line (Err (Host Missing)) code out framing
    (invalid, (kind, error, none)) is =
    at_nowhere bytes fields target place out.error (subst IsOther (sym error) missing_is_other) is
rejected_of bytes fields target place line (Err (Host Many)) code out (has, (hosts, are, many))
    (invalid, (kind, error, none)) is =
    at_second_only bytes fields target place out.error error
    (second_is bytes fields place hosts many are is)
rejected_of bytes fields target place line (Err (Host Invalid)) code out
    (has, (hosts, are, (may, wrong))) (invalid, (kind, error, none)) is =
    at_value_only bytes fields target place out.error error (first_is bytes fields place wrong is)
rejected_of bytes fields target place line (Err (Body why)) code out framing
    (invalid, (kind, error, none)) is =
    at_nowhere bytes fields target place out.error (subst IsOther (sym error) (others why)) is

-- ---- the head at positions

pub frames_head : (bytes : List ℕ) (head : HttpRequest) (places : List Field) (code : ℕ)
    (out : HttpFraming) (shows : ShowsHead bytes (places_of head) places)
    → text_at bytes head.method ≡ shows.line.method
    → text_at bytes head.target ≡ shows.line.target
    → map (pair_at bytes) places ≡ shows.fields
    → FramesLine (line_at bytes head) (map (pair_at bytes) places) code out
    → FramesLine shows.line shows.fields code out
frames_head bytes head places code out shows method target fields frames =
    subst (λ l. FramesLine l shows.fields code out) line
    (subst (λ l. FramesLine (line_at bytes head) l code out) fields frames)
  where
    of : List ℕ → List ℕ → ℕ → ℕ → Request
    of m t a b = record { method = m; target = t; major = a; minor = b }

    line : line_at bytes head ≡ shows.line
    line = ap (λ m. of m (text_at bytes head.target) head.major head.minor) method
        ∙ ap (λ t. of shows.line.method t head.major head.minor) target
        ∙ ap (λ a. of shows.line.method shows.line.target a head.minor) shows.major
        ∙ ap (λ b. of shows.line.method shows.line.target shows.line.major b) shows.minor

pub frames_response : (method bytes : List ℕ) (head : HttpResponse) (places : List Field)
    (code : ℕ) (out : HttpFraming) (shows : ShowsResponse bytes (response_of head) places)
    → map (pair_at bytes) places ≡ shows.fields
    → FramesStatus method (status_at bytes head) (map (pair_at bytes) places) code out
    → FramesStatus method shows.line shows.fields code out
frames_response method bytes head places code out shows fields frames = record {
  answer = told.answer;
  is_answer = told.is_answer;
  writes = told.writes;
  persists = told.persists;
}
  where
    of : ℕ → ℕ → ℕ → List Pair → Type 0
    of s a b l = FramesStatus method
        (record { major = a; minor = b; status = s; reason = text_at bytes head.reason }) l code out

    told : of shows.line.status shows.line.major shows.line.minor shows.fields
    told = subst (λ l. of shows.line.status shows.line.major shows.line.minor l) fields
        (subst (λ n. of shows.line.status shows.line.major n (map (pair_at bytes) places))
        shows.minor
        (subst (λ n. of shows.line.status n head.minor (map (pair_at bytes) places)) shows.major
        (subst (λ n. of n head.major head.minor (map (pair_at bytes) places)) shows.status frames)))
