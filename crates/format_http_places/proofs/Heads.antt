-- Heads of both kinds: that their language is theirs, and what is read of one.
use Rattle.std.proofs.Common.{◌≡◌, ◌<◌, ◌+◌, ◌-◌, ◌++◌, ◌∷◌, [], ℕ, List, arith, length, refl}
use Rattle.std.proofs.lemmas.List.Elements.{All-cons}
use Rattle.std.specs.List.{All}
use Rattle.format_http.specs.Heads.Bytes.{IsTokenByte, IsVisible, line_end}
use Rattle.format_http.specs.Heads.Head.{AreFields, IsHead, Pair, Request}
use Rattle.format_http.specs.Responses.Head.{IsResponseHead, Status}
use Rattle.format_http_places.specs.Extents.{Begins, HasNone, IsLong, Never}
use Rattle.format_http_places.specs.Grammar.{Byte, CodeText, FieldsText, HeadText, Language}
use Rattle.format_http_places.specs.Grammar.{OneOf, ReasonText, ResponseText, Run, SomeOf, Stops}
use Rattle.format_http_places.specs.Grammar.{Text, VersionText}
use Rattle.format_http_places.specs.Places.{ShowsFields, ShowsLine}
use Rattle.format_http_places.specs.Refusals.{IsRefusedBy, ReadsParts}
use Rattle.format_http_places.specs.Responses.{ReadsResponseParts, ShowsStatus}
use Rattle.format_http_places.specs.Sections.{ReadsLines}
use Rattle.format_http_places.specs.States.{TextOf}
use Rattle.format_http_places.specs.declared.line.RequestLine.{RequestLine}
use Rattle.format_http_places.specs.declared.parts.HeadKind.{HeadKind}
use Rattle.format_http_places.specs.declared.parts.HeadKind.TheVariants as kind
use Rattle.format_http_places.specs.declared.places.Field.{Field}
use Rattle.format_http_places.specs.declared.status.StatusLine.{StatusLine}
use Rattle.format_http_places.proofs.Continues.{from_rest, in_turn, no_longer, refused_by}
use Rattle.format_http_places.proofs.Continues.{wanting_by}
use Rattle.format_http_places.proofs.Lines.{past_fields, past_request, past_status, text_code}
use Rattle.format_http_places.proofs.Lines.{text_lines, text_reason, text_version}

-- ---- heads are of the language, and it is that of heads

head_text : {line : Request} {fields : List Pair} {bytes rest : List ℕ}
    → IsHead line fields bytes rest → HeadText bytes rest
head_text is = from_rest (in_turn (past_request is.is_line) (past_fields is.are_fields)) refl

response_text : {line : Status} {fields : List Pair} {bytes rest : List ℕ}
    → IsResponseHead line fields bytes rest → ResponseText bytes rest
response_text is = from_rest (in_turn (past_status is.is_line) (past_fields is.are_fields)) refl

text_some : (P : ℕ → Type 0) (c : ℕ) (K : Language) (bytes rest : List ℕ)
    → SomeOf P c K bytes rest → (run : List ℕ) × (more : List ℕ) × (bytes ≡ run ++ c ∷ more)
    × (0 < length run) × All P run × K more rest
unfolding OneOf Run
text_some P c K bytes rest (b, more, e, is, (run, behind, f, all, it)) =
    (b ∷ run, behind, cc, omega arith, All-cons P b run is all, it)

text_head : (bytes rest : List ℕ) → HeadText bytes rest
    → (line : Request) × (fields : List Pair) × IsHead line fields bytes rest
unfolding Byte FieldsText
text_head bytes rest it =
    let (m, ms, e, some, is_m, after) =
    text_some IsTokenByte 32 (SomeOf IsVisible 32 VersionText) bytes rest it in
    let (t, ts, f, one, is_t, last) = text_some IsVisible 32 VersionText ms rest after in
    let (a, b, end, g, less, small, (feed, h, (behind, i, found))) =
    text_version (Text line_end FieldsText) ts rest last in
    let (fields, are) = text_lines found.0 behind rest found.1 in (
      record { method = m; target = t; major = a; minor = b },
      fields,
      record {
        behind = behind;
        is_line = record {
          splits = cc;
          some_method = some;
          is_method = is_m;
          some_target = one;
          is_target = is_t;
          is_major = less;
          is_minor = small;
        };
        are_fields = are;
      },
    )

text_response : (bytes rest : List ℕ) → ResponseText bytes rest
    → (line : Status) × (fields : List Pair) × IsResponseHead line fields bytes rest
unfolding Byte FieldsText
text_response bytes rest it =
    let (a, b, after, e, less, small, (text, f, code)) =
    text_version (Byte 32 (CodeText ReasonText)) bytes rest it in
    let (status, behind, is, last) = text_code text rest code in
    let (reason, lines, ending, found) = text_reason behind rest last in
    let (fields, are) = text_lines found.0 lines rest found.1 in (
      record { major = a; minor = b; status = status; reason = reason },
      fields,
      record {
        behind = lines;
        is_line = record {
          hundreds = is.hundreds;
          tens = is.tens;
          ones = is.ones;
          behind = ending.behind;
          splits = cc (is.splits, ending.splits);
          is_major = less;
          is_minor = small;
          is_code = is.is_code;
          is_behind = ending.is_behind;
          is_reason = ending.is_reason;
        };
        are_fields = are;
      },
    )

fields_text : {fields : List Pair} {bytes rest : List ℕ} → AreFields fields bytes rest
    → FieldsText bytes rest
fields_text are = from_rest (past_fields are) refl

text_fields : (bytes rest : List ℕ) → FieldsText bytes rest
    → (fields : List Pair) × AreFields fields bytes rest
unfolding FieldsText
text_fields bytes rest it = text_lines it.0 bytes rest it.1

pub long_of : (k : HeadKind) (bytes rest : List ℕ) (n : ℕ) → TextOf k bytes rest
    → n + length rest ≡ length bytes → IsLong k bytes n
long_of kind.Request bytes rest n it size =
    let (line, fields, head) = text_head bytes rest it in (line, fields, rest, head, size)
long_of kind.Response bytes rest n it size =
    let (line, fields, head) = text_response bytes rest it in (line, fields, rest, head, size)
long_of kind.Trailers bytes rest n it size =
    let (fields, are) = text_fields bytes rest it in (fields, rest, are, size)

-- ---- bytes that cannot continue a head

-- if its language starts with these bytes, some head does
begins_of : (k : HeadKind) (front more : List ℕ) → TextOf k (front ++ more) [] → Begins k front
begins_of kind.Request front more it =
    let (line, fields, head) = text_head (front ++ more) [] it in (line, fields, more, head)
begins_of kind.Response front more it =
    let (line, fields, head) = text_response (front ++ more) [] it in (line, fields, more, head)
begins_of kind.Trailers front more it =
    let (fields, are) = text_fields (front ++ more) [] it in (fields, more, are)

never_of : (k : HeadKind) (front : List ℕ)
    → ((more rest : List ℕ) → TextOf k (front ++ more) rest → ⊥) → Never k front
never_of kind.Request front not = λ line fields more rest head. not more rest (head_text head)
never_of kind.Response front not = λ line fields more rest head.
    not more rest (response_text head)
never_of kind.Trailers front not = λ fields more rest are. not more rest (fields_text are)

none_of : (k : HeadKind) (front : List ℕ) → ((rest : List ℕ) → TextOf k front rest → ⊥)
    → HasNone k front
none_of kind.Request front not = λ line fields rest head. not rest (head_text head)
none_of kind.Response front not = λ line fields rest head. not rest (response_text head)
none_of kind.Trailers front not = λ fields rest are. not rest (fields_text are)

pub refused_of : (k : HeadKind) (bytes : List ℕ) (left place : ℕ) → Stops (TextOf k) bytes left
    → 0 < left → place ≡ length bytes - left → IsRefusedBy (Begins k) (Never k) bytes place
refused_of k bytes =
    refused_by (TextOf k) (Begins k) (Never k) (begins_of k) bytes (never_of k)

pub wanting_of : (k : HeadKind) (bytes : List ℕ) → Stops (TextOf k) bytes 0
    → Begins k bytes × HasNone k bytes
wanting_of k bytes = wanting_by (TextOf k) (Begins k) (HasNone k) (begins_of k) bytes (none_of k)

-- ---- what is read of a head

pub trailers_read : {bytes rest : List ℕ} {places : List Field} {count : ℕ}
    → ShowsFields (length bytes) bytes count places rest
    → ReadsLines bytes (record { fields = count; length = length bytes - length rest }) places
trailers_read {bytes = bytes} {rest = rest} found = (
  λ room. record {
    fields = found.fields;
    rest = rest;
    are_fields = found.are_fields;
    count = found.counts;
    are_shown = found.shows room bytes [] refl refl;
    ends = omega (arith, no_longer (past_fields found.are_fields));
  },
  record {
    fields = found.fields;
    rest = rest;
    are_fields = found.are_fields;
    counts = found.counts;
  },
)

pub request_read : {bytes rest : List ℕ} {line : RequestLine} {places : List Field} {count : ℕ}
    → ShowsLine bytes line → ShowsFields (length bytes) line.rest.now count places rest
    → ReadsParts bytes (record {
      method = line.method;
      target = line.target;
      fields = count;
      length = length bytes - length rest;
      major = line.major;
      minor = line.minor;
    }) places
request_read {bytes = bytes} {rest = rest} {line = line} shows found =
    let request : Request = record {
      method = shows.method;
      target = shows.target;
      major = line.major;
      minor = line.minor;
    } in
    let head : IsHead request found.fields bytes rest = record {
      behind = line.rest.now;
      is_line = shows.is_line;
      are_fields = found.are_fields;
    } in
    let past = past_request shows.is_line in (
      λ room. record {
        line = request;
        fields = found.fields;
        rest = rest;
        is_head = head;
        method = shows.method_at;
        target = shows.target_at;
        major = refl;
        minor = refl;
        count = found.counts;
        are_shown = found.shows room bytes past.front past.splits refl;
        ends = omega (arith, no_longer (in_turn past (past_fields found.are_fields)));
      },
      record {
        line = request;
        fields = found.fields;
        rest = rest;
        is_head = head;
        counts = found.counts;
      },
    )

pub response_read : {bytes rest : List ℕ} {line : StatusLine} {places : List Field} {count : ℕ}
    → ShowsStatus bytes line → ShowsFields (length bytes) line.rest.now count places rest
    → ReadsResponseParts bytes (record {
      reason = line.reason;
      fields = count;
      length = length bytes - length rest;
      status = line.status;
      major = line.major;
      minor = line.minor;
    }) places
response_read {bytes = bytes} {rest = rest} {line = line} shows found =
    let response : Status = record {
      major = line.major;
      minor = line.minor;
      status = line.status;
      reason = shows.reason;
    } in
    let head : IsResponseHead response found.fields bytes rest = record {
      behind = line.rest.now;
      is_line = shows.is_line;
      are_fields = found.are_fields;
    } in
    let past = past_status shows.is_line in (
      λ room. record {
        line = response;
        fields = found.fields;
        rest = rest;
        is_head = head;
        major = refl;
        minor = refl;
        status = refl;
        reason = shows.reason_at;
        count = found.counts;
        are_shown = found.shows room bytes past.front past.splits refl;
        ends = omega (arith, no_longer (in_turn past (past_fields found.are_fields)));
      },
      record {
        line = response;
        fields = found.fields;
        rest = rest;
        is_head = head;
        counts = found.counts;
      },
    )
