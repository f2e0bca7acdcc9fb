-- How long the body of a message is (RFC 9112, section 6.3), by the rules of the standard in order.
use Rattle.std.specs.Prelude.{◌≡◌, ◌<◌, ◌≤◌, ◌⊎◌, ◌^◌, ℕ, List, Result, Ok, Err, codes}
use Rattle.parser_definitions.specs.Digits.{value_in}
use Rattle.format_http.specs.Bodies.Lengths.{AreOne, IsLength}
use Rattle.format_http.specs.Bodies.Codings.{ChunkedIsFollowed, EndChunked, HaveInvalid}
use Rattle.format_http.specs.Bodies.Fields.{HasOne, IsNumber, content_length}
use Rattle.format_http.specs.Bodies.Fields.{transfer_encoding}
use Rattle.format_http.specs.Heads.Head.{Pair}
use Rattle.format_http.specs.declared.bodies.framing.BodyLength.{BodyLength}
use Rattle.format_http.specs.declared.bodies.framing.BodyLength.TheVariants.{Chunked, Length}
use Rattle.format_http.specs.declared.bodies.framing.BodyLength.TheVariants.{NoBody, Tunnel}
use Rattle.format_http.specs.declared.bodies.framing.BodyLength.TheVariants.{UntilClose}
use Rattle.format_http.specs.declared.bodies.framing.FramingError.{FramingError}
use Rattle.format_http.specs.declared.bodies.framing.FramingError.TheVariants.{ChunkedNotLast}
use Rattle.format_http.specs.declared.bodies.framing.FramingError.TheVariants.{CodingBeforeVersion}
use Rattle.format_http.specs.declared.bodies.framing.FramingError.TheVariants.{InvalidCoding}
use Rattle.format_http.specs.declared.bodies.framing.FramingError.TheVariants.{LengthBesideCoding}
use Rattle.format_http.specs.declared.bodies.framing.FramingError.TheVariants.{LengthIsNoNumber}
use Rattle.format_http.specs.declared.bodies.framing.FramingError.TheVariants.{LengthTooLarge}
use Rattle.format_http.specs.declared.bodies.framing.FramingError.TheVariants.{LengthsDiffer}
use Rattle.format_http.specs.declared.bodies.framing.FramingError.TheVariants.{NotChunked}
use Rattle.format_http.specs.declared.bodies.framing.Message.{Message}
use Rattle.format_http.specs.declared.bodies.framing.Message.TheVariants.{Request, Response}

-- The result for a message: the length of its body, or the reason for its rejection.
abbrev pub Answer : Type 0
Answer = Result BodyLength FramingError

-- `Rule is says others`: `says` if `is` holds, `others` otherwise.
abbrev pub Rule : Type 0 → Type 0 → Type 0 → Type 0
Rule is says others = (is × says) ⊎ ((is → ⊥) × others)

-- ---- messages

abbrev pub IsResponse : Message → Type 0
IsResponse Request = ⊥
IsResponse (Response method status) = Unit {0}

-- A response to a HEAD request, or one with a 1xx (Informational), 204 (No Content) or 304 (Not
-- Modified) status code.
abbrev pub IsWithoutBody : Message → Type 0
IsWithoutBody Request = ⊥
IsWithoutBody (Response method status) =
    (method.now ≡ codes "HEAD") ⊎ (((100 ≤ status) × (status < 200))
    ⊎ ((status ≡ 204) ⊎ (status ≡ 304)))

-- A 2xx (Successful) response to a CONNECT request.
abbrev pub IsTunnel : Message → Type 0
IsTunnel Request = ⊥
IsTunnel (Response method status) =
    (method.now ≡ codes "CONNECT") × (200 ≤ status) × (status < 300)

-- The version is one before 1.1.
abbrev pub IsBefore : ℕ → ℕ → Type 0
IsBefore major minor = (major < 1) ⊎ ((major ≡ 1) × (minor < 1))

-- ---- what the fields say

-- 4. A Transfer-Encoding header field is present.
abbrev pub IsCodedLength : Message → List Pair → Answer → Type 0
IsCodedLength message fields answer =
    -- RFC 9110, section 10.1.4: an element of the list is not a transfer-coding
    Rule (HaveInvalid fields) (answer ≡ Err InvalidCoding)
    -- section 6.1: the chunked transfer coding is applied twice, or is not the last of the codings
    (Rule (ChunkedIsFollowed fields) (answer ≡ Err ChunkedNotLast)
    -- the chunked transfer coding is the final encoding
    (Rule (EndChunked fields) (answer ≡ Ok Chunked)
    -- it is not, in a response
    (Rule (IsResponse message) (answer ≡ Ok UntilClose)
    -- it is not, in a request
    (answer ≡ Err NotChunked))))

-- The length is this number, which 64 bits hold or not.
abbrev pub IsNumbered : ℕ → Answer → Type 0
IsNumbered n answer = Rule (n < 2 ^ 64) (answer ≡ Ok (Length n)) (answer ≡ Err LengthTooLarge)

-- All values in the list are the same: they are the numeral of a number, or invalid. Empty values
-- are invalid.
abbrev pub IsSameLength : List Pair → Answer → Type 0
IsSameLength fields answer =
    ((n : ℕ) × IsLength fields n × IsNumbered n answer)
    ⊎ (((n : ℕ) → IsLength fields n → ⊥) × (answer ≡ Err LengthIsNoNumber))

-- 5 and 6. A Content-Length header field is present, without Transfer-Encoding.
abbrev pub IsDeclaredLength : List Pair → Answer → Type 0
IsDeclaredLength fields answer =
    Rule (AreOne fields) (IsSameLength fields answer) (answer ≡ Err LengthsDiffer)

-- 7 and 8. None of the above are true.
abbrev pub IsUndeclared : Message → Answer → Type 0
IsUndeclared message answer =
    Rule (IsResponse message) (answer ≡ Ok UntilClose) (answer ≡ Ok NoBody)

-- The result for a message of this version with these fields, by the rules of section 6.3 in order.
abbrev pub IsBodyLength : Message → ℕ → ℕ → List Pair → Answer → Type 0
IsBodyLength message major minor fields answer =
    -- 1.
    Rule (IsWithoutBody message) (answer ≡ Ok NoBody)
    -- 2.
    (Rule (IsTunnel message) (answer ≡ Ok Tunnel)
    -- section 6.1: in a version before 1.1 a Transfer-Encoding is an error, even with a length
    (Rule (IsBefore major minor × HasOne transfer_encoding fields)
    (answer ≡ Err CodingBeforeVersion)
    -- 3.
    (Rule (HasOne transfer_encoding fields × HasOne content_length fields)
    (answer ≡ Err LengthBesideCoding)
    -- 4.
    (Rule (HasOne transfer_encoding fields) (IsCodedLength message fields answer)
    -- 5 and 6.
    (Rule (HasOne content_length fields) (IsDeclaredLength fields answer)
    -- 7 and 8.
    (IsUndeclared message answer))))))

-- The result if `text` is the only value.
abbrev pub IsTextLength : List ℕ → Answer → Type 0
IsTextLength text answer =
    Rule (IsNumber text) (IsNumbered (value_in 10 text) answer) (answer ≡ Err LengthIsNoNumber)
