-- The header of a message of the Domain Name System (RFC 1035, section 4.1.1).
use Rattle.std.specs.Prelude.{◌≡◌, ◌⊎◌, ◌<◌, ◌+◌, ◌-◌, ◌*◌, ◌++◌, ℕ, Bool, List, ◌∷◌}
use Rattle.std.specs.Prelude.{length, Some}
use Rattle.std.specs.Int.{bytes_high_first}
use Rattle.stream_bits.specs.BitList.{bit_number}
use Rattle.streams.specs.Following.{most_bytes}
use Rattle.stream_errors.specs.Form.{modal}
use Rattle.streams.specs.Input.{Input}
use Rattle.streams.specs.Kind.{Kind, cut}
use Rattle.winnow_core.specs.Short.{ShortKind}
use Rattle.format_dns.specs.declared.header.Header.{Header}

-- The bytes are a number of two bytes, the higher first, and then the rest.
pub record IsTwoByteNumber (n : ℕ) (bytes rest : List ℕ) : Type 0 where
  pub splits : bytes ≡ bytes_high_first 2 n ++ rest
  pub fits : n < 65536

-- The first byte has these flags from its highest bit on, with the opcode in four bits after the
-- first flag.
pub record IsHighByte (response : Bool) (opcode : ℕ) (authoritative truncated desired : Bool)
    (bytes rest : List ℕ) : Type 0 where
  pub splits : bytes ≡ (bit_number response * 128 + opcode * 8 + bit_number authoritative * 4
      + bit_number truncated * 2 + bit_number desired) ∷ rest
  pub fits : opcode < 16

-- The first byte has this flag in its highest bit, the reserved number in three bits, and the
-- response code in four.
pub record IsLowByte (available : Bool) (reserved code : ℕ) (bytes rest : List ℕ) : Type 0 where
  pub splits : bytes ≡ (bit_number available * 128 + reserved * 16 + code) ∷ rest
  pub reserved_fits : reserved < 8
  pub code_fits : code < 16

-- The bytes are four numbers of two bytes each, and then the rest.
pub record AreCounts (questions answers authorities additionals : ℕ) (bytes rest : List ℕ)
    : Type 0 where
  pub splits : bytes ≡ bytes_high_first 2 questions ++ (bytes_high_first 2 answers
      ++ (bytes_high_first 2 authorities ++ (bytes_high_first 2 additionals ++ rest)))
  pub questions_fit : questions < 65536
  pub answers_fit : answers < 65536
  pub authorities_fit : authorities < 65536
  pub additionals_fit : additionals < 65536

-- The bytes are a header of these fields, in their order, and then the rest.
pub record IsHeader (h : Header) (bytes rest : List ℕ) : Type 0 where
  pub behind_id : List ℕ
  pub id : IsTwoByteNumber h.id bytes behind_id
  pub behind_high : List ℕ
  pub high : IsHighByte h.is_response h.opcode h.is_authoritative h.is_truncated
      h.recursion_desired behind_id behind_high
  pub behind_low : List ℕ
  pub low : IsLowByte h.recursion_available h.reserved h.response_code behind_high behind_low
  pub counts : AreCounts h.question_count h.answer_count h.authority_count h.additional_count
      behind_low rest

-- After `passed` bytes of `i` a part of `size` bytes starts at `j`, and is incomplete: complete
-- input backtracks, and partial input is incomplete with the number of missing bytes.
pub record LacksPart (passed size : ℕ) (i : Input ℕ) (kind : Kind) (j : Input ℕ) : Type 0 where
  pub passes : length i.left.tokens ≡ passed + length j.left.tokens
  pub few : length j.left.tokens < size
  pub short : ShortKind modal (Some (size - length j.left.tokens)) j kind

-- After `passed` bytes of `i` there are more bytes than a count of their bits allows.
pub record HasTooMany (passed : ℕ) (i : Input ℕ) (kind : Kind) (j : Input ℕ) : Type 0 where
  pub passes : length i.left.tokens ≡ passed + length j.left.tokens
  pub many : most_bytes < length j.left.tokens
  pub cuts : kind ≡ cut

-- a header has a part of `size` bytes at offset `passed`
abbrev pub HasPart : ℕ → ℕ → Type 0
HasPart passed size =
    ((size ≡ 1) × ((passed ≡ 2) ⊎ (passed ≡ 3)))
    ⊎ ((size ≡ 2) × ((passed ≡ 0) ⊎ ((half : ℕ) × (passed ≡ 4 + 2 * half) × (half < 4))))

-- The reason why the input does not start with a header: a part is incomplete, or too many bytes
-- remain at one of the flag bytes.
abbrev pub HasNoHeader : Input ℕ → Kind → Input ℕ → Type 0
HasNoHeader i kind j =
    ((passed : ℕ) × (size : ℕ) × HasPart passed size × LacksPart passed size i kind j)
    ⊎ ((passed : ℕ) × HasPart passed 1 × HasTooMany passed i kind j)
