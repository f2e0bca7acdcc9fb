-- The first error of a JSON text, as callers see it.
use Rattle.std.specs.Prelude.{◌≡◌, ℕ, List}
use Rattle.format_json.specs.Fault.{IsErrorOf}
use Rattle.format_json.specs.declared.fault.JsonError.{JsonError}
use Rattle.format_json.specs.declared.fault.JsonError.TheVariants as faults
use Rattle.format_parts.specs.declared.location.Location.{Location}
use Rattle.format_json_pieces.specs.declared.expected.Expected.{Expected}
use Rattle.format_json_pieces.specs.declared.expected.Expected.TheVariants as what
use Rattle.exported.specs.Code.{incomplete, invalid, invalid_utf8, no_memory, too_deep}
use Rattle.exported.specs.declared.json.diagnostic.JsonDiagnostic.{JsonDiagnostic}

-- the number of an expected input
abbrev pub number_of_expected : Expected → ℕ
number_of_expected what.Value = 1
number_of_expected what.ValueOrBracket = 2
number_of_expected what.Name = 3
number_of_expected what.NameOrBrace = 4
number_of_expected what.Colon = 5
number_of_expected what.CommaOrBracket = 6
number_of_expected what.CommaOrBrace = 7
number_of_expected what.End = 8
number_of_expected what.Character = 9
number_of_expected what.Escape = 10
number_of_expected what.HexDigit = 11
number_of_expected what.FirstHalf = 12
number_of_expected what.SecondHalf = 13
number_of_expected what.Utf8 = 14
number_of_expected what.Digit = 15
number_of_expected what.DigitOrSign = 16
number_of_expected (what.Letter letter) = 17
number_of_expected what.NoDeeper = 18

-- the expected letter, or 0
abbrev pub letter_of : Expected → ℕ
letter_of (what.Letter letter) = letter
letter_of _ = 0

-- the code of an error
abbrev pub code_of : JsonError → ℕ
code_of (faults.Unexpected at expected) = invalid
code_of (faults.End at expected) = incomplete
code_of (faults.TooDeep at level) = too_deep
code_of (faults.NotUtf8 at) = invalid_utf8
code_of faults.NoMemory = no_memory

-- an error at a position, where this input is expected
abbrev pub shown_at : Location → Expected → JsonDiagnostic
shown_at at expected = record {
  offset = at.offset;
  line = at.line;
  column = at.column;
  error = number_of_expected expected;
  letter = letter_of expected;
}

-- no error
abbrev pub no_error : JsonDiagnostic
no_error = record { offset = 0; line = 0; column = 0; error = 0; letter = 0 }

-- the numbers that report an error
abbrev pub shown : JsonError → JsonDiagnostic
shown (faults.Unexpected at expected) = shown_at at expected
shown (faults.End at expected) = shown_at at expected
shown (faults.TooDeep at level) = shown_at at what.NoDeeper
shown (faults.NotUtf8 at) = shown_at at what.Utf8
shown faults.NoMemory = no_error

-- `ShowsError level bytes code out`: `code` and `out` report why `bytes` is not a JSON text.
pub record ShowsError (level : ℕ) (bytes : List ℕ) (code : ℕ) (out : JsonDiagnostic)
    : Type 0 where
  pub error : JsonError
  pub is_error : IsErrorOf level bytes error
  pub is_code : code ≡ code_of error
  pub is_shown : out ≡ shown error
