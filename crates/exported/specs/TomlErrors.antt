-- The numbers of the errors of TOML documents.
use Rattle.std.specs.Prelude.{ℕ}
use Rattle.format_toml_errors.specs.declared.expected.Expected.{Expected}
use Rattle.format_toml_errors.specs.declared.expected.Expected.TheVariants as what
use Rattle.format_toml_errors.specs.declared.figures.Base.TheVariants as bases
use Rattle.format_toml_errors.specs.declared.modes.Mark.TheVariants as marks
use Rattle.format_toml_tree.specs.declared.roles.Reason.{Reason}
use Rattle.format_toml_tree.specs.declared.roles.Reason.TheVariants as refusals

-- in a string or a comment
abbrev pub number_in_text : Expected → ℕ
number_in_text what.LineFeed = 13
number_in_text what.CommentCharacter = 14
number_in_text (what.Character marks.Basic) = 15
number_in_text (what.Character marks.Literal) = 16
number_in_text (what.LongCharacter marks.Basic) = 17
number_in_text (what.LongCharacter marks.Literal) = 18
number_in_text what.Escape = 19
number_in_text what.LongEscape = 20
number_in_text what.EscapedLineEnd = 21
number_in_text what.HexDigit = 22
number_in_text (what.BaseDigit bases.Hex) = 22
number_in_text what.ScalarDigit = 23
number_in_text _ = 0

-- in a number or a date
abbrev pub number_in_number : Expected → ℕ
number_in_number (what.Letter letter) = 24
number_in_number what.DigitOrWord = 25
number_in_number what.Digit = 26
number_in_number what.DigitOrSign = 27
number_in_number (what.BaseDigit bases.Octal) = 28
number_in_number (what.BaseDigit bases.Binary) = 29
number_in_number what.Smaller = 30
number_in_number what.YearOrHour = 31
number_in_number what.Month = 32
number_in_number (what.Day days) = 33
number_in_number what.Hour = 34
number_in_number what.Minute = 35
number_in_number what.Second = 36
number_in_number what.Hyphen = 37
number_in_number what.Colon = 38
number_in_number expected = number_in_text expected

-- the number of an expected element
abbrev pub expected_of : Expected → ℕ
expected_of what.KeyOrTable = 1
expected_of what.Key = 2
expected_of what.KeyOrBrace = 3
expected_of what.TableName = 4
expected_of what.EqualsSign = 5
expected_of what.ClosingBracket = 6
expected_of what.SecondBracket = 7
expected_of what.Value = 8
expected_of what.ValueOrBracket = 9
expected_of what.CommaOrBracket = 10
expected_of what.CommaOrBrace = 11
expected_of what.LineEnd = 12
expected_of what.NoDeeper = 39
expected_of what.NoByteOrderMark = 40
expected_of expected = number_in_number expected

-- the number of the reason why a line is invalid
abbrev pub reason_of : Reason → ℕ
reason_of refusals.Defined = 41
reason_of refusals.NoTable = 42
reason_of refusals.Closed = 43
reason_of refusals.NoTables = 44
reason_of refusals.TooDeep = 45
