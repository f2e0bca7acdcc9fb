-- The input that is expected, by name.
use Rattle.std.specs.Prelude.{◌==◌, ◌&&◌, if◌then◌else◌, ℕ, Bool, nat_le, nat_lt}
use Rattle.std.specs.Prelude.{Option, Some, None}
use Rattle.format_toml_errors.specs.Escapes.{is_hex}
use Rattle.format_toml_errors.specs.Figures.{fits}
use Rattle.format_toml_errors.specs.Steps.{letter_of}
use Rattle.format_toml_errors.specs.declared.escapes.Escape.{Escape}
use Rattle.format_toml_errors.specs.declared.escapes.Escape.TheVariants as escapes
use Rattle.format_toml_errors.specs.declared.expected.Expected.{Expected}
use Rattle.format_toml_errors.specs.declared.expected.Expected.TheVariants as what
use Rattle.format_toml_errors.specs.declared.figures.Base.{Base}
use Rattle.format_toml_errors.specs.declared.figures.Base.TheVariants as bases
use Rattle.format_toml_errors.specs.declared.figures.Figure.TheVariants as figures
use Rattle.format_toml_errors.specs.declared.moments.Moment.{Moment}
use Rattle.format_toml_errors.specs.declared.moments.Moment.TheVariants as moments
use Rattle.format_toml_errors.specs.declared.modes.Bracket.{Bracket}
use Rattle.format_toml_errors.specs.declared.modes.Bracket.TheVariants as brackets
use Rattle.format_toml_errors.specs.declared.modes.Mark.TheVariants as marks
use Rattle.format_toml_errors.specs.declared.modes.Mode.{Mode}
use Rattle.format_toml_errors.specs.declared.modes.Mode.TheVariants as modes
use Rattle.format_toml_errors.specs.declared.modes.Owner.TheVariants as owners

-- after a value
abbrev pub wanted_after : Option Bracket → Expected
wanted_after None = what.LineEnd
wanted_after (Some brackets.Array) = what.CommaOrBracket
wanted_after (Some brackets.Table) = what.CommaOrBrace

-- in an escape: the first digits of eight, or of four that are no surrogate, are not all possible
abbrev pub wanted_digit : Escape → Expected
wanted_digit escapes.Unit = what.HexDigit
wanted_digit escapes.Four = what.HexDigit
wanted_digit escapes.Three = what.HexDigit
wanted_digit escapes.Two = what.HexDigit
wanted_digit escapes.One = what.HexDigit
wanted_digit _ = what.ScalarDigit

-- in a date or a time
abbrev pub wanted_moment : Moment → Option Bracket → Expected
wanted_moment (moments.Month leap) held = what.Month
wanted_moment (moments.MonthEnd leap one) held = what.Month
wanted_moment (moments.DayMark days) held = what.Hyphen
wanted_moment (moments.Day days) held = what.Day days
wanted_moment (moments.DayEnd days tens) held = what.Day days
wanted_moment moments.Hour held = what.Hour
wanted_moment (moments.HourEnd two) held = what.Hour
wanted_moment moments.OffsetHour held = what.Hour
wanted_moment (moments.OffsetHourEnd two) held = what.Hour
wanted_moment moments.MinuteMark held = what.Colon
wanted_moment (moments.SecondMark dated) held = what.Colon
wanted_moment moments.OffsetMark held = what.Colon
wanted_moment (moments.Minute dated) held = what.Minute
wanted_moment (moments.MinuteEnd dated) held = what.Minute
wanted_moment moments.OffsetMinute held = what.Minute
wanted_moment moments.OffsetMinuteEnd held = what.Minute
wanted_moment (moments.Second dated) held = what.Second
wanted_moment (moments.SecondEnd dated six) held = what.Second
wanted_moment (moments.Point dated) held = what.Digit
wanted_moment _ held = wanted_after held

-- the name of what is expected in a mode, in the bracket that was opened last
abbrev pub wanted : Mode → Option Bracket → Expected
wanted modes.Line held = what.KeyOrTable
wanted (modes.Comment gap) held = what.CommentCharacter
wanted (modes.Return gap) held = what.LineFeed
wanted modes.Header held = what.TableName
wanted modes.Closing held = what.SecondBracket
wanted modes.FirstName held = what.KeyOrBrace
wanted (modes.Name owners.Entry) held = what.Key
wanted (modes.Name owners.Member) held = what.Key
wanted (modes.Name owner) held = what.TableName
wanted (modes.Bare owners.Entry) held = what.EqualsSign
wanted (modes.Bare owners.Member) held = what.EqualsSign
wanted (modes.Bare owner) held = what.ClosingBracket
wanted (modes.Behind owners.Entry) held = what.EqualsSign
wanted (modes.Behind owners.Member) held = what.EqualsSign
wanted (modes.Behind owner) held = what.ClosingBracket
wanted modes.Value held = what.Value
wanted modes.Item held = what.ValueOrBracket
wanted (modes.Basic role) held = what.Character marks.Basic
wanted (modes.Literal role) held = what.Character marks.Literal
wanted (modes.Quote mark) held = what.Character mark
wanted (modes.Escaped role escapes.Letter) held = what.Escape
wanted (modes.Escaped role escape) held = wanted_digit escape
wanted (modes.Long mark quotes) held =
    if nat_lt quotes 3 then what.LongCharacter mark else wanted_after held
wanted (modes.LongReturn mark) held = what.LineFeed
wanted (modes.LongEscape escapes.Letter) held = what.LongEscape
wanted (modes.LongEscape escape) held = wanted_digit escape
wanted modes.LongBlank held = what.EscapedLineEnd
wanted (modes.Word rest) held = what.Letter (letter_of rest)
wanted (modes.Sign negative) held = what.DigitOrWord
wanted (modes.Number (figures.Moment moment)) held = wanted_moment moment held
wanted (modes.Number (figures.Prefix base)) held = what.BaseDigit base
wanted (modes.Number (figures.BasedMark base value)) held = what.BaseDigit base
wanted (modes.Number (figures.Whole whole)) held =
    if fits whole then wanted_after held else what.Smaller
wanted (modes.Number (figures.WholeMark whole)) held = what.Digit
wanted (modes.Number figures.Point) held = what.Digit
wanted (modes.Number figures.FractionMark) held = what.Digit
wanted (modes.Number figures.Power) held = what.Digit
wanted (modes.Number figures.Exponent) held = what.DigitOrSign
wanted (modes.Number (figures.Lead digits value)) held =
    if digits == 4 then what.Hyphen else what.YearOrHour
wanted _ held = wanted_after held

abbrev pub is_digit_of : Base → ℕ → Bool
is_digit_of bases.Hex c = is_hex c
is_digit_of bases.Octal c = nat_le 48 c && nat_le c 55
is_digit_of bases.Binary c = nat_le 48 c && nat_le c 49

-- the name of what is expected instead of a character that no document has there
abbrev pub wanted_at : Mode → Option Bracket → ℕ → Expected
wanted_at modes.Line held c = if c == 65279 then what.NoByteOrderMark else what.KeyOrTable
wanted_at (modes.Number (figures.Based base value)) held c =
    if is_digit_of base c then what.Smaller else wanted_after held
wanted_at (modes.Number (figures.BasedMark base value)) held c =
    if is_digit_of base c then what.Smaller else what.BaseDigit base
wanted_at mode held c = wanted mode held
