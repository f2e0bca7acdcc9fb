-- The characters of a date or a time (TOML 1.0: Offset Date-Time, Local Date-Time, Local Date,
-- Local Time), one by one.
use Rattle.std.specs.Prelude.{◌==◌, ◌&&◌, ◌||◌, ◌-◌, ◌%◌, if◌then◌else◌, ℕ, Bool, true, false}
use Rattle.std.specs.Prelude.{nat_le, nat_lt, not, Option, Some, None}
use Rattle.format_toml_errors.specs.declared.moments.Moment.{Moment}
use Rattle.format_toml_errors.specs.declared.moments.Moment.TheVariants.{Date, Day, DayEnd}
use Rattle.format_toml_errors.specs.declared.moments.Moment.TheVariants.{DayMark, Fraction}
use Rattle.format_toml_errors.specs.declared.moments.Moment.TheVariants.{Hour, HourEnd}
use Rattle.format_toml_errors.specs.declared.moments.Moment.TheVariants.{Minute, MinuteEnd}
use Rattle.format_toml_errors.specs.declared.moments.Moment.TheVariants.{MinuteMark, Month}
use Rattle.format_toml_errors.specs.declared.moments.Moment.TheVariants.{MonthEnd, OffsetHour}
use Rattle.format_toml_errors.specs.declared.moments.Moment.TheVariants.{OffsetHourEnd}
use Rattle.format_toml_errors.specs.declared.moments.Moment.TheVariants.{OffsetMark, OffsetMinute}
use Rattle.format_toml_errors.specs.declared.moments.Moment.TheVariants.{OffsetMinuteEnd, Point}
use Rattle.format_toml_errors.specs.declared.moments.Moment.TheVariants.{Second, SecondEnd}
use Rattle.format_toml_errors.specs.declared.moments.Moment.TheVariants.{SecondMark, Space, Time}
use Rattle.format_toml_errors.specs.declared.moments.Moment.TheVariants.{Whole}

abbrev pub is_digit : ℕ → Bool
is_digit c = nat_le 48 c && nat_le c 57

abbrev pub digit : ℕ → ℕ
digit c = c - 48

-- RFC 3339, Appendix C
abbrev pub is_leap : ℕ → Bool
is_leap year = (year % 4 == 0) && (not (year % 100 == 0) || (year % 400 == 0))

-- RFC 3339, section 5.7, for a month whose first digit is a one or not, and its second digit
abbrev pub days_of : Bool → Bool → ℕ → ℕ
days_of leap one c =
    if one then (if c == 49 then 30 else 31) else
    if c == 50 then (if leap then 29 else 28) else
    if c == 52 || (c == 54 || c == 57) then 30 else 31

abbrev pub moment_if : Bool → Moment → Option Moment
moment_if test moment = if test then Some moment else None

abbrev pub tens_of : ℕ → ℕ
tens_of c = if c == 49 then 10 else if c == 50 then 20 else if c == 51 then 30 else 0

abbrev pub day_fits : ℕ → ℕ → ℕ → Bool
day_fits days tens c =
    is_digit c && ((not (c == 48) || nat_lt 0 tens) && nat_le (digit c) (days - tens))

-- date-month = 2DIGIT ; 01-12, full-date, and time-delim = "T" / %x20
abbrev pub date_step : Moment → ℕ → Option Moment
date_step (Month leap) c = moment_if (c == 48 || c == 49) (MonthEnd leap (c == 49))
date_step (MonthEnd leap true) c =
    moment_if (nat_le 48 c && nat_le c 50) (DayMark (days_of leap true c))
date_step (MonthEnd leap false) c =
    moment_if (nat_le 49 c && nat_le c 57) (DayMark (days_of leap false c))
date_step (DayMark days) c = moment_if (c == 45) (Day days)
date_step (Day days) c =
    moment_if ((nat_le 48 c && nat_le c 50) || (c == 51 && nat_le 30 days))
    (DayEnd days (tens_of c))
date_step (DayEnd days tens) c = moment_if (day_fits days tens c) Date
date_step Date c = if c == 32 then Some Space else moment_if (c == 84 || c == 116) Hour
date_step Space c = moment_if (nat_le 48 c && nat_le c 50) (HourEnd (c == 50))
date_step Hour c = moment_if (nat_le 48 c && nat_le c 50) (HourEnd (c == 50))
date_step _ c = None

-- time-hour = 2DIGIT ; 00-23, time-minute = 2DIGIT ; 00-59, time-second = 2DIGIT ; 00-60
abbrev pub clock_step : Moment → ℕ → Option Moment
clock_step (HourEnd true) c = moment_if (nat_le 48 c && nat_le c 51) MinuteMark
clock_step (HourEnd false) c = moment_if (is_digit c) MinuteMark
clock_step MinuteMark c = moment_if (c == 58) (Minute true)
clock_step (Minute dated) c = moment_if (nat_le 48 c && nat_le c 53) (MinuteEnd dated)
clock_step (MinuteEnd dated) c = moment_if (is_digit c) (SecondMark dated)
clock_step (SecondMark dated) c = moment_if (c == 58) (Second dated)
clock_step (Second dated) c = moment_if (nat_le 48 c && nat_le c 54) (SecondEnd dated (c == 54))
clock_step (SecondEnd dated true) c = moment_if (c == 48) (Time dated)
clock_step (SecondEnd dated false) c = moment_if (is_digit c) (Time dated)
clock_step _ c = None

-- the first character of a time-offset = "Z" / time-numoffset, which a time has only after a date
abbrev pub offset_start : Bool → ℕ → Option Moment
offset_start dated c =
    if not dated then None else if c == 90 || c == 122 then Some Whole else
    moment_if (c == 43 || c == 45) OffsetHour

-- time-secfrac = "." 1*DIGIT, time-numoffset = ( "+" / "-" ) time-hour ":" time-minute
abbrev pub offset_step : Moment → ℕ → Option Moment
offset_step OffsetHour c = moment_if (nat_le 48 c && nat_le c 50) (OffsetHourEnd (c == 50))
offset_step (OffsetHourEnd true) c = moment_if (nat_le 48 c && nat_le c 51) OffsetMark
offset_step (OffsetHourEnd false) c = moment_if (is_digit c) OffsetMark
offset_step OffsetMark c = moment_if (c == 58) OffsetMinute
offset_step OffsetMinute c = moment_if (nat_le 48 c && nat_le c 53) OffsetMinuteEnd
offset_step OffsetMinuteEnd c = moment_if (is_digit c) Whole
offset_step (Time dated) c = if c == 46 then Some (Point dated) else offset_start dated c
offset_step (Point dated) c = moment_if (is_digit c) (Fraction dated)
offset_step (Fraction dated) c =
    if is_digit c then Some (Fraction dated) else offset_start dated c
offset_step _ c = None

abbrev pub first_of : Option Moment → Option Moment → Option Moment
first_of (Some next) other = Some next
first_of None other = other

abbrev pub moment_step : Moment → ℕ → Option Moment
moment_step moment c =
    first_of (date_step moment c) (first_of (clock_step moment c) (offset_step moment c))

abbrev pub ends_moment : Moment → Bool
ends_moment Date = true
ends_moment Space = true
ends_moment (Time dated) = true
ends_moment (Fraction dated) = true
ends_moment Whole = true
ends_moment _ = false
