-- The characters of a number (TOML 1.0: Integer, Float), one by one, and of a date or a time that
-- begins like one.
use Rattle.std.specs.Char.{digit_value}
use Rattle.std.specs.Prelude.{◌==◌, ◌&&◌, ◌||◌, ◌+◌, ◌*◌, if◌then◌else◌, ℕ, Bool, true, false}
use Rattle.std.specs.Prelude.{nat_le, nat_lt, Option, Some, None}
use Rattle.format_toml_errors.specs.Escapes.{is_hex}
use Rattle.format_toml_errors.specs.Moments.{digit, ends_moment, is_digit, is_leap, moment_step}
use Rattle.format_toml_errors.specs.declared.figures.Base.{Base}
use Rattle.format_toml_errors.specs.declared.figures.Base.TheVariants as bases
use Rattle.format_toml_errors.specs.declared.figures.Figure.{Figure}
use Rattle.format_toml_errors.specs.declared.figures.Figure.TheVariants as figures
use Rattle.format_toml_errors.specs.declared.figures.Whole.{Whole}
use Rattle.format_toml_errors.specs.declared.moments.Moment.{Moment}
use Rattle.format_toml_errors.specs.declared.moments.Moment.TheVariants as moments

-- the number with one more digit; more than 2 ^ 63 if it is larger
abbrev pub next_digit : ℕ → ℕ → ℕ
next_digit value c =
    if nat_le value 922337203685477580 && is_digit c then value * 10 + digit c else
    9223372036854775810

abbrev pub adding : Whole → ℕ → Whole
adding whole c = record {
  digits = if nat_lt whole.digits 4 then whole.digits + 1 else 5;
  negative = whole.negative;
  value = next_digit whole.value c;
}

-- from - 2 ^ 63 to 2 ^ 63 - 1
abbrev pub fits : Whole → Bool
fits whole =
    nat_lt whole.value 9223372036854775808
    || (whole.negative && (whole.value == 9223372036854775808))

abbrev pub is_e : ℕ → Bool
is_e c = c == 101 || c == 69

abbrev pub figure_if : Bool → Figure → Option Figure
figure_if test figure = if test then Some figure else None

abbrev pub real_step : ℕ → Option Figure
real_step c =
    if c == 46 then Some figures.Point else figure_if (is_e c) figures.Exponent

abbrev pub lead_step : ℕ → ℕ → ℕ → Option Figure
lead_step digits value c =
    if nat_lt digits 4 && is_digit c then Some (figures.Lead (digits + 1) (next_digit value c)) else
    if (digits == 2) && (c == 58) then Some (figures.Moment (moments.Minute false)) else
    figure_if ((digits == 4) && (c == 45)) (figures.Moment (moments.Month (is_leap value)))

-- an integer below this can have another digit: 2 ^ 63 by the base
abbrev pub limit_of : Base → ℕ
limit_of bases.Hex = 576460752303423488
limit_of bases.Octal = 1152921504606846976
limit_of bases.Binary = 4611686018427387904

-- The number with one more digit of its base, if it is below 2 ^ 63.
abbrev pub based_digit : Base → ℕ → ℕ → Option ℕ
based_digit bases.Hex value c =
    if nat_lt value (limit_of bases.Hex) && is_hex c then Some (value * 16 + digit_value c) else
    None
based_digit bases.Octal value c =
    if nat_lt value (limit_of bases.Octal) && (nat_le 48 c && nat_le c 55)
    then Some (value * 8 + digit c) else None
based_digit bases.Binary value c =
    if nat_lt value (limit_of bases.Binary) && (nat_le 48 c && nat_le c 49)
    then Some (value * 2 + digit c) else None

abbrev pub based_if : Base → Option ℕ → Option Figure
based_if base (Some next) = Some (figures.Based base next)
based_if base None = None

abbrev pub base_step : Base → ℕ → ℕ → Option Figure
base_step base value c = based_if base (based_digit base value c)

abbrev pub moment_as : Option Moment → Option Figure
moment_as (Some next) = Some (figures.Moment next)
moment_as None = None

-- hex-prefix, oct-prefix, bin-prefix, and years and hours with leading zeros; the digits of an
-- integer or a float, a year of four, or an hour of two; frac = decimal-point zero-prefixable-int,
-- exp = "e" float-exp-part
abbrev pub figure_step : Figure → ℕ → Option Figure
figure_step figures.Zero c =
    if c == 120 then Some (figures.Prefix bases.Hex) else
    if c == 111 then Some (figures.Prefix bases.Octal) else
    if c == 98 then Some (figures.Prefix bases.Binary) else
    if is_digit c then Some (figures.Lead 2 (digit c)) else real_step c
figure_step figures.SignedZero c = real_step c
figure_step (figures.Whole whole) c =
    if is_digit c then Some (figures.Whole (adding whole c)) else
    if c == 95 then Some (figures.WholeMark (record {
      digits = 5;
      negative = whole.negative;
      value = whole.value;
    })) else
    if (c == 45) && (whole.digits == 4)
    then Some (figures.Moment (moments.Month (is_leap whole.value))) else
    if (c == 58) && ((whole.digits == 2) && nat_lt whole.value 24)
    then Some (figures.Moment (moments.Minute false)) else real_step c
figure_step (figures.WholeMark whole) c =
    figure_if (is_digit c) (figures.Whole (adding whole c))
figure_step (figures.Lead digits value) c = lead_step digits value c
figure_step figures.Point c = figure_if (is_digit c) figures.Fraction
figure_step figures.Fraction c =
    if is_digit c then Some figures.Fraction else if c == 95 then Some figures.FractionMark else
    figure_if (is_e c) figures.Exponent
figure_step figures.FractionMark c = figure_if (is_digit c) figures.Fraction
figure_step figures.Exponent c =
    if c == 43 || c == 45 then Some figures.Power else figure_if (is_digit c) figures.Digits
figure_step figures.Power c = figure_if (is_digit c) figures.Digits
figure_step figures.Digits c =
    if c == 95 then Some figures.Power else figure_if (is_digit c) figures.Digits
figure_step (figures.Prefix base) c = base_step base 0 c
figure_step (figures.Based base value) c =
    if c == 95 then figure_if (nat_lt value (limit_of base)) (figures.BasedMark base value) else
    base_step base value c
figure_step (figures.BasedMark base value) c = base_step base value c
figure_step (figures.Moment moment) c = moment_as (moment_step moment c)

abbrev pub ends_figure : Figure → Bool
ends_figure figures.Zero = true
ends_figure figures.SignedZero = true
ends_figure figures.Fraction = true
ends_figure figures.Digits = true
ends_figure (figures.Based base value) = true
ends_figure (figures.Whole whole) = fits whole
ends_figure (figures.Moment moment) = ends_moment moment
ends_figure _ = false
