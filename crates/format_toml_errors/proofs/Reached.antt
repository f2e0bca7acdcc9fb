-- The modes that a walk reaches: in a date or a number, which counts of digits and of days, and
-- which numbers before an underscore.
use Rattle.std.specs.Prelude.{◌≡◌, ◌≤◌, ◌==◌, ℕ, zero, suc, Bool, true, false, Option, Some, None}
use Rattle.std.specs.Prelude.{⊤, nat_lt, if◌then◌else◌}
use Rattle.std.proofs.Common.{sym, subst, inl, inr, arith}
use Rattle.std.proofs.lemmas.Bool.Decides.{nat_tests}
use Rattle.format_toml_errors.specs.Escapes.{escape_step}
use Rattle.format_toml_errors.specs.Figures.{based_if, ends_figure, figure_if, figure_step}
use Rattle.format_toml_errors.specs.Figures.{lead_step, limit_of, moment_as}
use Rattle.format_toml_errors.specs.Moments.{clock_step, date_step, days_of, first_of}
use Rattle.format_toml_errors.specs.Moments.{is_leap, moment_step, offset_step}
use Rattle.format_toml_errors.specs.Steps.{after_step, behind_step}
use Rattle.format_toml_errors.specs.Steps.{content_step, else_item, else_line, end_of, in_line}
use Rattle.format_toml_errors.specs.Steps.{in_long, in_string, long_escape_step}
use Rattle.format_toml_errors.specs.Steps.{rest_of, string_step}
use Rattle.format_toml_errors.specs.Steps.{next_step, number_goes, plain_step}
use Rattle.format_toml_errors.specs.Steps.{value_step}
use Rattle.format_toml_errors.specs.declared.escapes.Escape.{Escape}
use Rattle.format_toml_errors.specs.declared.escapes.Escape.TheVariants as escapes
use Rattle.format_toml_errors.specs.declared.escapes.Escaped.{Escaped}
use Rattle.format_toml_errors.specs.declared.escapes.Escaped.TheVariants as escaped
use Rattle.format_toml_errors.specs.declared.figures.Base.{Base}
use Rattle.format_toml_errors.specs.declared.figures.Figure.{Figure}
use Rattle.format_toml_errors.specs.declared.figures.Figure.TheVariants as figures
use Rattle.format_toml_errors.specs.declared.modes.Bracket.{Bracket}
use Rattle.format_toml_errors.specs.declared.modes.Bracket.TheVariants as brackets
use Rattle.format_toml_errors.specs.declared.modes.Gap.{Gap}
use Rattle.format_toml_errors.specs.declared.modes.Gap.TheVariants as gaps
use Rattle.format_toml_errors.specs.declared.modes.Letters.{Letters}
use Rattle.format_toml_errors.specs.declared.modes.Letters.TheVariants as letters
use Rattle.format_toml_errors.specs.declared.modes.Mark.{Mark}
use Rattle.format_toml_errors.specs.declared.modes.Mark.TheVariants as marks
use Rattle.format_toml_errors.specs.declared.modes.Mode.{Mode}
use Rattle.format_toml_errors.specs.declared.modes.Mode.TheVariants as modes
use Rattle.format_toml_errors.specs.declared.modes.Owner.{Owner}
use Rattle.format_toml_errors.specs.declared.modes.Owner.TheVariants as owners
use Rattle.format_toml_errors.specs.declared.modes.Role.{Role}
use Rattle.format_toml_errors.specs.declared.modes.Role.TheVariants as roles
use Rattle.format_toml_errors.specs.declared.modes.Step.{Step}
use Rattle.format_toml_errors.specs.declared.modes.Step.TheVariants as steps
use Rattle.format_toml_errors.specs.declared.moments.Moment.{Moment}
use Rattle.format_toml_errors.specs.declared.moments.Moment.TheVariants as moments
use Rattle.format_toml_errors.specs.Accepted.{both_ways}

-- ---- dates and times

-- a month has a day
abbrev pub IsMoment : Moment → Type 0
IsMoment (moments.DayMark days) = 1 ≤ days
IsMoment (moments.Day days) = 1 ≤ days
IsMoment (moments.DayEnd days tens) = 1 ≤ days
IsMoment _ = ⊤

May : {X : Type 0} → (X → Type 0) → Option X → Type 0
May P None = ⊤
May P (Some x) = P x

module _ {X : Type 0} (P : X → Type 0) where
  nothing : May P None
  unfolding May
  nothing = tt

  something : (x : X) → P x → May P (Some x)
  unfolding May
  something x is = is

  either : (b : Bool) (o p : Option X) → May P o → May P p → May P (if b then o else p)
  either true o p x y = x
  either false o p x y = y

first_moment : (o p : Option Moment) → May IsMoment o → May IsMoment p
    → May IsMoment (first_of o p)
first_moment (Some m) p x y = x
first_moment None p x y = y

days_some : (leap one : Bool) (c : ℕ) → 1 ≤ days_of leap one c
days_some leap one c = grind (arith, nat_tests)

ruleset moments_reached = (nothing, something, either, first_moment, days_some)

date_reached : (m : Moment) (c : ℕ) → IsMoment m → May IsMoment (date_step m c)
date_reached (moments.MonthEnd leap true) c x = search moments_reached depth 20
date_reached (moments.MonthEnd leap false) c x = search moments_reached depth 20
date_reached m c x = search moments_reached depth 20

clock_reached : (m : Moment) (c : ℕ) → May IsMoment (clock_step m c)
clock_reached (moments.HourEnd true) c = search moments_reached depth 20
clock_reached (moments.HourEnd false) c = search moments_reached depth 20
clock_reached (moments.SecondEnd dated true) c = search moments_reached depth 20
clock_reached (moments.SecondEnd dated false) c = search moments_reached depth 20
clock_reached m c = search moments_reached depth 20

offset_reached : (m : Moment) (c : ℕ) → May IsMoment (offset_step m c)
offset_reached (moments.OffsetHourEnd true) c = search moments_reached depth 20
offset_reached (moments.OffsetHourEnd false) c = search moments_reached depth 20
offset_reached m c = search moments_reached depth 20

-- ---- numbers

abbrev IsLead : ℕ → Type 0
IsLead (suc (suc zero)) = ⊤
IsLead (suc (suc (suc zero))) = ⊤
IsLead (suc (suc (suc (suc zero)))) = ⊤
IsLead digits = ⊥

-- Two to four digits of a year; and an underscore only where another digit may follow.
abbrev pub IsFigure : Figure → Type 0
IsFigure (figures.Lead digits value) = IsLead digits
IsFigure (figures.BasedMark base value) = nat_lt value (limit_of base) ≡ true
IsFigure (figures.Moment m) = IsMoment m
IsFigure _ = ⊤

mark_reached : (base : Base) (value : ℕ)
    → May IsFigure (figure_if (nat_lt value (limit_of base)) (figures.BasedMark base value))
mark_reached base value = elim (both_ways (nat_lt value (limit_of base))) [
  | inl e ↦
      let P : Bool → Type 0 = λ b. May IsFigure (figure_if b (figures.BasedMark base value)) in
      subst P (sym e) (something IsFigure (figures.BasedMark base value) e)
  | inr e ↦
      let P : Bool → Type 0 = λ b. May IsFigure (figure_if b (figures.BasedMark base value)) in
      subst P (sym e) (nothing IsFigure)
]

based_reached : (base : Base) (o : Option ℕ) → May IsFigure (based_if base o)
based_reached base (Some next) = something IsFigure (figures.Based base next) tt
based_reached base None = nothing IsFigure

moment_reached : (o : Option Moment) → May IsMoment o → May IsFigure (moment_as o)
unfolding May
moment_reached (Some m) x = x
moment_reached None x = tt

ruleset figures_reached =
    (nothing, something, either, mark_reached, based_reached, moment_reached)

lead_reached : (digits value c : ℕ) → IsFigure (figures.Lead digits value)
    → May IsFigure (lead_step digits value c)
lead_reached (suc (suc zero)) value c x = search figures_reached depth 20
lead_reached (suc (suc (suc zero))) value c x = search figures_reached depth 20
lead_reached (suc (suc (suc (suc zero)))) value c x =
    let month : May IsFigure (figure_if (c == 45)
    (figures.Moment (moments.Month (is_leap value)))) =
    search figures_reached in month
lead_reached digits value c x = absurd x

figure_reached : (f : Figure) (c : ℕ) → IsFigure f → May IsFigure (figure_step f c)
figure_reached figures.Zero c x =
    search figures_reached depth 20
figure_reached (figures.Lead digits value) c x = lead_reached digits value c x
figure_reached (figures.Moment m) c x =
    moment_reached (moment_step m c)
    (search (date_reached, clock_reached, offset_reached, moments_reached))
figure_reached f c x = search figures_reached depth 20

-- ---- all

abbrev pub IsReached : Mode → Type 0
IsReached (modes.Number f) = IsFigure f
IsReached _ = ⊤

unfoldable pub MayReach : Step → Type 0
MayReach (steps.Goes mode) = IsReached mode
MayReach _ = ⊤

goes : (mode : Mode) → IsReached mode → MayReach (steps.Goes mode)
unfolding MayReach
goes mode x = x

invalid : MayReach steps.Invalid
unfolding MayReach
invalid = tt

opens : (bracket : Bracket) → MayReach (steps.Opens bracket)
unfolding MayReach
opens bracket = tt

closes : MayReach steps.Closes
unfolding MayReach
closes = tt

ends : MayReach steps.Ends
unfolding MayReach
ends = tt

either_step : (b : Bool) (s t : Step) → MayReach s → MayReach t → MayReach (if b then s else t)
either_step true s t x y = x
either_step false s t x y = y

ruleset steps_reached = (goes, invalid, opens, closes, ends, either_step)

line_reached : (gap : Gap) (c : ℕ) → MayReach (in_line gap c)
line_reached gaps.Line c = search steps_reached depth 30
line_reached gap c = search steps_reached depth 30

plain_reached : (c : ℕ) → MayReach (plain_step c)
plain_reached c = search steps_reached depth 30

value_reached : (c : ℕ) → MayReach (value_step c)
value_reached c = search (plain_reached, steps_reached) depth 30

line_or_reached : (c : ℕ) (s : Step) → MayReach s → MayReach (else_line c s)
line_or_reached c steps.Invalid x = search steps_reached depth 30
line_or_reached c s x = x

item_or_reached : (c : ℕ) (s : Step) → MayReach s → MayReach (else_item c s)
item_or_reached c steps.Invalid x = search (value_reached, steps_reached) depth 30
item_or_reached c s x = x

after_reached : (held : Option Bracket) (c : ℕ) → MayReach (after_step held c)
after_reached (Some brackets.Array) c = search (line_reached, steps_reached) depth 30
after_reached held c = search steps_reached depth 30

behind_reached : (owner : Owner) (c : ℕ) → MayReach (behind_step owner c)
behind_reached owners.Entry c = search steps_reached depth 30
behind_reached owner c = search steps_reached depth 30

role_reached : (role : Role) → MayReach (end_of role)
role_reached (roles.Name owner) = search steps_reached
role_reached roles.Value = search steps_reached

escaped_reached : (role : Role) (s : Escaped) → MayReach (in_string role s)
escaped_reached role escaped.Invalid = search steps_reached
escaped_reached role s = search steps_reached

long_reached : (s : Escaped) → MayReach (in_long s)
long_reached escaped.Invalid = search steps_reached
long_reached s = search steps_reached

long_escape_reached : (e : Escape) (c : ℕ) → MayReach (long_escape_step e c)
long_escape_reached escapes.Letter c = search (long_reached, steps_reached) depth 20
long_escape_reached e c = long_reached (escape_step e c)

content_reached : (mark : Mark) (c : ℕ) → MayReach (content_step mark c)
content_reached marks.Basic c = search steps_reached depth 20
content_reached marks.Literal c = search steps_reached depth 20

string_reached : (mark : Mark) (c : ℕ) → MayReach (string_step mark c)
string_reached marks.Basic c = search steps_reached depth 20
string_reached marks.Literal c = search steps_reached depth 20

rest_reached : (rest : Letters) → IsReached (rest_of rest)
rest_reached letters.E = tt
rest_reached rest = tt

number_reached : (o : Option Figure) (ends : Bool) (held : Option Bracket) (c : ℕ) → May IsFigure o
    → MayReach (number_goes o ends held c)
unfolding May
number_reached (Some f) ends held c x = goes (modes.Number f) x
number_reached None ends held c x = search (after_reached, steps_reached)

ruleset parts_reached = (
  line_reached,
  value_reached,
  line_or_reached,
  item_or_reached,
  after_reached,
  behind_reached,
  role_reached,
  escaped_reached,
  long_escape_reached,
  content_reached,
  string_reached,
  rest_reached,
  steps_reached,
)

-- the next mode is reached
pub next_reached : (mode : Mode) (held : Option Bracket) (c : ℕ) → IsReached mode
    → MayReach (next_step mode held c)
next_reached (modes.Number f) held c x =
    number_reached (figure_step f c) (ends_figure f) held c (figure_reached f c x)
next_reached (modes.Return gaps.Line) held c x = search parts_reached depth 30
next_reached (modes.Return gap) held c x = search parts_reached depth 30
next_reached mode held c x = search parts_reached depth 30
