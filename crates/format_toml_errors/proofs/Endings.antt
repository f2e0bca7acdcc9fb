-- From each mode that a walk reaches, a few characters end a value, and then brackets close.
use Rattle.std.specs.Prelude.{◌≡◌, ◌≤◌, ◌+◌, ◌*◌, ◌&&◌, ℕ, zero, suc, true, false, List}
use Rattle.std.specs.Prelude.{[], ◌∷◌, ◌++◌, length, nat_le, nat_lt, None, if◌then◌else◌}
use Rattle.std.specs.Char.{digit_value}
use Rattle.std.specs.Str.{all_scalars}
use Rattle.std.proofs.Common.{refl, sym, ap, subst, inl, inr, ◌∙◌, arith}
use Rattle.std.proofs.Math.Utf8.{scalar}
use Rattle.std.proofs.lemmas.Bool.Decides.{nat_tests}
use Rattle.format_toml_errors.specs.Figures.{limit_of, moment_as}
use Rattle.format_toml_errors.specs.Moments.{day_fits, digit, first_of, moment_if}
use Rattle.format_toml_errors.specs.Steps.{after_step, back_to, content_step, end_of, letter_of}
use Rattle.format_toml_errors.specs.Steps.{next_step, number_goes}
use Rattle.format_toml_errors.specs.Stop.{At, IsCompletable, IsNextStep, IsViablePrefix, MayBegin}
use Rattle.format_toml_errors.specs.Unclosed.{last_open, opened, others_open}
use Rattle.format_toml_errors.specs.declared.escapes.Escape.{Escape}
use Rattle.format_toml_errors.specs.declared.escapes.Escape.TheVariants as escapes
use Rattle.format_toml_errors.specs.declared.figures.Base.{Base}
use Rattle.format_toml_errors.specs.declared.figures.Base.TheVariants as bases
use Rattle.format_toml_errors.specs.declared.figures.Figure.{Figure}
use Rattle.format_toml_errors.specs.declared.figures.Figure.TheVariants as figures
use Rattle.format_toml_errors.specs.declared.modes.Bracket.{Bracket}
use Rattle.format_toml_errors.specs.declared.modes.Bracket.TheVariants as brackets
use Rattle.format_toml_errors.specs.declared.modes.Gap.{Gap}
use Rattle.format_toml_errors.specs.declared.modes.Gap.TheVariants as gaps
use Rattle.format_toml_errors.specs.declared.modes.Letters.{Letters}
use Rattle.format_toml_errors.specs.declared.modes.Letters.TheVariants as letters
use Rattle.format_toml_errors.specs.declared.modes.Mark.{Mark}
use Rattle.format_toml_errors.specs.declared.modes.Mark.TheVariants as marks
use Rattle.format_toml_errors.specs.declared.modes.Mode.{Mode}
use Rattle.format_toml_errors.specs.declared.modes.Mode.TheVariants as modes
use Rattle.format_toml_errors.specs.declared.modes.Owner.TheVariants as owners
use Rattle.format_toml_errors.specs.declared.modes.Role.{Role}
use Rattle.format_toml_errors.specs.declared.modes.Role.TheVariants as roles
use Rattle.format_toml_errors.specs.declared.modes.Step.{Step}
use Rattle.format_toml_errors.specs.declared.modes.Step.TheVariants as steps
use Rattle.format_toml_errors.specs.declared.moments.Moment.{Moment}
use Rattle.format_toml_errors.specs.declared.moments.Moment.TheVariants as moments
use Rattle.format_toml_errors.specs.Accepted.{after_done, both_ways, is_done}
use Rattle.format_toml_errors.proofs.Reached.{IsFigure, IsMoment, IsReached, MayReach, next_reached}

-- The walk accepts `tokens` and at most `n` more characters than brackets are open.
record Ending (level : ℕ) (tokens : List ℕ) (held : List Bracket) (n : ℕ) (mode : Mode) : Type 0
  where
    more : List ℕ
    at : At level mode held (tokens ++ more)
    scalars : all_scalars more ≡ true
    few : length more ≤ n + length held

module _ (level : ℕ) where
  -- the brackets are closed
  closed : (held : List Bracket) → Ending level [] held 0 modes.After
  closed [] = record { more = []; at = refl; scalars = refl; few = omega arith }
  closed (brackets.Array ∷ held) =
      let x = closed held in
      record { more = 93 ∷ x.more; at = x.at; scalars = x.scalars; few = omega (arith, x.few) }
  closed (brackets.Table ∷ held) =
      let x = closed held in
      record { more = 125 ∷ x.more; at = x.at; scalars = x.scalars; few = omega (arith, x.few) }

  module _ (held : List Bracket) where
    abbrev Ends : ℕ → Mode → Type 0
    Ends n mode = Ending level [] held n mode

    -- ---- one character

    -- Conclusions have `n`, not `suc n`, as `search` does not take 16 for a successor.
    abbrev AfterStep : ℕ → Step → Type 0
    AfterStep zero s = ⊥
    AfterStep (suc n) (steps.Goes mode) = Ends n mode
    AfterStep (suc n) s = ⊥

    by_step : (n : ℕ) (mode : Mode) (c : ℕ) (s : Step) → scalar c ≡ true
        → next_step mode (last_open held) c ≡ s → AfterStep n s → Ends n mode
    by_step zero mode c s one e x = absurd x
    by_step (suc n) mode c (steps.Goes next) one e x =
        let P : Step → Type 0 = λ s. IsNextStep (λ m o. At level m o x.more) level held s in
        record {
          more = c ∷ x.more;
          at = subst P (sym e) x.at;
          scalars = ap (λ b. b && all_scalars x.more) one ∙ x.scalars;
          few = omega (arith, x.few);
        }
    by_step (suc n) mode c s one e x = absurd x

    module _ (n : ℕ) (mode : Mode) where
      done : is_done mode ≡ true → Ends n mode
      done e =
          let x = closed held in
          record {
            more = x.more;
            at = after_done level held x.more x.at mode e;
            scalars = x.scalars;
            few = omega (arith, x.few);
          }

      abbrev By : ℕ → Type 0
      By c = AfterStep n (next_step mode (last_open held) c) → Ends n mode

      by_zero : By 48
      by_zero x = by_step n mode 48 _ refl refl x

      by_one : By 49
      by_one x = by_step n mode 49 _ refl refl x

      by_hyphen : By 45
      by_hyphen x = by_step n mode 45 _ refl refl x

      by_colon : By 58
      by_colon x = by_step n mode 58 _ refl refl x

      by_point : By 46
      by_point x = by_step n mode 46 _ refl refl x

      by_equals : By 61
      by_equals x = by_step n mode 61 _ refl refl x

      by_bracket : By 93
      by_bracket x = by_step n mode 93 _ refl refl x

      by_quote : By 34
      by_quote x = by_step n mode 34 _ refl refl x

      by_apostrophe : By 39
      by_apostrophe x = by_step n mode 39 _ refl refl x

      by_feed : By 10
      by_feed x = by_step n mode 10 _ refl refl x

      by_return : By 13
      by_return x = by_step n mode 13 _ refl refl x

    ruleset keys = (done, by_equals, by_bracket, by_zero)

    more_left : (m n : ℕ) (mode : Mode) → nat_le m n ≡ true → Ends m mode → Ends n mode
    more_left m n mode most x = record {
      more = x.more;
      at = x.at;
      scalars = x.scalars;
      few = omega (arith, x.few, let P : m ≤ n = grind (arith, nat_tests, most) in P);
    }

    -- ---- dates, times and numbers

    abbrev Figures : Figure → Type 0
    Figures f = Ends 16 (modes.Number f)

    day_end : (n days tens : ℕ) → 1 ≤ days
        → AfterStep n (steps.Goes (modes.Number (figures.Moment moments.Date)))
        → Ends n (modes.Number (figures.Moment (moments.DayEnd days tens)))
    day_end n days zero some x =
        let fits : day_fits days 0 49 ≡ true = grind (arith, nat_tests, some) in
        by_step n _ 49 _ refl (ap (λ b. number_goes (moment_as (first_of
        (moment_if b moments.Date) None)) false (last_open held) 49) fits) x
    day_end n days (suc tens) some x =
        let fits : day_fits days (suc tens) 48 ≡ true = grind (arith, nat_tests) in
        by_step n _ 48 _ refl (ap (λ b. number_goes (moment_as (first_of
        (moment_if b moments.Date) None)) false (last_open held) 48) fits) x

    last_day : 1 ≤ 31
    last_day = omega arith

    ruleset figured =
        (done, by_zero, by_colon, by_one, by_hyphen, by_point, day_end, last_day)

    moment : (m : Moment) → IsMoment m → Figures (figures.Moment m)
    moment (moments.MonthEnd leap true) x = search figured depth 20 fits 4000
    moment (moments.MonthEnd leap false) x = search figured depth 20 fits 4000
    moment (moments.SecondEnd dated true) x = search figured depth 20 fits 4000
    moment (moments.SecondEnd dated false) x = search figured depth 20 fits 4000
    moment (moments.HourEnd true) x = search figured depth 20 fits 4000
    moment (moments.HourEnd false) x = search figured depth 20 fits 4000
    moment (moments.OffsetHourEnd true) x = search figured depth 20 fits 4000
    moment (moments.OffsetHourEnd false) x = search figured depth 20 fits 4000
    moment m x = search figured depth 20 fits 4000

    lead : (digits value : ℕ) → IsFigure (figures.Lead digits value)
        → Figures (figures.Lead digits value)
    lead (suc (suc zero)) value x = search figured depth 20 fits 4000
    lead (suc (suc (suc zero))) value x = search figured depth 20 fits 4000
    lead (suc (suc (suc (suc zero)))) value x = search figured depth 20 fits 4000
    lead digits value x = absurd x

    based_mark : (base : Base) (value : ℕ) → nat_lt value (limit_of base) ≡ true
        → Figures (figures.BasedMark base value)
    based_mark bases.Hex value fits =
        by_step 16 _ 48 (steps.Goes (modes.Number (figures.Based bases.Hex
        (value * 16 + digit_value 48)))) refl (simp fits) (done _ _ refl)
    based_mark bases.Octal value fits =
        by_step 16 _ 48 (steps.Goes (modes.Number (figures.Based bases.Octal
        (value * 8 + digit 48)))) refl (simp fits) (done _ _ refl)
    based_mark bases.Binary value fits =
        by_step 16 _ 48 (steps.Goes (modes.Number (figures.Based bases.Binary
        (value * 2 + digit 48)))) refl (simp fits) (done _ _ refl)

    figure : (f : Figure) → IsFigure f → Figures f
    figure (figures.Lead k value) x = lead k value x
    figure (figures.BasedMark base value) x = based_mark base value x
    figure (figures.Moment m) x = moment m x
    figure (figures.Prefix bases.Hex) x = search figured
    figure (figures.Prefix base) x = search figured
    figure f x = search figured depth 10

    -- ---- strings and words

    role_ends : (role : Role) → AfterStep 8 (end_of role)
    role_ends roles.Value = search keys
    role_ends (roles.Name owners.Entry) = search keys
    role_ends (roles.Name owner) = search keys

    basic : (n : ℕ) (role : Role) → nat_le 8 n ≡ true → Ends n (modes.Basic role)
    basic n role enough = more_left 8 n _ enough (by_quote 8 _ (role_ends role))

    escaped : (role : Role) (e : Escape) → Ends 16 (modes.Escaped role e)
    escaped role escapes.Letter = search (basic, by_quote, by_zero) depth 10
    escaped role e = search (basic, by_quote, by_zero) depth 12

    long_escape : (e : Escape) → Ends 16 (modes.LongEscape e)
    long_escape escapes.Letter = search (done, by_quote, by_zero) depth 10
    long_escape e = search (done, by_quote, by_zero) depth 15

    first_long : (mark : Mark) → Ends 15 (modes.Long mark 0)
    first_long marks.Basic = search (done, by_quote)
    first_long marks.Literal = search (done, by_apostrophe)

    letter_goes : (mark : Mark) (quotes : ℕ) → nat_lt quotes 3 ≡ true
        → next_step (modes.Long mark quotes) (last_open held) 97 ≡ steps.Goes (modes.Long mark 0)
    letter_goes marks.Basic quotes few =
        ap (λ b. if b then content_step marks.Basic 97 else after_step (last_open held) 97) few
    letter_goes marks.Literal quotes few =
        ap (λ b. if b then content_step marks.Literal 97 else after_step (last_open held) 97) few

    long : (mark : Mark) (quotes : ℕ) → Ends 16 (modes.Long mark quotes)
    long mark quotes = elim (both_ways (nat_lt quotes 3)) [
      | inl few ↦ by_step 16 _ 97 _ refl (letter_goes mark quotes few) (first_long mark)
      | inr many ↦
          let enough : nat_le 3 quotes ≡ true = grind (arith, nat_tests, many) in done 16 _ enough
    ]

    letter_scalar : (rest : Letters) → scalar (letter_of rest) ≡ true
    letter_scalar letters.E = refl
    letter_scalar rest = refl

    by_letter : (n : ℕ) (rest : Letters) → By n (modes.Word rest) (letter_of rest)
    by_letter n rest x = by_step n _ (letter_of rest) _ (letter_scalar rest) refl x

    word : (rest : Letters) → Ends 16 (modes.Word rest)
    word letters.E = search (done, by_letter)
    word rest = search (done, by_letter)

    gap_ends : (gap : Gap) → Ends 14 (back_to gap)
    gap_ends gaps.Line = search keys
    gap_ends gap = search keys

    returned : (gap : Gap) → Ends 15 (modes.Return gap)
    returned gap = by_feed 15 _ (gap_ends gap)

    -- ---- all

    mode_ends : (mode : Mode) → IsReached mode → Ends 16 mode
    mode_ends (modes.Comment gap) x = by_return 16 _ (returned gap)
    mode_ends (modes.Return gap) x = more_left 15 16 _ refl (returned gap)
    mode_ends (modes.Name owners.Entry) x = search keys
    mode_ends (modes.Name owner) x = search keys
    mode_ends (modes.Bare owners.Entry) x = search keys
    mode_ends (modes.Bare owner) x = search keys
    mode_ends (modes.Behind owners.Entry) x = search keys
    mode_ends (modes.Behind owner) x = search keys
    mode_ends (modes.Basic role) x = basic 16 role refl
    mode_ends (modes.Escaped role e) x = escaped role e
    mode_ends (modes.Literal role) x = more_left 8 16 _ refl (by_apostrophe 8 _ (role_ends role))
    mode_ends (modes.Quote marks.Basic) x = search (done, by_quote)
    mode_ends (modes.Quote marks.Literal) x = search (done, by_apostrophe)
    mode_ends (modes.Long mark quotes) x = long mark quotes
    mode_ends (modes.LongReturn mark) x = by_feed 16 _ (first_long mark)
    mode_ends (modes.LongEscape e) x = long_escape e
    mode_ends modes.LongBlank x = search (done, by_quote, by_feed)
    mode_ends (modes.Word rest) x = word rest
    mode_ends (modes.Number f) x = figure f x
    mode_ends mode x = search keys

  -- ---- a walk that goes on

  fewer : (held : List Bracket) → length (others_open held) ≤ length held
  fewer [] = omega arith
  fewer (bracket ∷ held) = omega arith

  opened_reached : (bracket : Bracket) → IsReached (opened bracket)
  opened_reached brackets.Array = tt
  opened_reached brackets.Table = tt

  module _ (tokens : List ℕ) (n : ℕ)
      (on : (mode : Mode) (held : List Bracket) → IsReached mode
      → IsViablePrefix level mode held tokens → Ending level tokens held n mode) where
    next_goes_on : (held : List Bracket) (s : Step) → MayReach s
        → IsNextStep (λ m o. IsViablePrefix level m o tokens) level held s
        → (more : List ℕ) × IsNextStep (λ m o. At level m o (tokens ++ more)) level held s
        × (all_scalars more ≡ true) × (length more ≤ suc n + length held)
    unfolding MayReach
    next_goes_on held steps.Invalid r x = absurd x
    next_goes_on held (steps.Goes mode) r x =
        let y = on mode held r x in (y.more, y.at, y.scalars, omega (arith, y.few))
    next_goes_on held (steps.Opens k) r x =
        let y = on (opened k) (k ∷ held) (opened_reached k) x.1 in
        (y.more, (x.0, y.at), y.scalars, omega (arith, y.few))
    next_goes_on held steps.Closes r x =
        let y = on modes.After (others_open held) tt x in
        (y.more, y.at, y.scalars, omega (arith, y.few, fewer held))
    next_goes_on held steps.Ends r x =
        let y = on modes.Line held tt x in (y.more, y.at, y.scalars, omega (arith, y.few))

  goes_on : (tokens : List ℕ) (mode : Mode) (held : List Bracket) → IsReached mode
      → IsViablePrefix level mode held tokens
      → Ending level tokens held (length tokens + 16) mode
  goes_on [] mode held r x = mode_ends held mode r
  goes_on (c ∷ tokens) mode held r x =
      let (more, at, scalars, few) =
      next_goes_on tokens (length tokens + 16) (λ m o. goes_on tokens m o) held
      (next_step mode (last_open held) c) (next_reached mode (last_open held) c r) x in
      record { more = more; at = at; scalars = scalars; few = omega (arith, few) }

  -- characters that the walk accepts begin a text that it accepts
  pub completed : (front : List ℕ) → MayBegin level front → IsCompletable level front
  completed front may =
      let x = goes_on front modes.Line [] tt may in
      (x.more, x.at, x.scalars, omega (arith, x.few))
