-- Dates and times: the walk accepts those of the grammar, and no others.
use Rattle.std.specs.List.{All}
use Rattle.std.specs.Prelude.{◌≡◌, ◌⊎◌, ◌≤◌, ◌<◌, ◌+◌, ◌*◌, ◌^◌, ◌==◌, ◌&&◌, ◌||◌}
use Rattle.std.specs.Prelude.{ℕ, Bool, true, false, List, [], ◌∷◌, ◌++◌, length, Option, Some, None}
use Rattle.std.specs.Prelude.{nat_le, if◌then◌else◌}
use Rattle.std.specs.Str.{IsAscii}
use Rattle.std.proofs.Common.{refl, sym, ap, subst, inl, inr, ◌∙◌, arith, length-append}
use Rattle.std.proofs.StringFromBytes.{spelled}
use Rattle.std.proofs.lemmas.Bool.Decides.{nat_tests}
use Rattle.std.proofs.lemmas.List.Elements.{All-cons, All-nil, All-tail}
use Rattle.std.proofs.lemmas.Str.{IsUtf8-from_ascii}
use Rattle.std.proofs.lemmas.Str.Ascii.{IsAscii-cons, IsAscii-nil}
use Rattle.format_toml_errors.specs.Accepted.{both_ways, true_not_false}
use Rattle.format_toml_errors.specs.Moments.{date_step, day_fits, days_of, first_of, is_digit}
use Rattle.format_toml_errors.specs.Moments.{moment_if, moment_step, offset_start, tens_of}
use Rattle.format_toml_errors.specs.declared.moments.Moment.TheVariants as moments
use Rattle.format_toml_tree.specs.Dates.{Clock, FourDigits, Fraction, FullDate, InTurn, IsAlone}
use Rattle.format_toml_tree.specs.Dates.{IsBehind, IsDateTime, IsDelimiter, IsDigit, IsTimed}
use Rattle.format_toml_tree.specs.Dates.{Marked, TimeText, TwoDigits, days_in, is_leap}
use Rattle.format_toml_tree.specs.declared.value.Date.{Date}
use Rattle.format_toml_tree.specs.declared.value.DateTime.{DateTime}
use Rattle.format_toml_tree.specs.declared.value.DateTime.TheVariants as dates
use Rattle.format_toml_tree.specs.declared.value.Offset.{Offset}
use Rattle.format_toml_tree.specs.declared.value.Time.{Time}
use Rattle.format_toml_document.proofs.Moments.{Limited, M, MarkedBy, Offsets, On, Pair, Segment}
use Rattle.format_toml_document.proofs.Moments.{hours, if_test, marked, minutes, offset_made, only}
use Rattle.format_toml_document.proofs.Moments.{offset_read, seconds, tested, two_digits, two_made}
use Rattle.format_toml_document.proofs.Moments.{two_read, two_value}
use Rattle.format_toml_document.proofs.Thens.{Fits, equal, fit_parts}

-- ---- fractions of seconds

other : (dated : Bool) (c : ℕ) (r : List ℕ) → On r (offset_start dated c)
    → (is_digit c ≡ false) × ((c == 46) ≡ false)
other dated c r x = elim (both_ways (is_digit c || c == 46)) [
  | inl e ↦
      let none : offset_start dated c ≡ None = grind (arith, nat_tests, e) in
      absurd (subst (λ o. On r o) none x)
  | inr e ↦ (grind (arith, nat_tests, e), grind (arith, nat_tests, e))
]

fraction_read : (dated : Bool) (xs : List ℕ) → M (moments.Fraction dated) xs
    → (ds : List ℕ) × (b : List ℕ) × All IsDigit ds × (xs ≡ ds ++ b) × Offsets dated b
fraction_read dated [] x = ([], [], All-nil IsDigit, refl, inl refl)
fraction_read dated (c ∷ xs) x = elim (both_ways (is_digit c)) [
  | inl is ↦
      let (ds, b, all, e, o) = fraction_read dated xs (rw is at x) in
      (c ∷ ds, b, All-cons IsDigit c ds (grind (arith, nat_tests, is)) all, ap (λ l. c ∷ l) e, o)
  | inr not ↦ ([], c ∷ xs, All-nil IsDigit, refl, inr (c, xs, refl, rw not at x))
]

fraction_made : (dated : Bool) (ds b : List ℕ) → All IsDigit ds → Offsets dated b
    → M (moments.Fraction dated) (ds ++ b)
fraction_made dated [] b all (inl e) = rw e refl
fraction_made dated [] b all (inr (c, r, e, x)) = rw (e, (other dated c r x).0) x
fraction_made dated (d ∷ ds) b all o =
    let is : IsDigit d = all 0 d (omega arith) in
    let digit : is_digit d ≡ true = grind (arith, nat_tests, is) in
    rw digit (fraction_made dated ds b (All-tail IsDigit d ds all) o)

time_read : (dated : Bool) (xs : List ℕ) → M (moments.Time dated) xs
    → (ds : List ℕ) × (b : List ℕ) × Fraction xs ds b × Offsets dated b
unfolding Fraction
time_read dated [] x = ([], [], inl (refl, refl), inl refl)
time_read dated (c ∷ xs) x = elim (both_ways (c == 46)) [
  | inl is ↦
      let (d, r, (e, t), y) = (tested (moments.Point dated) refl is_digit
      (λ n. moments.Fraction dated) (λ n. sym (only _))).takes xs (rw is at x) in
      let (ds, b, all, f, o) = fraction_read dated r y in
      let more = All-cons IsDigit d ds (grind (arith, nat_tests, t)) all in
      let split = ap (λ n. n ∷ xs) (equal c 46 is) ∙ ap (λ l. 46 ∷ l) (e ∙ ap (λ l. d ∷ l) f) in
      (d ∷ ds, b, inr (omega arith, more, split), o)
  | inr not ↦ ([], c ∷ xs, inl (refl, refl), inr (c, xs, refl, rw not at x))
]

time_made : (dated : Bool) (xs ds b : List ℕ) → Fraction xs ds b → Offsets dated b
    → M (moments.Time dated) xs
unfolding Fraction
time_made dated xs ds b (inl (none, e)) (inl f) = rw (e, f) refl
time_made dated xs ds b (inl (none, e)) (inr (c, r, f, x)) =
    rw (e, f, (other dated c r x).1) x
time_made dated xs [] b (inr (some, all, e)) o = absurd (omega (arith, some))
time_made dated xs (d ∷ ds) b (inr (some, all, e)) o =
    let is : IsDigit d = all 0 d (omega arith) in
    let digit : is_digit d ≡ true = grind (arith, nat_tests, is) in
    rw (e, digit) (fraction_made dated ds b (All-tail IsDigit d ds all) o)

-- ---- times

-- after the colon after an hour
abbrev pub AtHour : Bool → ℕ → ℕ → List ℕ → Type 0
AtHour dated p q r =
    IsDigit p × IsDigit q × (two_value p q ≤ 23) × M (moments.Minute dated) r

pub timed_read : (dated : Bool) (p q : ℕ) (r : List ℕ) → AtHour dated p q r
    → (m : ℕ) × (s : ℕ) × (ds : List ℕ) × (off : Option Offset)
    × IsTimed (two_value p q, m, s) ds off (p ∷ q ∷ 58 ∷ r) × (dated ≡ false → off ≡ None)
unfolding IsTimed Clock InTurn Marked
timed_read dated p q r (dp, dq, few, x) =
    let (m, b, (two, ok), y) = (minutes dated).takes r x in
    let (s, t, (mark, fine), z) = (seconds dated).takes b y in
    let (ds, o, part, shift) = time_read dated t z in
    let (off, shifts) = offset_read dated o shift in
    let hour = two_made (p ∷ q ∷ 58 ∷ r) p q (58 ∷ r) refl dp dq in
    let clock : Clock (p ∷ q ∷ 58 ∷ r) (two_value p q, m, s) t =
    ((58 ∷ r, b, hour, (r, refl, two), mark), few, ok, fine) in
    (m, s, ds, off, (t, o, clock, part, shifts.0), shifts.1)

pub timed_made : (dated : Bool) (xs : List ℕ) (clock : ℕ × ℕ × ℕ) (ds : List ℕ)
    (off : Option Offset) → IsTimed clock ds off xs → (dated ≡ false → off ≡ None)
    → (p : ℕ) × (q : ℕ) × (r : List ℕ) × (xs ≡ p ∷ q ∷ 58 ∷ r) × AtHour dated p q r
unfolding IsTimed Clock InTurn Marked
timed_made dated xs clock ds off
    (t, o, ((a, b, first, (r, e, two), mark), few, ok, fine), part, may) alone =
    let (p, q, dp, dq, f, n) = two_read xs clock.0 a first in
    let x = time_made dated t ds o part (offset_made dated off o (may, alone)) in
    let y = (seconds dated).made b clock.2 t (mark, fine) x in
    let at : AtHour dated p q r =
    (dp, dq, omega (arith, n, few), (minutes dated).made r clock.1 b (two, ok) y) in
    (p, q, r, f ∙ ap (λ k. p ∷ q ∷ k) e, at)

-- the digits of a fraction are no more than the characters
few_digits : (xs : List ℕ) (clock : ℕ × ℕ × ℕ) (ds : List ℕ) (off : Option Offset)
    → IsTimed clock ds off xs → All IsDigit ds × (length ds ≤ length xs)
unfolding IsTimed Clock InTurn Marked Fraction
few_digits xs clock ds off (t, o, clocked, inl (none, e), may) =
    rw none (All-nil IsDigit, omega arith)
few_digits xs clock ds off
    (t, o, ((a, b, first, (r, e, two), (k, f, last)), h, m, s), inr (some, all, g), may) =
    let size : List ℕ → ℕ = λ l. length l in
    let fewer : (l : List ℕ) (n : ℕ) (k : List ℕ) → TwoDigits l n k → length k ≤ length l =
    λ l n k two. let (p, q, dp, dq, j, v) = two_read l n k two in omega (arith, ap size j) in
    let x = fewer xs clock.0 a first in
    let y = fewer r clock.1 b two in
    let z = fewer k clock.2 t last in
    (all, omega (arith, ap size e, ap size f, ap size g, x, y, z, length-append ds o))

digits_ascii : (ds : List ℕ) → All IsDigit ds → IsAscii ds
digits_ascii [] all = IsAscii-nil
digits_ascii (d ∷ ds) all =
    let is = all 0 d (omega arith) in
    IsAscii-cons d ds (omega (arith, is)) (digits_ascii ds (All-tail IsDigit d ds all))

time_for : {A : Type 0} (alloc : A) (xs : List ℕ) (clock : ℕ × ℕ × ℕ) (ds : List ℕ)
    (off : Option Offset) → IsTimed clock ds off xs → Fits xs
    → (time : Time A) × TimeText time off xs
unfolding TimeText
time_for {A = A} alloc xs clock ds off timed fits =
    let (all, less) = few_digits xs clock ds off timed in
    let small : length ds < 2 ^ 63 = omega (arith, less, fits.few) in
    let digits = spelled alloc ds ∣ IsUtf8-from_ascii ds (digits_ascii ds all) ∣₁ small in
    let time : Time A =
    record { hour = clock.0; minute = clock.1; second = clock.2; fraction = digits } in
    (time, (clock, ds, (refl, refl, refl, refl), timed))

-- ---- months and days

month_same : (year a b : ℕ) (one : Bool) → (a == 49) ≡ one → (a == 48 || a == 49) ≡ true
    → (if one then nat_le 48 b && nat_le b 50 else nat_le 49 b && nat_le b 57) ≡ true
    → days_of (is_leap year) one b ≡ days_in year (two_value a b)
month_same year a b true e t u = grind (arith, nat_tests, e, u)
month_same year a b false e t u =
    let zero : a ≡ 48 = grind (arith, nat_tests, e, t) in grind (arith, nat_tests, zero, u)

days_least : (leap one : Bool) (b : ℕ) → 28 ≤ days_of leap one b
days_least leap true b = grind (arith, nat_tests)
days_least leap false b = grind (arith, nat_tests)

months : (year month : ℕ) → 1 ≤ days_in year month → (1 ≤ month) × (month ≤ 12)
months year month some = (grind (arith, nat_tests, some), grind (arith, nat_tests, some))

month_pair : (year : ℕ)
    → Pair (λ c. c == 48 || c == 49) (λ c. c == 49)
    (λ f c. if f then nat_le 48 c && nat_le c 50 else nat_le 49 c && nat_le c 57)
    (λ n. 1 ≤ days_in year n) (λ f c. moments.DayMark (days_of (is_leap year) f c))
    (λ n. moments.DayMark (days_in year n))
month_pair year = record {
  takes = λ a b t u.
      let same = month_same year a b (a == 49) refl t u in (
        grind (arith, nat_tests, t),
        grind (arith, nat_tests, u),
        omega (arith, same, days_least (is_leap year) (a == 49) b),
      );
  made = λ a b da db some.
      let range = months year (two_value a b) some in
      (grind (arith, nat_tests, da, db, range), grind (arith, nat_tests, da, db, range));
  same = λ a b t u. ap (λ n. moments.DayMark n) (month_same year a b (a == 49) refl t u);
}

day_pair : (days : ℕ) → 28 ≤ days → days ≤ 31
    → Pair (λ c. (nat_le 48 c && nat_le c 50) || (c == 51 && nat_le 30 days)) tens_of
    (λ tens c. day_fits days tens c) (λ n. (1 ≤ n) × (n ≤ days)) (λ f c. moments.Date)
    (λ n. moments.Date)
day_pair days least most = record {
  takes = λ a b t u. grind (arith, nat_tests, least, t, u);
  made = λ a b da db few. grind (arith, nat_tests, least, most, da, db, few);
  same = λ a b t u. refl;
}

days_range : (year month : ℕ) → 1 ≤ days_in year month
    → (28 ≤ days_in year month) × (days_in year month ≤ 31)
days_range year month some = grind (arith, nat_tests, some)

month_step : (year : ℕ) → Segment (moments.Month (is_leap year))
    (Limited (λ n. 1 ≤ days_in year n)) (λ n. moments.DayMark (days_in year n))
month_step year =
    two_digits (moments.Month (is_leap year)) (λ b. moments.MonthEnd (is_leap year) b) refl
    (λ b. refl) (λ c. refl) (λ f c. by f c) (month_pair year)
  where
    by : (f : Bool) (c : ℕ) → moment_step (moments.MonthEnd (is_leap year) f) c
        ≡ first_of (moment_if (if f then nat_le 48 c && nat_le c 50 else nat_le 49 c && nat_le c 57)
        (moments.DayMark (days_of (is_leap year) f c))) None
    by true c = refl
    by false c = refl

day_step : (days : ℕ) → 28 ≤ days → days ≤ 31 → Segment (moments.DayMark days)
    (MarkedBy 45 (λ n. (1 ≤ n) × (n ≤ days))) (λ n. moments.Date)
day_step days least most =
    marked 45 (moments.DayMark days) (moments.Day days) refl (λ c. refl)
    (two_digits (moments.Day days) (λ t. moments.DayEnd days t) refl (λ t. refl) (λ c. refl)
    (λ f c. refl) (day_pair days least most))

-- ---- after a date

hour_read : (xs : List ℕ) → M moments.Hour xs
    → (p : ℕ) × (q : ℕ) × (r : List ℕ) × (xs ≡ p ∷ q ∷ 58 ∷ r) × AtHour true p q r
hour_read xs x =
    let (n, s, (two, few), y) = hours.takes xs x in
    let (p, q, dp, dq, e, v) = two_read xs n s two in
    let (c, r, (f, t), z) = (tested moments.MinuteMark refl (λ c. c == 58)
    (λ c. moments.Minute true) (λ c. refl)).takes s y in
    let split = e ∙ ap (λ l. p ∷ q ∷ l) (f ∙ ap (λ b. b ∷ r) (equal c 58 t)) in
    (p, q, r, split, (dp, dq, omega (arith, v, few), z))

hour_made : (xs : List ℕ) (p q : ℕ) (r : List ℕ) → xs ≡ p ∷ q ∷ 58 ∷ r → AtHour true p q r
    → M moments.Hour xs × M moments.Space xs
hour_made xs p q r e (dp, dq, few, x) =
    let hour = hours.made (p ∷ q ∷ 58 ∷ r) (two_value p q) (58 ∷ r)
    (two_made (p ∷ q ∷ 58 ∷ r) p q (58 ∷ r) refl dp dq, few) x in rw e (hour, hour)

-- the same, or with a space after it
abbrev pub Spaced : List ℕ → List ℕ → Type 0
Spaced xs ys = (xs ≡ ys) ⊎ (xs ≡ ys ++ 32 ∷ [])

module _ {A : Type 0} where
  delimited : (alloc : A) (date : Date) (c : ℕ) (xs : List ℕ) → Fits xs → IsDelimiter c
      → M moments.Hour xs → (d : DateTime A) × IsBehind date d (c ∷ xs)
  unfolding IsBehind
  delimited alloc date c xs fits is x =
      let (p, q, r, e, at) = hour_read xs x in
      let (m, s, ds, off, timed, alone) = timed_read true p q r at in
      let P : List ℕ → Type 0 = λ l. IsTimed (two_value p q, m, s) ds off l in
      let (time, text) = time_for alloc xs (two_value p q, m, s) ds off (subst P (sym e) timed) fits
      in by time off text
    where
      by : (time : Time A) (off : Option Offset) → TimeText time off xs
          → (d : DateTime A) × IsBehind date d (c ∷ xs)
      by time None text = (dates.Local date time, (refl, (c, xs, is, refl, text)))
      by time (Some off) text = (dates.Offset date time off, (refl, (c, xs, is, refl, text)))

  pub behind_read : (alloc : A) (date : Date) (xs : List ℕ) → Fits xs → M moments.Date xs
      → (d : DateTime A) × (ys : List ℕ) × IsBehind date d ys × Spaced xs ys
  unfolding IsBehind
  behind_read alloc date [] fits x = (dates.Date date, [], (refl, refl), inl refl)
  behind_read alloc date (c ∷ xs) fits x =
      let y = subst (λ o. On xs o) (only (date_step moments.Date c)) x in
      elim (both_ways (c == 32)) [
        | inl is ↦ space xs (less xs fits) (equal c 32 is) (rw is at y)
        | inr not ↦
            let y : On xs (moment_if (c == 84 || c == 116) moments.Hour) = rw not at y in
            let (t, z) = if_test c xs (c == 84 || c == 116) moments.Hour y in
            let is : IsDelimiter c = grind (arith, nat_tests, t) in
            let (d, text) = delimited alloc date c xs (less xs fits) is z in
            (d, c ∷ xs, text, inl refl)
      ]
    where
      less : (xs : List ℕ) → Fits (c ∷ xs) → Fits xs
      less xs fits = (fit_parts (c ∷ xs) (c ∷ []) xs refl fits).1

      space : (xs : List ℕ) → Fits xs → c ≡ 32 → M moments.Space xs
          → (d : DateTime A) × (ys : List ℕ) × IsBehind date d ys × Spaced (c ∷ xs) ys
      space [] fits is x =
          (dates.Date date, [], (refl, refl), inr (ap (λ n. n ∷ []) is))
      space (b ∷ xs) fits is x =
          let (d, text) = delimited alloc date c (b ∷ xs) fits (inr (inr is)) x in
          (d, c ∷ b ∷ xs, text, inl refl)

  after_delimiter : (c : ℕ) (r xs : List ℕ) → IsDelimiter c → xs ≡ c ∷ r → (time : Time A)
      (off : Option Offset) → TimeText time off r → M moments.Date xs
  unfolding TimeText
  after_delimiter c r xs is e time off (clock, ds, t-is, timed) =
      let (p, q, k, f, at) = timed_made true r clock ds off timed (λ n. true_not_false n) in
      let (hour, space) = hour_made r p q k f at in elim is [
        | inl n ↦ rw (e, n) hour
        | inr (inl n) ↦ rw (e, n) hour
        | inr (inr n) ↦ rw (e, n) space
      ]

  pub behind_made : (date : Date) (d : DateTime A) (xs : List ℕ) → IsBehind date d xs
      → M moments.Date xs
  unfolding IsBehind
  behind_made date (dates.Offset day time off) xs (same, (c, r, is, e, text)) =
      after_delimiter c r xs is e time (Some off) text
  behind_made date (dates.Local day time) xs (same, (c, r, is, e, text)) =
      after_delimiter c r xs is e time None text
  behind_made date (dates.Date day) xs (same, e) = rw e refl
  behind_made date (dates.Time time) xs never = absurd never

-- ---- all of them

marked_made : (mark a b n : ℕ) (rest : List ℕ) → IsDigit a → IsDigit b → n ≡ two_value a b
    → Marked mark (mark ∷ a ∷ b ∷ rest) n rest
unfolding Marked
marked_made mark a b n rest da db e =
    rw e (a ∷ b ∷ rest, refl, two_made (a ∷ b ∷ rest) a b rest refl da db)

abbrev pub Year : ℕ → ℕ → ℕ → ℕ → ℕ → Type 0
Year a b c d y =
    IsDigit a × IsDigit b × IsDigit c × IsDigit d × (y ≡ two_value a b * 100 + two_value c d)

module _ {A : Type 0} where
  -- a year and a hyphen, and the rest
  pub year_read : (alloc : A) (a b c d y : ℕ) (k : List ℕ) → Year a b c d y
      → Fits (a ∷ b ∷ c ∷ d ∷ 45 ∷ k) → M (moments.Month (is_leap y)) k
      → (o : DateTime A) × (ys : List ℕ) × IsDateTime o ys × Spaced (a ∷ b ∷ c ∷ d ∷ 45 ∷ k) ys
  unfolding FullDate InTurn FourDigits IsDateTime Marked
  year_read alloc a b c d y k (da, db, dc, dd, is) fits x =
      let (m, r, (two, some), z) = (month_step y).takes k x in
      let (p, q, dp, dq, e, m-is) = two_read k m r two in
      let (least, most) = days_range y m some in
      let (n, rest, ((s, f, day), fine), w) = (day_step (days_in y m) least most).takes r z in
      let (u, v, du, dv, g, n-is) = two_read s n rest day in
      let all = e ∙ ap (λ l. p ∷ q ∷ l) (f ∙ ap (λ l. 45 ∷ l) g) in
      let front = a ∷ b ∷ c ∷ d ∷ 45 ∷ p ∷ q ∷ 45 ∷ u ∷ v ∷ [] in
      let same : a ∷ b ∷ c ∷ d ∷ 45 ∷ k ≡ front ++ rest = ap (λ l. a ∷ b ∷ c ∷ d ∷ 45 ∷ l) all in
      let date : Date = record { year = y; month = m; day = n } in
      let (o, ys, behind, spaced) = behind_read alloc date rest
      (fit_parts (a ∷ b ∷ c ∷ d ∷ 45 ∷ k) front rest same fits).1 w in
      let third = 45 ∷ u ∷ v ∷ ys in
      let second = 45 ∷ p ∷ q ∷ third in
      let month = marked_made 45 p q m third dp dq m-is in
      let last = marked_made 45 u v n ys du dv n-is in
      let one = two_made (front ++ ys) a b (c ∷ d ∷ second) refl da db in
      let two = two_made (c ∷ d ∷ second) c d second refl dc dd in
      let year : FourDigits (front ++ ys) y second =
      (two_value a b, two_value c d, c ∷ d ∷ second, one, two, is) in
      let full : FullDate (front ++ ys) date ys =
      ((second, third, year, month, last), fine.0, fine.1) in
      let ends : Spaced (a ∷ b ∷ c ∷ d ∷ 45 ∷ k) (front ++ ys) = elim spaced [
        | inl h ↦ inl (same ∙ ap (λ l. front ++ l) h)
        | inr h ↦ inr (same ∙ ap (λ l. front ++ l) h)
      ] in (o, front ++ ys, inl (date, ys, full, behind), ends)

  -- an hour and a colon, and the rest
  pub alone_read : (alloc : A) (p q : ℕ) (r : List ℕ) → Fits (p ∷ q ∷ 58 ∷ r) → AtHour false p q r
      → (o : DateTime A) × IsDateTime o (p ∷ q ∷ 58 ∷ r)
  unfolding IsDateTime IsAlone
  alone_read alloc p q r fits at =
      let (m, s, ds, off, timed, alone) = timed_read false p q r at in
      let (time, text) = time_for alloc (p ∷ q ∷ 58 ∷ r) (two_value p q, m, s) ds off timed fits in
      let P : Option Offset → Type 0 = λ n. TimeText time n (p ∷ q ∷ 58 ∷ r) in
      (dates.Time time, inr (time, refl, subst P (alone refl) text))

  -- what they begin with, and what follows
  pub date_made : (o : DateTime A) (xs : List ℕ) → IsDateTime o xs
      → ((a : ℕ) × (b : ℕ) × (c : ℕ) × (d : ℕ) × (y : ℕ) × (k : List ℕ)
      × (xs ≡ a ∷ b ∷ c ∷ d ∷ 45 ∷ k) × Year a b c d y × M (moments.Month (is_leap y)) k)
      ⊎ ((p : ℕ) × (q : ℕ) × (r : List ℕ) × (xs ≡ p ∷ q ∷ 58 ∷ r) × AtHour false p q r)
  unfolding FullDate InTurn FourDigits IsDateTime Marked IsAlone TimeText
  date_made o xs (inl (date, rest, ((r, s, year, (j, e, month), day), some, most), behind)) =
      let (f, l, mid, one, two, is) = year in
      let (a, b, da, db, i, f-is) = two_read xs f mid one in
      let (c, d, dc, dd, k, l-is) = two_read mid l r two in
      let any : 1 ≤ days_in date.year date.month = omega (arith, some, most) in
      let (least, fine) = days_range date.year date.month any in
      let x = (day_step (days_in date.year date.month) least fine).made s date.day rest
      (day, (some, most)) (behind_made date o rest behind) in
      let y = (month_step date.year).made j date.month s (month, any) x in
      let split = i ∙ ap (λ m. a ∷ b ∷ m) (k ∙ ap (λ m. c ∷ d ∷ m) e) in
      inl (a, b, c, d, date.year, j, split, (da, db, dc, dd, omega (arith, is, f-is, l-is)), y)
  date_made o xs (inr (time, same, (clock, ds, t-is, timed))) =
      inr (timed_made false xs clock ds None timed (λ e. refl))
