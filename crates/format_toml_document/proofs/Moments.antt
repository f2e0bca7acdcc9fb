-- The numbers of dates and times: the walk accepts those of the grammar, and no others.
use Rattle.std.specs.Prelude.{◌≡◌, ◌⊎◌, ◌≤◌, ◌+◌, ◌-◌, ◌*◌, ◌==◌, ◌&&◌, ◌||◌, ℕ, []}
use Rattle.std.specs.Prelude.{Bool, pos, neg_ℤ, true, false, List, ◌∷◌, Option, Some, None, nat_le}
use Rattle.std.specs.Prelude.{if◌then◌else◌}
use Rattle.std.proofs.Common.{refl, sym, ap, subst, inl, inr, ◌∙◌, arith}
use Rattle.std.proofs.lemmas.Bool.Decides.{nat_tests}
use Rattle.format_toml_errors.specs.Accepted.{both_ways, true_not_false}
use Rattle.format_toml_errors.specs.Figures.{moment_as}
use Rattle.format_toml_errors.specs.Moments.{ends_moment, first_of, is_digit, moment_if}
use Rattle.format_toml_errors.specs.Moments.{moment_step, offset_start}
use Rattle.format_toml_errors.specs.declared.figures.Figure.TheVariants as figures
use Rattle.format_toml_errors.specs.declared.moments.Moment.{Moment}
use Rattle.format_toml_errors.specs.declared.moments.Moment.TheVariants as moments
use Rattle.format_toml_tree.specs.Dates.{HourAndMinute, IsDigit, IsDigitOf, IsOffset, Marked}
use Rattle.format_toml_tree.specs.Dates.{MaybeOffset, Standing, TwoDigits}
use Rattle.format_toml_tree.specs.declared.value.Offset.{Offset}
use Rattle.format_toml_tree.specs.declared.value.Offset.TheVariants.{Minutes, Zulu}
use Rattle.format_toml_document.proofs.Figures.{AfterFigure, Figures, goes}
use Rattle.format_toml_document.proofs.Thens.{equal}

abbrev pub M : Moment → List ℕ → Type 0
M m xs = Figures (figures.Moment m) xs

abbrev pub On : List ℕ → Option Moment → Type 0
On xs o = AfterFigure (λ f. Figures f xs) (moment_as o)

pub step : (m next : Moment) (c : ℕ) (xs : List ℕ) → moment_step m c ≡ Some next → M next xs
    → M m (c ∷ xs)
step m next c xs e x =
    goes (figures.Moment m) (figures.Moment next) c xs (ap (λ o. moment_as o) e) x

-- `Segment m text into`: where `m` is expected, the walk accepts an encoding by `text` of some `o`,
-- and after it what it accepts where `into o` is expected; and nothing else.
pub record Segment {O : Type 0} (m : Moment) (text : Standing O) (into : O → Moment) : Type 0 where
  pub takes : (xs : List ℕ) → M m xs → (o : O) × (rest : List ℕ) × text xs o rest × M (into o) rest
  pub made : (xs : List ℕ) (o : O) (rest : List ℕ) → text xs o rest → M (into o) rest → M m xs

-- ---- one character

abbrev pub Passes : (ℕ → Bool) → Standing ℕ
Passes test xs c rest = (xs ≡ c ∷ rest) × (test c ≡ true)

pub if_test : (c : ℕ) (xs : List ℕ) (b : Bool) (m : Moment) → On xs (moment_if b m)
    → (b ≡ true) × M m xs
if_test c xs true m x = (refl, x)
if_test c xs false m x = absurd x

pub only : (o : Option Moment) → first_of o None ≡ o
only (Some m) = refl
only None = refl

pub tested : (m : Moment) → ends_moment m ≡ false → (test : ℕ → Bool) (into : ℕ → Moment)
    → ((c : ℕ) → moment_step m c ≡ first_of (moment_if (test c) (into c)) None)
    → Segment m (Passes test) into
tested m ends test into is = record {
  takes = takes;
  made = λ xs c rest (e, t) x.
      rw e (step m (into c) c rest (is c ∙ ap (λ b. first_of (moment_if b (into c)) None) t) x);
}
  where
    takes : (xs : List ℕ) → M m xs
        → (c : ℕ) × (rest : List ℕ) × Passes test xs c rest × M (into c) rest
    takes [] x = true_not_false (sym x ∙ ends)
    takes (c ∷ xs) x =
        let (t, y) = if_test c xs (test c) (into c)
        (subst (λ o. On xs o) (is c ∙ only (moment_if (test c) (into c))) x) in
        (c, xs, (refl, t), y)

-- ---- two digits

abbrev pub two_value : ℕ → ℕ → ℕ
two_value a b = (a - 48) * 10 + (b - 48)

pub two_made : (xs : List ℕ) (a b : ℕ) (rest : List ℕ) → xs ≡ a ∷ b ∷ rest → IsDigit a
    → IsDigit b → TwoDigits xs (two_value a b) rest
unfolding TwoDigits
two_made xs a b rest e is has =
    let tens : IsDigitOf (a - 48) a = (omega (arith, is), omega (arith, is)) in
    let ones : IsDigitOf (b - 48) b = (omega (arith, has), omega (arith, has)) in
    (a - 48, b - 48, a, b, tens, ones, e, refl)

pub two_read : (xs : List ℕ) (n : ℕ) (rest : List ℕ) → TwoDigits xs n rest
    → (a : ℕ) × (b : ℕ) × IsDigit a × IsDigit b × (xs ≡ a ∷ b ∷ rest) × (n ≡ two_value a b)
unfolding TwoDigits
two_read xs n rest (t, o, c, d, c-is, d-is, e, is) =
    let dc : IsDigit c = (omega (arith, c-is), omega (arith, c-is)) in
    let dd : IsDigit d = (omega (arith, d-is), omega (arith, d-is)) in
    (c, d, dc, dd, e, omega (arith, is, c-is, d-is))

-- two digits whose number satisfies `ok`
abbrev pub Limited : (ℕ → Type 0) → Standing ℕ
Limited ok xs n rest = TwoDigits xs n rest × ok n

-- How the second digit is tested depends on the first one.
pub record Pair {F : Type 0} (first : ℕ → Bool) (flag : ℕ → F) (last : F → ℕ → Bool)
    (ok : ℕ → Type 0) (next : F → ℕ → Moment) (into : ℕ → Moment) : Type 0 where
  pub takes : (a b : ℕ) → first a ≡ true → last (flag a) b ≡ true
      → IsDigit a × IsDigit b × ok (two_value a b)
  pub made : (a b : ℕ) → IsDigit a → IsDigit b → ok (two_value a b)
      → (first a ≡ true) × (last (flag a) b ≡ true)
  pub same : (a b : ℕ) → first a ≡ true → last (flag a) b ≡ true
      → next (flag a) b ≡ into (two_value a b)

pub two_digits : {F : Type 0} {first : ℕ → Bool} {flag : ℕ → F} {last : F → ℕ → Bool}
    {ok : ℕ → Type 0} {next : F → ℕ → Moment} {into : ℕ → Moment} (m : Moment) (mid : F → Moment)
    → ends_moment m ≡ false → ((f : F) → ends_moment (mid f) ≡ false)
    → ((c : ℕ) → moment_step m c ≡ first_of (moment_if (first c) (mid (flag c))) None)
    → ((f : F) (c : ℕ) → moment_step (mid f) c ≡ first_of (moment_if (last f c) (next f c)) None)
    → Pair first flag last ok next into → Segment m (Limited ok) into
two_digits {F} {first} {flag} {last} {ok} {next} {into} m mid ends nots is has pair =
    let one = tested m ends first (λ c. mid (flag c)) is in
    let other : (f : F) → Segment (mid f) (Passes (last f)) (next f) =
    λ f. tested (mid f) (nots f) (last f) (next f) (has f) in record {
      takes = λ xs x.
          let (a, r, (e, t), y) = one.takes xs x in
          let (b, s, (f, u), z) = (other (flag a)).takes r y in
          let (da, db, fine) = pair.takes a b t u in
          let two = two_made xs a b s (e ∙ ap (λ k. a ∷ k) f) da db in
          (two_value a b, s, (two, fine), subst (λ k. M k s) (pair.same a b t u) z);
      made = λ xs n rest (two, fine) x.
          let (a, b, da, db, e, v) = two_read xs n rest two in
          let (t, u) = pair.made a b da db (subst ok v fine) in
          one.made xs a (b ∷ rest) (e, t) ((other (flag a)).made (b ∷ rest) b rest (refl, u)
          (subst (λ k. M k rest) (ap into v ∙ sym (pair.same a b t u)) x));
    }

-- a mark before them
abbrev pub MarkedBy : ℕ → (ℕ → Type 0) → Standing ℕ
MarkedBy mark ok xs n rest = Marked mark xs n rest × ok n

pub marked : {ok : ℕ → Type 0} {into : ℕ → Moment} (mark : ℕ) (m next : Moment)
    → ends_moment m ≡ false
    → ((c : ℕ) → moment_step m c ≡ first_of (moment_if (c == mark) next) None)
    → Segment next (Limited ok) into → Segment m (MarkedBy mark ok) into
unfolding Marked
marked mark m next ends is segment =
    let one = tested m ends (λ c. c == mark) (λ c. next) is in record {
      takes = λ xs x.
          let (c, r, (e, t), y) = one.takes xs x in
          let (n, s, (two, fine), z) = segment.takes r y in
          (n, s, ((r, e ∙ ap (λ b. b ∷ r) (equal c mark t), two), fine), z);
      made = λ xs n rest ((mid, e, two), fine) x.
          one.made xs mark mid (e, grind (arith, nat_tests))
          (segment.made mid n rest (two, fine) x);
    }

-- ---- hours, minutes and seconds

abbrev early : ℕ → Bool
early c = nat_le 48 c && nat_le c 50

abbrev late : Bool → ℕ → Bool
late two c = if two then nat_le 48 c && nat_le c 51 else is_digit c

hour_pair : (next : Moment)
    → Pair early (λ c. c == 50) late (λ n. n ≤ 23) (λ f c. next) (λ n. next)
hour_pair next = record {
  takes = λ a b t u. grind (arith, nat_tests, t, u);
  made = λ a b da db few. grind (arith, nat_tests, da, db, few);
  same = λ a b t u. refl;
}

minute_pair : (next : Moment)
    → Pair (λ c. nat_le 48 c && nat_le c 53) (λ c. true) (λ f c. is_digit c) (λ n. n ≤ 59)
    (λ f c. next) (λ n. next)
minute_pair next = record {
  takes = λ a b t u. grind (arith, nat_tests, t, u);
  made = λ a b da db few. grind (arith, nat_tests, da, db, few);
  same = λ a b t u. refl;
}

second_pair : (next : Moment)
    → Pair (λ c. nat_le 48 c && nat_le c 54) (λ c. c == 54)
    (λ f c. if f then c == 48 else is_digit c) (λ n. n ≤ 60) (λ f c. next) (λ n. next)
second_pair next = record {
  takes = λ a b t u. grind (arith, nat_tests, t, u);
  made = λ a b da db few. grind (arith, nat_tests, da, db, few);
  same = λ a b t u. refl;
}

hour_step : (two : Bool) (c : ℕ) → moment_step (moments.HourEnd two) c
    ≡ first_of (moment_if (late two c) moments.MinuteMark) None
hour_step true c = refl
hour_step false c = refl

offset_hour_step : (two : Bool) (c : ℕ) → moment_step (moments.OffsetHourEnd two) c
    ≡ first_of (moment_if (late two c) moments.OffsetMark) None
offset_hour_step true c = sym (only (moment_if (late true c) moments.OffsetMark))
offset_hour_step false c = sym (only (moment_if (late false c) moments.OffsetMark))

second_step : (dated six : Bool) (c : ℕ) → moment_step (moments.SecondEnd dated six) c
    ≡ first_of (moment_if (if six then c == 48 else is_digit c) (moments.Time dated)) None
second_step dated true c = refl
second_step dated false c = refl

pub hours : Segment moments.Hour (Limited (λ n. n ≤ 23)) (λ n. moments.MinuteMark)
hours =
    two_digits moments.Hour (λ b. moments.HourEnd b) refl (λ b. refl) (λ c. refl) hour_step
    (hour_pair moments.MinuteMark)

pub minutes : (dated : Bool)
    → Segment (moments.Minute dated) (Limited (λ n. n ≤ 59)) (λ n. moments.SecondMark dated)
minutes dated =
    two_digits (moments.Minute dated) (λ b. moments.MinuteEnd dated) refl (λ b. refl) (λ c. refl)
    (λ f c. refl) (minute_pair (moments.SecondMark dated))

pub seconds : (dated : Bool)
    → Segment (moments.SecondMark dated) (MarkedBy 58 (λ n. n ≤ 60)) (λ n. moments.Time dated)
seconds dated =
    marked 58 (moments.SecondMark dated) (moments.Second dated) refl (λ c. refl)
    (two_digits (moments.Second dated) (λ b. moments.SecondEnd dated b) refl (λ b. refl)
    (λ c. refl) (second_step dated) (second_pair (moments.Time dated)))

-- ---- offsets

offset_hours : Segment moments.OffsetHour (Limited (λ n. n ≤ 23)) (λ n. moments.OffsetMark)
offset_hours =
    two_digits moments.OffsetHour (λ b. moments.OffsetHourEnd b) refl (λ b. refl)
    (λ c. sym (only _)) offset_hour_step (hour_pair moments.OffsetMark)

offset_minutes : Segment moments.OffsetMark (MarkedBy 58 (λ n. n ≤ 59)) (λ n. moments.Whole)
offset_minutes =
    marked 58 moments.OffsetMark moments.OffsetMinute refl (λ c. sym (only _))
    (two_digits moments.OffsetMinute (λ b. moments.OffsetMinuteEnd) refl (λ b. refl)
    (λ c. sym (only _)) (λ f c. sym (only _)) (minute_pair moments.Whole))

whole_read : (xs : List ℕ) → M moments.Whole xs → xs ≡ []
whole_read [] x = refl
whole_read (c ∷ xs) x = absurd x

shift_read : (xs : List ℕ) → M moments.OffsetHour xs
    → (hour : ℕ) × (minute : ℕ) × HourAndMinute xs (hour, minute) []
unfolding HourAndMinute
shift_read xs x =
    let (h, r, (two, early), y) = offset_hours.takes xs x in
    let (m, s, (more, late), z) = offset_minutes.takes r y in
    let end = whole_read s z in (h, m, (r, two, rw end at more, early, late))

shift_made : (xs : List ℕ) (hour minute : ℕ) → HourAndMinute xs (hour, minute) []
    → M moments.OffsetHour xs
unfolding HourAndMinute
shift_made xs h m (r, two, more, early, late) =
    offset_hours.made xs h r (two, early) (offset_minutes.made r m [] (more, late) refl)

-- the end, or what may come after the seconds of a time and their fraction
abbrev pub Offsets : Bool → List ℕ → Type 0
Offsets dated xs =
    (xs ≡ []) ⊎ ((c : ℕ) × (r : List ℕ) × (xs ≡ c ∷ r) × On r (offset_start dated c))

abbrev pub MayShift : Bool → Option Offset → List ℕ → Type 0
MayShift dated off xs = MaybeOffset off xs × (dated ≡ false → off ≡ None)

pub offset_read : (dated : Bool) (xs : List ℕ) → Offsets dated xs
    → (off : Option Offset) × MayShift dated off xs
unfolding MaybeOffset IsOffset
offset_read dated xs (inl e) = (None, (e, λ f. refl))
offset_read false xs (inr (c, r, e, x)) = absurd x
offset_read true xs (inr (c, r, e, x)) = elim (both_ways (c == 90 || c == 122)) [
  | inl z ↦
      let x : M moments.Whole r = rw z at x in
      let end = whole_read r x in
      (Some Zulu, (rw (e, end) (zulu z), λ f. true_not_false f))
  | inr not ↦
      let x : On r (moment_if (c == 43 || c == 45) moments.OffsetHour) = rw not at x in
      let (s, y) = if_test c r (c == 43 || c == 45) moments.OffsetHour x in
      let (h, m, text) = shift_read r y in
      elim (both_ways (c == 43)) [
        | inl plus ↦
            let split : xs ≡ 43 ∷ r = rw (e, equal c 43 plus) refl in
            let is : IsOffset (Minutes (pos (h * 60 + m))) xs =
            (h, m, r, text, inl (split, refl)) in
            (Some (Minutes (pos (h * 60 + m))), (is, λ f. true_not_false f))
        | inr nay ↦
            let minus : c ≡ 45 = grind (arith, nat_tests, s, nay) in
            let split : xs ≡ 45 ∷ r = rw (e, minus) refl in
            let is : IsOffset (Minutes (neg_ℤ (pos (h * 60 + m)))) xs =
            (h, m, r, text, inr (split, refl)) in
            (Some (Minutes (neg_ℤ (pos (h * 60 + m)))), (is, λ f. true_not_false f))
      ]
]
  where
    zulu : (c == 90 || c == 122) ≡ true → (c ∷ [] ≡ 90 ∷ []) ⊎ (c ∷ [] ≡ 122 ∷ [])
    zulu e =
        let is : (c ≡ 90) ⊎ (c ≡ 122) = grind (arith, nat_tests, e) in elim is [
          | inl a ↦ inl (rw a refl)
          | inr a ↦ inr (rw a refl)
        ]

pub offset_made : (dated : Bool) (off : Option Offset) (xs : List ℕ) → MayShift dated off xs
    → Offsets dated xs
unfolding MaybeOffset IsOffset
offset_made dated None xs (e, f) = inl e
offset_made false (Some off) xs (x, f) = absurd (let e = f refl in cc)
offset_made true (Some Zulu) xs (inl e, f) = inr (90, [], e, refl)
offset_made true (Some Zulu) xs (inr e, f) = inr (122, [], e, refl)
offset_made true (Some (Minutes z)) xs ((h, m, r, text, inl (e, is)), f) =
    inr (43, r, e, shift_made r h m text)
offset_made true (Some (Minutes z)) xs ((h, m, r, text, inr (e, is)), f) =
    inr (45, r, e, shift_made r h m text)
