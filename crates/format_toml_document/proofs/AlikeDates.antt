-- Dates and times of the same bytes are equivalent.
use Rattle.std.specs.Prelude.{◌≡◌, ◌+◌, ◌*◌, ℕ, ℤ, pos, neg_ℤ, List, [], ◌∷◌, ◌++◌, Option}
use Rattle.std.specs.Prelude.{Some, None}
use Rattle.std.specs.List.{All}
use Rattle.std.proofs.Common.{refl, sym, ap, subst, inl, inr, ◌∙◌, arith}
use Rattle.std.proofs.lemmas.List.Elements.{All-tail}
use Rattle.format_toml_document.specs.Alike.{AreAlikeMoments, AreAlikeTimes}
use Rattle.format_toml_tree.proofs.DateParts.{clock_one, date_one, joins_one, marked_one}
use Rattle.format_toml_tree.proofs.DateParts.{minute_joins, no_cons, same_first, same_others}
use Rattle.format_toml_tree.proofs.DateParts.{two_one}
use Rattle.format_toml_tree.proofs.DateTimeParts.{offset_begins}
use Rattle.format_toml_tree.specs.Dates.{Clock, FourDigits, Fraction, FullDate, HourAndMinute}
use Rattle.format_toml_tree.specs.Dates.{InTurn, IsAlone, IsBehind, IsDateTime, IsDigit, IsOffset}
use Rattle.format_toml_tree.specs.Dates.{IsTimed, Marked, MaybeOffset, NoDigit, TimeText, TwoDigits}
use Rattle.format_toml_tree.specs.declared.value.Date.{Date}
use Rattle.format_toml_tree.specs.declared.value.DateTime.{DateTime}
use Rattle.format_toml_tree.specs.declared.value.DateTime.TheVariants as dates
use Rattle.format_toml_tree.specs.declared.value.Offset.{Offset}
use Rattle.format_toml_tree.specs.declared.value.Offset.TheVariants.{Minutes, Zulu}
use Rattle.format_toml_tree.specs.declared.value.Time.{Time}

-- ---- fractions

-- digits with no digit after them are one prefix
one_run : (xs ys a b : List ℕ) → All IsDigit xs → All IsDigit ys → NoDigit a → NoDigit b
    → xs ++ a ≡ ys ++ b → (xs ≡ ys) × (a ≡ b)
one_run [] [] a b all each not nor e = (refl, e)
one_run [] (y ∷ ys) a b all each not nor e = absurd (not y (ys ++ b) e (each 0 y (omega arith)))
one_run (x ∷ xs) [] a b all each not nor e =
    absurd (nor x (xs ++ a) (sym e) (all 0 x (omega arith)))
one_run (x ∷ xs) (y ∷ ys) a b all each not nor e =
    let (same, left) = one_run xs ys a b (All-tail IsDigit x xs all) (All-tail IsDigit y ys each)
    not nor (same_others e) in
    (ap (λ c. c ∷ xs) (same_first e) ∙ ap (λ l. y ∷ l) same, left)

no_digit : (o : Option Offset) (tokens : List ℕ) → MaybeOffset o tokens → NoDigit tokens
no_digit o tokens m c others e is =
    offset_begins o c others (subst (λ l. MaybeOffset o l) e m) (inr is)

no_point : {P : Type 0} (o : Option Offset) (tokens more : List ℕ) → MaybeOffset o tokens
    → tokens ≡ 46 ∷ more → P
no_point o tokens more m e =
    offset_begins o 46 more (subst (λ l. MaybeOffset o l) e m) (inl refl)

one_fraction : (tokens xs ys a b : List ℕ) (o p : Option Offset) → Fraction tokens xs a
    → Fraction tokens ys b → MaybeOffset o a → MaybeOffset p b → (xs ≡ ys) × (a ≡ b)
unfolding Fraction
one_fraction tokens xs ys a b o p (inl (e, f)) (inl (g, h)) m n = (e ∙ sym g, sym f ∙ h)
one_fraction tokens xs ys a b o p (inl (e, f)) (inr (some, all, h)) m n =
    no_point o a (ys ++ b) m (sym f ∙ h)
one_fraction tokens xs ys a b o p (inr (some, all, f)) (inl (g, h)) m n =
    no_point p b (xs ++ a) n (sym h ∙ f)
one_fraction tokens xs ys a b o p (inr (some, all, f)) (inr (any, each, h)) m n =
    one_run xs ys a b all each (no_digit o a m) (no_digit p b n) (same_others (sym f ∙ h))

-- ---- offsets

-- a letter is no sign
zulu_apart : {P : Type 0} (z : ℤ) (tokens : List ℕ) → IsOffset Zulu tokens
    → IsOffset (Minutes z) tokens → P
unfolding IsOffset
zulu_apart z tokens (inl e) (h, m, mid, x, inl (f, is)) =
    absurd (omega (arith, same_first (sym e ∙ f)))
zulu_apart z tokens (inl e) (h, m, mid, x, inr (f, is)) =
    absurd (omega (arith, same_first (sym e ∙ f)))
zulu_apart z tokens (inr e) (h, m, mid, x, inl (f, is)) =
    absurd (omega (arith, same_first (sym e ∙ f)))
zulu_apart z tokens (inr e) (h, m, mid, x, inr (f, is)) =
    absurd (omega (arith, same_first (sym e ∙ f)))

one_minute : (c d h m k n : ℕ) (tokens mid more : List ℕ) → tokens ≡ c ∷ mid → tokens ≡ d ∷ more
    → HourAndMinute mid (h, m) [] → HourAndMinute more (k, n) [] → h * 60 + m ≡ k * 60 + n
one_minute c d h m k n tokens mid more e f x y =
    let P : List ℕ → Type 0 = λ l. HourAndMinute l (k, n) [] in
    let same = (joins_one minute_joins two_one (marked_one 58)).one mid (h, m) (k, n) [] [] x
    (subst P (sym (same_others (sym e ∙ f))) y) in
    ap (λ (q : ℕ × ℕ). q.0 * 60 + q.1) same.0

one_offset : (o p : Offset) (tokens : List ℕ) → IsOffset o tokens → IsOffset p tokens → o ≡ p
unfolding IsOffset
one_offset Zulu Zulu tokens x y = refl
one_offset Zulu (Minutes w) tokens x y = zulu_apart w tokens x y
one_offset (Minutes z) Zulu tokens x y = zulu_apart z tokens y x
one_offset (Minutes z) (Minutes w) tokens (h, m, mid, x, inl (e, is))
    (k, n, more, y, inl (f, was)) =
    let same = one_minute 43 43 h m k n tokens mid more e f x y in
    ap (λ i. Minutes i) (is ∙ ap (λ j. pos j) same ∙ sym was)
one_offset (Minutes z) (Minutes w) tokens (h, m, mid, x, inr (e, is))
    (k, n, more, y, inr (f, was)) =
    let same = one_minute 45 45 h m k n tokens mid more e f x y in
    ap (λ i. Minutes i) (is ∙ ap (λ j. neg_ℤ (pos j)) same ∙ sym was)
one_offset (Minutes z) (Minutes w) tokens (h, m, mid, x, inl (e, is))
    (k, n, more, y, inr (f, was)) =
    absurd (omega (arith, same_first (sym e ∙ f)))
one_offset (Minutes z) (Minutes w) tokens (h, m, mid, x, inr (e, is))
    (k, n, more, y, inl (f, was)) =
    absurd (omega (arith, same_first (sym e ∙ f)))

no_offset : {P : Type 0} (o : Offset) → IsOffset o [] → P
unfolding IsOffset
no_offset Zulu (inl e) = no_cons e
no_offset Zulu (inr e) = no_cons e
no_offset (Minutes z) (h, m, mid, x, inl (e, is)) = no_cons e
no_offset (Minutes z) (h, m, mid, x, inr (e, is)) = no_cons e

one_maybe : (o p : Option Offset) (tokens : List ℕ) → MaybeOffset o tokens → MaybeOffset p tokens
    → o ≡ p
unfolding MaybeOffset
one_maybe None None tokens e f = refl
one_maybe None (Some p) tokens e y = no_offset p (subst (λ l. IsOffset p l) e y)
one_maybe (Some o) None tokens x f = no_offset o (subst (λ l. IsOffset o l) f x)
one_maybe (Some o) (Some p) tokens x y = ap (λ q. Some q) (one_offset o p tokens x y)

-- ---- times

one_timed : (clock other : ℕ × ℕ × ℕ) (xs ys tokens : List ℕ) (o p : Option Offset)
    → IsTimed clock xs o tokens → IsTimed other ys p tokens
    → (clock ≡ other) × (xs ≡ ys) × (o ≡ p)
unfolding IsTimed
one_timed clock other xs ys tokens o p (a, b, x, f, m) (c, d, y, g, n) =
    let (same, left) = clock_one.one tokens clock other a c x y in
    let (digits, ends) = one_fraction a xs ys b d o p f
    (subst (λ l. Fraction l ys d) (sym left) g) m n in
    (same, digits, one_maybe o p b m (subst (λ l. MaybeOffset p l) (sym ends) n))

-- a date has a third digit where a time has a colon
date_or_time : {P : Type 0} (clock : ℕ × ℕ × ℕ) (digits : List ℕ) (o : Option Offset)
    (tokens rest : List ℕ) (date : Date) → FullDate tokens date rest
    → IsTimed clock digits o tokens → P
unfolding FullDate InTurn FourDigits IsTimed Clock Marked TwoDigits
date_or_time clock digits o tokens rest date
    ((a, b, (h, l, mid, first, (s, p, c, d, (less, is), v, e, z), n), m, y), least, most)
    (u, w, ((f, g, hour, (more, k, t), r), hours, minutes, seconds), fraction, end) =
    let same = (two_one.one tokens h clock.0 mid f first hour).1 in
    absurd (omega (arith, less, is, same_first (sym e ∙ same ∙ k)))

module _ {A : Type 0} where
  one_time : (s t : Time A) (o p : Option Offset) (tokens : List ℕ) → TimeText s o tokens
      → TimeText t p tokens → AreAlikeTimes s t × (o ≡ p)
  unfolding TimeText
  one_time s t o p tokens (clock, xs, (h, m, c, f), x) (other, ys, (k, n, d, g), y) =
      let (same, digits, offset) = one_timed clock other xs ys tokens o p x y in
      let hour : s.hour ≡ t.hour = h ∙ ap (λ (q : ℕ × ℕ × ℕ). q.0) same ∙ sym k in
      let minute : s.minute ≡ t.minute = m ∙ ap (λ (q : ℕ × ℕ × ℕ). q.1) same ∙ sym n in
      let second : s.second ≡ t.second = c ∙ ap (λ (q : ℕ × ℕ × ℕ). q.2) same ∙ sym d in
      ((hour, minute, second, f ∙ digits ∙ sym g), offset)

  -- ---- after a date

  one_behind : (date : Date) (a b : DateTime A) (tokens : List ℕ) → IsBehind date a tokens
      → IsBehind date b tokens → AreAlikeMoments a b
  unfolding IsBehind
  one_behind date (dates.Date d) (dates.Date e) tokens (is, f) (was, g) =
      inl (ap (λ q. dates.Date q) (is ∙ sym was))
  one_behind date (dates.Date d) (dates.Local e t) tokens (is, f) (was, (c, r, q, g, y)) =
      no_cons (sym f ∙ g)
  one_behind date (dates.Date d) (dates.Offset e t o) tokens (is, f) (was, (c, r, q, g, y)) =
      no_cons (sym f ∙ g)
  one_behind date (dates.Date d) (dates.Time t) tokens x never = absurd never
  one_behind date (dates.Local d s) (dates.Date e) tokens (is, (c, r, q, f, x)) (was, g) =
      no_cons (sym g ∙ f)
  one_behind date (dates.Local d s) (dates.Local e t) tokens (is, (c, r, q, f, x))
      (was, (b, l, p, g, y)) =
      let (times, none) = one_time s t None None r x
      (subst (λ k. TimeText t None k) (same_others (sym g ∙ f)) y) in
      inr (inr (inl (d, s, t, refl, ap (λ k. dates.Local k t) (was ∙ sym is), times)))
  one_behind date (dates.Local d s) (dates.Offset e t o) tokens (is, (c, r, q, f, x))
      (was, (b, l, p, g, y)) =
      let (times, none) = one_time s t None (Some o) r x
      (subst (λ k. TimeText t (Some o) k) (same_others (sym g ∙ f)) y) in
      absurd (cc)
  one_behind date (dates.Local d s) (dates.Time t) tokens x never = absurd never
  one_behind date (dates.Offset d s o) (dates.Date e) tokens (is, (c, r, q, f, x)) (was, g) =
      no_cons (sym g ∙ f)
  one_behind date (dates.Offset d s o) (dates.Local e t) tokens (is, (c, r, q, f, x))
      (was, (b, l, p, g, y)) =
      let (times, none) = one_time s t (Some o) None r x
      (subst (λ k. TimeText t None k) (same_others (sym g ∙ f)) y) in
      absurd (cc)
  one_behind date (dates.Offset d s o) (dates.Offset e t p) tokens (is, (c, r, q, f, x))
      (was, (b, l, k, g, y)) =
      let (times, same) = one_time s t (Some o) (Some p) r x
      (subst (λ k. TimeText t (Some p) k) (same_others (sym g ∙ f)) y) in
      let offsets : p ≡ o = cc in
      inr (inr (inr (
        d,
        s,
        t,
        o,
        refl,
        ap (λ k. dates.Offset k t p) (was ∙ sym is)
            ∙ ap (λ k. dates.Offset d t k) offsets,
        times,
      )))
  one_behind date (dates.Offset d s o) (dates.Time t) tokens x never = absurd never
  one_behind date (dates.Time s) b tokens never y = absurd never

  one_alone : (a b : DateTime A) (tokens : List ℕ) → IsAlone a tokens → IsAlone b tokens
      → AreAlikeMoments a b
  unfolding IsAlone
  one_alone a b tokens (s, e, x) (t, f, y) =
      inr (inl (s, t, e, f, (one_time s t None None tokens x y).0))

  timed_of : (a : DateTime A) (tokens : List ℕ) → IsAlone a tokens
      → (clock : ℕ × ℕ × ℕ) × (digits : List ℕ) × IsTimed clock digits None tokens
  unfolding IsAlone TimeText
  timed_of a tokens (time, e, (clock, digits, t, x)) = (clock, digits, x)

  pub dates_alike : (a b : DateTime A) (tokens : List ℕ) → IsDateTime a tokens
      → IsDateTime b tokens → AreAlikeMoments a b
  unfolding IsDateTime
  dates_alike a b tokens (inl (day, rest, x, more)) (inl (date, left, y, others)) =
      let (same, ends) = date_one.one tokens day date rest left x y in
      one_behind day a b rest more (subst (λ d. IsBehind d b rest) (sym same)
      (subst (λ l. IsBehind date b l) (sym ends) others))
  dates_alike a b tokens (inl (day, rest, x, more)) (inr y) =
      let (clock, digits, z) = timed_of b tokens y in
      date_or_time clock digits None tokens rest day x z
  dates_alike a b tokens (inr x) (inl (day, rest, y, more)) =
      let (clock, digits, z) = timed_of a tokens x in
      date_or_time clock digits None tokens rest day y z
  dates_alike a b tokens (inr x) (inr y) = one_alone a b tokens x y
