-- Of which characters dates and times are, and with which they begin.
use Rattle.std.specs.Prelude.{◌≡◌, ◌⊎◌, ◌≤◌, ℕ, List, [], ◌∷◌, ◌++◌, length, Option, Some, None}
use Rattle.std.specs.List.{All}
use Rattle.std.proofs.Common.{refl, sym, ap, subst, inl, inr, ◌∙◌, arith, append-nil}
use Rattle.std.proofs.lemmas.List.Elements.{All-cons, All-nil, All-tail}
use Rattle.format_parts.specs.Words.{Slice}
use Rattle.format_toml.specs.Times.{IsSpacedTime, UnquotedText, unquoted_made}
use Rattle.format_toml.specs.Toml.{IsUnquoted}
use Rattle.format_toml_tree.specs.Dates.{Clock, FourDigits, Fraction, FullDate, HourAndMinute}
use Rattle.format_toml_tree.specs.Dates.{InTurn, IsAlone, IsBehind, IsDateTime, IsDelimiter}
use Rattle.format_toml_tree.specs.Dates.{IsDigit, IsOffset, IsTimed, Marked, MaybeOffset, TimeText}
use Rattle.format_toml_tree.specs.Dates.{TwoDigits}
use Rattle.format_toml_tree.specs.declared.value.Date.{Date}
use Rattle.format_toml_tree.specs.declared.value.DateTime.{DateTime}
use Rattle.format_toml_tree.specs.declared.value.DateTime.TheVariants as dates
use Rattle.format_toml_tree.specs.declared.value.Offset.{Offset}
use Rattle.format_toml_tree.specs.declared.value.Offset.TheVariants.{Minutes, Zulu}
use Rattle.grammars.specs.Texts.{StartsWith}

-- ---- characters

digit : (c : ℕ) → IsDigit c → IsUnquoted c
digit c is = inl (omega (arith, is))

-- ---- properties of tokens that still hold with more of these characters before them

module _ (P : List ℕ → Type 0) (more : (c : ℕ) (l : List ℕ) → IsUnquoted c → P l → P (c ∷ l)) where
  one_more : (c : ℕ) (l tokens : List ℕ) → IsUnquoted c → P l → tokens ≡ c ∷ l → P tokens
  one_more c l tokens is x e = subst P (sym e) (more c l is x)

  two_more : (tokens : List ℕ) (n : ℕ) (rest : List ℕ) → TwoDigits tokens n rest → P rest → P tokens
  unfolding TwoDigits
  two_more tokens n rest (t, o, c, d, tens, ones, e, is) x =
      one_more c (d ∷ rest) tokens (inl (omega (arith, tens)))
      (more d rest (inl (omega (arith, ones))) x) e

  marked_more : (mark : ℕ) → IsUnquoted mark → (tokens : List ℕ) (n : ℕ) (rest : List ℕ)
      → Marked mark tokens n rest → P rest → P tokens
  unfolding Marked
  marked_more mark is tokens n rest (mid, e, two) x =
      one_more mark mid tokens is (two_more mid n rest two x) e

  date_more : (tokens : List ℕ) (date : Date) (rest : List ℕ) → FullDate tokens date rest
      → P rest → P tokens
  unfolding FullDate InTurn FourDigits
  date_more tokens date rest ((a, b, (h, l, mid, first, last, is), m, d), least, most) x =
      two_more tokens h mid first
      (two_more mid l a last
      (marked_more 45 (grind arith) a date.month b m
      (marked_more 45 (grind arith) b date.day rest d x)))

  clock_more : (tokens : List ℕ) (clock : ℕ × ℕ × ℕ) (rest : List ℕ) → Clock tokens clock rest
      → P rest → P tokens
  unfolding Clock InTurn
  clock_more tokens clock rest ((a, b, h, m, s), hours, minutes, seconds) x =
      two_more tokens clock.0 a h
      (marked_more 58 (inl (omega arith)) a clock.1 b m
      (marked_more 58 (inl (omega arith)) b clock.2 rest s x))

  digits_more : (digits rest : List ℕ) → All IsDigit digits → P rest → P (digits ++ rest)
  digits_more [] rest all x = x
  digits_more (d ∷ ds) rest all x =
      more d (ds ++ rest) (digit d (all 0 d (omega arith)))
      (digits_more ds rest (All-tail IsDigit d ds all) x)

  fraction_more : (tokens digits rest : List ℕ) → Fraction tokens digits rest → P rest → P tokens
  unfolding Fraction
  fraction_more tokens digits rest (inl (none, e)) x = subst P (sym e) x
  fraction_more tokens digits rest (inr (some, all, e)) x =
      one_more 46 (digits ++ rest) tokens (grind arith)
      (digits_more digits rest all x) e

  offset_more : (offset : Offset) (tokens : List ℕ) → IsOffset offset tokens → P [] → P tokens
  unfolding IsOffset HourAndMinute
  offset_more Zulu tokens (inl e) x = one_more 90 [] tokens (inr (inl (omega arith))) x e
  offset_more Zulu tokens (inr e) x = one_more 122 [] tokens (inr (inr (inl (omega arith)))) x e
  offset_more (Minutes z) tokens (h, m, mid, (k, two, marked, hours, minutes), inl (e, is)) x =
      one_more 43 mid tokens (inr (inr (inr (inl refl))))
      (two_more mid h k two (marked_more 58 (inl (omega arith)) k m [] marked x)) e
  offset_more (Minutes z) tokens (h, m, mid, (k, two, marked, hours, minutes), inr (e, is)) x =
      one_more 45 mid tokens (grind arith)
      (two_more mid h k two (marked_more 58 (inl (omega arith)) k m [] marked x)) e

  maybe_more : (offset : Option Offset) (tokens : List ℕ) → MaybeOffset offset tokens → P []
      → P tokens
  unfolding MaybeOffset
  maybe_more None tokens e x = subst P (sym e) x
  maybe_more (Some offset) tokens is x = offset_more offset tokens is x

  timed_more : (clock : ℕ × ℕ × ℕ) (digits : List ℕ) (offset : Option Offset) (tokens : List ℕ)
      → IsTimed clock digits offset tokens → P [] → P tokens
  unfolding IsTimed
  timed_more clock digits offset tokens (a, b, is, f, m) x =
      clock_more tokens clock a is (fraction_more a digits b f (maybe_more offset b m x))

-- ---- times

all_more : (c : ℕ) (l : List ℕ) → IsUnquoted c → All IsUnquoted l → All IsUnquoted (c ∷ l)
all_more c l is all = All-cons IsUnquoted c l is all

timed_all : (clock : ℕ × ℕ × ℕ) (digits : List ℕ) (offset : Option Offset) (tokens : List ℕ)
    → IsTimed clock digits offset tokens → All IsUnquoted tokens
timed_all clock digits offset tokens x =
    timed_more (λ l. All IsUnquoted l) all_more clock digits offset tokens x (All-nil IsUnquoted)

two_begin : (tokens : List ℕ) (n : ℕ) (rest : List ℕ) → TwoDigits tokens n rest
    → StartsWith IsDigit tokens
unfolding TwoDigits
two_begin tokens n rest (t, o, c, d, tens, ones, e, is) =
    let P : List ℕ → Type 0 = λ l. StartsWith IsDigit l in subst P (sym e) (omega (arith, tens))

timed_front : (clock : ℕ × ℕ × ℕ) (digits : List ℕ) (offset : Option Offset) (tokens : List ℕ)
    → IsTimed clock digits offset tokens
    → (a : ℕ) × (b : ℕ) × (more : List ℕ) × IsDigit a × IsDigit b × (tokens ≡ a ∷ b ∷ 58 ∷ more)
unfolding IsTimed Clock InTurn TwoDigits Marked
timed_front clock digits offset tokens (
  k,
  l,
  ((c, d, (t, o, a, b, tens, ones, e, is), (mid, f, m), s), hours, minutes, seconds),
  fraction,
  end,
) = (a, b, mid, omega (arith, tens), omega (arith, ones), e ∙ ap (λ l. a ∷ b ∷ l) f)

-- after a space
timed_spaced : (clock : ℕ × ℕ × ℕ) (digits : List ℕ) (offset : Option Offset) (tokens : List ℕ)
    → IsTimed clock digits offset tokens → IsSpacedTime (32 ∷ tokens)
timed_spaced clock digits offset tokens x =
    let (a, b, more, one, other, e) = timed_front clock digits offset tokens x in
    let all = subst (λ l. All IsUnquoted l) e (timed_all clock digits offset tokens x) in (
      a,
      b,
      more,
      one,
      other,
      All-tail IsUnquoted 58 more (All-tail IsUnquoted b (58 ∷ more)
          (All-tail IsUnquoted a (b ∷ 58 ∷ more) all)),
      ap (λ l. 32 ∷ l) e,
    )

-- ---- dates

-- characters of these, and a time after a space or nothing
abbrev InParts : List ℕ → Type 0
InParts tokens =
    (xs : List ℕ) × (ys : List ℕ) × All IsUnquoted xs × (tokens ≡ xs ++ ys)
    × ((ys ≡ []) ⊎ IsSpacedTime ys)

parts_more : (c : ℕ) (l : List ℕ) → IsUnquoted c → InParts l → InParts (c ∷ l)
parts_more c l is (xs, ys, all, e, end) =
    (c ∷ xs, ys, All-cons IsUnquoted c xs is all, ap (λ l. c ∷ l) e, end)

all_parts : (tokens : List ℕ) → All IsUnquoted tokens → InParts tokens
all_parts tokens all = (tokens, [], all, sym (append-nil tokens), inl refl)

delimited : (c : ℕ) (rest tokens : List ℕ) (clock : ℕ × ℕ × ℕ) (digits : List ℕ)
    (offset : Option Offset) → IsDelimiter c → tokens ≡ c ∷ rest
    → IsTimed clock digits offset rest → InParts tokens
delimited c rest tokens clock digits offset is e x = rw e (by is)
  where
    letter : IsUnquoted c → InParts (c ∷ rest)
    letter is = all_parts (c ∷ rest) (all_more c rest is (timed_all clock digits offset rest x))

    by : IsDelimiter c → InParts (c ∷ rest)
    by (inl f) = letter (grind arith)
    by (inr (inl f)) = letter (grind arith)
    by (inr (inr f)) =
        let time = timed_spaced clock digits offset rest x in
        ([], c ∷ rest, All-nil IsUnquoted, refl, inr (rw f time))

module _ {A : Type 0} where
  behind_parts : (date : Date) (d : DateTime A) (tokens : List ℕ) → IsBehind date d tokens
      → InParts tokens
  unfolding IsBehind TimeText
  behind_parts date (dates.Offset day time o) tokens
      (same, (c, rest, is, e, (clock, digits, t, x))) =
      delimited c rest tokens clock digits (Some o) is e x
  behind_parts date (dates.Local day time) tokens (same, (c, rest, is, e, (clock, digits, t, x))) =
      delimited c rest tokens clock digits None is e x
  behind_parts date (dates.Date day) tokens (same, e) = ([], [], All-nil IsUnquoted, e, inl refl)
  behind_parts date (dates.Time time) tokens never = absurd never

  date_parts : (d : DateTime A) (tokens : List ℕ) → IsDateTime d tokens → InParts tokens
  unfolding IsDateTime IsAlone TimeText
  date_parts d tokens (inl (date, rest, full, behind)) =
      date_more (λ l. InParts l) parts_more tokens date rest full (behind_parts date d rest behind)
  date_parts d tokens (inr (time, e, (clock, digits, t, x))) =
      all_parts tokens (timed_all clock digits None tokens x)

  pub date_begins : (d : DateTime A) (tokens : List ℕ) → IsDateTime d tokens
      → StartsWith IsDigit tokens
  unfolding IsDateTime IsAlone TimeText FullDate InTurn FourDigits
  date_begins d tokens
      (inl (date, rest, ((a, b, (h, l, mid, first, last, is), m, n), least, most), behind)) =
      two_begin tokens h mid first
  date_begins d tokens (inr (time, e, (clock, digits, t, x))) =
      let (a, b, more, one, other, f) = timed_front clock digits None tokens x in rw f one

  -- so they are what is read as one
  pub date_unquoted : (d : DateTime A) (tokens : List ℕ) → IsDateTime d tokens
      → (o : Slice × Option (ℕ × Slice × ℕ × Slice)) × UnquotedText o tokens
  date_unquoted d tokens x =
      let (xs, ys, all, e, end) = date_parts d tokens x in
      unquoted_made xs ys tokens all (some xs ys e end (date_begins d tokens x)) end e
    where
      some : (xs ys : List ℕ) → tokens ≡ xs ++ ys → (ys ≡ []) ⊎ IsSpacedTime ys
          → StartsWith IsDigit tokens → 1 ≤ length xs
      some [] ys e (inl none) b =
          let P : List ℕ → Type 0 = λ l. StartsWith IsDigit l in absurd (subst P (e ∙ none) b)
      some [] ys e (inr (a, c, more, one, other, all, f)) b =
          let P : List ℕ → Type 0 =
          λ l. StartsWith IsDigit l in absurd (omega (arith, (subst P (e ∙ f) b).0))
      some (x ∷ xs) ys e end b = omega arith
