-- The results of functions for times, offsets, and dates followed by times.
use Rattle.std.proofs.lemmas.List.{nil_from_length, get_or-drop, length-drop, length-take}
use Rattle.std.proofs.lemmas.List.{take-append-drop, take_all}
use Rattle.std.specs.Prelude.{◌≡◌, ◌⊎◌, ◌≤◌, ◌<◌, ◌+◌, ◌*◌, ℕ, ℤ, pos, neg_ℤ, List, []}
use Rattle.std.specs.Prelude.{◌∷◌, ◌++◌}
use Rattle.std.specs.Prelude.{length, take, drop, Option, Some, None}
use Rattle.std.specs.Borrow.{Bor}
use Rattle.std.specs.Char.{IsNotAsciiDigit}
use Rattle.std.specs.List.{All}
use Rattle.std.proofs.Common.{refl, sym, ap, subst, inl, inr, ◌∙◌, arith, get_or}
use Rattle.std.proofs.lemmas.List.Elements.{All-tail}
use Rattle.format_toml_tree.specs.Dates.{Clock, CountsDigits, Finds, FindsTime, Fraction}
use Rattle.format_toml_tree.specs.Dates.{HourAndMinute, IsDigit, IsOffset, IsTimed, MaybeOffset}
use Rattle.format_toml_tree.specs.Dates.{FoundResult, NoDigit, SplitsFraction, TwoDigits}
use Rattle.format_toml_tree.specs.Dates.{FourDigits, FullDate, InTurn, IsAlone, IsBehind}
use Rattle.format_toml_tree.specs.Dates.{IsDateTime, IsDelimiter, Marked, TimeText}
use Rattle.format_toml_tree.proofs.DateParts.{clock_one, no_cons, same_first, same_others, date_one}
use Rattle.format_toml_tree.proofs.DateParts.{two_one}
use Rattle.format_toml_tree.specs.declared.value.Offset.{Offset}
use Rattle.format_toml_tree.specs.declared.value.Offset.TheVariants.{Minutes, Zulu}
use Rattle.format_toml_tree.specs.declared.value.Date.{Date}
use Rattle.format_toml_tree.specs.declared.value.DateTime.{DateTime}
use Rattle.format_toml_tree.specs.declared.value.DateTime.TheVariants as dates

-- ---- fractions

pub count_here : (text : List ℕ) (i : ℕ) → i < length text → IsNotAsciiDigit (get_or text i 0)
    → All IsDigit (take i text) → CountsDigits text i
unfolding CountsDigits
count_here text i less not all = (omega arith, all, λ more is. omega arith)

pub count_all : (text : List ℕ) (i : ℕ) → length text ≤ i → All IsDigit (take i text)
    → CountsDigits text (length text)
unfolding CountsDigits
count_all text i past all =
    let each = subst (λ l. All IsDigit l) (take_all i text past) all in (
      omega arith,
      subst (λ l. All IsDigit l) (sym (take_all (length text) text (omega arith))) each,
      λ more is. absurd (omega (arith, more)),
    )

pub count_least : (text : List ℕ) (n : ℕ) → CountsDigits text n → n ≤ length text
unfolding CountsDigits
count_least text n x = x.0

pub frac_empty : (text : List ℕ) → length text ≡ 0 → SplitsFraction text text text
unfolding SplitsFraction
frac_empty text none =
    inl (nil_from_length text none, refl, λ c others e is. omega (arith, ap (λ l. length l) e))

module _ (text behind : List ℕ) (t : ℕ) (f : text ≡ t ∷ behind) where
  pub frac_other : (t ≡ 46 → ⊥) → SplitsFraction text [] text
  unfolding SplitsFraction
  frac_other not = inl (refl, refl, λ c others e is. not (same_first (sym f ∙ e)))

  pub frac_zero : (n : ℕ) → CountsDigits behind n → n ≡ 0 → SplitsFraction text [] text
  unfolding SplitsFraction CountsDigits
  frac_zero n (least, all, stops) none = inl (refl, refl, no)
    where
      no : (c : ℕ) (others : List ℕ) → text ≡ 46 ∷ c ∷ others → IsDigit c → ⊥
      no c others e is =
          let g = same_others (sym f ∙ e) in
          let P : ℕ → Type 0 = λ k. IsDigit (get_or behind k 0) in
          let Q : ℕ → Type 0 = λ k. IsDigit k in
          stops (omega (arith, none, ap (λ l. length l) g))
          (subst P (sym none) (subst Q (sym (ap (λ l. get_or l 0 0) g)) is))

  pub frac_some : (n : ℕ) → t ≡ 46 → CountsDigits behind n → (n ≡ 0 → ⊥)
      → SplitsFraction text (take n behind) (drop n behind)
  unfolding SplitsFraction CountsDigits
  frac_some n is (least, all, stops) some = inr (
    omega (arith, some, length-take n behind, least),
    all,
    f ∙ ap (λ c. c ∷ behind) is ∙ ap (λ l. 46 ∷ l) (sym (take-append-drop n behind)),
    no,
  )
    where
      no : NoDigit (drop n behind)
      no c others e is = ends (get_or-drop n behind 0 0) e is
        where
          ends : get_or (drop n behind) 0 0 ≡ get_or behind (n + 0) 0
              → drop n behind ≡ c ∷ others → IsDigit c → ⊥
          ends g e is =
              let Q : ℕ → Type 0 = λ k. IsDigit k in
              let here : get_or behind (n + 0) 0 ≡ c = sym g ∙ ap (λ l. get_or l 0 0) e in
              let P : ℕ → Type 0 = λ k. k < length behind → IsDigit (get_or behind k 0) → ⊥ in
              let same : n ≡ n + 0 = omega arith in
              subst P same stops (omega (arith, ap (λ l. length l) e, length-drop n behind, least))
              (subst Q (sym here) is)

-- ---- offsets

-- no offset is of one character, other than a letter
pub zulu_none : (letter : ℕ) → (letter ≡ 90 → ⊥) → (letter ≡ 122 → ⊥)
    → FoundResult (λ o. MaybeOffset o (letter ∷ [])) None
unfolding FoundResult MaybeOffset IsOffset HourAndMinute TwoDigits
zulu_none letter not nor None e = no_cons (sym e)
zulu_none letter not nor (Some Zulu) (inl e) = not (same_first e)
zulu_none letter not nor (Some Zulu) (inr e) = nor (same_first e)
zulu_none letter not nor (Some (Minutes z))
    (h, m, mid, (a, (x, y, c, d, p, q, f, w), rest, hours, minutes), inl (e, is)) =
    no_cons (same_others e ∙ f)
zulu_none letter not nor (Some (Minutes z))
    (h, m, mid, (a, (x, y, c, d, p, q, f, w), rest, hours, minutes), inr (e, is)) =
    no_cons (same_others e ∙ f)

-- an offset of more characters has a sign
pub signed_none : (sign : ℕ) (text : List ℕ) → (text ≡ [] → ⊥)
    → ((h m : ℕ) → HourAndMinute text (h, m) [] → (sign ≡ 43) ⊎ (sign ≡ 45) → ⊥)
    → FoundResult (λ o. MaybeOffset o (sign ∷ text)) None
unfolding FoundResult MaybeOffset IsOffset
signed_none sign text some not None e = no_cons (sym e)
signed_none sign text some not (Some Zulu) (inl e) = some (same_others e)
signed_none sign text some not (Some Zulu) (inr e) = some (same_others e)
signed_none sign text some not (Some (Minutes z)) (h, m, mid, x, inl (e, is)) =
    not h m (subst (λ l. HourAndMinute l (h, m) []) (sym (same_others e)) x) (inl (same_first e))
signed_none sign text some not (Some (Minutes z)) (h, m, mid, x, inr (e, is)) =
    not h m (subst (λ l. HourAndMinute l (h, m) []) (sym (same_others e)) x) (inr (same_first e))

-- which sign it is
pub signed_some : (sign h m : ℕ) (z : ℤ) (text rest : List ℕ) → HourAndMinute text (h, m) rest
    → rest ≡ [] → ((sign ≡ 43) × (z ≡ pos (h * 60 + m)))
    ⊎ ((sign ≡ 45) × (z ≡ neg_ℤ (pos (h * 60 + m))))
    → FoundResult (λ o. MaybeOffset o (sign ∷ text)) (Some (Some (Minutes z)))
unfolding FoundResult MaybeOffset IsOffset
signed_some sign h m z text rest x none (inl (is, e)) =
    (h, m, text, subst (λ l. HourAndMinute text (h, m) l) none x, inl (ap (λ c. c ∷ text) is, e))
signed_some sign h m z text rest x none (inr (is, e)) =
    (h, m, text, subst (λ l. HourAndMinute text (h, m) l) none x, inr (ap (λ c. c ∷ text) is, e))

-- ---- times

-- an offset does not begin as a fraction does
pub offset_begins : {P : Type 0} (o : Option Offset) (c : ℕ) (others : List ℕ)
    → MaybeOffset o (c ∷ others) → (c ≡ 46) ⊎ IsDigit c → P
unfolding MaybeOffset IsOffset
offset_begins None c others e is = no_cons (sym e)
offset_begins (Some Zulu) c others (inl e) is = absurd (omega (arith, same_first e))
offset_begins (Some Zulu) c others (inr e) is = absurd (omega (arith, same_first e))
offset_begins (Some (Minutes z)) c others (h, m, mid, x, inl (e, y)) is =
    absurd (omega (arith, same_first e))
offset_begins (Some (Minutes z)) c others (h, m, mid, x, inr (e, y)) is =
    absurd (omega (arith, same_first e))

-- digits with no digit after them are one beginning
one_run : (xs ys a b : List ℕ) → All IsDigit xs → All IsDigit ys → NoDigit a → NoDigit b
    → xs ++ a ≡ ys ++ b → a ≡ b
one_run [] [] a b all each not nor e = e
one_run [] (y ∷ ys) a b all each not nor e = absurd (not y (ys ++ b) e (each 0 0 (omega arith)))
one_run (x ∷ xs) [] a b all each not nor e =
    absurd (nor x (xs ++ a) (sym e) (all 0 0 (omega arith)))
one_run (x ∷ xs) (y ∷ ys) a b all each not nor e =
    one_run xs ys a b (All-tail IsDigit x xs all) (All-tail IsDigit y ys each) not nor
    (same_others e)

pub left_of : (text digits rest more other : List ℕ) (o : Option Offset)
    → SplitsFraction text digits rest → Fraction text more other → MaybeOffset o other
    → rest ≡ other
unfolding SplitsFraction Fraction
left_of text digits rest more other o (inl (none, e, not)) (inl (empty, f)) m = sym e ∙ f
left_of text digits rest [] other o (inl (none, e, not)) (inr (some, all, f)) m =
    absurd (omega (arith, some))
left_of text digits rest (d ∷ ds) other o (inl (none, e, not)) (inr (some, all, f)) m =
    absurd (not d (ds ++ other) f (all 0 0 (omega arith)))
left_of text digits rest more other o (inr (some, all, e, not)) (inl (empty, f)) m =
    offset_begins o 46 (digits ++ rest) (subst (λ l. MaybeOffset o l) (sym f ∙ e) m) (inl refl)
left_of text digits rest more other o (inr (some, all, e, not)) (inr (any, each, f)) m =
    one_run digits more rest other all each not
    (λ c others g is. offset_begins o c others (subst (λ l. MaybeOffset o l) g m) (inr is))
    (same_others (sym e ∙ f))

split_is : (text digits rest : List ℕ) → SplitsFraction text digits rest
    → Fraction text digits rest
unfolding SplitsFraction Fraction
split_is text digits rest (inl (none, e, not)) = inl (none, e)
split_is text digits rest (inr (some, all, e, not)) = inr (some, all, e)

pub time_first : (text : List ℕ) → Finds Clock text None → FindsTime text None
unfolding Finds FindsTime IsTimed
time_first text none clock digits o (a, b, x, y, z) = none clock a x

module _ (text mid digits rest : List ℕ) (clock : ℕ × ℕ × ℕ) (x : Clock text clock mid)
    (y : SplitsFraction mid digits rest) where
  behind_time : (other : ℕ × ℕ × ℕ) (more : List ℕ) (o : Option Offset)
      → IsTimed other more o text → MaybeOffset o rest
  unfolding IsTimed
  behind_time other more o (a, b, z, w, m) =
      let (same, left) = clock_one.one text clock other mid a x z in
      let here = subst (λ l. Fraction l more b) (sym left) w in
      subst (λ l. MaybeOffset o l) (sym (left_of mid digits rest more b o y here m)) m

  pub time_none : FoundResult (λ o. MaybeOffset o rest) None → FindsTime text None
  unfolding FoundResult FindsTime
  time_none none other more o z = none o (behind_time other more o z)

  pub time_some : (o : Option Offset) (slice : Bor (List ℕ)) → slice.now ≡ digits
      → FoundResult (λ o. MaybeOffset o rest) (Some o) → FindsTime text (Some (clock, slice, o))
  unfolding FoundResult FindsTime IsTimed
  time_some o slice e m =
      (mid, rest, x, subst (λ l. Fraction mid l rest) (sym e) (split_is mid digits rest y), m)

-- ---- times

pub timed_digits : (clock : ℕ × ℕ × ℕ) (digits : List ℕ) (o : Option Offset) (text : List ℕ)
    → IsTimed clock digits o text → All IsDigit digits
unfolding IsTimed Fraction
timed_digits clock digits o text (a, b, x, inl (none, e), m) =
    subst (λ l. All IsDigit l) (sym none) (λ k d less. absurd (omega (arith, less)))
timed_digits clock digits o text (a, b, x, inr (some, all, e), m) = all

split_by : (text digits rest : List ℕ) (o : Option Offset) → Fraction text digits rest
    → MaybeOffset o rest → SplitsFraction text digits rest
unfolding Fraction SplitsFraction
split_by text digits rest o (inl (none, e)) m =
    inl (
      none,
      e,
      λ c others f is. offset_begins o 46 (c ∷ others)
          (subst (λ l. MaybeOffset o l) (sym e ∙ f) m) (inl refl),
    )
split_by text digits rest o (inr (some, all, e)) m =
    inr (
      some,
      all,
      e,
      λ c others f is. offset_begins o c others
          (subst (λ l. MaybeOffset o l) f m) (inr is),
    )

no_offset : {P : Type 0} (o : Offset) → IsOffset o [] → P
unfolding IsOffset
no_offset Zulu (inl e) = no_cons e
no_offset Zulu (inr e) = no_cons e
no_offset (Minutes z) (h, m, mid, x, inl (e, is)) = no_cons e
no_offset (Minutes z) (h, m, mid, x, inr (e, is)) = no_cons e

-- no time is both with an offset and with none
pub offset_or_none : {P : Type 0} (clock other : ℕ × ℕ × ℕ) (digits more : List ℕ) (o : Offset)
    (text : List ℕ) → IsTimed clock digits (Some o) text → IsTimed other more None text → P
unfolding IsTimed MaybeOffset
offset_or_none clock other digits more o text (a, b, x, y, m) (c, d, z, w, none) =
    let (same, left) = clock_one.one text clock other a c x z in
    let here = subst (λ l. Fraction l more d) (sym left) w in
    let ends = left_of a digits b more d None (split_by a digits b (Some o) y m) here none in
    no_offset o (subst (λ l. IsOffset o l) (ends ∙ none) m)

-- a third digit, and a colon, after two digits
date_third : (text rest : List ℕ) (date : Date) → FullDate text date rest
    → (h : ℕ) × (l : ℕ) × (mid : List ℕ) × (more : List ℕ) × TwoDigits text h mid
    × TwoDigits mid l more
unfolding FullDate InTurn FourDigits
date_third text rest date ((a, b, (h, l, mid, x, y, is), m, d), least, most) =
    (h, l, mid, a, x, y)

time_third : (clock : ℕ × ℕ × ℕ) (digits : List ℕ) (o : Option Offset) (text : List ℕ)
    → IsTimed clock digits o text
    → (mid : List ℕ) × (more : List ℕ) × TwoDigits text clock.0 mid × (mid ≡ 58 ∷ more)
unfolding IsTimed Clock InTurn Marked
time_third clock digits o text
    (a, b, ((c, d, h, (more, e, m), s), hours, minutes, seconds), f, end) =
    (c, more, h, e)

date_or_time : {P : Type 0} (clock : ℕ × ℕ × ℕ) (digits : List ℕ) (o : Option Offset)
    (text rest : List ℕ) (date : Date) → FullDate text date rest → IsTimed clock digits o text → P
unfolding TwoDigits
date_or_time clock digits o text rest date x y =
    let (h, l, mid, more, first, (s, p, c, d, (less, is), v, e, z)) = date_third text rest date x in
    let (m, w, hour, f) = time_third clock digits o text y in
    let same = (two_one.one text h clock.0 mid m first hour).1 in
    absurd (omega (arith, less, is, same_first (sym e ∙ same ∙ f)))

module _ (A : Type 0) where
  -- ---- after a date

  module _ (date : Date) (text rest : List ℕ) (c : ℕ) (f : text ≡ c ∷ rest) where
    pub behind_none : (IsDelimiter c → FindsTime rest None)
        → FoundResult (λ (d : DateTime A). IsBehind date d text) None
    unfolding FoundResult IsBehind FindsTime TimeText
    behind_none none (dates.Offset day time o) (same, (b, more, is, e, (clock, digits, t, x))) =
        none (subst (λ k. IsDelimiter k) (same_first (sym e ∙ f)) is) clock digits (Some o)
        (subst (λ l. IsTimed clock digits (Some o) l) (same_others (sym e ∙ f)) x)
    behind_none none (dates.Local day time) (same, (b, more, is, e, (clock, digits, t, x))) =
        none (subst (λ k. IsDelimiter k) (same_first (sym e ∙ f)) is) clock digits None
        (subst (λ l. IsTimed clock digits None l) (same_others (sym e ∙ f)) x)
    behind_none none (dates.Date day) (same, e) = no_cons (sym e ∙ f)
    behind_none none (dates.Time time) never = never

  -- ---- either

  pub dated : (text rest : List ℕ) (date : Date) (o : Option (DateTime A))
      → FullDate text date rest → FoundResult (λ d. IsBehind date d rest) o
      → FoundResult (λ d. IsDateTime d text) o
  unfolding FoundResult IsDateTime IsAlone TimeText
  dated text rest date None x none = no
    where
      no : (d : DateTime A) → IsDateTime d text → ⊥
      no d (inl (day, left, y, b)) =
          let (same, ends) = date_one.one text date day rest left x y in
          none d (subst (λ k. IsBehind k d rest) (sym same)
          (subst (λ l. IsBehind day d l) (sym ends) b))
      no d (inr (time, e, (clock, digits, t, y))) =
          date_or_time clock digits None text rest date x y
  dated text rest date (Some d) x b = inl (date, rest, x, b)

  pub undated : (text : List ℕ) (o : Option (DateTime A)) → Finds FullDate text None
      → FoundResult (λ d. IsAlone d text) o → FoundResult (λ d. IsDateTime d text) o
  unfolding FoundResult IsDateTime Finds
  undated text None not none = no
    where
      no : (d : DateTime A) → IsDateTime d text → ⊥
      no d (inl (day, left, y, b)) = not day left y
      no d (inr alone) = none d alone
  undated text (Some d) not alone = inr alone
