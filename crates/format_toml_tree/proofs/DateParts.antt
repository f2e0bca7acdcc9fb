-- Proofs that the parts of dates and times leave a unique rest, and the results of functions for
-- them.
use Rattle.std.specs.Prelude.{◌≡◌, ◌≤◌, ◌+◌, ◌*◌, ℕ, ⊤, List, [], ◌∷◌, None, Option, Some}
use Rattle.std.specs.Borrow.{Bor}
use Rattle.std.proofs.Common.{refl, sym, ap, subst, ◌∙◌, arith}
use Rattle.format_toml_tree.specs.Dates.{Clock, Finds, FourDigits, FullDate, HourAndMinute, InTurn}
use Rattle.format_toml_tree.specs.Dates.{Marked, Standing, TwoDigits, days_in}

-- ---- lists

pub same_first : {x y : ℕ} {xs ys : List ℕ} → x ∷ xs ≡ y ∷ ys → x ≡ y
same_first e = cc

pub same_others : {x y : ℕ} {xs ys : List ℕ} → x ∷ xs ≡ y ∷ ys → xs ≡ ys
same_others e = cc

pub no_cons : {P : Type 0} {x : ℕ} {xs : List ℕ} → [] ≡ x ∷ xs → P
no_cons e = absurd (cc)

-- ---- one rest

-- `IsOne stands`: outputs at the start of the same bytes are equal, and so are their rests.
pub record IsOne {O : Type 0} (stands : Standing O) : Type 0 where
  pub one : (tokens : List ℕ) (o p : O) (rest other : List ℕ) → stands tokens o rest
      → stands tokens p other → (o ≡ p) × (rest ≡ other)

pub two_one : IsOne TwoDigits
unfolding TwoDigits
two_one = record {
  one = λ tokens n m rest other (t, o, c, d, (lt, ec), (lo, ed), e, is)
      (u, p, a, b, (lu, ea), (lp, eb), f, are).
      let g = sym e ∙ f in
      let h = same_others g in (
        omega (arith, is, are, ec, ed, ea, eb, same_first g, same_first h),
        same_others h,
      );
}

pub marked_one : (mark : ℕ) → IsOne (Marked mark)
unfolding Marked
marked_one mark = record {
  one = λ tokens n m rest other (a, e, x) (b, f, y).
      two_one.one a n m rest other x
      (subst (λ l. TwoDigits l m other) (sym (same_others (sym e ∙ f))) y);
}

-- ---- in sequence

-- `whole` has the outputs of both, where they are `fits`.
pub record Joins {A B C : Type 0} (first : Standing A) (second : Standing B) (whole : Standing C)
    (makes : A → B → C) (fits : A → B → Type 0) : Type 0 where
  pub there : (tokens : List ℕ) (o : C) (rest : List ℕ) → whole tokens o rest
      → (a : A) × (b : B) × (mid : List ℕ) × first tokens a mid × second mid b rest
      × (o ≡ makes a b) × fits a b
  pub back : (tokens : List ℕ) (a : A) (b : B) (mid rest : List ℕ) → first tokens a mid
      → second mid b rest → fits a b → whole tokens (makes a b) rest

module _ {A B C : Type 0} {first : Standing A} {second : Standing B} {whole : Standing C}
    {makes : A → B → C} {fits : A → B → Type 0} (joins : Joins first second whole makes fits) where
  pub none_first : (text : List ℕ) → Finds first text None → Finds whole text None
  unfolding Finds
  none_first text none o rest x =
      let (a, b, mid, f, s, e, is) = joins.there text o rest x in none a mid f

  module _ (one : IsOne first) {a : A} {text mid : List ℕ} (f : first text a mid) where
    pub none_second : Finds second mid None → Finds whole text None
    unfolding Finds
    none_second none o rest x =
        let (c, d, m, g, s, e, is) = joins.there text o rest x in
        none d rest (subst (λ t. second t d rest) (sym (one.one text a c mid m f g).1) s)

    pub none_fits : IsOne second → {b : B} {rest : List ℕ} → second mid b rest
        → (fits a b → ⊥) → Finds whole text None
    unfolding Finds
    none_fits other {b} {rest} s not o left x =
        let (c, d, m, g, t, e, is) = joins.there text o left x in
        let (p, q) = one.one text a c mid m f g in
        let (r, u) = other.one mid b d rest left s (subst (λ t. second t d left) (sym q) t) in
        not (subst (λ y. fits a y) (sym r) (subst (λ y. fits y d) (sym p) is))

  pub joins_one : IsOne first → IsOne second → IsOne whole
  joins_one one other = record {
    one = λ tokens o p rest left x y.
        let (a, b, mid, f, s, e, is) = joins.there tokens o rest x in
        let (c, d, m, g, t, h, are) = joins.there tokens p left y in
        let (p, q) = one.one tokens a c mid m f g in
        let (r, u) = other.one mid b d rest left s (subst (λ t. second t d left) (sym q) t) in
        (e ∙ ap (λ z. makes z b) p ∙ ap (λ z. makes c z) r ∙ sym h, u);
  }

pub four_joins : Joins TwoDigits TwoDigits FourDigits (λ h l. h * 100 + l) (λ h l. ⊤)
unfolding FourDigits
four_joins = record {
  there = λ tokens n rest (h, l, mid, x, y, e). (h, l, mid, x, y, e, tt);
  back = λ tokens h l mid rest x y any. (h, l, mid, x, y, refl);
}

pub minute_joins : Joins TwoDigits (Marked 58) HourAndMinute (λ h m. (h, m))
    (λ h m. (h ≤ 23) × (m ≤ 59))
unfolding HourAndMinute
minute_joins = record {
  there = λ tokens o rest (mid, x, y, hours, minutes).
      (o.0, o.1, mid, x, y, refl, (hours, minutes));
  back = λ tokens h m mid rest x y (hours, minutes). (mid, x, y, hours, minutes);
}

-- the first two of three numbers
abbrev pub Turn : Standing ℕ → ℕ → Standing (ℕ × ℕ)
Turn digits mark tokens both rest =
    (mid : List ℕ) × digits tokens both.0 mid × Marked mark mid both.1 rest

pub turn_joins : {digits : Standing ℕ} (mark : ℕ)
    → Joins digits (Marked mark) (Turn digits mark) (λ a b. (a, b)) (λ a b. ⊤)
turn_joins mark = record {
  there = λ tokens o rest (mid, x, y). (o.0, o.1, mid, x, y, refl, tt);
  back = λ tokens a b mid rest x y any. (mid, x, y);
}

pub date_joins : Joins (Turn FourDigits 45) (Marked 45) FullDate
    (λ t d. record { year = t.0; month = t.1; day = d }) (λ t d. (1 ≤ d) × (d ≤ days_in t.0 t.1))
unfolding FullDate InTurn
date_joins = record {
  there = λ tokens o rest ((a, b, x, y, z), least, most).
      ((o.year, o.month), o.day, b, (a, x, y), z, refl, (least, most));
  back = λ tokens t d mid rest (a, x, y) z (least, most). ((a, mid, x, y, z), least, most);
}

pub clock_joins : Joins (Turn TwoDigits 58) (Marked 58) Clock (λ t s. (t.0, t.1, s))
    (λ t s. (t.0 ≤ 23) × (t.1 ≤ 59) × (s ≤ 60))
unfolding Clock InTurn
clock_joins = record {
  there = λ tokens o rest ((a, b, x, y, z), hours, minutes, seconds).
      ((o.0, o.1), o.2, b, (a, x, y), z, refl, (hours, minutes, seconds));
  back = λ tokens t s mid rest (a, x, y) z (hours, minutes, seconds).
      ((a, mid, x, y, z), hours, minutes, seconds);
}

pub four_one : IsOne FourDigits
four_one = joins_one four_joins two_one two_one

pub turn_one : {digits : Standing ℕ} (mark : ℕ) → IsOne digits → IsOne (Turn digits mark)
turn_one mark one = joins_one (turn_joins mark) one (marked_one mark)

pub clock_one : IsOne Clock
clock_one = joins_one clock_joins (turn_one 58 two_one) (marked_one 58)

pub date_one : IsOne FullDate
date_one = joins_one date_joins (turn_one 45 four_one) (marked_one 45)

-- ---- a mark

pub marked_by : (text r : List ℕ) (t mark : ℕ) → text ≡ t ∷ r → t ≡ mark
    → (found : Option (ℕ × Bor (List ℕ))) → Finds TwoDigits r found
    → Finds (Marked mark) text found
unfolding Finds Marked
marked_by text r t mark f is None none = λ n rest (mid, e, x).
    none n rest (subst (λ l. TwoDigits l n rest) (sym (same_others (sym f ∙ e))) x)
marked_by text r t mark f is (Some found) x = (r, f ∙ ap (λ c. c ∷ r) is, x)
