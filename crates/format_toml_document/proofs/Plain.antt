-- Numbers, dates and times as values: the walk accepts those of the grammar, and no others.
use Rattle.std.specs.Int.{w64}
use Rattle.std.specs.Prelude.{◌≡◌, ◌⊎◌, ◌≤◌, ◌+◌, ◌-◌, ◌*◌, ◌==◌, ℕ, ℤ, pos, neg_ℤ, []}
use Rattle.std.specs.Prelude.{Bool, true, false, List, ◌∷◌, ◌++◌, Some, None, nat_lt, FitsSigned}
use Rattle.std.specs.Prelude.{length, if◌then◌else◌}
use Rattle.std.proofs.Common.{refl, sym, ap, subst, inl, inr, ◌∙◌, arith}
use Rattle.std.proofs.lemmas.Bool.Decides.{nat_tests}
use Rattle.grammars.specs.Texts.{BothText, EitherText, MadeText, Spelled}
use Rattle.format_parts.specs.Words.{One, latter}
use Rattle.format_toml.specs.Floats.{FloatText, IsFloat, IsSign, Signed}
use Rattle.format_toml.specs.Numbers.{AnyIntegerText, BasedText, IntegerText, UnsignedText}
use Rattle.format_toml.specs.Toml.{PlainText}
use Rattle.format_toml_errors.specs.Accepted.{both_ways, by, true_not_false}
use Rattle.format_toml_errors.specs.Figures.{adding, figure_step, lead_step, next_digit, real_step}
use Rattle.format_toml_errors.specs.Moments.{digit, is_digit, is_leap}
use Rattle.format_toml_errors.specs.Steps.{next_step, sign_step}
use Rattle.format_toml_errors.specs.Stop.{At}
use Rattle.format_toml_errors.specs.Unclosed.{last_open}
use Rattle.format_toml_errors.specs.declared.figures.Base.{Base}
use Rattle.format_toml_errors.specs.declared.figures.Base.TheVariants as bases
use Rattle.format_toml_errors.specs.declared.figures.Figure.{Figure}
use Rattle.format_toml_errors.specs.declared.figures.Figure.TheVariants as figures
use Rattle.format_toml_errors.specs.declared.figures.Whole.{Whole}
use Rattle.format_toml_errors.specs.declared.modes.Bracket.{Bracket}
use Rattle.format_toml_errors.specs.declared.modes.Mode.TheVariants as modes
use Rattle.format_toml_errors.specs.declared.modes.Step.TheVariants as steps
use Rattle.format_toml_errors.specs.declared.moments.Moment.TheVariants as moments
use Rattle.format_toml_tree.specs.declared.value.DateTime.{DateTime}
use Rattle.format_toml_tree.specs.Dates.{IsDateTime, IsDigit}
use Rattle.format_toml_tree.specs.declared.value.Value.{Value}
use Rattle.format_toml_tree.specs.declared.value.Value as values
use Rattle.format_toml_document.proofs.Bases.{base_of, letter_of, prefix_made, prefix_read}
use Rattle.format_toml_document.proofs.Dates.{AtHour, Spaced, Year, alone_read, date_made}
use Rattle.format_toml_document.proofs.Dates.{year_read}
use Rattle.format_toml_document.proofs.Decimals.{AllDigits, Dating, On, added, adds, counted}
use Rattle.format_toml_document.proofs.Decimals.{dating_few, next_whole, real_made, real_read}
use Rattle.format_toml_document.proofs.Figures.{AfterFigure, Figures, figures_at, goes, if_figure}
use Rattle.format_toml_document.proofs.Figures.{if_some, less_digit, passed}
use Rattle.format_toml_document.proofs.Moments.{M, two_value}
use Rattle.format_toml_document.proofs.Numerals.{Numeral, Opened, any_made, based_read, digits_read}
use Rattle.format_toml_document.proofs.Numerals.{fits_neg, fits_pos, float_for, float_made}
use Rattle.format_toml_document.proofs.Numerals.{from_digit, from_zero, neg_fits, pos_fits}
use Rattle.format_toml_document.proofs.Numerals.{signed_read, unsigned_made, whole_of, zero_numeral}
use Rattle.format_toml_document.proofs.Numerals.{zero_real}
use Rattle.format_toml_document.proofs.Thens.{Fits, equal}
use Rattle.format_toml_document.proofs.Walks.{Started}

abbrev pub Plain : List ℕ → Type 0
Plain xs =
    Opened 1 false figures.Zero xs
    ⊎ ((s : ℕ) × (r : List ℕ) × (xs ≡ s ∷ r) × IsSign s × Opened 5 (s == 45) figures.SignedZero r)

pub with_sign : (s : ℕ) (r : List ℕ) → IsSign s → Opened 5 (s == 45) figures.SignedZero r
    → Plain (s ∷ r)
with_sign s r is o = inr (s, r, refl, is, o)

-- ---- before what follows a value

module _ (level : ℕ) (held : List Bracket) where
  abbrev Behind : List ℕ → Type 0
  Behind l = At level modes.After held l

  opened_at : (whole : List ℕ → Type 0) {k : ℕ} {negative : Bool} {z : Figure} (l : List ℕ)
      → Behind l → (Behind l → whole (105 ∷ 110 ∷ 102 ∷ l))
      → (Behind l → whole (110 ∷ 97 ∷ 110 ∷ l))
      → ((m : List ℕ) → At level (modes.Number z) held m → whole (48 ∷ m))
      → ((c : ℕ) (m : List ℕ) → 49 ≤ c → c ≤ 57
      → At level (modes.Number (figures.Whole (whole_of k negative (digit c)))) held m
      → whole (c ∷ m))
      → (xs : List ℕ) → Opened k negative z xs → whole (xs ++ l)
  opened_at whole l x inf nan nought first xs (inl e) = rw e (inf x)
  opened_at whole l x inf nan nought first xs (inr (inl e)) = rw e (nan x)
  opened_at whole {z = z} l x inf nan nought first xs (inr (inr (c, r, e, inl (is, y)))) =
      rw (e, is) (nought (r ++ l) (figures_at level held z r l y x))
  opened_at whole l x inf nan nought first xs (inr (inr (c, r, e, inr (low, high, y)))) =
      rw e (first c (r ++ l) low high (figures_at level held _ r l y x))

  value_goes : (c : ℕ) → 49 ≤ c → c ≤ 57
      → (next_step modes.Value (last_open held) c
      ≡ steps.Goes (modes.Number (figures.Whole (whole_of 1 false (digit c)))))
      × (next_step modes.Item (last_open held) c
      ≡ steps.Goes (modes.Number (figures.Whole (whole_of 1 false (digit c)))))
  value_goes c low high = (grind (arith, nat_tests, low, high), grind (arith, nat_tests, low, high))

  sign_goes : (negative : Bool) (c : ℕ) → 49 ≤ c → c ≤ 57 → sign_step negative c
      ≡ steps.Goes (modes.Number (figures.Whole (whole_of 5 negative (digit c))))
  sign_goes negative c low high = grind (arith, nat_tests, low, high)

  signed_at : (negative : Bool) (r l : List ℕ) → Opened 5 negative figures.SignedZero r → Behind l
      → At level (modes.Sign negative) held (r ++ l)
  signed_at negative r l o x =
      opened_at (λ m. At level (modes.Sign negative) held m) l x (λ y. y) (λ y. y)
      (λ m y. y) (λ c m low high y. by level held m (sign_goes negative c low high) y) r o

  pub plain_at : (xs l : List ℕ) → Plain xs → Behind l → Started level held (xs ++ l)
  plain_at xs l (inl o) x =
      opened_at (Started level held) l x (λ y. (y, y)) (λ y. (y, y)) (λ m y. (y, y))
      (λ c m low high y. let (v, i) = value_goes c low high in
      (by level held m v y, by level held m i y)) xs o
  plain_at xs l (inr (s, r, e, inl is, o)) x =
      let y = signed_at true r l (rw is at o) x in rw (e, is) (y, y)
  plain_at xs l (inr (s, r, e, inr is, o)) x =
      let y = signed_at false r l (rw is at o) x in rw (e, is) (y, y)

prefixed : (base : Base) (r : List ℕ) → Figures (figures.Prefix base) r
    → Opened 1 false figures.Zero (48 ∷ letter_of base ∷ r)
prefixed bases.Hex r x = from_zero (120 ∷ r) x
prefixed bases.Octal r x = from_zero (111 ∷ r) x
prefixed bases.Binary r x = from_zero (98 ∷ r) x

-- ---- digits of years and hours

next_as : (v c : ℕ) → is_digit c ≡ true → v ≤ 9999 → next_digit v c ≡ v * 10 + (c - 48)
next_as v c is few = grind (arith, nat_tests, is, few)

year_is : (v c d : ℕ) → is_digit c ≡ true → is_digit d ≡ true → v ≤ 99
    → next_digit (next_digit v c) d ≡ v * 100 + two_value c d
year_is v c d is has few =
    let one = next_as v c is (omega (arith, few)) in
    let less : c - 48 ≤ 9 = grind (arith, nat_tests, is) in
    ap (λ n. next_digit n d) one
    ∙ next_as (v * 10 + (c - 48)) d has (omega (arith, few, less)) ∙ omega arith

year_made : (a b c d y : ℕ) (k : List ℕ) → Year a b c d y
    → M (moments.Month (is_leap y)) k → Plain (a ∷ b ∷ c ∷ d ∷ 45 ∷ k)
year_made a b c d y k (da, db, dc, dd, is) x =
    let tb : is_digit b ≡ true = grind (arith, nat_tests, db) in
    let tc : is_digit c ≡ true = grind (arith, nat_tests, dc) in
    let td : is_digit d ≡ true = grind (arith, nat_tests, dd) in
    let P : ℕ → Type 0 = λ n. M (moments.Month (is_leap n)) k in
    inl (elim (both_ways (a == 48)) [
      | inl zero ↦
          let z = equal a 48 zero in
          let v2 = digit b in
          let v3 = next_digit v2 c in
          let v4 = next_digit v3 d in
          let value : v4 ≡ y = year_is v2 c d tc td (omega (arith, db)) ∙ omega (arith, z, is) in
          let first : figure_step figures.Zero b ≡ Some (figures.Lead 2 v2) =
          grind (arith, nat_tests, db) in
          rw z (from_zero (b ∷ c ∷ d ∷ 45 ∷ k)
          (goes figures.Zero (figures.Lead 2 v2) b (c ∷ d ∷ 45 ∷ k) first
          (goes (figures.Lead 2 v2) (figures.Lead 3 v3) c (d ∷ 45 ∷ k) (simp tc)
          (goes (figures.Lead 3 v3) (figures.Lead 4 v4) d (45 ∷ k) (simp td)
          (subst P (sym value) x)))))
      | inr not ↦
          let low : 49 ≤ a = grind (arith, nat_tests, not, da) in
          let one = next_as (digit a) b tb (omega (arith, da)) in
          let w1 = whole_of 1 false (digit a) in
          let w2 = adding w1 b in
          let w3 = adding w2 c in
          let w4 = adding w3 d in
          let value : w4.value ≡ y =
          ap (λ n. next_digit (next_digit n c) d) one
          ∙ year_is (digit a * 10 + (b - 48)) c d tc td (omega (arith, da, db))
          ∙ omega (arith, is) in
          from_digit (b ∷ c ∷ d ∷ 45 ∷ k) a low da.1
          (goes (figures.Whole w1) (figures.Whole w2) b (c ∷ d ∷ 45 ∷ k) (simp tb)
          (goes (figures.Whole w2) (figures.Whole w3) c (d ∷ 45 ∷ k) (simp tc)
          (goes (figures.Whole w3) (figures.Whole w4) d (45 ∷ k) (simp td)
          (subst P (sym value) x))))
    ])

hour_made : (p q : ℕ) (r : List ℕ) → AtHour false p q r → Plain (p ∷ q ∷ 58 ∷ r)
hour_made p q r (dp, dq, few, x) =
    let tq : is_digit q ≡ true = grind (arith, nat_tests, dq) in
    inl (elim (both_ways (p == 48)) [
      | inl zero ↦
          let first : figure_step figures.Zero q ≡ Some (figures.Lead 2 (digit q)) =
          grind (arith, nat_tests, dq) in
          rw (equal p 48 zero) (from_zero (q ∷ 58 ∷ r)
          (goes figures.Zero (figures.Lead 2 (digit q)) q (58 ∷ r) first x))
      | inr not ↦
          let low : 49 ≤ p = grind (arith, nat_tests, not, dp) in
          let value = next_as (digit p) q tq (omega (arith, dp)) in
          let early : nat_lt (next_digit (digit p) q) 24 ≡ true =
          grind (arith, nat_tests, value, few) in
          let w = whole_of 1 false (digit p) in
          let minute = goes (figures.Whole (adding w q))
          (figures.Moment (moments.Minute false)) 58 r (simp early) x in
          from_digit (q ∷ 58 ∷ r) p low dp.1
          (goes (figures.Whole w) (figures.Whole (adding w q)) q (58 ∷ r) (simp tq) minute)
    ])

-- ---- what the grammar has

module _ {A : Type 0} where
  pub plain_made : (v : Value A) (xs : List ℕ) → PlainText v xs → Plain xs
  unfolding EitherText MadeText IntegerText BothText Spelled FloatText Signed
  plain_made v xs (inl (n, (text, fit), same)) = by_kind text
    where
      fitting : (z : ℤ) → n ≡ z → FitsSigned w64 z
      fitting z e = subst (λ z. FitsSigned w64 z) e fit

      based : (base : Base) (m : ℕ) (tokens : List ℕ)
          → BasedText (letter_of base) (base_of base) m tokens → n ≡ pos m → Plain tokens
      based base m tokens t e =
          let (ys, at, number) = based_read (letter_of base) (base_of base) m tokens t in
          rw at (inl (prefixed base ys
          (prefix_made base m ys number (fits_pos m (fitting (pos m) e)).0)))

      by_kind : AnyIntegerText n xs → Plain xs
      by_kind (inl (inl (m, t, e))) =
          inl (unsigned_made 1 false figures.Zero m xs t (fits_pos m (fitting (pos m) e)).1 refl)
      by_kind (inl (inr (inl (m, (o, q, us, ys, (is, a), t, split, out), e)))) =
          let at : xs ≡ 43 ∷ ys = cc in
          rw at (with_sign 43 ys (inr refl) (unsigned_made 5 false figures.SignedZero m ys
          (rw out t) (fits_pos m (fitting (pos m) e)).1 refl))
      by_kind (inl (inr (inr (m, (o, q, us, ys, (is, a), t, split, out), e)))) =
          let at : xs ≡ 45 ∷ ys = cc in
          rw at (with_sign 45 ys (inl refl) (unsigned_made 5 true figures.SignedZero m ys
          (rw out t) (fits_neg m (fitting (neg_ℤ (pos m)) e)) refl))
      by_kind (inr (m, inl t, e)) = based bases.Hex m xs t e
      by_kind (inr (m, inr (inl t), e)) = based bases.Octal m xs t e
      by_kind (inr (m, inr (inr t), e)) = based bases.Binary m xs t e
  plain_made v xs (inr (inl (f, (inl text, kept), same))) =
      inl (float_made 1 false figures.Zero xs text (real_made figures.Zero refl refl refl))
  plain_made v xs (inr (inl (f, (inr (s, r, sign, e, text), kept), same))) =
      rw e (with_sign s r sign (float_made 5 (s == 45) figures.SignedZero r text
      (real_made figures.SignedZero refl refl refl)))
  plain_made v xs (inr (inr (o, is, same))) = elim (date_made o xs is) [
    | inl (a, b, c, d, y, k, e, year, x) ↦ rw e (year_made a b c d y k year x)
    | inr (p, q, r, e, hour) ↦ rw e (hour_made p q r hour)
  ]

-- ---- what the walk accepts, but a space after a date

module _ {A : Type 0} (alloc : A) where
  abbrev pub Reads : List ℕ → Type 0
  Reads xs = (v : Value A) × (ys : List ℕ) × PlainText v ys × Spaced xs ys

  integer : (n : ℤ) (xs : List ℕ) → IntegerText n xs → Reads xs
  unfolding EitherText MadeText
  integer n xs x = (values.Integer n, xs, inl (n, x, refl), inl refl)

  float : (xs : List ℕ) → Fits xs → IsFloat xs → Reads xs
  unfolding EitherText MadeText
  float xs fits is =
      let (f, x) = float_for alloc xs fits is in
      (values.Float f, xs, inr (inl (f, x, refl)), inl refl)

  dated : (o : DateTime A) (xs ys : List ℕ) → IsDateTime o ys → Spaced xs ys → Reads xs
  unfolding EitherText MadeText
  dated o xs ys is spaced = (values.DateTime o, ys, inr (inr (o, is, refl)), spaced)

  numeral : (xs : List ℕ) → Fits xs → Numeral false xs → Reads xs
  unfolding IntegerText EitherText MadeText Signed
  numeral xs fits (inl (n, text, fit)) =
      integer (pos n) xs (inl (inl (n, text, refl)), pos_fits n fit)
  numeral xs fits (inr text) = float xs fits (inl text)

  signed : (s : ℕ) (xs : List ℕ) → IsSign s → Fits (s ∷ xs) → Numeral (s == 45) xs → Reads (s ∷ xs)
  unfolding IntegerText EitherText MadeText BothText Spelled Signed
  signed s xs sign fits (inr text) = float (s ∷ xs) fits (inr (s, xs, sign, refl, text))
  signed s xs (inl is) fits (inl (n, text, fit)) =
      let both : BothText latter (One 45) UnsignedText n (45 ∷ xs) =
      (45, n, 45 ∷ [], xs, (refl, refl), text, refl, refl) in
      rw is (integer (neg_ℤ (pos n)) (45 ∷ xs)
      (inl (inr (inr (n, both, refl))), neg_fits n (rw is at fit)))
  signed s xs (inr is) fits (inl (n, text, fit)) =
      let both : BothText latter (One 43) UnsignedText n (43 ∷ xs) =
      (43, n, 43 ∷ [], xs, (refl, refl), text, refl, refl) in
      rw is (integer (pos n) (43 ∷ xs)
      (inl (inr (inl (n, both, refl))), pos_fits n (rw is at fit)))

  year : (a b c d y : ℕ) (k : List ℕ) → is_digit a ≡ true → is_digit b ≡ true
      → is_digit c ≡ true → is_digit d ≡ true → y ≡ two_value a b * 100 + two_value c d
      → Fits (a ∷ b ∷ c ∷ d ∷ 45 ∷ k) → M (moments.Month (is_leap y)) k
      → Reads (a ∷ b ∷ c ∷ d ∷ 45 ∷ k)
  year a b c d y k ta tb tc td is fits x =
      let digit : (c : ℕ) → is_digit c ≡ true → IsDigit c = λ c e. grind (arith, nat_tests, e) in
      let digits : Year a b c d y = (digit a ta, digit b tb, digit c tc, digit d td, is) in
      let (o, ys, text, spaced) = year_read alloc a b c d y k digits fits x in
      dated o (a ∷ b ∷ c ∷ d ∷ 45 ∷ k) ys text spaced

  hour : (p q : ℕ) (r : List ℕ) → Fits (p ∷ q ∷ 58 ∷ r) → AtHour false p q r
      → Reads (p ∷ q ∷ 58 ∷ r)
  hour p q r fits at =
      let (o, text) = alone_read alloc p q r fits at in
      dated o (p ∷ q ∷ 58 ∷ r) (p ∷ q ∷ 58 ∷ r) text (inl refl)

  -- ---- after a zero

  lead_on : (digits v : ℕ) {R : Type 0} (l : List ℕ)
      → ((c : ℕ) (r : List ℕ) → l ≡ c ∷ r → AfterFigure (On r) (lead_step digits v c) → R)
      → Figures (figures.Lead digits v) l → R
  lead_on digits v [] next x = true_not_false (sym x)
  lead_on digits v (c ∷ r) next x = next c r refl x

  lead : (p : ℕ) (l : List ℕ) → is_digit p ≡ true → Fits (48 ∷ p ∷ l)
      → Figures (figures.Lead 2 (digit p)) l → Reads (48 ∷ p ∷ l)
  lead p l is fits x =
      let dp : (48 ≤ p) × (p ≤ 57) = grind (arith, nat_tests, is) in
      let P : List ℕ → Type 0 = λ k. Fits (48 ∷ p ∷ k) → Reads (48 ∷ p ∷ k) in
      lead_on 2 (digit p) l (λ c r e y.
      if_figure (On r) (is_digit c) (Some (figures.Lead 3 (next_digit (digit p) c)))
      (if c == 58 then Some (figures.Moment (moments.Minute false)) else None)
      (λ tc z. lead_on 3 (next_digit (digit p) c) r (λ d s f w.
      if_figure (On s) (is_digit d)
      (Some (figures.Lead 4 (next_digit (next_digit (digit p) c) d))) None
      (λ td v. lead_on 4 (next_digit (next_digit (digit p) c) d) s (λ n m g u.
      if_some (On m) (n == 45)
      (figures.Moment (moments.Month (is_leap (next_digit (next_digit (digit p) c) d))))
      (λ mark t. subst P (sym (e ∙ ap (λ k. c ∷ k) (f ∙ ap (λ k. d ∷ k) (g
      ∙ ap (λ b. b ∷ m) (equal n 45 mark))))) (λ fit. year 48 p c d _ m refl is tc td
      (year_is (digit p) c d tc td (omega (arith, dp)) ∙ omega arith) fit t) fits) u) v)
      (λ not v. absurd v) w) z)
      (λ not z. if_figure (On r) (c == 58) (Some (figures.Moment (moments.Minute false))) None
      (λ mark w. subst P (sym (e ∙ ap (λ b. b ∷ r) (equal c 58 mark)))
      (λ fit. hour 48 p r fit ((omega arith, omega arith), dp, omega (arith, dp), w)) fits)
      (λ nay w. absurd w) z) y) x

  zero : (l : List ℕ) → Fits (48 ∷ l) → Figures figures.Zero l → Reads (48 ∷ l)
  unfolding IntegerText
  zero [] fits x = numeral (48 ∷ []) fits (zero_numeral false)
  zero (c ∷ l) fits x =
      if_figure (On l) (c == 120) (Some (figures.Prefix bases.Hex)) _
      (λ e y. at 120 e (based bases.Hex l y))
      (λ e1 y. if_figure (On l) (c == 111) (Some (figures.Prefix bases.Octal)) _
      (λ e z. at 111 e (based bases.Octal l z))
      (λ e2 z. if_figure (On l) (c == 98) (Some (figures.Prefix bases.Binary)) _
      (λ e w. at 98 e (based bases.Binary l w))
      (λ e3 w. if_figure (On l) (is_digit c) (Some (figures.Lead 2 (digit c))) (real_step c)
      (λ is v. lead c l is fits v)
      (λ e4 v. numeral (48 ∷ c ∷ l) fits (zero_real false (c ∷ l) (real_read c l v))) w) z) y) x
    where
      at : (n : ℕ) → (c == n) ≡ true → Reads (48 ∷ n ∷ l) → Reads (48 ∷ c ∷ l)
      at n e y = rw (equal c n e) y

      based : (base : Base) (l : List ℕ) → Figures (figures.Prefix base) l
          → Reads (48 ∷ letter_of base ∷ l)
      based base l y =
          let (n, number, few) = prefix_read base l y in
          integer (pos n) (48 ∷ letter_of base ∷ l)
          (any_made base n l number, record { sfits = omega (arith, few) })

  -- ---- after another digit

  module _ (c : ℕ) (low : 49 ≤ c) (high : c ≤ 57) (l : List ℕ) (fits : Fits (c ∷ l)) where
    digits : (ds es : List ℕ) → l ≡ ds ++ es → AllDigits ds → (w : Whole)
        → w.digits ≡ 1 + length ds → w.value ≡ (added (whole_of 1 false (digit c)) ds).value
        → Dating w es → Reads (c ∷ l)
    digits (p ∷ q ∷ s ∷ []) es e all w n v (m, inl (f, four, x)) =
        let tc : is_digit c ≡ true = grind (arith, nat_tests, low, high) in
        let tp = less_digit p all.0 in
        let tq = less_digit q all.1.0 in
        let ts = less_digit s all.1.1.0 in
        let one = next_as (digit c) p tp (omega (arith, high)) in
        let value : w.value ≡ two_value c p * 100 + two_value q s =
        v ∙ ap (λ n. next_digit (next_digit n q) s) one
        ∙ year_is (digit c * 10 + (p - 48)) q s tq ts (grind (arith, nat_tests, high, tp)) in
        let split = e ∙ ap (λ k. p ∷ q ∷ s ∷ k) f in
        rw split (year c p q s w.value m tc tp tq ts value (rw split at fits) x)
    digits (p ∷ []) es e all w n v (m, inr (f, two, early, x)) =
        let tp = less_digit p all.0 in
        let dp : (48 ≤ p) × (p ≤ 57) = grind (arith, nat_tests, tp) in
        let value = v ∙ next_as (digit c) p tp (omega (arith, high)) in
        let few : two_value c p ≤ 23 = grind (arith, nat_tests, value, early) in
        let split = e ∙ ap (λ k. p ∷ k) f in
        rw split (hour c p m (rw split at fits) ((omega (arith, low), high), dp, few, x))
    digits [] es e all w n v (m, inl (f, four, x)) = absurd (omega (arith, n, four))
    digits (p ∷ []) es e all w n v (m, inl (f, four, x)) = absurd (omega (arith, n, four))
    digits (p ∷ q ∷ []) es e all w n v (m, inl (f, four, x)) = absurd (omega (arith, n, four))
    digits (p ∷ q ∷ s ∷ t ∷ ds) es e all w n v (m, inl (f, four, x)) =
        absurd (omega (arith, n, four))
    digits [] es e all w n v (m, inr (f, two, early, x)) = absurd (omega (arith, n, two))
    digits (p ∷ q ∷ ds) es e all w n v (m, inr (f, two, early, x)) = absurd (omega (arith, n, two))

    digit_first : Figures (figures.Whole (whole_of 1 false (digit c))) l → Reads (c ∷ l)
    digit_first x = elim (digits_read 1 false c l low high x) [
      | inl n ↦ numeral (c ∷ l) fits n
      | inr (ds, es, g, e, dating) ↦
          let w = whole_of 1 false (digit c) in
          let last = passed next_whole w ds in
          let (all, n) = counted false ds w g (dating_few last es dating) in
          digits ds es e all last n (ap (λ v. v.value) (adds ds w all)) dating
    ]

  pub plain_read : (xs : List ℕ) → Fits xs → Plain xs → Reads xs
  plain_read xs fits (inl (inl e)) = numeral xs fits (inr (inl e))
  plain_read xs fits (inl (inr (inl e))) = numeral xs fits (inr (inr (inl e)))
  plain_read xs fits (inl (inr (inr (c, r, e, inl (z, x))))) =
      rw (e, z) (zero r (rw (e, z) at fits) x)
  plain_read xs fits (inl (inr (inr (c, r, e, inr (low, high, x))))) =
      rw e (digit_first c low high r (rw e at fits) x)
  plain_read xs fits (inr (s, r, e, sign, o)) =
      rw e (signed s r sign (rw e at fits) (signed_read (s == 45) r o))
