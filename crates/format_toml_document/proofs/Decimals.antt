-- Digits, fractions and exponents: the walk accepts those of the grammar, and no others.
use Rattle.std.specs.Char.{digit_value}
use Rattle.std.specs.Str.Parse.{digits_value_after}
use Rattle.std.specs.Prelude.{◌≡◌, ◌⊎◌, ◌≤◌, ◌<◌, ◌+◌, ◌*◌, ◌==◌, ◌&&◌, ◌||◌, ⊤, []}
use Rattle.std.specs.Prelude.{◌↔◌, ℕ, Bool, true, false, List, ◌∷◌, ◌++◌, length, Some, nat_lt}
use Rattle.std.specs.Prelude.{if◌then◌else◌}
use Rattle.std.proofs.Common.{refl, sym, ap, subst, inl, inr, ◌∙◌, arith}
use Rattle.std.proofs.lemmas.Bool.Decides.{nat_tests}
use Rattle.std.proofs.lemmas.Str.{digit_value_digit}
use Rattle.std.proofs.lemmas.Str.Parse.{digit_from_value}
use Rattle.format_toml.specs.Digits.{GoesOn, digits_back, digits_goes, kept, no_under}
use Rattle.format_toml.specs.Floats.{AreDigits, IsLetterE, Signed}
use Rattle.format_toml_errors.specs.Accepted.{true_not_false}
use Rattle.format_toml_errors.specs.Figures.{adding, figure_if, figure_step, fits, is_e, next_digit}
use Rattle.format_toml_errors.specs.Figures.{real_step}
use Rattle.format_toml_errors.specs.Moments.{is_digit, is_leap}
use Rattle.format_toml_errors.specs.declared.figures.Figure.{Figure}
use Rattle.format_toml_errors.specs.declared.figures.Figure.TheVariants as figures
use Rattle.format_toml_errors.specs.declared.figures.Whole.{Whole}
use Rattle.format_toml_errors.specs.declared.moments.Moment.TheVariants as moments
use Rattle.format_toml_document.proofs.Figures.{AfterFigure, Figures, Rows, bare_made, bare_read}
use Rattle.format_toml_document.proofs.Figures.{digit_less, goes, if_figure, if_some, less_digit}
use Rattle.format_toml_document.proofs.Figures.{passed, row_made, row_read}
use Rattle.format_toml_document.proofs.Thens.{both_true, equal}

pub digits_are : (xs : List ℕ) → AreDigits xs ↔ GoesOn 10 true xs
unfolding AreDigits
digits_are xs = (
  λ (ds, x). (digits_goes 10 (omega arith) ds xs x).0,
  λ g. (kept xs, digits_back 10 (omega arith) xs g),
)

pub kept_mark : (xs : List ℕ) → kept (95 ∷ xs) ≡ kept xs
kept_mark xs = grind (arith, nat_tests)

pub kept_digit : (base c : ℕ) (xs : List ℕ) → base ≤ 36 → digit_value c < base
    → kept (c ∷ xs) ≡ c ∷ kept xs
kept_digit base c xs most less =
    let other : c ≡ 95 → ⊥ = no_under base most c less in grind (arith, nat_tests, other)

-- ---- exponents

abbrev pub On : List ℕ → Figure → Type 0
On xs f = Figures f xs

powers : Rows 10 (λ (s : ⊤) c. s) (λ s xs. Figures figures.Digits xs)
    (λ s xs. Figures figures.Power xs) (λ s es. (es ≡ []) × ⊤)
powers = record {
  ends = λ s xs e. rw e.0 refl;
  digit = λ s c xs less y.
      let is = less_digit c less in
      let more : figure_step figures.Digits c ≡ Some figures.Digits =
      grind (arith, nat_tests, digit_from_value c less) in (
        goes figures.Digits figures.Digits c xs more y,
        goes figures.Power figures.Digits c xs (simp is) y,
      );
  mark = λ s xs y. y;
  none = λ s. (λ e. (refl, tt), λ e. true_not_false (sym e));
  reads = λ s c xs x.
      if_figure (On xs) (c == 95) (Some figures.Power) (figure_if (is_digit c) figures.Digits)
      (λ e y. inr (inr (equal c 95 e, y)))
      (λ e y. if_some (On xs) (is_digit c) figures.Digits
      (λ is z. inr (inl (digit_less c is, z))) y) x;
  must = λ s c xs x.
      if_some (On xs) (is_digit c) figures.Digits (λ is z. (digit_less c is, z)) x;
}

exponent_read : (xs : List ℕ) → Figures figures.Exponent xs → Signed AreDigits xs
unfolding Signed
exponent_read [] e = true_not_false (sym e)
exponent_read (c ∷ xs) x =
    if_figure (On xs) (c == 43 || c == 45) (Some figures.Power)
    (figure_if (is_digit c) figures.Digits)
    (λ e y. let text = (digits_are xs).1 (bare_read powers ((row_read powers xs tt).1 y)).0 in
    inr (c, xs, grind (arith, nat_tests, e), refl, text))
    (λ e y. if_some (On xs) (is_digit c) figures.Digits (λ is z.
    inl ((digits_are (c ∷ xs)).1
    (inl (digit_less c is, (bare_read powers ((row_read powers xs tt).0 z)).0)))) y) x

exponent_made : (xs : List ℕ) → Signed AreDigits xs → Figures figures.Exponent xs
unfolding Signed
exponent_made xs (inl d) = first xs ((digits_are xs).0 d)
  where
    first : (xs : List ℕ) → GoesOn 10 true xs → Figures figures.Exponent xs
    first [] g = true_not_false g
    first (c ∷ xs) (inl (less, g)) =
        let more : figure_step figures.Exponent c ≡ Some figures.Digits =
        grind (arith, nat_tests, digit_from_value c less) in
        goes figures.Exponent figures.Digits c xs more ((bare_made powers xs tt tt).0 g)
    first (c ∷ xs) (inr (is, ready, g)) = true_not_false ready
exponent_made xs (inr (s, rest, inl is, e, d)) =
    rw (e, is) ((bare_made powers rest tt tt).1 ((digits_are rest).0 d))
exponent_made xs (inr (s, rest, inr is, e, d)) =
    rw (e, is) ((bare_made powers rest tt tt).1 ((digits_are rest).0 d))

abbrev pub Exponent : List ℕ → Type 0
Exponent xs = (c : ℕ) × (p : List ℕ) × IsLetterE c × Signed AreDigits p × (xs ≡ c ∷ p)

-- what may come after a fraction
abbrev pub Ended : List ℕ → Type 0
Ended xs = (xs ≡ []) ⊎ Exponent xs

exponent_at : (f : Figure) → figure_step f 101 ≡ Some figures.Exponent
    → figure_step f 69 ≡ Some figures.Exponent → (xs : List ℕ) → Exponent xs → Figures f xs
exponent_at f low high xs (c, p, inl is, s, e) =
    rw (e, is) (goes f figures.Exponent 101 p low (exponent_made p s))
exponent_at f low high xs (c, p, inr is, s, e) =
    rw (e, is) (goes f figures.Exponent 69 p high (exponent_made p s))

exponent_if : (c : ℕ) (xs : List ℕ) → AfterFigure (On xs) (figure_if (is_e c) figures.Exponent)
    → Exponent (c ∷ xs)
exponent_if c xs x =
    if_some (On xs) (is_e c) figures.Exponent
    (λ e y. (c, xs, grind (arith, nat_tests, e), exponent_read xs y, refl)) x

-- ---- fractions

fractions : Rows 10 (λ (s : ⊤) c. s) (λ s xs. Figures figures.Fraction xs)
    (λ s xs. Figures figures.FractionMark xs) (λ s. Ended)
fractions = record {
  ends = λ s xs e. elim e [
    | inl none ↦ rw none refl
    | inr x ↦ exponent_at figures.Fraction refl refl xs x
  ];
  digit = λ s c xs less y.
      let is = less_digit c less in (
        goes figures.Fraction figures.Fraction c xs (simp is) y,
        goes figures.FractionMark figures.Fraction c xs (simp is) y,
      );
  mark = λ s xs y. y;
  none = λ s. (λ e. inl refl, λ e. true_not_false (sym e));
  reads = λ s c xs x.
      if_figure (On xs) (is_digit c) (Some figures.Fraction)
      (if c == 95 then Some figures.FractionMark else figure_if (is_e c) figures.Exponent)
      (λ is y. inr (inl (digit_less c is, y)))
      (λ e y. if_figure (On xs) (c == 95) (Some figures.FractionMark)
      (figure_if (is_e c) figures.Exponent) (λ is z. inr (inr (equal c 95 is, z)))
      (λ f z. inl (inr (exponent_if c xs z))) y) x;
  must = λ s c xs x.
      if_some (On xs) (is_digit c) figures.Fraction (λ is y. (digit_less c is, y)) x;
}

point_same : (xs : List ℕ) → Figures figures.Point xs ↔ Figures figures.FractionMark xs
point_same [] = (λ x. x, λ x. x)
point_same (c ∷ xs) = (λ x. x, λ x. x)

-- a fraction or an exponent, which makes digits a float
abbrev pub Real : List ℕ → Type 0
Real xs =
    ((ds : List ℕ) × (es : List ℕ) × AreDigits ds × Ended es × (xs ≡ 46 ∷ (ds ++ es)))
    ⊎ Exponent xs

pub real_read : (c : ℕ) (xs : List ℕ) → AfterFigure (On xs) (real_step c) → Real (c ∷ xs)
real_read c xs x =
    if_figure (On xs) (c == 46) (Some figures.Point) (figure_if (is_e c) figures.Exponent)
    (λ e y. let (ds, es, g, end, f) = (row_read fractions xs tt).1 ((point_same xs).0 y) in
    let split = ap (λ b. b ∷ xs) (equal c 46 e) ∙ ap (λ l. 46 ∷ l) f in
    inl (ds, es, (digits_are ds).1 g, end, split))
    (λ e y. inr (exponent_if c xs y)) x

pub real_made : (f : Figure) → figure_step f 46 ≡ Some figures.Point
    → figure_step f 101 ≡ Some figures.Exponent → figure_step f 69 ≡ Some figures.Exponent
    → (xs : List ℕ) → Real xs → Figures f xs
real_made f point low high xs (inl (ds, es, d, end, e)) =
    rw e (goes f figures.Point 46 (ds ++ es) point ((point_same (ds ++ es)).1
    ((row_made fractions ds es tt end).1 ((digits_are ds).0 d))))
real_made f point low high xs (inr x) = exponent_at f low high xs x

-- ---- digits that begin a number, a date or a time

abbrev pub Dating : Whole → List ℕ → Type 0
Dating w xs = (m : List ℕ) ×
    (((xs ≡ 45 ∷ m) × (w.digits ≡ 4)
    × Figures (figures.Moment (moments.Month (is_leap w.value))) m)
    ⊎ ((xs ≡ 58 ∷ m) × (w.digits ≡ 2) × (nat_lt w.value 24 ≡ true)
    × Figures (figures.Moment (moments.Minute false)) m))

pub dating_few : (w : Whole) (xs : List ℕ) → Dating w xs → w.digits ≤ 4
dating_few w xs (m, inl (e, four, x)) = omega (arith, four)
dating_few w xs (m, inr (e, two, early, x)) = omega (arith, two)

abbrev pub Ending : Whole → List ℕ → Type 0
Ending w xs = ((xs ≡ []) × (fits w ≡ true)) ⊎ (Real xs ⊎ Dating w xs)

abbrev pub next_whole : Whole → ℕ → Whole
next_whole w c = record {
  digits = if c == 95 then 5 else if nat_lt w.digits 4 then w.digits + 1 else 5;
  negative = w.negative;
  value = if c == 95 then w.value else next_digit w.value c;
}

next_is : (w : Whole) (c : ℕ) → digit_value c < 10 → next_whole w c ≡ adding w c
next_is w c less =
    let not : (c == 95) ≡ false = grind (arith, nat_tests, digit_from_value c less) in rw not refl

abbrev not_marked : Whole → ℕ → List ℕ → Type 0
not_marked w c xs =
    AfterFigure (On xs) (
    if (c == 45) && (w.digits == 4)
    then Some (figures.Moment (moments.Month (is_leap w.value))) else
    if (c == 58) && ((w.digits == 2) && nat_lt w.value 24)
    then Some (figures.Moment (moments.Minute false)) else real_step c)

dating : (w : Whole) (c : ℕ) (xs : List ℕ) → not_marked w c xs → Ending w (c ∷ xs)
dating w c xs x =
    if_figure (On xs) ((c == 45) && (w.digits == 4)) _ _
    (λ e y. let (mark, four) = both_true (c == 45) (w.digits == 4) e in
    inr (inr (xs, inl (rw (equal c 45 mark) refl, equal w.digits 4 four, y))))
    (λ e y. if_figure (On xs) ((c == 58) && ((w.digits == 2) && nat_lt w.value 24)) _ _
    (λ f z. let (mark, others) = both_true (c == 58) ((w.digits == 2) && nat_lt w.value 24) f in
    let (two, early) = both_true (w.digits == 2) (nat_lt w.value 24) others in
    inr (inr (xs, inr (rw (equal c 58 mark) refl, equal w.digits 2 two, early, z))))
    (λ f z. inr (inl (real_read c xs z))) y) x

pub wholes : Rows 10 next_whole (λ w xs. Figures (figures.Whole w) xs)
    (λ w xs. Figures (figures.WholeMark w) xs) Ending
wholes = record {
  ends = λ w xs e. elim e [
    | inl (none, fit) ↦ rw none fit
    | inr (inl r) ↦ real_made (figures.Whole w) refl refl refl xs r
    | inr (inr (m, inl (f, four, x))) ↦
        rw f (goes (figures.Whole w) (figures.Moment (moments.Month (is_leap w.value))) 45 m
        (rw four refl) x)
    | inr (inr (m, inr (f, two, early, x))) ↦
        rw f (goes (figures.Whole w) (figures.Moment (moments.Minute false)) 58 m
        (simp (two, early)) x)
  ];
  digit = λ w c xs less y.
      let is = less_digit c less in
      let z = rw (next_is w c less) at y in (
        goes (figures.Whole w) (figures.Whole (adding w c)) c xs (simp is) z,
        goes (figures.WholeMark w) (figures.Whole (adding w c)) c xs (simp is) z,
      );
  mark = λ w xs y. y;
  none = λ w. (λ e. inl (refl, e), λ e. true_not_false (sym e));
  reads = λ w c xs x.
      if_figure (On xs) (is_digit c) (Some (figures.Whole (adding w c))) _
      (λ is y. inr (inl (digit_less c is, rw (next_is w c (digit_less c is)) y)))
      (λ e y. if_figure (On xs) (c == 95) _ _
      (λ is z. inr (inr (equal c 95 is, z))) (λ f z. inl (dating w c xs z)) y) x;
  must = λ w c xs x.
      if_some (On xs) (is_digit c) (figures.Whole (adding w c))
      (λ is y. (digit_less c is, rw (next_is w c (digit_less c is)) y)) x;
}

-- ---- their number

-- the same number, or both are too large
abbrev pub Close : ℕ → ℕ → Type 0
Close a b = (a ≡ b) ⊎ ((9223372036854775808 < a) × (9223372036854775808 < b))

close_next : (a b c : ℕ) → Close a b → digit_value c < 10
    → Close (if c == 95 then a else next_digit a c) (b * 10 + digit_value c)
close_next a b c close less =
    let range = digit_from_value c less in
    let is = digit_value_digit c range in grind (arith, nat_tests, close, range, is)

pub value_close : (must : Bool) (ds : List ℕ) (w : Whole) (b : ℕ) → GoesOn 10 must ds
    → Close w.value b
    → Close (passed next_whole w ds).value (digits_value_after 10 b (kept ds))
value_close must [] w b g close = close
value_close must (c ∷ ds) w b (inl (less, g)) close =
    rw (kept_digit 10 c ds (omega arith) less) (value_close false ds (next_whole w c)
    (b * 10 + digit_value c) g (close_next w.value b c close less))
value_close must (c ∷ ds) w b (inr (is, ready, g)) close =
    let P : ℕ → Type 0 = λ n.
    Close (passed next_whole w (n ∷ ds)).value (digits_value_after 10 b (kept (n ∷ ds))) in
    subst P (sym is) (rw (kept_mark ds) (value_close true ds (next_whole w 95) b g close))

pub same_sign : (ds : List ℕ) (w : Whole) → (passed next_whole w ds).negative ≡ w.negative
same_sign [] w = refl
same_sign (c ∷ ds) w = same_sign ds (next_whole w c)

abbrev pub AllDigits : List ℕ → Type 0
AllDigits [] = ⊤
AllDigits (c ∷ ds) = (digit_value c < 10) × AllDigits ds

-- fewer than five have no underscore
pub counted : (must : Bool) (ds : List ℕ) (w : Whole) → GoesOn 10 must ds
    → (passed next_whole w ds).digits ≤ 4
    → AllDigits ds × ((passed next_whole w ds).digits ≡ w.digits + length ds)
counted must [] w g few = (tt, omega arith)
counted must (c ∷ ds) w (inl (less, g)) few =
    let (all, e) = counted false ds (next_whole w c) g few in
    let n = next_is w c less in ((less, all), grind (arith, nat_tests, e, few, n))
counted must (c ∷ ds) w (inr (is, ready, g)) few =
    let (all, e) = counted true ds (next_whole w c) g few in
    absurd (grind (arith, nat_tests, e, few, is))

abbrev pub added : Whole → List ℕ → Whole
added w [] = w
added w (c ∷ ds) = added (adding w c) ds

pub adds : (ds : List ℕ) (w : Whole) → AllDigits ds → passed next_whole w ds ≡ added w ds
adds [] w all = refl
adds (c ∷ ds) w (less, all) =
    ap (λ v. passed next_whole v ds) (next_is w c less) ∙ adds ds (adding w c) all
