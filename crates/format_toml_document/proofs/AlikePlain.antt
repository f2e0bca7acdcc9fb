-- Numbers, dates and times of the same bytes are equivalent: no bytes are an integer and a float,
-- or a number and a date.
use Rattle.std.specs.Prelude.{◌≡◌, ◌⊎◌, ◌≤◌, ℕ, ℤ, List, [], ◌∷◌, ◌++◌, length}
use Rattle.std.specs.Prelude.{None, Option, true}
use Rattle.std.specs.List.{All}
use Rattle.std.proofs.Common.{refl, sym, ap, subst, inl, inr, ◌∙◌, arith}
use Rattle.std.proofs.lemmas.List.Elements.{All-tail}
use Rattle.std.proofs.lemmas.Str.Parse.{digit_from_value}
use Rattle.format_toml.specs.DateFronts.{date_begins}
use Rattle.format_toml.specs.Digits.{goes_each, head_of, number_goes, tail_of, true_false}
use Rattle.format_toml.specs.FloatCuts.{digits_each}
use Rattle.format_toml.specs.Floats.{FloatText, IsDecimal, IsFloat, IsLetterE, IsMagnitude}
use Rattle.format_toml.specs.Floats.{IsScientific, IsSign, IsWhole, Signed, Unsigned}
use Rattle.format_toml.specs.Integers.{Reduces, Sorted, digit_first, minus, plain, plus, sort}
use Rattle.format_toml.specs.Integers.{zeroed}
use Rattle.format_toml.specs.Numbers.{AfterZero, AnyIntegerText, IntegerText, IsBase, NumberText}
use Rattle.format_toml.specs.Numbers.{UnsignedText}
use Rattle.format_toml.specs.Toml.{PlainText}
use Rattle.format_toml_document.proofs.AlikeDates.{dates_alike}
use Rattle.format_toml_document.specs.Alike.{AreAlikeSingles}
use Rattle.format_toml_tree.specs.Dates.{Clock, FourDigits, FullDate, InTurn, IsAlone, IsDateTime}
use Rattle.format_toml_tree.specs.Dates.{IsDigit, IsTimed, Marked, TimeText, TwoDigits}
use Rattle.format_toml_tree.specs.declared.value.Date.{Date}
use Rattle.format_toml_tree.specs.declared.value.DateTime.{DateTime}
use Rattle.format_toml_tree.specs.declared.value.Value.{Value}
use Rattle.format_toml_tree.specs.declared.value.Value as values
use Rattle.grammars.specs.Texts.{EitherText, MadeText, StartsWith, Text}

-- ---- an integer has one value

number_one : (base n m : ℕ) (tokens : List ℕ) → base ≤ 36 → NumberText base n tokens
    → NumberText base m tokens → n ≡ m
number_one base n m tokens most x y =
    ((number_goes base most n tokens).0 x).1 ∙ sym ((number_goes base most m tokens).0 y).1

unsigned_one : (n m : ℕ) (tokens : List ℕ) → UnsignedText n tokens → UnsignedText m tokens → n ≡ m
unfolding UnsignedText
unsigned_one n m tokens (x, lone) (y, also) = number_one 10 n m tokens (omega arith) x y

after_one : (n m : ℕ) (tokens : List ℕ) → AfterZero n tokens → AfterZero m tokens → n ≡ m
unfolding AfterZero
after_one n m tokens (letter, base, rest, is, e, x) (other, scale, more, was, f, y) =
    let first : letter ≡ other = head_of (sym e ∙ f) in
    let same : scale ≡ base = omega (arith, first, is, was) in
    let Q : ℕ → Type 0 = λ b. NumberText b m rest in
    let P : List ℕ → Type 0 = λ l. NumberText scale m l in
    number_one base n m rest (omega (arith, is)) x
    (subst Q same (subst P (sym (tail_of (sym e ∙ f))) y))

module _ {sign : ℕ → ℤ} {text : Text ℕ ℕ} {tail tokens : List ℕ}
    (one : (k j : ℕ) → text k tail → text j tail → k ≡ j)
    (reduces : Reduces sign text tail tokens) where
  one_by : (n m : ℤ) → AnyIntegerText n tokens → AnyIntegerText m tokens → n ≡ m
  one_by n m x y =
      let (k, u, e) = (reduces.same n).0 x in
      let (j, v, f) = (reduces.same m).0 y in
      e ∙ ap sign (one k j u v) ∙ sym f

-- the first character of digits
unsigned_head : (n : ℕ) (tokens : List ℕ) → UnsignedText n tokens
    → (c : ℕ) × (rest : List ℕ) × (tokens ≡ c ∷ rest) × (48 ≤ c) × (c ≤ 57)
    × (c ≡ 48 → length tokens ≤ 1)
unfolding UnsignedText
unsigned_head n [] (x, lone) = absurd (true_false ((number_goes 10 (omega arith) n []).0 x).0)
unsigned_head n (c ∷ cs) (x, lone) =
    let (low, high) = digit_first n c cs (x, lone) in
    (c, cs, refl, low, high, λ e. omega (arith, ap (λ l. length l) (lone cs (ap (λ k. k ∷ cs) e))))

one_sorted : (n m : ℤ) (tokens : List ℕ) → Sorted n tokens → AnyIntegerText n tokens
    → AnyIntegerText m tokens → n ≡ m
unfolding AfterZero
one_sorted n m tokens (inl (k, ys, u, e, g)) x y =
    let P : List ℕ → Type 0 = λ l. UnsignedText k l in
    let (c, rest, f, low, high, lone) = unsigned_head k tokens (subst P (sym e) u) in
    one_by (λ a b v w. unsigned_one a b tokens v w)
    (plain f (λ h. omega arith) (λ h. omega arith) lone) n m x y
one_sorted n m tokens (inr (inl (k, ys, u, e, g))) x y =
    one_by (λ a b v w. unsigned_one a b ys v w) (plus e refl) n m x y
one_sorted n m tokens (inr (inr (inl (k, ys, u, e, g)))) x y =
    one_by (λ a b v w. unsigned_one a b ys v w) (minus e refl) n m x y
one_sorted n m tokens (inr (inr (inr (k, ys, (l, base, rest, is, f, u), e, g)))) x y =
    one_by (λ a b v w. after_one a b ys v w)
    (zeroed e refl (omega (arith, ap (λ q. length q) e, ap (λ q. length q) f))) n m x y

integer_one : (n m : ℤ) (tokens : List ℕ) → IntegerText n tokens → IntegerText m tokens → n ≡ m
unfolding IntegerText
integer_one n m tokens (x, fits) (y, also) = one_sorted n m tokens (sort n tokens x) x y

-- ---- the first character that is neither a digit nor an underscore

abbrev IsFigure : ℕ → Type 0
IsFigure c = IsDigit c ⊎ (c ≡ 95)

-- there is one, and it is one of these
abbrev Stops : (ℕ → Type 0) → List ℕ → Type 0
Stops these [] = ⊥
Stops these (c ∷ cs) = (IsFigure c × Stops these cs) ⊎ (these c × (IsFigure c → ⊥))

-- it is one
apart : {P : Type 0} (these those : ℕ → Type 0) → ((c : ℕ) → these c → those c → ⊥)
    → (tokens : List ℕ) → Stops these tokens → Stops those tokens → P
apart these those not [] x y = absurd x
apart these those not (c ∷ cs) (inl (f, x)) (inl (g, y)) = apart these those not cs x y
apart these those not (c ∷ cs) (inl (f, x)) (inr (t, n)) = absurd (n f)
apart these those not (c ∷ cs) (inr (t, n)) (inl (g, y)) = absurd (n g)
apart these those not (c ∷ cs) (inr (t, n)) (inr (u, m)) = absurd (not c t u)

all_apart : {P : Type 0} (these : ℕ → Type 0) (tokens : List ℕ) → All IsFigure tokens
    → Stops these tokens → P
all_apart these [] all x = absurd x
all_apart these (c ∷ cs) all (inl (f, x)) =
    all_apart these cs (All-tail IsFigure c cs all) x
all_apart these (c ∷ cs) all (inr (t, n)) = absurd (n (all 0 c (omega arith)))

stops_after : (these : ℕ → Type 0) (xs tail : List ℕ) → All IsFigure xs → Stops these tail
    → Stops these (xs ++ tail)
stops_after these [] tail all x = x
stops_after these (c ∷ cs) tail all x =
    inl (all 0 c (omega arith), stops_after these cs tail (All-tail IsFigure c cs all) x)

stops_before : (these : ℕ → Type 0) (xs tail : List ℕ) → Stops these xs → Stops these (xs ++ tail)
stops_before these [] tail x = absurd x
stops_before these (c ∷ cs) tail (inl (f, x)) = inl (f, stops_before these cs tail x)
stops_before these (c ∷ cs) tail (inr stop) = inr stop

-- ---- floats

-- a point, the letter e, or the first of `inf` or `nan`
abbrev IsFloatMark : ℕ → Type 0
IsFloatMark c = (c ≡ 46) ⊎ ((c ≡ 101) ⊎ ((c ≡ 69) ⊎ ((c ≡ 105) ⊎ (c ≡ 110))))

whole_figures : (tokens : List ℕ) → IsWhole tokens → All IsFigure tokens
unfolding IsWhole
whole_figures tokens (x, lone) = digits_each IsFigure (λ c is. inl is) (inr refl) tokens x

decimal_stops : (tokens : List ℕ) → IsDecimal tokens → Stops IsFloatMark tokens
unfolding IsDecimal
decimal_stops tokens (whole, digits, w, d, e) =
    let P : List ℕ → Type 0 = λ l. Stops IsFloatMark l in
    subst P (sym e) (stops_after IsFloatMark whole (46 ∷ digits) (whole_figures whole w)
    (inr (inl refl, λ f. omega (arith, f))))

magnitude_stops : (tokens : List ℕ) → IsMagnitude tokens → Stops IsFloatMark tokens
unfolding IsScientific
magnitude_stops tokens (inl x) = decimal_stops tokens x
magnitude_stops tokens (inr (number, letter, power, inl w, l, p, e)) =
    let P : List ℕ → Type 0 = λ l. Stops IsFloatMark l in
    subst P (sym e) (stops_after IsFloatMark number (letter ∷ power) (whole_figures number w)
    (inr (marks letter l, λ f. omega (arith, f, l))))
  where
    marks : (c : ℕ) → IsLetterE c → IsFloatMark c
    marks c (inl is) = inr (inl is)
    marks c (inr is) = inr (inr (inl is))
magnitude_stops tokens (inr (number, letter, power, inr d, l, p, e)) =
    let P : List ℕ → Type 0 = λ l. Stops IsFloatMark l in
    subst P (sym e)
    (stops_before IsFloatMark number (letter ∷ power) (decimal_stops number d))

unsigned_stops : (tokens : List ℕ) → Unsigned tokens → Stops IsFloatMark tokens
unsigned_stops tokens (inl e) =
    let P : List ℕ → Type 0 = λ l. Stops IsFloatMark l in
    subst P (sym e) (inr (inr (inr (inr (inl refl))), λ f. omega (arith, f)))
unsigned_stops tokens (inr (inl e)) =
    let P : List ℕ → Type 0 = λ l. Stops IsFloatMark l in
    subst P (sym e) (inr (inr (inr (inr (inr refl))), λ f. omega (arith, f)))
unsigned_stops tokens (inr (inr m)) = magnitude_stops tokens m

-- ---- dates and times

-- a hyphen or a colon
abbrev IsDateMark : ℕ → Type 0
IsDateMark c = (c ≡ 45) ⊎ (c ≡ 58)

two_stops : (tokens : List ℕ) (n : ℕ) (rest : List ℕ) → TwoDigits tokens n rest
    → Stops IsDateMark rest → Stops IsDateMark tokens
unfolding TwoDigits
two_stops tokens n rest (s, t, c, d, tens, ones, e, is) x =
    let P : List ℕ → Type 0 = λ l. Stops IsDateMark l in
    subst P (sym e) (inl (inl (omega (arith, tens)), inl (inl (omega (arith, ones)), x)))

marked_stops : (mark : ℕ) → IsDateMark mark → (tokens : List ℕ) (n : ℕ) (rest : List ℕ)
    → Marked mark tokens n rest → Stops IsDateMark tokens
unfolding Marked
marked_stops mark is tokens n rest (mid, e, two) =
    let P : List ℕ → Type 0 = λ l. Stops IsDateMark l in
    subst P (sym e) (inr (is, λ f. omega (arith, f, is)))

timed_stops : (clock : ℕ × ℕ × ℕ) (digits : List ℕ) (o : Option _) (tokens : List ℕ)
    → IsTimed clock digits o tokens → Stops IsDateMark tokens
unfolding IsTimed Clock InTurn
timed_stops clock digits o tokens (a, b, ((c, d, h, m, s), hours, minutes, seconds), f, end) =
    two_stops tokens clock.0 c h (marked_stops 58 (inr refl) c clock.1 d m)

date_stops : (tokens rest : List ℕ) (date : Date) → FullDate tokens date rest
    → Stops IsDateMark tokens
unfolding FullDate InTurn FourDigits
date_stops tokens rest date ((a, b, (h, l, mid, x, y, is), m, d), least, most) =
    two_stops tokens h mid x
    (two_stops mid l a y (marked_stops 45 (inl refl) a date.month b m))

module _ {A : Type 0} where
  moment_stops : (d : DateTime A) (tokens : List ℕ) → IsDateTime d tokens
      → Stops IsDateMark tokens
  unfolding IsDateTime IsAlone TimeText
  moment_stops d tokens (inl (date, rest, full, behind)) = date_stops tokens rest date full
  moment_stops d tokens (inr (time, e, (clock, digits, t, x))) =
      timed_stops clock digits None tokens x

-- ---- no integer is a float or a date, and no float is a date

-- the letter of a base
abbrev IsBaseMark : ℕ → Type 0
IsBaseMark c = (c ≡ 120) ⊎ ((c ≡ 111) ⊎ (c ≡ 98))

-- digits, or digits after a sign, or digits after a zero and a letter
abbrev Shape : List ℕ → Type 0
Shape tokens =
    All IsFigure tokens ⊎ (Stops IsBaseMark tokens
    ⊎ ((c : ℕ) × (rest : List ℕ) × IsSign c × (tokens ≡ c ∷ rest) × All IsFigure rest))

unsigned_figures : (n : ℕ) (tokens : List ℕ) → UnsignedText n tokens → All IsFigure tokens
unfolding UnsignedText
unsigned_figures n tokens (x, lone) =
    goes_each IsFigure (λ c is. inl (digit_from_value c is)) (inr refl) true tokens
    ((number_goes 10 (omega arith) n tokens).0 x).0

shape_of : (n : ℤ) (tokens : List ℕ) → Sorted n tokens → Shape tokens
unfolding AfterZero
shape_of n tokens (inl (k, ys, u, e, g)) =
    let P : List ℕ → Type 0 = λ l. All IsFigure l in
    inl (subst P (sym e) (unsigned_figures k ys u))
shape_of n tokens (inr (inl (k, ys, u, e, g))) =
    inr (inr (43, ys, inr refl, e, unsigned_figures k ys u))
shape_of n tokens (inr (inr (inl (k, ys, u, e, g)))) =
    inr (inr (45, ys, inl refl, e, unsigned_figures k ys u))
shape_of n tokens (inr (inr (inr (k, ys, (l, base, rest, is, f, u), e, g)))) =
    let P : List ℕ → Type 0 = λ m. Stops IsBaseMark m in
    let mark : IsBaseMark l = letter is in
    inr (inl (subst P (sym (e ∙ ap (λ m. 48 ∷ m) f))
    (inl (inl (omega arith), inr (mark, λ h. omega (arith, h, mark))))))
  where
    letter : {l base : ℕ} → IsBase l base → IsBaseMark l
    letter (inl (is, b)) = inl is
    letter (inr (inl (is, b))) = inr (inl is)
    letter (inr (inr (is, b))) = inr (inr is)

integer_shape : (n : ℤ) (tokens : List ℕ) → IntegerText n tokens → Shape tokens
unfolding IntegerText
integer_shape n tokens (x, fits) = shape_of n tokens (sort n tokens x)

sign_stops : (c : ℕ) (tokens rest : List ℕ) → IsSign c → tokens ≡ c ∷ rest → Stops IsSign tokens
sign_stops c tokens rest is e =
    let P : List ℕ → Type 0 = λ l. Stops IsSign l in
    subst P (sym e) (inr (is, λ f. omega (arith, f, is)))

no_sign : {P : Type 0} (c : ℕ) (tokens rest : List ℕ) → IsSign c → tokens ≡ c ∷ rest
    → StartsWith IsDigit tokens → P
no_sign c tokens rest is e begins =
    let Q : List ℕ → Type 0 = λ l. StartsWith IsDigit l in
    let digit : IsDigit c = subst Q e begins in absurd (omega (arith, digit, is))

no_float : {P : Type 0} (tokens : List ℕ) → Shape tokens → IsFloat tokens → P
unfolding Signed
no_float tokens (inl all) (inl x) = all_apart IsFloatMark tokens all (unsigned_stops tokens x)
no_float tokens (inl all) (inr (c, rest, s, e, x)) =
    all_apart IsSign tokens all (sign_stops c tokens rest s e)
no_float tokens (inr (inl b)) (inl x) =
    apart IsBaseMark IsFloatMark (λ c t u. omega (arith, t, u)) tokens b (unsigned_stops tokens x)
no_float tokens (inr (inl b)) (inr (c, rest, s, e, x)) =
    apart IsBaseMark IsSign (λ c t u. omega (arith, t, u)) tokens b (sign_stops c tokens rest s e)
no_float tokens (inr (inr (c, rest, s, e, all))) (inl x) =
    apart IsSign IsFloatMark (λ c t u. omega (arith, t, u)) tokens (sign_stops c tokens rest s e)
    (unsigned_stops tokens x)
no_float tokens (inr (inr (c, rest, s, e, all))) (inr (d, more, t, f, x)) =
    let P : List ℕ → Type 0 = λ l. Stops IsFloatMark l in
    all_apart IsFloatMark rest all
    (subst P (sym (tail_of (sym e ∙ f))) (unsigned_stops more x))

no_date : {P : Type 0} (tokens : List ℕ) → Shape tokens → StartsWith IsDigit tokens
    → Stops IsDateMark tokens → P
no_date tokens (inl all) begins x = all_apart IsDateMark tokens all x
no_date tokens (inr (inl b)) begins x =
    apart IsBaseMark IsDateMark (λ c t u. omega (arith, t, u)) tokens b x
no_date tokens (inr (inr (c, rest, s, e, all))) begins x = no_sign c tokens rest s e begins

float_or_date : {P : Type 0} (tokens : List ℕ) → IsFloat tokens → StartsWith IsDigit tokens
    → Stops IsDateMark tokens → P
unfolding Signed
float_or_date tokens (inl x) begins y =
    apart IsFloatMark IsDateMark (λ c t u. omega (arith, t, u)) tokens (unsigned_stops tokens x) y
float_or_date tokens (inr (c, rest, s, e, x)) begins y = no_sign c tokens rest s e begins

-- ---- values without quotes

module _ {A : Type 0} where
  pub plain_alike : (v w : Value A) (tokens : List ℕ) → PlainText v tokens → PlainText w tokens
      → (v ≡ w) ⊎ AreAlikeSingles v w
  unfolding EitherText MadeText FloatText
  plain_alike v w tokens (inl (n, x, e)) (inl (m, y, f)) =
      inl (e ∙ ap (λ z. values.Integer z) (integer_one n m tokens x y) ∙ sym f)
  plain_alike v w tokens (inl (n, x, e)) (inr (inl (f, (y, b), g))) =
      no_float tokens (integer_shape n tokens x) y
  plain_alike v w tokens (inl (n, x, e)) (inr (inr (d, y, f))) =
      no_date tokens (integer_shape n tokens x) (date_begins d tokens y) (moment_stops d tokens y)
  plain_alike v w tokens (inr (inl (f, (x, b), e))) (inl (n, y, g)) =
      no_float tokens (integer_shape n tokens y) x
  plain_alike v w tokens (inr (inl (f, (x, b), e))) (inr (inl (g, (y, c), h))) =
      inr (inr (inl (f, g, e, h, b ∙ sym c)))
  plain_alike v w tokens (inr (inl (f, (x, b), e))) (inr (inr (d, y, g))) =
      float_or_date tokens x (date_begins d tokens y) (moment_stops d tokens y)
  plain_alike v w tokens (inr (inr (d, x, e))) (inl (n, y, f)) =
      no_date tokens (integer_shape n tokens y) (date_begins d tokens x) (moment_stops d tokens x)
  plain_alike v w tokens (inr (inr (d, x, e))) (inr (inl (f, (y, b), g))) =
      float_or_date tokens y (date_begins d tokens x) (moment_stops d tokens x)
  plain_alike v w tokens (inr (inr (c, x, e))) (inr (inr (d, y, f))) =
      inr (inr (inr (c, d, e, f, dates_alike c d tokens x y)))
