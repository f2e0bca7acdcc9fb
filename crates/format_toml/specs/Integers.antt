-- Integers, by their first character.
use Rattle.std.specs.Prelude.{◌≡◌, ◌⊎◌, ◌<◌, ◌≤◌, ◌↔◌, ◌^◌, ◌++◌, ℕ, ℤ, zero, pos}
use Rattle.std.specs.Prelude.{neg_ℤ}
use Rattle.std.specs.Prelude.{FitsSigned, List, [], ◌∷◌, Option, Some, None, length}
use Rattle.std.specs.Int.{w64}
use Rattle.std.specs.Option.{SomeIff}
use Rattle.std.proofs.Common.{refl, sym, ap, subst, inl, inr, ◌∙◌, arith}
use Rattle.std.proofs.lemmas.Str.Parse.{digit_from_value}
use Rattle.format_toml.specs.Digits.{head_of, number_goes, tail_of, true_false}
use Rattle.format_toml.specs.Numbers.{AfterZero, AnyIntegerText, BasedText, IntegerText, IsBase}
use Rattle.format_toml.specs.Numbers.{IsIntegerOf, IsNumber, NumberText, UnsignedText}
use Rattle.grammars.specs.Texts.{BothText, EitherText, MadeText, Spelled, Text}

-- a digit is first
pub digit_first : (m c : ℕ) (rest : List ℕ) → UnsignedText m (c ∷ rest) → (48 ≤ c) × (c ≤ 57)
unfolding UnsignedText
digit_first m c rest (number, lone) =
    elim ((number_goes 10 (omega arith) m (c ∷ rest)).0 number).0 [
      | inl (is, _) ↦ digit_from_value c is
      | inr (_, due, _) ↦ absurd (true_false due)
    ]

-- ---- the ways in which an integer is written

abbrev Way : (ℕ → ℤ) → List ℕ → Text ℕ ℕ → ℤ → List ℕ → Type 0
Way sign front text n tokens =
    (m : ℕ) × (rest : List ℕ) × text m rest × (tokens ≡ front ++ rest) × (n ≡ sign m)

abbrev pub Sorted : ℤ → List ℕ → Type 0
Sorted n tokens =
    Way (λ m. pos m) [] UnsignedText n tokens
    ⊎ (Way (λ m. pos m) (43 ∷ []) UnsignedText n tokens
    ⊎ (Way (λ m. neg_ℤ (pos m)) (45 ∷ []) UnsignedText n tokens
    ⊎ Way (λ m. pos m) (48 ∷ []) AfterZero n tokens))

based : (letter base m : ℕ) (tokens : List ℕ) → IsBase letter base → BasedText letter base m tokens
    → (rest : List ℕ) × AfterZero m rest × (tokens ≡ 48 ∷ rest)
unfolding BothText Spelled AfterZero
based letter base m tokens is (o, q, xs, ys, (u, v, us, vs, (_, a), (_, b), x, _), number, e, f) =
    (letter ∷ ys, (letter, base, ys, is, refl, rw f number), cc)

pub sort : (n : ℤ) (tokens : List ℕ) → AnyIntegerText n tokens → Sorted n tokens
unfolding EitherText MadeText BothText Spelled
sort n tokens (inl (inl (m, x, e))) = inl (m, tokens, x, refl, e)
sort n tokens (inl (inr (inl (m, (o, q, xs, ys, (_, a), x, e, f), g)))) =
    inr (inl (m, ys, rw f x, (cc), g))
sort n tokens (inl (inr (inr (m, (o, q, xs, ys, (_, a), x, e, f), g)))) =
    inr (inr (inl (m, ys, rw f x, (cc), g)))
sort n tokens (inr (m, inl x, g)) =
    let (rest, y, e) =
    based 120 16 m tokens (inl (refl, refl)) x in inr (inr (inr (m, rest, y, e, g)))
sort n tokens (inr (m, inr (inl x), g)) =
    let (rest, y, e) = based 111 8 m tokens (inr (inl (refl, refl))) x in
    inr (inr (inr (m, rest, y, e, g)))
sort n tokens (inr (m, inr (inr x), g)) =
    let (rest, y, e) = based 98 2 m tokens (inr (inr (refl, refl))) x in
    inr (inr (inr (m, rest, y, e, g)))

based_back : (letter base m : ℕ) (rest : List ℕ) → NumberText base m rest
    → BasedText letter base m (48 ∷ letter ∷ rest)
unfolding BothText Spelled
based_back letter base m rest number =
    let zero_and : BothText (λ a b. b) (Spelled (48 ∷ []) 48) (Spelled (letter ∷ []) letter) letter
    (48 ∷ letter ∷ []) =
    (48, letter, 48 ∷ [], letter ∷ [], (refl, refl), (refl, refl), refl, refl) in
    (letter, m, 48 ∷ letter ∷ [], rest, zero_and, number, refl, refl)

pub unsort : (n : ℤ) (tokens : List ℕ) → Sorted n tokens → AnyIntegerText n tokens
unfolding EitherText MadeText BothText Spelled AfterZero
unsort n tokens (inl (m, rest, x, e, g)) = inl (inl (m, rw e x, g))
unsort n tokens (inr (inl (m, rest, x, e, g))) =
    inl (inr (inl (m, (43, m, 43 ∷ [], rest, (refl, refl), x, e, refl), g)))
unsort n tokens (inr (inr (inl (m, rest, x, e, g)))) =
    inl (inr (inr (m, (45, m, 45 ∷ [], rest, (refl, refl), x, e, refl), g)))
unsort n tokens (inr (inr (inr (m, rest, (letter, base, ds, inl (a, b), f, x), e, g)))) =
    inr (m, rw (e, f, a) (inl (based_back 120 16 m ds (rw b at x))), g)
unsort n tokens (inr (inr (inr (m, rest, (letter, base, ds, inr (inl (a, b)), f, x), e, g)))) =
    inr (m, rw (e, f, a) (inr (inl (based_back 111 8 m ds (rw b at x)))), g)
unsort n tokens (inr (inr (inr (m, rest, (letter, base, ds, inr (inr (a, b)), f, x), e, g)))) =
    inr (m, rw (e, f, a) (inr (inr (based_back 98 2 m ds (rw b at x)))), g)

-- ---- integers that are, after their first character or none, a number

pub record Reduces (sign : ℕ → ℤ) (text : Text ℕ ℕ) (tail tokens : List ℕ) : Type 0 where
  pub same : (n : ℤ) → AnyIntegerText n tokens ↔ ((m : ℕ) × text m tail × (n ≡ sign m))

module _ {tokens rest : List ℕ} {c : ℕ} (is : tokens ≡ c ∷ rest) where
  -- the other ways begin with another character
  other : {P : Type 0} (sign : ℕ → ℤ) (text : Text ℕ ℕ) (n : ℤ) (d : ℕ) → (c ≡ d → ⊥)
      → Way sign (d ∷ []) text n tokens → P
  other sign text n d apart (m, ys, x, e, g) = absurd (apart (head_of (sym is ∙ e)))

  this : (sign : ℕ → ℤ) (text : Text ℕ ℕ) (n : ℤ) (d : ℕ) → Way sign (d ∷ []) text n tokens
      → (m : ℕ) × text m rest × (n ≡ sign m)
  this sign text n d (m, ys, x, e, g) =
      (m, subst (λ l. text m l) (sym (tail_of (sym is ∙ e))) x, g)

  no_digit : {P : Type 0} (n : ℤ) → (c < 48) → Way (λ m. pos m) [] UnsignedText n tokens → P
  no_digit n less (m, ys, x, e, g) =
      let first = digit_first m c rest (subst (λ l. UnsignedText m l) (sym e ∙ is) x) in
      absurd (omega (arith, first))

  -- one way by its first character, where the others do not fit
  headed : (sign : ℕ → ℤ) (text : Text ℕ ℕ) (d : ℕ) → c ≡ d
      → ((n : ℤ) → Way sign (d ∷ []) text n tokens → Sorted n tokens)
      → ((n : ℤ) → Sorted n tokens → Way sign (d ∷ []) text n tokens)
      → Reduces sign text rest tokens
  headed sign text d e into only = record {
    same = λ n. (
      λ x. this sign text n d (only n (sort n tokens x)),
      λ (m, x, g). unsort n tokens (into n (m, rest, x, is ∙ ap (λ k. k ∷ rest) e, g)),
    );
  }

  pub plus : c ≡ 43 → Reduces (λ m. pos m) UnsignedText rest tokens
  plus e = headed (λ m. pos m) UnsignedText 43 e (λ n x. inr (inl x)) (λ n x. elim x [
    | inl y ↦ no_digit n (omega arith) y
    | inr (inl y) ↦ y
    | inr (inr (inl y)) ↦ other _ _ n 45 (λ f. omega arith) y
    | inr (inr (inr y)) ↦ other _ _ n 48 (λ f. omega arith) y
  ])

  pub minus : c ≡ 45 → Reduces (λ m. neg_ℤ (pos m)) UnsignedText rest tokens
  minus e = headed (λ m. neg_ℤ (pos m)) UnsignedText 45 e (λ n x. inr (inr (inl x)))
      (λ n x. elim x [
        | inl y ↦ no_digit n (omega arith) y
        | inr (inl y) ↦ other _ _ n 43 (λ f. omega arith) y
        | inr (inr (inl y)) ↦ y
        | inr (inr (inr y)) ↦ other _ _ n 48 (λ f. omega arith) y
      ])

  pub zeroed : c ≡ 48 → 1 < length tokens → Reduces (λ m. pos m) AfterZero rest tokens
  unfolding UnsignedText
  zeroed e more = headed (λ m. pos m) AfterZero 48 e (λ n x. inr (inr (inr x))) (λ n x. elim x [
    | inl (m, ys, (number, lone), f, g) ↦
        let none = lone rest (sym f ∙ is ∙ ap (λ k. k ∷ rest) e) in
        absurd (omega (arith, ap (λ l. length l) is, ap (λ l. length l) none))
    | inr (inl y) ↦ other _ _ n 43 (λ f. omega arith) y
    | inr (inr (inl y)) ↦ other _ _ n 45 (λ f. omega arith) y
    | inr (inr (inr y)) ↦ y
  ])

  pub plain : (c ≡ 43 → ⊥) → (c ≡ 45 → ⊥) → (c ≡ 48 → length tokens ≤ 1)
      → Reduces (λ m. pos m) UnsignedText tokens tokens
  unfolding AfterZero
  plain no_plus no_minus lone = record {
    same = λ n. (
      λ x. from n (sort n tokens x),
      λ (m, x, g). unsort n tokens (inl (m, tokens, x, refl, g)),
    );
  }
    where
      from : (n : ℤ) → Sorted n tokens → (m : ℕ) × UnsignedText m tokens × (n ≡ pos m)
      from n (inl (m, ys, x, e, g)) = (m, rw e x, g)
      from n (inr (inl x)) = other _ _ n 43 no_plus x
      from n (inr (inr (inl x))) = other _ _ n 45 no_minus x
      from n (inr (inr (inr (m, ys, (letter, base, ds, b, f, x), e, g)))) =
          let more : tokens ≡ 48 ∷ letter ∷ ds = cc in
          absurd (omega (arith, lone (head_of (sym is ∙ e)), ap (λ l. length l) more))

-- ---- the result

module _ {sign : ℕ → ℤ} {text : Text ℕ ℕ} {tail tokens : List ℕ}
    (small : (m : ℕ) → FitsSigned w64 (sign m) → m < 2 ^ 64)
    (reduces : Reduces sign text tail tokens) where
  -- of this number and this sign
  pub by_sign : {x : ℤ} (m : ℕ) (result : Option ℤ) → IsNumber text tail (Some m)
      → SomeIff result (FitsSigned w64 x) x → x ≡ sign m → IsIntegerOf tokens result
  unfolding IsNumber IsIntegerOf IntegerText
  by_sign m None (is, only) past same = λ n (y, fits).
      let (k, other, e) = (reduces.same n).0 y in
      past (rw (same, ← only k other, ← e) fits)
  by_sign m (Some z) (is, only) (fits, e) same =
      ((reduces.same z).1 (m, is, e ∙ same), rw e fits)

-- ---- after a zero

pub by_letter : {letter base : ℕ} {text rest : List ℕ} (result : Option ℕ) → IsBase letter base
    → text ≡ letter ∷ rest → IsNumber (NumberText base) rest result
    → IsNumber AfterZero text result
unfolding IsNumber AfterZero
by_letter {letter} {base} {text} {rest} result base_is is number = by result number
  where
    same : (m : ℕ) → AfterZero m text → NumberText base m rest
    same m (l, b, ys, other, e, y) =
        let first : l ≡ letter = cc in
        let one : base ≡ b = omega arith in
        let left : rest ≡ ys = cc in
        rw (one, left) y

    by : (result : Option ℕ) → IsNumber (NumberText base) rest result
        → IsNumber AfterZero text result
    by None none = λ m x small. none m (same m x) small
    by (Some n) (x, only) = ((letter, base, rest, base_is, is, x), λ m y. only m (same m y))

pub by_no_letter : {text rest : List ℕ} {letter : ℕ} → text ≡ letter ∷ rest
    → ((base : ℕ) → IsBase letter base → ⊥) → IsNumber AfterZero text None
unfolding IsNumber AfterZero
by_no_letter is never m (l, b, ys, other, e, y) small =
    never b (subst (λ k. IsBase k b) (head_of (sym e ∙ is)) other)
