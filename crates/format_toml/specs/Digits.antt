-- Digits with underscores between them: what is written, and how they continue in a loop.
use Rattle.std.proofs.lemmas.List.{take-append-drop}
use Rattle.std.specs.Char.{digit_value}
use native.Mathlib.Nat.{le-mul_of_pos_right}
use Rattle.std.specs.List.{All, filter}
use Rattle.std.specs.Str.Parse.{digits_value, digits_value_after}
use Rattle.std.specs.Prelude.{◌≡◌, ◌⊎◌, ◌<◌, ◌≤◌, ◌↔◌, ◌==◌, ◌+◌, ◌*◌, ℕ, Bool, true}
use Rattle.std.specs.Prelude.{false, not}
use Rattle.std.specs.Prelude.{List, [], ◌∷◌, ◌++◌, length, drop, take, cond}
use Rattle.std.proofs.Common.{refl, sym, ap, subst, inl, inr, ◌∙◌, arith, get_or}
use Rattle.std.proofs.lemmas.Bool.Decides.{nat_tests}
use Rattle.std.proofs.lemmas.List.Elements.{All-cons, All-nil, filter-append, filter_more}
use Rattle.format_toml.specs.Numbers.{DigitsText, NextText, NumberText}
use Rattle.grammars.specs.Texts.{BothText, EachText, EitherText, Spelled, TokenOfText}

pub head_of : {a b : ℕ} {xs ys : List ℕ} → a ∷ xs ≡ b ∷ ys → a ≡ b
head_of e = cc

pub tail_of : {a b : ℕ} {xs ys : List ℕ} → a ∷ xs ≡ b ∷ ys → xs ≡ ys
tail_of e = cc

-- what is not an underscore
abbrev pub kept : List ℕ → List ℕ
kept tokens = filter (λ c. not (c == 95)) tokens

-- Digits of the base, with an underscore before any but the first; if `due`, one must be next.
abbrev pub GoesOn : ℕ → Bool → List ℕ → Type 0
GoesOn base due [] = due ≡ false
GoesOn base due (c ∷ cs) =
    ((digit_value c < base) × GoesOn base false cs)
    ⊎ ((c ≡ 95) × (due ≡ false) × GoesOn base true cs)

kept_other : (c : ℕ) (cs : List ℕ) → (c ≡ 95 → ⊥) → kept (c ∷ cs) ≡ c ∷ kept cs
kept_other c cs other = grind (arith, nat_tests)

pub true_false : true ≡ false → ⊥
true_false e = cc

-- ---- what is written

module _ (base : ℕ) (most : base ≤ 36) where
  pub no_under : (c : ℕ) → digit_value c < base → c ≡ 95 → ⊥
  no_under c is e = let big : digit_value 95 < base = rw e at is in omega arith

  abbrev Kept : Bool → List ℕ → List ℕ → Type 0
  Kept due ds tokens = GoesOn base due tokens × (ds ≡ kept tokens)

  one_more : (due : Bool) (d : ℕ) (ds tokens : List ℕ) → digit_value d < base
      → Kept false ds tokens → Kept due (d ∷ ds) (d ∷ tokens)
  one_more due d ds tokens is (goes, same) =
      (inl (is, goes), ap (λ l. d ∷ l) same ∙ sym (kept_other d tokens (no_under d is)))

  row_goes : (ds tokens : List ℕ) → EachText (NextText base) ds tokens → Kept false ds tokens
  unfolding EachText EitherText TokenOfText BothText Spelled
  row_goes [] tokens e = rw e (refl, refl)
  row_goes (d ∷ ds) tokens (xs, ys, inl (is, x), row, e) =
      let at : tokens ≡ d ∷ ys = cc in rw at (one_more false d ds ys is (row_goes ds ys row))
  row_goes (d ∷ ds) tokens (xs, ys, inr (u, v, us, vs, (a, b), (is, y), x, f), row, e) =
      let at : tokens ≡ 95 ∷ v ∷ ys = cc in
      let (goes, same) = one_more true v ds ys is (row_goes ds ys row) in
      rw (f, at) (inr (refl, refl, goes), same)

  pub digits_goes : (ds tokens : List ℕ) → DigitsText base ds tokens → Kept true ds tokens
  unfolding BothText TokenOfText
  digits_goes ds tokens (d, es, xs, ys, (is, x), row, e, f) =
      let at : tokens ≡ d ∷ ys = cc in rw (f, at) (one_more true d es ys is (row_goes es ys row))

  row_back : (tokens : List ℕ) → GoesOn base false tokens
      → EachText (NextText base) (kept tokens) tokens
  unfolding EachText EitherText TokenOfText BothText Spelled
  row_back [] goes = refl
  row_back (c ∷ cs) (inl (is, goes)) =
      rw (kept_other c cs (no_under c is)) (c ∷ [], cs, inl (is, refl), row_back cs goes, refl)
  row_back (c ∷ []) (inr (e, ready, goes)) = absurd (true_false goes)
  row_back (c ∷ d ∷ ds) (inr (e, ready, inr (f, due, goes))) = absurd (true_false due)
  row_back (c ∷ d ∷ ds) (inr (e, ready, inl (is, goes))) =
      rw (e, kept_other d ds (no_under d is)) (
        95 ∷ d ∷ [],
        ds,
        inr (95, d, 95 ∷ [], d ∷ [], (refl, refl), (is, refl), refl, refl),
        row_back ds goes,
        refl,
      )

  pub digits_back : (tokens : List ℕ) → GoesOn base true tokens
      → DigitsText base (kept tokens) tokens
  unfolding BothText TokenOfText
  digits_back [] goes = absurd (true_false goes)
  digits_back (c ∷ cs) (inl (is, goes)) =
      (c, kept cs, c ∷ [], cs, (is, refl), row_back cs goes, refl, kept_other c cs (no_under c is))
  digits_back (c ∷ cs) (inr (e, ready, goes)) = absurd (true_false ready)

  -- the number that they are
  pub number_goes : (n : ℕ) (tokens : List ℕ) → NumberText base n tokens
      ↔ (GoesOn base true tokens × (n ≡ digits_value base (kept tokens)))
  unfolding NumberText
  number_goes n tokens = (
    λ (ds, x, v). let (goes, same) = digits_goes ds tokens x in
        (goes, v ∙ ap (λ l. digits_value base l) same),
    λ (goes, v). (kept tokens, digits_back tokens goes, v),
  )

-- a property of digits and underscores is one of all the tokens
pub goes_each : {base : ℕ} (P : ℕ → Type 0) → ((c : ℕ) → digit_value c < base → P c) → P 95
    → (due : Bool) (tokens : List ℕ) → GoesOn base due tokens → All P tokens
goes_each P digit under due [] goes = All-nil P
goes_each P digit under due (c ∷ cs) (inl (is, goes)) =
    All-cons P c cs (digit c is) (goes_each P digit under false cs goes)
goes_each P digit under due (c ∷ cs) (inr (e, _, goes)) =
    All-cons P c cs (subst P (sym e) under) (goes_each P digit under true cs goes)

-- ---- their number, so far

after_append : (base m : ℕ) (xs ys : List ℕ) → digits_value_after base m (xs ++ ys)
    ≡ digits_value_after base (digits_value_after base m xs) ys
after_append base m [] ys = refl
after_append base m (x ∷ xs) ys = after_append base (m * base + digit_value x) xs ys

after_most : (base m : ℕ) (ds : List ℕ) → 0 < base → m ≤ digits_value_after base m ds
after_most base m [] some = omega arith
after_most base m (c ∷ cs) some =
    omega (
      arith,
      le-mul_of_pos_right {m = base} m some,
      after_most base (m * base + digit_value c) cs some,
    )

abbrev pub so_far : ℕ → List ℕ → ℕ → ℕ
so_far base text i = digits_value base (kept (take i text))

module _ (base : ℕ) (text : List ℕ) (i : ℕ) where
  pub value_under : i < length text → get_or text i 0 ≡ 95
      → so_far base text (i + 1) ≡ so_far base text i
  value_under less is =
      ap (λ l. digits_value base l) (filter_more (λ c. not (c == 95)) text i 0 less)
      ∙ ap (λ c. digits_value base (kept (take i text) ++ cond (not (c == 95)) (c ∷ []) [])) is
      ∙ after_append base 0 (kept (take i text)) []

  pub value_digit : i < length text → (get_or text i 0 ≡ 95 → ⊥)
      → so_far base text (i + 1) ≡ so_far base text i * base + digit_value (get_or text i 0)
  value_digit less other =
      ap (λ l. digits_value base l) (filter_more (λ c. not (c == 95)) text i 0 less)
      ∙ ap (λ l. digits_value base (kept (take i text) ++ l))
      (kept_other (get_or text i 0) [] other)
      ∙ after_append base 0 (kept (take i text)) (get_or text i 0 ∷ [])

  pub value_most : 0 < base → so_far base text i ≤ digits_value base (kept text)
  value_most some =
      let whole : digits_value base (kept text)
      ≡ digits_value_after base (so_far base text i) (kept (drop i text)) =
      ap (λ l. digits_value base (kept l)) (sym (take-append-drop i text))
      ∙ ap (λ l. digits_value base l)
      (filter-append (λ c. not (c == 95)) (take i text) (drop i text))
      ∙ after_append base 0 (kept (take i text)) (kept (drop i text)) in
      omega (arith, after_most base (so_far base text i) (kept (drop i text)) some)

  pub value_next : {number next : ℕ} → i < length text → (get_or text i 0 ≡ 95 → ⊥)
      → number ≡ so_far base text i → next ≡ number * base + digit_value (get_or text i 0)
      → next ≡ so_far base text (i + 1)
  value_next less other is same =
      same ∙ ap (λ k. k * base + digit_value (get_or text i 0)) is ∙ sym (value_digit less other)
