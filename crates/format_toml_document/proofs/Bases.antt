-- Integers of other bases: the walk accepts those of the grammar, and no others.
use Rattle.std.specs.Char.{digit_value}
use Rattle.std.specs.Str.Parse.{digits_value, digits_value_after}
use Rattle.std.specs.Prelude.{◌≡◌, ◌≤◌, ◌<◌, ◌+◌, ◌*◌, ◌==◌, ◌↔◌, ℕ, Bool, true, false, []}
use Rattle.std.specs.Prelude.{List, ◌∷◌, Option, Some, None, nat_lt, if◌then◌else◌}
use Rattle.std.proofs.Common.{refl, sym, ap, subst, inl, inr, ◌∙◌, arith}
use Rattle.std.proofs.lemmas.Bool.{lt-ltb}
use Rattle.std.proofs.lemmas.Bool.Decides.{nat_tests}
use Rattle.std.proofs.lemmas.Str.{digit_value_digit}
use Rattle.std.proofs.lemmas.Str.Parse.{digit_from_value}
use Rattle.format_toml.specs.Digits.{GoesOn, kept, no_under, number_goes}
use Rattle.format_toml.specs.Numbers.{NumberText}
use Rattle.format_toml_errors.specs.Accepted.{true_not_false}
use Rattle.format_toml_errors.specs.Figures.{base_step, based_digit, based_if, figure_if, limit_of}
use Rattle.format_toml_errors.specs.declared.figures.Base.{Base}
use Rattle.format_toml_errors.specs.declared.figures.Base.TheVariants as bases
use Rattle.format_toml_errors.specs.declared.figures.Figure.TheVariants as figures
use Rattle.format_toml_document.proofs.Decimals.{On, kept_digit, kept_mark}
use Rattle.format_toml_document.proofs.Figures.{AfterFigure, Figures, Rows, bare_made, bare_read}
use Rattle.format_toml_document.proofs.Figures.{goes, if_figure, if_some, passed, row_read}
use Rattle.format_toml_document.proofs.Thens.{equal}

abbrev pub base_of : Base → ℕ
base_of bases.Hex = 16
base_of bases.Octal = 8
base_of bases.Binary = 2

abbrev pub letter_of : Base → ℕ
letter_of bases.Hex = 120
letter_of bases.Octal = 111
letter_of bases.Binary = 98

most : (base : Base) → base_of base ≤ 36
most bases.Hex = omega arith
most bases.Octal = omega arith
most bases.Binary = omega arith

-- ---- a digit

-- a digit of the base may follow a number, and they are below 2 ^ 63
abbrev Read : Base → ℕ → ℕ → Type 0
Read base v c =
    (digit_value c < base_of base) × (v * base_of base + digit_value c < 9223372036854775808)

digit_read : (base : Base) (v c n : ℕ) → based_digit base v c ≡ Some n
    → Read base v c × (n ≡ v * base_of base + digit_value c)
digit_read bases.Hex v c n e =
    let less : digit_value c < 16 = grind (arith, nat_tests, e) in
    let few : v < 576460752303423488 = grind (arith, nat_tests, e) in
    let is : n ≡ v * 16 + digit_value c = grind (arith, nat_tests, e) in
    ((less, omega (arith, less, few)), is)
digit_read bases.Octal v c n e =
    let range : (48 ≤ c) × (c ≤ 55) = grind (arith, nat_tests, e) in
    let few : v < 1152921504606846976 = grind (arith, nat_tests, e) in
    let is = digit_value_digit c (range.0, omega (arith, range)) in
    let same : n ≡ v * 8 + digit_value c = grind (arith, nat_tests, e, is) in
    ((omega (arith, is, range), omega (arith, is, range, few)), same)
digit_read bases.Binary v c n e =
    let range : (48 ≤ c) × (c ≤ 49) = grind (arith, nat_tests, e) in
    let few : v < 4611686018427387904 = grind (arith, nat_tests, e) in
    let is = digit_value_digit c (range.0, omega (arith, range)) in
    let same : n ≡ v * 2 + digit_value c = grind (arith, nat_tests, e, is) in
    ((omega (arith, is, range), omega (arith, is, range, few)), same)

digit_made : (base : Base) (v c : ℕ) → Read base v c
    → based_digit base v c ≡ Some (v * base_of base + digit_value c)
digit_made bases.Hex v c (less, few) = grind (arith, nat_tests, less, few)
digit_made bases.Octal v c (less, few) =
    let range = digit_from_value c (omega (arith, less)) in
    let is = digit_value_digit c range in grind (arith, nat_tests, range, is, less, few)
digit_made bases.Binary v c (less, few) =
    let range = digit_from_value c (omega (arith, less)) in
    let is = digit_value_digit c range in grind (arith, nat_tests, range, is, less, few)

limits : (base : Base) (v d : ℕ) → v * base_of base + d < 9223372036854775808 → v < limit_of base
limits bases.Hex v d few = omega (arith, few)
limits bases.Octal v d few = omega (arith, few)
limits bases.Binary v d few = omega (arith, few)

limited : (base : Base) (v : ℕ) → v < limit_of base → v < 9223372036854775808
limited bases.Hex v few = omega (arith, few)
limited bases.Octal v few = omega (arith, few)
limited bases.Binary v few = omega (arith, few)

-- ---- rows

module _ (base : Base) where
  abbrev next_based : ℕ → ℕ → ℕ
  next_based v c = if c == 95 then v else v * base_of base + digit_value c

  next_is : (v c : ℕ) → digit_value c < base_of base
      → next_based v c ≡ v * base_of base + digit_value c
  next_is v c less =
      let other : c ≡ 95 → ⊥ = no_under (base_of base) (most base) c less in
      let not : (c == 95) ≡ false = grind (arith, nat_tests, other) in rw not refl

  abbrev Ons : ℕ → List ℕ → Type 0
  Ons v xs = (v < 9223372036854775808) × Figures (figures.Based base v) xs

  abbrev Dues : ℕ → List ℕ → Type 0
  Dues v xs = (v < limit_of base) × Figures (figures.BasedMark base v) xs

  reads : (v c : ℕ) (xs : List ℕ) → AfterFigure (On xs) (base_step base v c)
      → (digit_value c < base_of base) × Ons (next_based v c) xs
  reads v c xs x = by (based_digit base v c) refl x
    where
      by : (o : Option ℕ) → based_digit base v c ≡ o → AfterFigure (On xs) (based_if base o)
          → (digit_value c < base_of base) × Ons (next_based v c) xs
      by None e x = absurd x
      by (Some n) e x =
          let ((less, few), is) = digit_read base v c n e in
          (less, subst (λ k. Ons k xs) (is ∙ sym (next_is v c less)) (rw is few, x))

  rows : Rows (base_of base) next_based Ons Dues (λ v es. (es ≡ []) × (v < 9223372036854775808))
  rows = record {
    ends = λ v xs e. (e.1, rw e.0 refl);
    digit = λ v c xs less y.
        let (few, z) = subst (λ k. Ons k xs) (next_is v c less) y in
        let room = limits base v (digit_value c) few in
        let other : c ≡ 95 → ⊥ = no_under (base_of base) (most base) c less in
        let not : (c == 95) ≡ false = grind (arith, nat_tests, other) in
        let is : base_step base v c
        ≡ Some (figures.Based base (v * base_of base + digit_value c)) =
        ap (λ o. based_if base o) (digit_made base v c (less, few)) in (
          (limited base v room, goes (figures.Based base v) _ c xs (rw not is) z),
          (room, goes (figures.BasedMark base v) _ c xs is z),
        );
    mark = λ v xs y. (
      limited base v y.0,
      goes (figures.Based base v) _ 95 xs
          (ap (λ b. figure_if b (figures.BasedMark base v)) (lt-ltb v (limit_of base) y.0)) y.1,
    );
    none = λ v. (λ x. (refl, x.0), λ x. true_not_false (sym x.1));
    reads = λ v c xs x.
        if_figure (On xs) (c == 95) _ (base_step base v c)
        (λ e y. if_some (On xs) (nat_lt v (limit_of base)) (figures.BasedMark base v)
        (λ few z. inr (inr (equal c 95 e, (grind (arith, nat_tests, few), z)))) y)
        (λ e y. inr (inl (reads v c xs y))) x.1;
    must = λ v c xs x. reads v c xs x.1;
  }

  passed_is : (must : Bool) (xs : List ℕ) (v : ℕ) → GoesOn (base_of base) must xs
      → passed next_based v xs ≡ digits_value_after (base_of base) v (kept xs)
  passed_is must [] v g = refl
  passed_is must (c ∷ xs) v (inl (less, g)) =
      rw (kept_digit (base_of base) c xs (most base) less) (
      ap (λ n. passed next_based n xs) (next_is v c less)
      ∙ passed_is false xs (v * base_of base + digit_value c) g)
  passed_is must (c ∷ xs) v (inr (is, ready, g)) =
      let P : ℕ → Type 0 = λ n. passed next_based v (n ∷ xs)
      ≡ digits_value_after (base_of base) v (kept (n ∷ xs)) in
      subst P (sym is) (rw (kept_mark xs) (passed_is true xs v g))

  prefix_same : (xs : List ℕ)
      → Figures (figures.Prefix base) xs ↔ Figures (figures.BasedMark base 0) xs
  prefix_same [] = (λ x. x, λ x. x)
  prefix_same (c ∷ xs) = (λ x. x, λ x. x)

  some : 0 < limit_of base
  some = by base
    where
      by : (base : Base) → 0 < limit_of base
      by bases.Hex = omega arith
      by bases.Octal = omega arith
      by bases.Binary = omega arith

  -- after the letter of the base
  pub prefix_read : (xs : List ℕ) → Figures (figures.Prefix base) xs
      → (n : ℕ) × NumberText (base_of base) n xs × (n < 9223372036854775808)
  prefix_read xs x =
      let (g, few) = bare_read rows ((row_read rows xs 0).1 (some, (prefix_same xs).0 x)) in (
        digits_value (base_of base) (kept xs),
        (number_goes (base_of base) (most base) _ xs).1 (g, refl),
        rw (passed_is true xs 0 g) at few,
      )

  pub prefix_made : (n : ℕ) (xs : List ℕ) → NumberText (base_of base) n xs
      → n < 9223372036854775808 → Figures (figures.Prefix base) xs
  prefix_made n xs text few =
      let (g, is) = (number_goes (base_of base) (most base) n xs).0 text in
      let all : passed next_based 0 xs < 9223372036854775808 =
      rw (passed_is true xs 0 g, ← is) few in
      (prefix_same xs).1 ((bare_made rows xs 0 all).1 g).1
