-- Integers and floats: the walk accepts those of the grammar, and no others.
use Rattle.std.specs.Char.{digit_value}
use Rattle.std.specs.Int.{w64}
use Rattle.std.specs.Str.Parse.{digits_value}
use Rattle.std.specs.Prelude.{◌≡◌, ◌⊎◌, ◌≤◌, ◌<◌, ◌^◌, ◌+◌, ◌*◌, ◌==◌, ℕ, zero, suc, []}
use Rattle.std.specs.Prelude.{pos, neg_ℤ, Bool, true, false, List, ◌∷◌, ◌++◌, length, FitsSigned}
use Rattle.std.specs.Prelude.{cond, not}
use Rattle.std.proofs.Common.{refl, sym, ap, inl, inr, ◌∙◌, arith, append_assoc}
use Rattle.std.proofs.StringFromBytes.{spelled}
use Rattle.std.proofs.lemmas.Bool.Decides.{nat_tests}
use Rattle.std.proofs.lemmas.List.{append-nil}
use Rattle.std.proofs.lemmas.List.Elements.{All-filter}
use Rattle.std.proofs.lemmas.Str.{IsUtf8-from_ascii, digit_value_digit}
use Rattle.std.proofs.lemmas.Str.Parse.{digit_from_value}
use Rattle.grammars.specs.Texts.{BothText, EitherText, MadeText, Spelled}
use Rattle.format_parts.specs.Words.{One, latter}
use Rattle.format_toml.specs.Digits.{GoesOn, kept, number_goes}
use Rattle.format_toml.specs.FloatFronts.{float_all}
use Rattle.format_toml.specs.Floats.{FloatText, IsDecimal, IsFloat, IsMagnitude, IsScientific}
use Rattle.format_toml.specs.Floats.{IsWhole, Unsigned, inf_word, nan_word}
use Rattle.format_toml.specs.Numbers.{AnyIntegerText, BasedText, IsLone, NumberText, UnsignedText}
use Rattle.format_toml.specs.Times.{ascii}
use Rattle.format_toml.specs.Toml.{IsUnquoted}
use Rattle.format_toml_errors.specs.Accepted.{both_ways, true_not_false}
use Rattle.format_toml_errors.specs.Figures.{fits}
use Rattle.format_toml_errors.specs.Moments.{digit}
use Rattle.format_toml_errors.specs.declared.figures.Base.{Base}
use Rattle.format_toml_errors.specs.declared.figures.Base.TheVariants as bases
use Rattle.format_toml_errors.specs.declared.figures.Figure.{Figure}
use Rattle.format_toml_errors.specs.declared.figures.Figure.TheVariants as figures
use Rattle.format_toml_errors.specs.declared.figures.Whole.{Whole}
use Rattle.format_toml_tree.specs.declared.value.Float.{Float}
use Rattle.format_toml_document.proofs.Bases.{base_of, letter_of}
use Rattle.format_toml_document.proofs.Decimals.{Close, Dating, Ending, Real, counted, dating_few}
use Rattle.format_toml_document.proofs.Decimals.{digits_are, kept_digit, next_whole, real_read}
use Rattle.format_toml_document.proofs.Decimals.{same_sign, value_close, wholes}
use Rattle.format_toml_document.proofs.Figures.{Figures, passed, row_made, row_read}
use Rattle.format_toml_document.proofs.Thens.{Fits, equal}

abbrev pub whole_of : ℕ → Bool → ℕ → Whole
whole_of digits negative value = record { digits = digits; negative = negative; value = value }

-- ---- floats

kept_less : (xs : List ℕ) → length (kept xs) ≤ length xs
kept_less [] = omega arith
kept_less (c ∷ xs) = by (kept_less xs) (not (c == 95))
  where
    by : length (kept xs) ≤ length xs → (b : Bool)
        → length (cond b (c ∷ kept xs) (kept xs)) ≤ length (c ∷ xs)
    by less true = omega (arith, less)
    by less false = omega (arith, less)

pub float_for : {A : Type 0} (alloc : A) (xs : List ℕ) → Fits xs → IsFloat xs
    → (float : Float A) × FloatText float xs
unfolding FloatText
float_for alloc xs fits is =
    let small : length (kept xs) < 2 ^ 63 = omega (arith, kept_less xs, fits.few) in
    let all = All-filter (λ c. not (c == 95)) IsUnquoted xs (float_all xs is) in
    let utf8 = IsUtf8-from_ascii (kept xs) (ascii (kept xs) all) in
    (record { text = spelled alloc (kept xs) ∣ utf8 ∣₁ small }, (is, refl))

magnitude_read : (front rs : List ℕ) → IsWhole front → Real rs → IsMagnitude (front ++ rs)
unfolding IsDecimal IsScientific
magnitude_read front rs w (inl (ds, es, d, inl none, e)) =
    inl (front, ds, w, d, ap (λ l. front ++ l) (rw (e, none, append-nil ds) refl))
magnitude_read front rs w (inl (ds, es, d, inr (c, p, letter, s, h), e)) =
    let split : front ++ rs ≡ (front ++ 46 ∷ ds) ++ c ∷ p =
    rw (e, h) (sym (append_assoc front (46 ∷ ds) (c ∷ p))) in
    inr (front ++ 46 ∷ ds, c, p, inr (front, ds, w, d, refl), letter, s, split)
magnitude_read front rs w (inr (c, p, letter, s, h)) =
    inr (front, c, p, inl w, letter, s, ap (λ l. front ++ l) h)

magnitude_made : (xs : List ℕ) → IsMagnitude xs
    → (front : List ℕ) × (rs : List ℕ) × IsWhole front × Real rs × (xs ≡ front ++ rs)
unfolding IsDecimal IsScientific
magnitude_made xs (inl (w, ds, is, d, e)) =
    (w, 46 ∷ ds, is, inl (ds, [], d, inl refl, ap (λ l. 46 ∷ l) (sym (append-nil ds))), e)
magnitude_made xs (inr (w, c, p, inl is, letter, s, e)) =
    (w, c ∷ p, is, inr (c, p, letter, s, refl), e)
magnitude_made xs (inr (n, c, p, inr (w, ds, is, d, f), letter, s, e)) =
    let split = e ∙ ap (λ l. l ++ c ∷ p) f ∙ append_assoc w (46 ∷ ds) (c ∷ p) in
    let real = inl (ds, c ∷ p, d, inr (c, p, letter, s, refl), refl) in
    (w, 46 ∷ (ds ++ c ∷ p), is, real, split)

whole_is : (c : ℕ) (ds : List ℕ) → GoesOn 10 true (c ∷ ds) → (c ≡ 48 → ds ≡ [])
    → IsWhole (c ∷ ds)
unfolding IsWhole
whole_is c ds g lone =
    ((digits_are (c ∷ ds)).1 g, λ others e. by others e)
  where
    by : (others : List ℕ) → c ∷ ds ≡ 48 ∷ others → others ≡ []
    by others e = let h : c ≡ 48 = cc in let t : others ≡ ds = cc in t ∙ lone h

-- ---- decimal integers

unsigned_is : (c n : ℕ) (ds : List ℕ) → GoesOn 10 true (c ∷ ds) → (c ≡ 48 → ds ≡ [])
    → n ≡ digits_value 10 (kept (c ∷ ds)) → UnsignedText n (c ∷ ds)
unfolding UnsignedText IsWhole
unsigned_is c n ds g lone e =
    ((number_goes 10 (omega arith) n (c ∷ ds)).1 (g, e), (whole_is c ds g lone).1)

-- the value after a digit and those that follow it
first_close : (k c : ℕ) (negative : Bool) (ds : List ℕ) → digit_value c < 10 → GoesOn 10 false ds
    → Close (passed next_whole (whole_of k negative (digit c)) ds).value
    (digits_value 10 (kept (c ∷ ds)))
first_close k c negative ds less g =
    let is = digit_value_digit c (digit_from_value c less) in
    rw (kept_digit 10 c ds (omega arith) less) (value_close false ds
    (whole_of k negative (digit c)) (0 * 10 + digit_value c) g (inl (omega (arith, is))))

close_same : (a b : ℕ) → Close a b → (a ≤ 9223372036854775808) ⊎ (b ≤ 9223372036854775808)
    → a ≡ b
close_same a b close few = grind (arith, close, few)

fits_most : (w : Whole) → fits w ≡ true → w.value ≤ 9223372036854775808
fits_most w fit = grind (arith, nat_tests, fit)

pub pos_fits : (n : ℕ) → fits (whole_of 5 false n) ≡ true → FitsSigned w64 (pos n)
pos_fits n e =
    let small : n < 9223372036854775808 = grind (arith, nat_tests, e) in
    record { sfits = omega (arith, small) }

pub neg_fits : (n : ℕ) → fits (whole_of 5 true n) ≡ true → FitsSigned w64 (neg_ℤ (pos n))
neg_fits zero e = record { sfits = omega arith }
neg_fits (suc n) e =
    let small : suc n ≤ 9223372036854775808 = grind (arith, nat_tests, e) in
    record { sfits = omega (arith, small) }

pub fits_pos : (n : ℕ) → FitsSigned w64 (pos n)
    → (n < 9223372036854775808) × (fits (whole_of 5 false n) ≡ true)
fits_pos n is =
    let small : n < 2 ^ 63 = is.sfits in
    let less : n < 9223372036854775808 = omega (arith, small) in
    (less, grind (arith, nat_tests, less))

pub fits_neg : (n : ℕ) → FitsSigned w64 (neg_ℤ (pos n)) → fits (whole_of 5 true n) ≡ true
fits_neg zero is = refl
fits_neg (suc n) is = let small : n < 2 ^ 63 = is.sfits in grind (arith, nat_tests, small)

-- ---- where digits begin a number, with a minus or not

-- `z` is expected after a zero
abbrev pub Opened : ℕ → Bool → Figure → List ℕ → Type 0
Opened k negative z xs =
    (xs ≡ inf_word) ⊎ ((xs ≡ nan_word) ⊎ ((c : ℕ) × (r : List ℕ) × (xs ≡ c ∷ r)
    × (((c ≡ 48) × Figures z r)
    ⊎ ((49 ≤ c) × (c ≤ 57) × Figures (figures.Whole (whole_of k negative (digit c))) r))))

module _ {k : ℕ} {negative : Bool} {z : Figure} (r : List ℕ) where
  pub from_zero : Figures z r → Opened k negative z (48 ∷ r)
  from_zero x = inr (inr (48, r, refl, inl (refl, x)))

  pub from_digit : (c : ℕ) → 49 ≤ c → c ≤ 57
      → Figures (figures.Whole (whole_of k negative (digit c))) r → Opened k negative z (c ∷ r)
  from_digit c low high x = inr (inr (c, r, refl, inr (low, high, x)))

abbrev pub Numeral : Bool → List ℕ → Type 0
Numeral negative xs =
    ((n : ℕ) × UnsignedText n xs × (fits (whole_of 5 negative n) ≡ true)) ⊎ Unsigned xs

pub zero_numeral : (negative : Bool) → Numeral negative (48 ∷ [])
zero_numeral negative =
    inl (0, unsigned_is 48 0 [] (inl (omega arith, refl)) (λ e. refl) refl, refl)

pub zero_real : (negative : Bool) (rs : List ℕ) → Real rs → Numeral negative (48 ∷ rs)
zero_real negative rs r =
    inr (inr (inr (magnitude_read (48 ∷ []) rs
    (whole_is 48 [] (inl (omega arith, refl)) (λ e. refl)) r)))

-- more digits, followed by the mark of a date or a time
abbrev pub Dated : ℕ → Bool → ℕ → List ℕ → Type 0
Dated k negative c r =
    (ds : List ℕ) × (es : List ℕ) × GoesOn 10 false ds × (r ≡ ds ++ es)
    × Dating (passed next_whole (whole_of k negative (digit c)) ds) es

-- the first one is not a zero
pub digits_read : (k : ℕ) (negative : Bool) (c : ℕ) (r : List ℕ) → 49 ≤ c → c ≤ 57
    → Figures (figures.Whole (whole_of k negative (digit c))) r → Numeral negative (c ∷ r)
    ⊎ Dated k negative c r
digits_read k negative c r low high x =
    let less : digit_value c < 10 =
    omega (arith, digit_value_digit c (omega (arith, low), high), high, low) in
    let (ds, es, g, end, e) = (row_read wholes r (whole_of k negative (digit c))).0 x in
    by less ds es g end e
  where
    by : digit_value c < 10 → (ds es : List ℕ) → GoesOn 10 false ds
        → Ending (passed next_whole (whole_of k negative (digit c)) ds) es → r ≡ ds ++ es
        → Numeral negative (c ∷ r) ⊎ Dated k negative c r
    by less ds es g (inr (inr dating)) e = inr (ds, es, g, e, dating)
    by less ds es g (inr (inl real)) e =
        inl (rw e (inr (inr (inr (magnitude_read (c ∷ ds) es
        (whole_is c ds (inl (less, g)) (λ z. absurd (omega (arith, z, low)))) real)))))
    by less ds es g (inl (none, fit)) e =
        let last = passed next_whole (whole_of k negative (digit c)) ds in
        let is = close_same last.value (digits_value 10 (kept (c ∷ ds)))
        (first_close k c negative ds less g) (inl (fits_most last fit)) in
        let sign = same_sign ds (whole_of k negative (digit c)) in
        let fine : fits (whole_of 5 negative last.value) ≡ true =
        grind (arith, nat_tests, fit, sign) in
        let text = unsigned_is c last.value ds (inl (less, g)) (λ z. absurd (omega (arith, z, low)))
        is in inl (rw (e, none, append-nil ds) (inl (last.value, text, fine)))

pub signed_read : (negative : Bool) (xs : List ℕ) → Opened 5 negative figures.SignedZero xs
    → Numeral negative xs
signed_read negative xs (inl e) = inr (inl e)
signed_read negative xs (inr (inl e)) = inr (inr (inl e))
signed_read negative xs (inr (inr (c, [], e, inl (z, x)))) = rw (e, z) (zero_numeral negative)
signed_read negative xs (inr (inr (c, b ∷ r, e, inl (z, x)))) =
    rw (e, z) (zero_real negative (b ∷ r) (real_read b r x))
signed_read negative xs (inr (inr (c, r, e, inr (low, high, x)))) =
    elim (digits_read 5 negative c r low high x) [
      | inl n ↦ rw e n
      | inr (ds, es, g, f, dating) ↦
          let w = whole_of 5 negative (digit c) in
          let most = dating_few (passed next_whole w ds) es dating in
          absurd (omega (arith, (counted false ds w g most).1, most))
    ]

module _ (k : ℕ) (negative : Bool) (z : Figure) where
  opened : (front rs : List ℕ) → GoesOn 10 true front → IsLone front → Figures z rs
      → ((c : ℕ) (ds : List ℕ) → front ≡ c ∷ ds → digit_value c < 10 → GoesOn 10 false ds
      → Ending (passed next_whole (whole_of k negative (digit c)) ds) rs)
      → Opened k negative z (front ++ rs)
  opened [] rs g lone nought end = true_not_false g
  opened (c ∷ ds) rs (inr (is, ready, g)) lone nought end = true_not_false ready
  opened (c ∷ ds) rs (inl (less, g)) lone nought end = elim (both_ways (c == 48)) [
    | inl is ↦
        let e = equal c 48 is in
        let none = lone ds (ap (λ b. b ∷ ds) e) in
        inr (inr (c, ds ++ rs, refl, inl (e, rw none nought)))
    | inr not ↦
        let range = digit_from_value c less in
        let low : 49 ≤ c = grind (arith, nat_tests, not, range) in
        from_digit (ds ++ rs) c low range.1
        ((row_made wholes ds rs (whole_of k negative (digit c)) (end c ds refl less g)).0 g)
  ]

  pub unsigned_made : (n : ℕ) (xs : List ℕ) → UnsignedText n xs
      → fits (whole_of 5 negative n) ≡ true → Figures z [] → Opened k negative z xs
  unfolding UnsignedText
  unsigned_made n xs (text, lone) fit nought =
      let (g, is) = (number_goes 10 (omega arith) n xs).0 text in
      let all = opened xs [] g lone nought (λ c ds e less h.
      let last = passed next_whole (whole_of k negative (digit c)) ds in
      let value : n ≡ digits_value 10 (kept (c ∷ ds)) =
      is ∙ ap (λ l. digits_value 10 (kept l)) e in
      let few = fits_most (whole_of 5 negative n) fit in
      let same = close_same last.value (digits_value 10 (kept (c ∷ ds)))
      (first_close k c negative ds less h) (inr (omega (arith, value, few))) ∙ sym value in
      let sign = same_sign ds (whole_of k negative (digit c)) in
      inl (refl, grind (arith, nat_tests, fit, same, sign))) in
      rw (append-nil xs) at all

  pub float_made : (xs : List ℕ) → Unsigned xs
      → ((rs : List ℕ) → Real rs → Figures z rs) → Opened k negative z xs
  unfolding IsWhole
  float_made xs (inl e) nought = inl e
  float_made xs (inr (inl e)) nought = inr (inl e)
  float_made xs (inr (inr text)) nought =
      let (front, rs, (digits, lone), real, e) = magnitude_made xs text in
      rw e (opened front rs ((digits_are front).0 digits) lone (nought rs real)
      (λ c ds f less g. inr (inl real)))

-- ---- integers of other bases

based_made : (letter base n : ℕ) (xs : List ℕ) → NumberText base n xs
    → BasedText letter base n (48 ∷ letter ∷ xs)
unfolding BothText Spelled
based_made letter base n xs number =
    let front : BothText latter (One 48) (One letter) letter (48 ∷ letter ∷ []) =
    (48, letter, 48 ∷ [], letter ∷ [], (refl, refl), (refl, refl), refl, refl) in
    (letter, n, 48 ∷ letter ∷ [], xs, front, number, refl, refl)

pub based_read : (letter base n : ℕ) (tokens : List ℕ) → BasedText letter base n tokens
    → (xs : List ℕ) × (tokens ≡ 48 ∷ letter ∷ xs) × NumberText base n xs
unfolding BothText Spelled
based_read letter base n tokens
    (o, m, us, ys, (a, b, ps, qs, (a-is, p), (b-is, q), e, out), number, f, is) =
    let at : tokens ≡ 48 ∷ letter ∷ ys = cc in (ys, at, rw is number)

pub any_made : (base : Base) (n : ℕ) (xs : List ℕ) → NumberText (base_of base) n xs
    → AnyIntegerText (pos n) (48 ∷ letter_of base ∷ xs)
unfolding EitherText MadeText
any_made bases.Hex n xs x = inr (n, inl (based_made 120 16 n xs x), refl)
any_made bases.Octal n xs x = inr (n, inr (inl (based_made 111 8 n xs x)), refl)
any_made bases.Binary n xs x = inr (n, inr (inr (based_made 98 2 n xs x)), refl)
