-- Grammars of `dec_uint` and `dec_int`.
use Rattle.std.specs.Prelude.{◌≡◌, ◌⊎◌, ◌<◌, ◌^◌, ℕ, ℤ, pos, neg_ℤ, true, List, [], ◌∷◌, ◌++◌}
use Rattle.std.specs.Prelude.{length, Some}
use Rattle.std.specs.Char.{digit_value}
use Rattle.std.proofs.Common.{refl, sym, ap, subst, inl, inr, ◌∙◌, arith, length-append}
use Rattle.std.proofs.Math.Nat.{mul-le-mul_right, one-le-pow}
use Rattle.std.proofs.lemmas.Bool.{cases_order}
use Rattle.std.proofs.lemmas.Str.{digit_value_digit}
use Rattle.streams.specs.Equal.{same_first, same_others, true_is_false}
use Rattle.streams.specs.Place.{no_place}
use Rattle.streams.specs.Reading.{Reading}
use Rattle.stream_errors.specs.Form.{modal}
use Rattle.grammars.specs.Grammar.{Grammar, IsUnique, NoMatch, TakesTokens}
use Rattle.grammars.specs.Grammar.Same.{Same, unique_as}
use Rattle.parser_definitions.specs.Class.{CharIsFunction}
use Rattle.parser_definitions.specs.Digits.{AreCharacters, characters_length, value_in}
use Rattle.parser_definitions.specs.Left.{Left}
use Rattle.parser_definitions.specs.Number.{DecIntDoes, DecUintDoes, FitsApart, IsMisfit, IsNumber}
use Rattle.parser_definitions.specs.Number.{NumberDoes, Numbers, signed_apart, signed_numbers}
use Rattle.parser_definitions.specs.Number.{signed_value, unsigned_apart, unsigned_numbers}
use Rattle.parser_definitions.specs.NumberGrammar.{Decimal, IsDecimalOf, IsLeading, IsNumeral}
use Rattle.parser_definitions.specs.NumberGrammar.{IsNumeralAt, IsSignedDecimalOf, NumeralOf}
use Rattle.parser_definitions.specs.NumberGrammar.{SignedDecimal}
use Rattle.parser_definitions.specs.Numeral.{HasNone, HasNumeral, IsIncomplete}
use Rattle.parser_definitions.specs.Numeral.Once.{numeral_or_none, one_numeral}
use Rattle.parser_definitions.specs.Projects.{Complete, Projects, Reads, complete, reads_after}
use Rattle.parser_definitions.specs.Projects.{reads_cases, reads_fails, reads_takes}
use Rattle.parser_definitions.specs.Projects.Numerals.{numeral_at, numeral_passed}
use Rattle.parser_definitions.specs.Projects.Same.{same_projects}

module _ {N V K T L : Type 0} (g : Numbers N V) (seen : K → T) (code : K → ℕ)
    (reading : Reading T L) (once : CharIsFunction seen code) (fits_apart : FitsApart g) where
  module _ (at : Complete) where
    -- the numeral that a call passes is that of a match
    one_match : (w : Left T) (sign digits other more : List ℕ) (end : Left T) (front rest : List T)
        → HasNumeral seen code reading g.signed (complete at) w sign digits end
        → IsNumeralAt seen code g.signed w.tokens other more front rest
        → (g.value sign digits ≡ g.value other more) × (end.tokens ≡ rest)
    one_match w sign digits other more end front rest has is_match =
        let (b, also, left) = numeral_passed seen code reading g.signed at w other more front rest
        is_match in
        let (same, (digit, place)) =
        one_numeral seen code reading once (complete at) g.signed w sign other digits more end b has
        also in (
          ap (λ l. g.value l digits) same ∙ ap (λ l. g.value other l) digit,
          ap (λ l. l.tokens) place ∙ left,
        )

    module _ {S : Type 0} (s : S) where
      misfit : (w : Left T) → IsMisfit g seen code reading s (complete at) w
          → NoMatch (NumeralOf g seen code) w.tokens
      unfolding NumeralOf
      misfit w (sign, digits, end, has, large) n rest (front, other, more, is_match, fit, is) =
          let (same, left) = one_match w sign digits other more end front rest has is_match in
          let P : V → Type 0 = λ v. g.misfits v in
          fits_apart (g.value other more) fit (subst P same large)

      no_numeral : (w : Left T) → HasNone seen code reading g.signed s (complete at) w
          → NoMatch (NumeralOf g seen code) w.tokens
      unfolding NumeralOf
      no_numeral w none n rest (front, sign, digits, is_match, fit, is) =
          let (b, has, left) = numeral_passed seen code reading g.signed at w sign digits front rest
          is_match in
          numeral_or_none seen code reading once (complete at) g.signed s w sign digits b has none

      number_reads : {b m : Type 0} → Reads b m (NumberDoes g seen code reading) at s
          (NumeralOf g seen code)
      unfolding NumeralOf
      number_reads = reads_cases
          (reads_takes (IsNumber g seen code reading) (λ w n rest (sign, digits, has, fit, is).
          let (front, is_match) = numeral_at seen code reading g.signed (complete at) w sign
          digits rest has in
          (front, sign, digits, is_match, fit, is)))
          (reads_cases
          (reads_fails (IsMisfit g seen code reading) misfit)
          (reads_cases
          (reads_after (Some 1) (IsIncomplete seen code reading g.signed)
          (λ w place (sign, mid, passed, first, lacks, more, e). true_is_false (sym more)))
          (reads_fails (HasNone seen code reading g.signed) no_numeral)))

  number_unique : IsUnique (NumeralOf g seen code)
  unfolding NumeralOf
  number_unique = record {
    ends = λ tokens n rest (front, sign, digits, is_match, fit, is). (front, is_match.0);
    one = λ tokens n o rest other (f, sign, digits, is_match, fit, is)
        (h, others, more, also, fit2, be).
        let w : Left T = record { tokens = tokens; place = no_place; recorded = [] } in
        let at : Complete = record { form = modal; possible = true } in
        let (b, has, left) = numeral_passed seen code reading g.signed at w sign digits f rest
        is_match in
        sym left ∙ (one_match at w sign digits others more b h other has also).1;
  }

  number_projects : {S b m : Type 0} (at : Complete) (s : S)
      → Projects b m (NumberDoes g seen code reading) at s (NumeralOf g seen code)
  number_projects at s = record { reads = number_reads at s; unique = number_unique }

-- ---- numerals by their digits

-- decimal digits, with a '0' as the only one or not the first
text_of : (digits : List ℕ) (n : ℕ) → IsDecimalOf digits n → (digits ≡ 48 ∷ []) ⊎ IsLeading digits
text_of [] n is = absurd (omega (arith, is.are.0))
text_of (c ∷ cs) n is = by (cases_order c 48)
  where
    by : (c ≡ 48) ⊎ ((c < 48) ⊎ (48 < c)) → (c ∷ cs ≡ 48 ∷ []) ⊎ IsLeading (c ∷ cs)
    by (inl zero) =
        let alone = is.lone_zero cs (ap (λ d. d ∷ cs) zero) in
        inl (ap (λ d. d ∷ cs) zero ∙ ap (λ l. 48 ∷ l) alone)
    by (inr (inl low)) = absurd (omega (arith, is.are.1.0, low))
    by (inr (inr leads)) =
        inr (c, cs, refl, (omega (arith, leads), is.are.1.0.1), is.are.1.1)

decimal_of : (digits : List ℕ) → (digits ≡ 48 ∷ []) ⊎ IsLeading digits
    → IsDecimalOf digits (value_in 10 digits)
decimal_of digits (inl lone) =
    let P : List ℕ → Type 0 = λ l. IsDecimalOf l (value_in 10 l) in
    subst P (sym lone) (record {
      are = (omega arith, ((omega arith, omega arith), tt));
      lone_zero = λ others e. sym (same_others e);
      value = refl;
    })
decimal_of digits (inr (first, others, is, leads, are)) =
    let P : List ℕ → Type 0 = λ l. IsDecimalOf l (value_in 10 l) in
    subst P (sym is) (record {
      are = (omega arith, ((omega (arith, leads.0), leads.1), are));
      lone_zero = λ more e. absurd (omega (arith, leads.0, same_first e));
      value = refl;
    })

-- digits after a leading one denote more than 0
some_value : (digits : List ℕ) → IsLeading digits → 0 < value_in 10 digits
some_value digits (first, others, is, leads, are) =
    let P : List ℕ → Type 0 = λ l. 0 < value_in 10 l in
    let digit = digit_value_digit first (omega (arith, leads.0), leads.1) in
    subst P (sym is) (omega (
      arith,
      mul-le-mul_right {m = 1} {n = digit_value first} (10 ^ length others)
          (omega (arith, digit, leads.0)),
      one-le-pow (length others) 10 (omega arith),
    ))

-- digits of a number above 0 start with a leading one
leading_of : (digits : List ℕ) (n : ℕ) → IsDecimalOf digits n → 0 < n → IsLeading digits
leading_of digits n is some = elim (text_of digits n is) [
  | inl lone ↦ absurd (omega (arith, is.value, some, ap (λ l. value_in 10 l) lone))
  | inr leads ↦ leads
]

module _ {N K T : Type 0} (number : N → ℕ) (bound : ℕ) (seen : K → T) (code : K → ℕ) where
  Numeral : Grammar T N
  Numeral = NumeralOf (unsigned_numbers number bound) seen code

  decimal_numeral : (tokens : List T) (n : N) (rest : List T)
      → Decimal number bound seen code tokens n rest → Numeral tokens n rest
  unfolding Numeral NumeralOf Decimal
  decimal_numeral tokens n rest (front, digits, e, chars, is, stops, fits) = (
    front,
    [],
    digits,
    (e, chars, inl (refl, text_of digits (number n) is), stops),
    omega (arith, is.value, fits),
    sym is.value,
  )

  numeral_decimal : (tokens : List T) (n : N) (rest : List T) → Numeral tokens n rest
      → Decimal number bound seen code tokens n rest
  unfolding Numeral NumeralOf Decimal
  numeral_decimal tokens n rest
      (front, sign, digits, (e, chars, inl (none, which), stops), fits, is) =
      let P : ℕ → Type 0 = λ v. IsDecimalOf digits v in (
        front,
        digits,
        e,
        subst (λ l. AreCharacters seen code front (l ++ digits)) none chars,
        subst P (sym is) (decimal_of digits which),
        stops,
        omega (arith, fits, is),
      )
  numeral_decimal tokens n rest
      (front, sign, digits, (e, chars, inr (may, c, is_sign, one, leads), stops), fits, is) =
      true_is_false (sym may)

  pub decimal_takes : TakesTokens (Decimal number bound seen code)
  unfolding Decimal
  decimal_takes = record {
    fewer = λ tokens n rest (front, digits, e, chars, is, stops, fits). omega (
      arith,
      ap (λ l. length l) e,
      length-append front rest,
      characters_length seen code front digits chars,
      is.are.0,
    );
  }

  same_decimal : Same Numeral (Decimal number bound seen code)
  same_decimal = record { there = numeral_decimal; back = decimal_numeral }

  pub decimal_unique : {L : Type 0} → Reading T L → CharIsFunction seen code
      → IsUnique (Decimal number bound seen code)
  unfolding Numeral
  decimal_unique reading once = unique_as same_decimal
      (number_unique (unsigned_numbers number bound) seen code reading once
      (unsigned_apart number bound))

  pub dec_uint_projects : {S L b m : Type 0} (reading : Reading T L) → CharIsFunction seen code
      → (at : Complete) (s : S) → Projects b m (DecUintDoes number bound seen code reading) at s
      (Decimal number bound seen code)
  unfolding Numeral
  dec_uint_projects reading once at s = same_projects same_decimal
      (number_projects (unsigned_numbers number bound) seen code reading once
      (unsigned_apart number bound) at s)

module _ {N K T : Type 0} (number : N → ℤ) (fits : ℤ → Type 0) (seen : K → T) (code : K → ℕ) where
  Signed : Grammar T N
  Signed = NumeralOf (signed_numbers number fits) seen code

  -- the number of a sign and digits
  signed_is : (sign digits : List ℕ) (z : ℤ) → IsSignedDecimalOf sign digits z
      → (z ≡ signed_value sign digits) × IsNumeral true sign digits
  signed_is sign digits z (n, is, inl (none, e)) = (
    e ∙ ap pos (sym is.value) ∙ ap (λ l. signed_value l digits) (sym none),
    inl (none, text_of digits n is),
  )
  signed_is sign digits z (n, is, inr (inl (plus, some, e))) = (
    e ∙ ap pos (sym is.value) ∙ ap (λ l. signed_value l digits) (sym plus),
    inr (refl, 43, inl refl, plus, leading_of digits n is some),
  )
  signed_is sign digits z (n, is, inr (inr (minus, some, e))) = (
    e ∙ ap (λ m. neg_ℤ (pos m)) (sym is.value) ∙ ap (λ l. signed_value l digits) (sym minus),
    inr (refl, 45, inr refl, minus, leading_of digits n is some),
  )

  is_signed : (sign digits : List ℕ) (z : ℤ) → z ≡ signed_value sign digits
      → IsNumeral true sign digits → IsSignedDecimalOf sign digits z
  is_signed sign digits z e (inl (none, which)) = (
    value_in 10 digits,
    decimal_of digits which,
    inl (none, e ∙ ap (λ l. signed_value l digits) none),
  )
  is_signed sign digits z e (inr (may, c, inl plus, one, leads)) =
      let is : sign ≡ 43 ∷ [] = one ∙ ap (λ d. d ∷ []) plus in (
        value_in 10 digits,
        decimal_of digits (inr leads),
        inr (inl (is, some_value digits leads, e ∙ ap (λ l. signed_value l digits) is)),
      )
  is_signed sign digits z e (inr (may, c, inr minus, one, leads)) =
      let is : sign ≡ 45 ∷ [] = one ∙ ap (λ d. d ∷ []) minus in (
        value_in 10 digits,
        decimal_of digits (inr leads),
        inr (inr (is, some_value digits leads, e ∙ ap (λ l. signed_value l digits) is)),
      )

  decimal_signed : (tokens : List T) (n : N) (rest : List T)
      → SignedDecimal number fits seen code tokens n rest → Signed tokens n rest
  unfolding Signed NumeralOf SignedDecimal
  decimal_signed tokens n rest (front, sign, digits, e, chars, is, stops, fit) =
      let (value, text) = signed_is sign digits (number n) is in
      (front, sign, digits, (e, chars, text, stops), subst fits value fit, value)

  signed_decimal : (tokens : List T) (n : N) (rest : List T) → Signed tokens n rest
      → SignedDecimal number fits seen code tokens n rest
  unfolding Signed NumeralOf SignedDecimal
  signed_decimal tokens n rest (front, sign, digits, (e, chars, text, stops), fit, value) = (
    front,
    sign,
    digits,
    e,
    chars,
    is_signed sign digits (number n) value text,
    stops,
    subst fits (sym value) fit,
  )

  pub signed_takes : TakesTokens (SignedDecimal number fits seen code)
  unfolding SignedDecimal
  signed_takes = record {
    fewer = λ tokens n rest (front, sign, digits, e, chars, (v, is, signs), stops, fit). omega (
      arith,
      ap (λ l. length l) e,
      length-append front rest,
      characters_length seen code front (sign ++ digits) chars,
      length-append sign digits,
      is.are.0,
    );
  }

  pub dec_int_projects : {S L b m : Type 0} (reading : Reading T L) → CharIsFunction seen code
      → (at : Complete) (s : S) → Projects b m (DecIntDoes number fits seen code reading) at s
      (SignedDecimal number fits seen code)
  unfolding Signed
  dec_int_projects reading once at s = same_projects
      (record { there = signed_decimal; back = decimal_signed })
      (number_projects (signed_numbers number fits) seen code reading once
      (signed_apart number fits) at s)
