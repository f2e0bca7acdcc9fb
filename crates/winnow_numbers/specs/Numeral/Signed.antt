-- Lemmas about numbers with a sign by their grammar.
use Rattle.std.specs.Prelude.{◌≡◌, ◌⊎◌, ◌<◌, ◌^◌, ℕ, ℤ, pos, negsuc, neg_ℤ, List, [], ◌∷◌}
use Rattle.std.specs.Prelude.{◌++◌}
use Rattle.std.specs.Prelude.{FitsSigned, unsigned_abs, ◌≤◌}
use mir.Syntax.{Width}
use mir.Val.{hbits}
use Rattle.std.specs.Fmt.{decimal, signed_decimal}
use Rattle.std.proofs.Common.{refl, sym, ap, subst, inl, inr, ◌∙◌, arith, zero, suc}
use Rattle.std.proofs.Math.Pow.{pow_mono}
use Rattle.stream_sets.specs.AsChar.{IsDecDigit}
use Rattle.grammars.specs.Grammar.{Grammar}
use Rattle.grammars.specs.Grammar.Same.{Same}
use Rattle.parser_definitions.specs.Digits.{NoneFirst, own_characters, same_characters, value_in}
use Rattle.parser_definitions.specs.NumberGrammar.{IsDecimalOf, SignedDecimal}
use Rattle.winnow_numbers.specs.Decimal.{decimal_digits, digits_written, one_decimal}
use Rattle.winnow_numbers.specs.Numeral.Written.{NoDigitFirst, first_none, none_first, zero_is}

-- a positive number with a '+' before it
abbrev pub WithPlus : ℤ → List ℕ → List ℕ → Type 0
WithPlus z tokens rest =
    (m : ℕ) × (0 < m) × (z ≡ pos m) × (tokens ≡ 43 ∷ (decimal m ++ rest))

-- The tokens start with the output of `{}` for a number that fits, or with that of a positive one
-- after a '+'. No digit follows it, except after that of 0.
unfoldable pub SignedWritten : {N : Type 0} → (N → ℤ) → (ℤ → Type 0) → Grammar ℕ N
SignedWritten number fits tokens n rest =
    ((tokens ≡ signed_decimal (number n) ++ rest) ⊎ WithPlus (number n) tokens rest)
    × ((number n ≡ pos 0) ⊎ NoDigitFirst rest) × fits (number n)

module _ {N : Type 0} (number : N → ℤ) (fits : ℤ → Type 0)
    (small : (z : ℤ) → fits z → unsigned_abs z < 10 ^ 64) where
  abbrev Read : Grammar ℕ N
  Read = SignedDecimal number fits (λ x. x) (λ x. x)

  -- a lone '0' is the number 0
  lone_zero : (digits : List ℕ) (m : ℕ) → IsDecimalOf digits m → digits ≡ 48 ∷ [] → m ≡ 0
  lone_zero digits m is lone = sym is.value ∙ ap (λ l. value_in 10 l) lone

  module _ (tokens : List ℕ) (n : N) (rest front sign digits : List ℕ) (e : tokens ≡ front ++ rest)
      (text : front ≡ sign ++ digits)
      (stops : (digits ≡ 48 ∷ []) ⊎ NoneFirst (λ x. x) (λ x. x) IsDecDigit rest)
      (fit : fits (number n)) (m : ℕ) (is : IsDecimalOf digits m) where
    -- digits of a number other than 0
    stopped : (m ≡ 0 → number n ≡ pos 0) → (number n ≡ pos 0) ⊎ NoDigitFirst rest
    stopped none = elim stops [
      | inl lone ↦ inl (none (lone_zero digits m is lone))
      | inr not ↦ inr (none_first rest not)
    ]

    below : (z : ℤ) → number n ≡ z → unsigned_abs z < 10 ^ 64
    below z same = subst (λ y. unsigned_abs y < 10 ^ 64) same (small (number n) fit)

    plain : sign ≡ [] → number n ≡ pos m → SignedWritten number fits tokens n rest
    unfolding SignedWritten
    plain none same = (
      inl (e ∙ ap (λ l. l ++ rest) (text ∙ ap (λ s. s ++ digits) none
          ∙ digits_written digits m (below (pos m) same) is ∙ ap signed_decimal (sym same))),
      stopped (λ nil. same ∙ ap pos nil),
      fit,
    )

    plus : sign ≡ 43 ∷ [] → 0 < m → number n ≡ pos m → SignedWritten number fits tokens n rest
    unfolding SignedWritten
    plus one some same = (
      inr (
        m,
        some,
        same,
        e ∙ ap (λ l. l ++ rest) (text ∙ ap (λ s. s ++ digits) one
            ∙ ap (λ l. 43 ∷ l) (digits_written digits m (below (pos m) same) is)),
      ),
      stopped (λ nil. same ∙ ap pos nil),
      fit,
    )

  minus : (tokens : List ℕ) (n : N) (rest front sign digits : List ℕ) → tokens ≡ front ++ rest
      → front ≡ sign ++ digits
      → (digits ≡ 48 ∷ []) ⊎ NoneFirst (λ x. x) (λ x. x) IsDecDigit rest
      → fits (number n) → (m : ℕ) → IsDecimalOf digits m → sign ≡ 45 ∷ [] → 0 < m
      → number n ≡ neg_ℤ (pos m) → SignedWritten number fits tokens n rest
  unfolding SignedWritten
  minus tokens n rest front sign digits e text stops fit zero is one some same =
      absurd (omega (arith, some))
  minus tokens n rest front sign digits e text stops fit (suc k) is one some same = (
    inl (e ∙ ap (λ l. l ++ rest) (text ∙ ap (λ s. s ++ digits) one
        ∙ ap (λ l. 45 ∷ l)
        (digits_written digits (suc k)
        (below tokens n rest front sign digits e text stops fit (suc k) is
        (neg_ℤ (pos (suc k))) same) is) ∙ ap signed_decimal (sym same))),
    elim stops [
      | inl lone ↦ absurd (omega (arith, lone_zero digits (suc k) is lone))
      | inr not ↦ inr (none_first rest not)
    ],
    fit,
  )

  written_stands : (tokens : List ℕ) (n : N) (rest : List ℕ) → Read tokens n rest
      → SignedWritten number fits tokens n rest
  unfolding SignedDecimal
  written_stands tokens n rest (front, sign, digits, e, chars, (m, is, which), stops, fit) =
      let text = same_characters front (sign ++ digits) chars in
      elim which [
        | inl (none, same) ↦
            plain tokens n rest front sign digits e text stops fit m is none same
        | inr (inl (one, some, same)) ↦
            plus tokens n rest front sign digits e text stops fit m is one some same
        | inr (inr (one, some, same)) ↦
            minus tokens n rest front sign digits e text stops fit m is one some same
      ]

  -- the digits that are written of a number, after a sign
  module _ (tokens : List ℕ) (n : N) (rest : List ℕ) (fit : fits (number n)) (sign : List ℕ) (m : ℕ)
      (e : tokens ≡ (sign ++ decimal m) ++ rest) (low : m < 10 ^ 64)
      (stops : (m ≡ 0) ⊎ NoDigitFirst rest) where
    written : ((sign ≡ []) × (number n ≡ pos m))
        ⊎ (((sign ≡ 43 ∷ []) × (0 < m) × (number n ≡ pos m))
        ⊎ ((sign ≡ 45 ∷ []) × (0 < m) × (number n ≡ neg_ℤ (pos m)))) → Read tokens n rest
    unfolding SignedDecimal
    written which =
        let is = decimal_digits m low in (
          sign ++ decimal m,
          sign,
          decimal m,
          e,
          own_characters (sign ++ decimal m),
          (m, is, which),
          elim stops [
            | inl nil ↦
                let P : ℕ → Type 0 = λ v. IsDecimalOf (decimal m) v in
                inl (one_decimal (decimal m) (48 ∷ []) 0 (subst P nil is) zero_is)
            | inr none ↦ inr (first_none rest none)
          ],
          fit,
        )

  by_value : (tokens : List ℕ) (n : N) (rest : List ℕ) → fits (number n) → (z : ℤ)
      → number n ≡ z → tokens ≡ signed_decimal z ++ rest → (z ≡ pos 0) ⊎ NoDigitFirst rest
      → Read tokens n rest
  by_value tokens n rest fit (pos m) same e stops =
      written tokens n rest fit [] m e (subst (λ y. unsigned_abs y < 10 ^ 64) same (small _ fit))
      (elim stops [ inl nil ↦ inl (no_sign m nil) | inr none ↦ inr none ])
      (inl (refl, same))
    where
      no_sign : (k : ℕ) → pos k ≡ pos 0 → k ≡ 0
      no_sign k f = ap unsigned_abs f
  by_value tokens n rest fit (negsuc m) same e stops =
      written tokens n rest fit (45 ∷ []) (suc m) e
      (subst (λ y. unsigned_abs y < 10 ^ 64) same (small _ fit))
      (elim stops [ inl nil ↦ absurd (negative m nil) | inr none ↦ inr none ])
      (inr (inr (refl, omega arith, same)))
    where
      negative : (k : ℕ) → negsuc k ≡ pos 0 → ⊥
      negative k f = cc

  stands_written : (tokens : List ℕ) (n : N) (rest : List ℕ)
      → SignedWritten number fits tokens n rest → Read tokens n rest
  unfolding SignedWritten
  stands_written tokens n rest (inl e, stops, fit) =
      by_value tokens n rest fit (number n) refl e stops
  stands_written tokens n rest (inr (m, some, same, e), stops, fit) =
      written tokens n rest fit (43 ∷ []) m e
      (subst (λ y. unsigned_abs y < 10 ^ 64) same (small _ fit))
      (elim stops [
        | inl nil ↦
            let none : m ≡ 0 = ap unsigned_abs (sym same ∙ nil) in
            absurd (omega (arith, some, none))
        | inr none ↦ inr none
      ]) (inr (inl (refl, some, same)))

  pub same_signed : Same Read (SignedWritten number fits)
  same_signed = record { there = written_stands; back = stands_written }

-- The numbers of a signed type of std have at most 64 digits, so that `{}` writes them so.
pub fits_short : (w : Width) (z : ℤ) → hbits w ≤ 127 → FitsSigned w z → unsigned_abs z < 10 ^ 64
fits_short w (pos n) narrow fits = omega (arith, fits.sfits, pow_mono narrow)
fits_short w (negsuc n) narrow fits = omega (arith, fits.sfits, pow_mono narrow)
