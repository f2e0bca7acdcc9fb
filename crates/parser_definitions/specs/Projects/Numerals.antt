-- Grammars of parsers of decimal numbers.
use Rattle.std.specs.Prelude.{◌≡◌, ◌⊎◌, ℕ, Bool, true, false, List, [], ◌∷◌, ◌++◌}
use Rattle.std.proofs.Common.{refl, sym, ap, subst, inl, inr, ◌∙◌, arith}
use Rattle.streams.specs.Equal.{same_first, true_is_false}
use Rattle.streams.specs.Reading.{Reading}
use Rattle.stream_sets.specs.AsChar.{IsDecDigit}
use Rattle.parser_definitions.specs.Digits.{AreCharacters, NoneFirst, one_character}
use Rattle.parser_definitions.specs.Left.{Left}
use Rattle.parser_definitions.specs.NumberGrammar.{IsLeading, IsNumeralAt}
use Rattle.parser_definitions.specs.Numeral.{HasDigits, HasNumeral, IsSign, is_none}
use Rattle.parser_definitions.specs.Outcome.{Setting}
use Rattle.parser_definitions.specs.Passed.{Passed}
use Rattle.parser_definitions.specs.Projects.{Complete, complete}

-- the rest after the tokens `front`
abbrev pub after : {T L : Type 0} → Reading T L → List T → List T → Left T → Left T
after reading front rest w = record {
  tokens = rest;
  place = reading.advance w.place (reading.units front);
  recorded = w.recorded;
}

module _ {K T : Type 0} (seen : K → T) (code : K → ℕ) where
  -- a character before others
  more_characters : (x : K) (front : List T) (sign digits : List ℕ) → sign ≡ code x ∷ []
      → AreCharacters seen code front digits
      → AreCharacters seen code (seen x ∷ front) (sign ++ digits)
  more_characters x front sign digits e chars =
      let P : List ℕ → Type 0 = λ l. AreCharacters seen code (seen x ∷ front) (l ++ digits) in
      subst P (sym e) ((x, refl, refl), chars)

  -- characters after no sign
  unsigned_characters : (front : List T) (sign digits : List ℕ) → sign ≡ []
      → AreCharacters seen code front digits → AreCharacters seen code front (sign ++ digits)
  unsigned_characters front sign digits e chars =
      let P : List ℕ → Type 0 = λ l. AreCharacters seen code front (l ++ digits) in
      subst P (sym e) chars

  module _ {L : Type 0} (reading : Reading T L) where
    -- ---- numerals that are passed are matches

    digits_at : (zero : Bool) (at : Setting) (w : Left T) (digits : List ℕ) (rest : Left T)
        → HasDigits seen code reading zero at w digits rest
        → (front : List T) × (w.tokens ≡ front ++ rest.tokens)
        × AreCharacters seen code front digits
        × (((zero ≡ true) × (digits ≡ 48 ∷ [])) ⊎ IsLeading digits)
        × ((digits ≡ 48 ∷ []) ⊎ NoneFirst seen code IsDecDigit rest.tokens)
    digits_at zero at w digits rest (inl (x, may, is, p, e)) = (
      seen x ∷ [],
      p.tokens,
      one_character seen code x digits (e ∙ ap (λ c. c ∷ []) (sym is)),
      inl (may, e),
      inl e,
    )
    digits_at zero at w digits rest
        (inr (front, first, others, e, leads, are, p, chars, stops, whole)) =
        (front, p.tokens, chars, inr (first, others, e, leads, are), inr stops)

    pub numeral_at : (signed : Bool) (at : Setting) (w : Left T) (sign digits : List ℕ)
        (rest : Left T) → HasNumeral seen code reading signed at w sign digits rest
        → (front : List T) × IsNumeralAt seen code signed w.tokens sign digits front rest.tokens
    numeral_at signed at w sign digits rest (mid, inl (x, may, is, p, e), has) =
        let P : List ℕ → Type 0 = λ l. HasDigits seen code reading (is_none l) at mid digits rest in
        let (front, split, chars, which, stops) =
        digits_at false at mid digits rest (subst P e has) in (
          seen x ∷ front,
          (
            p.tokens ∙ ap (λ l. seen x ∷ l) split,
            more_characters x front sign digits e chars,
            inr (
              may,
              code x,
              is,
              e,
              elim which [
                | inl (never, lone) ↦ true_is_false (sym never)
                | inr leads ↦ leads
              ],
            ),
            stops,
          ),
        )
    numeral_at signed at w sign digits rest (mid, inr (none, e, same), has) =
        let (front, split, chars, which, stops) = digits_at (is_none sign) at mid digits rest has
        in (
          front,
          (
            ap (λ l. l.tokens) (sym same) ∙ split,
            unsigned_characters front sign digits e chars,
            inl (
              e,
              elim which [
                | inl (may, lone) ↦ inl lone
                | inr leads ↦ inr leads
              ],
            ),
            stops,
          ),
        )

    -- ---- and in complete input matches are passed

    after_passed : (front rest : List T) (w : Left T) → w.tokens ≡ front ++ rest
        → Passed reading front w (after reading front rest w)
    after_passed front rest w e = record { tokens = e; place = refl; recorded = refl }

    -- the first character
    first_of : (front : List T) (c : ℕ) (cs : List ℕ) → AreCharacters seen code front (c ∷ cs)
        → (x : K) × (others : List T) × (front ≡ seen x ∷ others) × (code x ≡ c)
        × AreCharacters seen code others cs
    first_of [] c cs chars = absurd chars
    first_of (t ∷ ts) c cs ((x, is, same), chars) =
        (x, ts, ap (λ z. z ∷ ts) (sym is), same, chars)

    -- of one character
    only_one : (front : List T) (c : ℕ) → AreCharacters seen code front (c ∷ [])
        → (x : K) × (front ≡ seen x ∷ []) × (code x ≡ c)
    only_one [] c chars = absurd chars
    only_one (t ∷ []) c ((x, is, same), chars) = (x, ap (λ z. z ∷ []) (sym is), same)
    only_one (t ∷ u ∷ ts) c (head, chars) = absurd chars

    digits_pass : (zero : Bool) (at : Complete) (w : Left T) (front rest : List T)
        (digits : List ℕ) → w.tokens ≡ front ++ rest → AreCharacters seen code front digits
        → ((zero ≡ true) × (digits ≡ 48 ∷ [])) ⊎ IsLeading digits
        → ((digits ≡ 48 ∷ []) ⊎ NoneFirst seen code IsDecDigit rest)
        → HasDigits seen code reading zero (complete at) w digits (after reading front rest w)
    digits_pass zero at w front rest digits e chars (inl (may, lone)) stops =
        let (x, one, is) = only_one front 48
        (subst (λ l. AreCharacters seen code front l) lone chars) in
        let P : List T → Type 0 = λ l. Passed reading l w (after reading front rest w) in
        inl (x, may, is, subst P one (after_passed front rest w e), lone)
    digits_pass zero at w front rest digits e chars (inr (first, others, is, leads, are))
        (inl lone) =
        absurd (omega (arith, leads.0, same_first (sym is ∙ lone)))
    digits_pass zero at w front rest digits e chars (inr (first, others, is, leads, are))
        (inr stops) = inr (
          front,
          first,
          others,
          is,
          leads,
          are,
          after_passed front rest w e,
          chars,
          stops,
          λ nothing. refl,
        )

    -- a digit is not a sign
    no_sign_first : (front rest tokens : List T) (c : ℕ) (cs : List ℕ)
        → AreCharacters seen code front (c ∷ cs) → IsDecDigit c → tokens ≡ front ++ rest
        → NoneFirst seen code IsSign tokens
    no_sign_first front rest tokens c cs chars digit e =
        let (x, others, is, same, more) = first_of front c cs chars in
        inr (
          seen x,
          others ++ rest,
          e ∙ ap (λ l. l ++ rest) is,
          (
            x,
            refl,
            λ sign. elim sign [
              | inl plus ↦ omega (arith, same, plus, digit.0)
              | inr minus ↦ omega (arith, same, minus, digit.0)
            ],
          ),
        )

    no_sign : (front rest tokens : List T) (digits : List ℕ)
        → AreCharacters seen code front digits → (digits ≡ 48 ∷ []) ⊎ IsLeading digits
        → tokens ≡ front ++ rest → NoneFirst seen code IsSign tokens
    no_sign front rest tokens digits chars (inl lone) e =
        no_sign_first front rest tokens 48 [] (subst (λ l. AreCharacters seen code front l) lone
        chars) (omega arith, omega arith) e
    no_sign front rest tokens digits chars (inr (first, others, is, leads, are)) e =
        no_sign_first front rest tokens first others
        (subst (λ l. AreCharacters seen code front l) is chars)
        (omega (arith, leads.0), leads.1) e

    -- a numeral is passed, and `rest` is the tokens after it
    abbrev IsPassed : Bool → Complete → Left T → List ℕ → List ℕ → List T → Type 0
    IsPassed signed at w sign digits rest =
        (b : Left T) × HasNumeral seen code reading signed (complete at) w sign digits b
        × (b.tokens ≡ rest)

    pub numeral_passed : (signed : Bool) (at : Complete) (w : Left T) (sign digits : List ℕ)
        (front rest : List T) → IsNumeralAt seen code signed w.tokens sign digits front rest
        → IsPassed signed at w sign digits rest
    numeral_passed signed at w sign digits front rest (e, chars, inl (none, which), stops) =
        let P : List ℕ → Type 0 = λ l. AreCharacters seen code front (l ++ digits) in
        let D : List ℕ → Type 0 =
        λ l. HasDigits seen code reading (is_none l) (complete at) w digits
        (after reading front rest w) in
        let spelled : AreCharacters seen code front digits = subst P none chars in (
          after reading front rest w,
          (
            w,
            inr (λ may. no_sign front rest w.tokens digits spelled which e, none, refl),
            subst D (sym none) (digits_pass true at w front rest digits e spelled (elim which [
              | inl lone ↦ inl (refl, lone)
              | inr leads ↦ inr leads
            ]) stops),
          ),
          refl,
        )
    numeral_passed signed at w sign digits front rest
        (e, chars, inr (may, c, is, one, leads), stops) =
        let P : List ℕ → Type 0 = λ l. AreCharacters seen code front (l ++ digits) in
        let (x, others, start, same, more) = first_of front c digits (subst P one chars) in
        let split : w.tokens ≡ seen x ∷ (others ++ rest) = e ∙ ap (λ l. l ++ rest) start in
        let a = after reading (seen x ∷ []) (others ++ rest) w in
        let D : List ℕ → Type 0 = λ l. HasDigits seen code reading (is_none l) (complete at) a
        digits (after reading others rest a) in (
          after reading others rest a,
          (
            a,
            inl (
              x,
              may,
              subst IsSign (sym same) is,
              after_passed (seen x ∷ []) (others ++ rest) w split,
              one ∙ ap (λ d. d ∷ []) (sym same),
            ),
            subst D (sym one) (digits_pass false at a others rest digits refl more (inr leads)
                stops),
          ),
          refl,
        )
