-- The tokens that numerals pass, which are decimal digits.
use Rattle.std.specs.Prelude.{◌≡◌, ℕ, Bool, false, List, [], ◌∷◌, ◌++◌}
use Rattle.std.proofs.Common.{refl, sym, ap, subst, ◌∙◌, inl, inr, arith}
use Rattle.streams.specs.Equal.{same_first, same_others}
use Rattle.streams.specs.Reading.{Reading, units-nil}
use Rattle.parser_definitions.specs.Digits.{AreCharacters, characters_two, one_character}
use Rattle.parser_definitions.specs.Left.{Left}
use Rattle.parser_definitions.specs.NumberGrammar.{AreDigits}
use Rattle.parser_definitions.specs.Numeral.{HasDigits, HasNumeral, HasSign}
use Rattle.parser_definitions.specs.Outcome.{Setting}
use Rattle.parser_definitions.specs.Passed.{Passed}
use Rattle.winnow_numbers.proofs.LeftLemmas.{passed_two}

-- nothing is passed
passed_none : {T S : Type 0} (reading : Reading T S) (w rest : Left T) → rest ≡ w
    → Passed reading [] w rest
passed_none reading w rest same =
    let P : Left _ → Type 0 = λ x. Passed reading [] w x in
    subst P (sym same) (record {
      tokens = refl;
      place = sym (ap (λ n. reading.advance w.place n) (units-nil reading)
          ∙ reading.advance_none w.place);
      recorded = refl;
    })

module _ {K T S : Type 0} (seen : K → T) (code : K → ℕ) (reading : Reading T S) where
  -- what a sign and digits are passed by
  abbrev pub PassesAs : Left T → List ℕ → Left T → Type 0
  PassesAs w numbers rest =
      (front : List T) × Passed reading front w rest × AreCharacters seen code front numbers

  pub sign_front : (signed : Bool) (w : Left T) (sign : List ℕ) (rest : Left T)
      → HasSign seen code reading signed w sign rest → PassesAs w sign rest
  sign_front signed w sign rest (inl (x, may, is, passed, e)) =
      (seen x ∷ [], passed, one_character seen code x sign e)
  sign_front signed w sign rest (inr (none, e, same)) =
      let P : List ℕ → Type 0 = λ l. AreCharacters seen code [] l in
      ([], passed_none reading w rest same, subst P (sym e) tt)

  pub digits_front : (zero : Bool) (at : Setting) (w : Left T) (digits : List ℕ) (rest : Left T)
      → HasDigits seen code reading zero at w digits rest → PassesAs w digits rest
  digits_front zero at w digits rest (inl (x, may, is, passed, e)) =
      (seen x ∷ [], passed, one_character seen code x digits (e ∙ ap (λ c. c ∷ []) (sym is)))
  digits_front zero at w digits rest
      (inr (front, first, others, e, leads, are, passed, chars, stops, whole)) =
      (front, passed, chars)

  pub numeral_front : (signed : Bool) (at : Setting) (w : Left T) (sign digits : List ℕ)
      (rest : Left T) → HasNumeral seen code reading signed at w sign digits rest
      → PassesAs w (sign ++ digits) rest
  numeral_front signed at w sign digits rest (mid, first, r) =
      let p = sign_front signed w sign mid first in
      let q = digits_front _ at mid digits rest r in
      (p.0 ++ q.0, passed_two p.1 q.1, characters_two seen code p.0 q.0 sign digits p.2 q.2)

  -- the same where as much input may follow
  pub digits_at : (zero : Bool) (at also : Setting) (w : Left T) (digits : List ℕ) (rest : Left T)
      → at.more ≡ also.more → HasDigits seen code reading zero at w digits rest
      → HasDigits seen code reading zero also w digits rest
  digits_at zero at also w digits rest same (inl lone) = inl lone
  digits_at zero at also w digits rest same
      (inr (front, first, others, e, leads, are, passed, chars, stops, whole)) = inr (
        front,
        first,
        others,
        e,
        leads,
        are,
        passed,
        chars,
        stops,
        λ none. sym same ∙ whole none,
      )

  -- A numeral has digits, and a '0' that is the first of them is the only one.
  pub digits_are : (naught : Bool) (at : Setting) (w : Left T) (digits : List ℕ) (rest : Left T)
      → HasDigits seen code reading naught at w digits rest
      → AreDigits digits × ((others : List ℕ) → digits ≡ 48 ∷ others → others ≡ [])
  digits_are naught at w digits rest (inl (x, may, is, passed, e)) =
      let P : List ℕ → Type 0 = λ l. AreDigits l in (
        subst P (sym e) (omega arith, ((omega arith, omega arith), tt)),
        λ others f. sym (same_others (sym e ∙ f)),
      )
  digits_are naught at w digits rest
      (inr (front, first, others, e, leads, are, passed, chars, stops, whole)) =
      let P : List ℕ → Type 0 = λ l. AreDigits l in (
        subst P (sym e) (omega arith, ((omega (arith, leads.0), leads.1), are)),
        λ more f. absurd (omega (arith, leads.0, same_first (sym e ∙ f))),
      )

  pub unsigned : (w : Left T) (sign : List ℕ) (rest : Left T)
      → HasSign seen code reading false w sign rest → (sign ≡ []) × (rest ≡ w)
  unsigned w sign rest (inl (x, may, is, passed, e)) = absurd cc
  unsigned w sign rest (inr (none, e, same)) = (e, same)
