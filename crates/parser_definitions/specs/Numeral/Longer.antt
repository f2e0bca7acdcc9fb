-- Numerals in partial input are numerals if more tokens follow.
use Rattle.std.specs.Prelude.{◌≡◌, ℕ, Bool, List, [], ◌++◌, ◌∷◌}
use Rattle.std.proofs.Common.{inl, inr, sym, subst, ap, ◌∙◌}
use Rattle.streams.specs.Equal.{true_is_false}
use Rattle.streams.specs.Reading.{Reading}
use Rattle.stream_sets.specs.AsChar.{IsDecDigit}
use Rattle.parser_definitions.specs.Digits.{AreCharacters, more_is_some, none_first_more}
use Rattle.parser_definitions.specs.Left.{Left, extend}
use Rattle.parser_definitions.specs.Numeral.{HasDigits, HasNone, HasNumeral, HasSign, IsSign}
use Rattle.parser_definitions.specs.Numeral.{is_none}
use Rattle.parser_definitions.specs.Outcome.{grown, on_cut}
use Rattle.parser_definitions.specs.Passed.{passed_longer}

module _ {K T L : Type 0} (seen : K → T) (code : K → ℕ) (reading : Reading T L) where
  -- a sign, or none, before further tokens
  sign_more : (signed : Bool) (more : List T) (flag : Bool) (w : Left T) (sign : List ℕ)
      (a : Left T) → (a.tokens ≡ [] → ⊥) → HasSign seen code reading signed w sign a
      → HasSign seen code reading signed (extend more w) sign (extend more a)
  sign_more signed more flag w sign a some (inl (x, may, is, p, e)) =
      inl (x, may, is, passed_longer more p, e)
  sign_more signed more flag w sign a some (inr (none, e, same)) =
      let there : w.tokens ≡ [] → ⊥ = λ nothing. some (ap (λ x. x.tokens) same ∙ nothing)
      in inr (
        (λ may. none_first_more seen code IsSign w.tokens more there (none may)),
        e,
        ap (λ z. extend more z) same,
      )

  digits_some : (zero : Bool) (w : Left T) (digits : List ℕ) (end : Left T)
      → HasDigits seen code reading zero on_cut w digits end → w.tokens ≡ [] → ⊥
  digits_some zero w digits end (inl (x, may, is, p, e)) nothing =
      absurd (cons_is_some (sym p.tokens ∙ nothing))
    where
      cons_is_some : {x : T} {xs : List T} → x ∷ xs ≡ [] → ⊥
      cons_is_some e = absurd (cc)
  digits_some zero w digits end
      (inr ([], first, others, is, leads, all, p, chars, none, ends)) nothing =
      absurd (subst (λ ds. AreCharacters seen code [] ds) is chars)
  digits_some zero w digits end
      (inr (t ∷ ts, first, others, is, leads, all, p, chars, none, ends)) nothing =
      absurd (cons_is_some (sym p.tokens ∙ nothing))
    where
      cons_is_some : {x : T} {xs : List T} → x ∷ xs ≡ [] → ⊥
      cons_is_some e = absurd (cc)

  digits_more : (zero : Bool) (more : List T) (flag : Bool) (w : Left T) (digits : List ℕ)
      (end : Left T) → HasDigits seen code reading zero on_cut w digits end
      → HasDigits seen code reading zero (grown flag) (extend more w) digits (extend more end)
  digits_more zero more flag w digits end (inl (x, may, is, p, e)) =
      inl (x, may, is, passed_longer more p, e)
  digits_more zero more flag w digits end
      (inr (front, first, others, is, leads, all, p, chars, none, ends)) =
      let some : end.tokens ≡ [] → ⊥ =
      λ nothing. true_is_false (ends nothing) in
      inr (
        front,
        first,
        others,
        is,
        leads,
        all,
        passed_longer more p,
        chars,
        none_first_more seen code IsDecDigit end.tokens more some none,
        (λ nothing. absurd (more_is_some seen code end.tokens more some nothing)),
      )

  pub numeral_more : (signed : Bool) (more : List T) (flag : Bool) (w : Left T)
      (sign digits : List ℕ) (end : Left T)
      → HasNumeral seen code reading signed on_cut w sign digits end
      → HasNumeral seen code reading signed (grown flag) (extend more w) sign digits
      (extend more end)
  numeral_more signed more flag w sign digits end (a, signs, runs) =
      let some = digits_some (is_none sign) a digits end runs in (
        extend more a,
        sign_more signed more flag w sign a some signs,
        digits_more (is_none sign) more flag a digits end runs,
      )

  pub none_more : {S : Type 0} (signed : Bool) (more : List T) (flag : Bool) (s : S) (w : Left T)
      → HasNone seen code reading signed s on_cut w
      → HasNone seen code reading signed s (grown flag) (extend more w)
  none_more signed more flag s w (sign, a, signs, inl (nothing, whole)) = true_is_false whole
  none_more signed more flag s w (sign, a, signs, inr (x, rest, first, other, zero)) =
      let some : a.tokens ≡ [] → ⊥ = λ nothing. cons_is_some (sym first ∙ nothing) in (
        sign,
        extend more a,
        sign_more signed more flag w sign a some signs,
        inr (x, rest ++ more, ap (λ l. l ++ more) first, other, zero),
      )
    where
      cons_is_some : {x : T} {xs : List T} → x ∷ xs ≡ [] → ⊥
      cons_is_some e = absurd (cc)
