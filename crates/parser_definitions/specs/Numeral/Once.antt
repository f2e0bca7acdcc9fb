-- The input starts with one numeral, or there is one reason why it does not, if tokens with the
-- same view are one character.
use Rattle.std.specs.Prelude.{◌≡◌, ℕ, Bool, true, List, [], ◌∷◌, ◌++◌}
use Rattle.std.specs.List.{AllByRecursion}
use Rattle.std.proofs.Common.{refl, sym, ap, subst, ◌∙◌, inl, inr, arith}
use Rattle.streams.specs.Equal.{same_first, same_others, true_is_false}
use Rattle.streams.specs.Reading.{Reading}
use Rattle.stream_sets.specs.AsChar.{IsDecDigit}
use Rattle.parser_definitions.specs.Class.{CharIsFunction}
use Rattle.parser_definitions.specs.Digits.{AreCharacters, IsOf, none_behind, one_first, one_front}
use Rattle.parser_definitions.specs.Left.{Left}
use Rattle.parser_definitions.specs.Numeral.{HasDigits, HasNoDigits, HasNone, HasNumeral, HasSign}
use Rattle.parser_definitions.specs.Numeral.{IsIncomplete, IsLeadingDigit, IsSign, LacksMore}
use Rattle.parser_definitions.specs.Numeral.{is_none, left_for}
use Rattle.parser_definitions.specs.Outcome.{Setting}
use Rattle.parser_definitions.specs.Passed.{Passed, same_passed}

-- a digit from 1 to 9 is a digit
leading_digit : (c : ℕ) → IsLeadingDigit c → IsDecDigit c
leading_digit c is = (omega (arith, is.0), is.1)

nothing_first : {X P : Type 0} {x : X} {xs tokens : List X} → tokens ≡ [] → tokens ≡ x ∷ xs → P
nothing_first e f = absurd cc

module _ {K T L : Type 0} (seen : K → T) (code : K → ℕ) (reading : Reading T L)
    (once : CharIsFunction seen code) (at : Setting) where
  -- one token is passed
  one_token : (x y : K) (w a b : Left T) → Passed reading (seen x ∷ []) w a
      → Passed reading (seen y ∷ []) w b → (code x ≡ code y) × (a ≡ b)
  one_token x y w a b p q =
      let same : seen x ≡ seen y = same_first (sym p.tokens ∙ q.tokens) in
      (once x y same, same_passed (ap (λ t. t ∷ []) same) p q)

  pub one_sign : (signed : Bool) (w : Left T) (sign other : List ℕ) (a b : Left T)
      → HasSign seen code reading signed w sign a → HasSign seen code reading signed w other b
      → (sign ≡ other) × (a ≡ b)
  one_sign signed w sign other a b (inl (x, may, is, p, e)) (inl (y, could, was, q, f)) =
      let one = one_token x y w a b p q in
      (e ∙ ap (λ c. c ∷ []) one.0 ∙ sym f, one.1)
  one_sign signed w sign other a b (inl (x, may, is, p, e)) (inr (none, f, same)) =
      absurd (one_first seen code once IsSign (seen x) a.tokens w.tokens p.tokens
      (x, refl, is) (none may))
  one_sign signed w sign other a b (inr (none, e, same)) (inl (y, could, was, q, f)) =
      absurd (one_first seen code once IsSign (seen y) b.tokens w.tokens q.tokens
      (y, refl, was) (none could))
  one_sign signed w sign other a b (inr (none, e, same)) (inr (never, f, stays)) =
      (e ∙ sym f, same ∙ sym stays)

  -- the first character of some digits
  abbrev FirstIs : List T → ℕ → List ℕ → Type 0
  FirstIs front first others =
      (t : T) × (ts : List T) × (front ≡ t ∷ ts) × IsOf seen code once t first
      × AreCharacters seen code ts others

  first_is : (front : List T) (first : ℕ) (others : List ℕ)
      → AreCharacters seen code front (first ∷ others) → FirstIs front first others
  first_is [] first others chars = absurd chars
  first_is (t ∷ ts) first others chars = (t, ts, refl, chars.0, chars.1)

  leads_front : (w a : Left T) (front : List T) (digits : List ℕ) (first : ℕ)
      (others : List ℕ) → digits ≡ first ∷ others → AreCharacters seen code front digits
      → Passed reading front w a
      → (t : T) × (ts : List T) × (w.tokens ≡ t ∷ (ts ++ a.tokens))
      × IsOf seen code once t first
  leads_front w a front digits first others e chars p =
      let P : List ℕ → Type 0 = λ l. AreCharacters seen code front l in
      let one = first_is front first others (subst P e chars) in
      (one.0, one.1, p.tokens ∙ ap (λ l. l ++ a.tokens) one.2, one.3)

  zero_leads : (x : K) (t : T) (first : ℕ) (rest tokens more : List T) → code x ≡ 48
      → tokens ≡ seen x ∷ rest → tokens ≡ t ∷ more → IsOf seen code once t first
      → IsLeadingDigit first → ⊥
  zero_leads x t first rest tokens more is e f (y, other, same) leads =
      omega (arith, is, same, leads.0, once x y (same_first (sym e ∙ f) ∙ sym other))

  pub one_digits : (zero : Bool) (w : Left T) (xs ys : List ℕ) (a b : Left T)
      → HasDigits seen code reading zero at w xs a → HasDigits seen code reading zero at w ys b
      → (xs ≡ ys) × (a ≡ b)
  one_digits zero w xs ys a b (inl (x, may, is, p, e)) (inl (y, could, was, q, f)) =
      (e ∙ sym f, (one_token x y w a b p q).1)
  one_digits zero w xs ys a b (inl (x, may, is, p, e))
      (inr (front, first, others, f, leads, are, q, chars, stops, whole)) =
      let other = leads_front w b front ys first others f chars q in
      absurd (zero_leads x other.0 first a.tokens w.tokens (other.1 ++ b.tokens)
      is p.tokens other.2
      other.3 leads)
  one_digits zero w xs ys a b
      (inr (front, first, others, f, leads, are, q, chars, stops, whole))
      (inl (x, may, is, p, e)) =
      let other = leads_front w a front xs first others f chars q in
      absurd (zero_leads x other.0 first b.tokens w.tokens (other.1 ++ a.tokens)
      is p.tokens other.2
      other.3 leads)
  one_digits zero w xs ys a b
      (inr (front, first, others, e, leads, are, p, chars, stops, whole))
      (inr (before, lead, more, f, leading, all, q, spelled, ends, ended)) =
      let P : List ℕ → Type 0 = λ l. AllByRecursion IsDecDigit l in
      let one = one_front seen code once IsDecDigit front before a.tokens b.tokens xs ys
      (sym p.tokens ∙ q.tokens) chars (subst P (sym e) (leading_digit first leads, are)) stops
      spelled (subst P (sym f) (leading_digit lead leading, all)) ends in
      let Q : List T → Type 0 = λ l. Passed reading l w b in
      (one.1, same_passed refl p (subst Q (sym one.0) q))

  pub one_numeral : (signed : Bool) (w : Left T) (sign other xs ys : List ℕ) (a b : Left T)
      → HasNumeral seen code reading signed at w sign xs a
      → HasNumeral seen code reading signed at w other ys b
      → (sign ≡ other) × ((xs ≡ ys) × (a ≡ b))
  one_numeral signed w sign other xs ys a b (m, first, r) (n, before, q) =
      let one = one_sign signed w sign other m n first before in
      let P : List ℕ → Left T → Type 0 =
      λ l x. HasDigits seen code reading (is_none l) at x ys b in
      let Q : List ℕ → Type 0 = λ l. P l m in
      let R : Left T → Type 0 = λ x. P other x in (
        one.0,
        one_digits (is_none sign) m xs ys a b r
            (subst Q (sym one.0) (subst R (sym one.1) q)),
      )

  -- ---- no numeral

  digits_or_lack : (zero : Bool) (w : Left T) (digits : List ℕ) (end b : Left T)
      → HasDigits seen code reading zero at w digits end → LacksMore seen code reading w b
      → at.more ≡ true → ⊥
  digits_or_lack zero w digits end b (inl (x, may, is, p, e)) (inl (none, same)) cut =
      nothing_first none p.tokens
  digits_or_lack zero w digits end b (inl (x, may, is, p, e)) (inr (y, leads, q, all)) cut =
      zero_leads x (seen y) (code y) end.tokens w.tokens b.tokens is p.tokens
      q.tokens (y, refl, refl) leads
  digits_or_lack zero w digits end b
      (inr (front, first, others, e, leads, are, p, chars, stops, whole)) (inl (none, same)) cut =
      nothing_first none (leads_front w end front digits first others e chars p).2
  digits_or_lack zero w digits end b
      (inr (front, first, others, e, leads, are, p, chars, stops, whole))
      (inr (y, leading, q, all)) cut =
      let one = leads_front w end front digits first others e chars p in
      let rest : b.tokens ≡ one.1 ++ end.tokens = same_others (sym q.tokens ∙ one.2) in
      let none = none_behind seen code once IsDecDigit one.1 end.tokens b.tokens rest all
      stops in
      true_is_false (sym cut ∙ whole none)

  digits_or_none : (zero : Bool) (w : Left T) (digits : List ℕ) (end : Left T)
      → HasDigits seen code reading zero at w digits end → HasNoDigits seen code zero at w → ⊥
  digits_or_none zero w digits end (inl (x, may, is, p, e)) (inl (none, whole)) =
      nothing_first none p.tokens
  digits_or_none zero w digits end (inl (x, may, is, p, e)) (inr (y, rest, f, other, never)) =
      never may (once y x (same_first (sym f ∙ p.tokens)) ∙ is)
  digits_or_none zero w digits end
      (inr (front, first, others, e, leads, are, p, chars, stops, whole)) (inl (none, ended)) =
      nothing_first none (leads_front w end front digits first others e chars p).2
  digits_or_none zero w digits end
      (inr (front, first, others, e, leads, are, p, chars, stops, whole))
      (inr (y, rest, f, other, never)) =
      let (t, ts, tokens, (z, is, same)) = leads_front w end front digits first others e chars p in
      let P : ℕ → Type 0 = λ c. IsLeadingDigit c in
      other (subst P (sym (once y z (same_first (sym f ∙ tokens) ∙ sym is) ∙ same)) leads)

  one_lack : (w a b : Left T) → LacksMore seen code reading w a
      → LacksMore seen code reading w b → a ≡ b
  one_lack w a b (inl (none, same)) (inl (never, stays)) = same ∙ sym stays
  one_lack w a b (inl (none, same)) (inr (y, leading, q, are)) = nothing_first none q.tokens
  one_lack w a b (inr (x, leads, p, all)) (inl (none, same)) = nothing_first none p.tokens
  one_lack w a b (inr (x, leads, p, all)) (inr (y, leading, q, are)) = (one_token x y w a b p q).1

  lack_or_none : (zero : Bool) (w b : Left T) → LacksMore seen code reading w b
      → at.more ≡ true → HasNoDigits seen code zero at w → ⊥
  lack_or_none zero w b (inl (none, same)) cut (inl (never, whole)) =
      true_is_false (sym cut ∙ whole)
  lack_or_none zero w b (inl (none, same)) cut (inr (y, rest, f, other, never)) =
      nothing_first none f
  lack_or_none zero w b (inr (x, leads, p, all)) cut (inl (none, whole)) =
      nothing_first none p.tokens
  lack_or_none zero w b (inr (x, leads, p, all)) cut (inr (y, rest, f, other, never)) =
      let P : ℕ → Type 0 = λ c. IsLeadingDigit c in
      other (subst P (once x y (same_first (sym p.tokens ∙ f))) leads)

  lacks_there : (signed : Bool) (w m n b : Left T) (sign other : List ℕ)
      → HasSign seen code reading signed w sign m → HasSign seen code reading signed w other n
      → LacksMore seen code reading n b → LacksMore seen code reading m b
  lacks_there signed w m n b sign other first before lacks =
      let P : Left T → Type 0 = λ x. LacksMore seen code reading x b in
      subst P (sym (one_sign signed w sign other m n first before).1) lacks

  none_there : (signed : Bool) (w m n : Left T) (sign other : List ℕ)
      → HasSign seen code reading signed w sign m → HasSign seen code reading signed w other n
      → HasNoDigits seen code (is_none other) at n → HasNoDigits seen code (is_none sign) at m
  none_there signed w m n sign other first before none =
      let one = one_sign signed w sign other m n first before in
      let P : List ℕ → Type 0 = λ l. HasNoDigits seen code (is_none l) at m in
      let Q : Left T → Type 0 = λ x. HasNoDigits seen code (is_none other) at x in
      subst P (sym one.0) (subst Q (sym one.1) none)

  -- ---- which case applies

  module _ {S : Type 0} (signed : Bool) (s : S) (w : Left T) where
    pub numeral_or_incomplete : (sign digits : List ℕ) (end place : Left T)
        → HasNumeral seen code reading signed at w sign digits end
        → IsIncomplete seen code reading signed s at w place → ⊥
    numeral_or_incomplete sign digits end place (m, first, r)
        (other, n, passed, before, lacks, cut, e) =
        digits_or_lack (is_none sign) m digits end passed r
        (lacks_there signed w m n passed sign other first before lacks) cut

    pub numeral_or_none : (sign digits : List ℕ) (end : Left T)
        → HasNumeral seen code reading signed at w sign digits end
        → HasNone seen code reading signed s at w → ⊥
    numeral_or_none sign digits end (m, first, r) (other, n, before, none) =
        digits_or_none (is_none sign) m digits end r
        (none_there signed w m n sign other first before none)

    pub one_incomplete : (a b : Left T) → IsIncomplete seen code reading signed s at w a
        → IsIncomplete seen code reading signed s at w b → a ≡ b
    one_incomplete a b (sign, m, x, first, lacks, cut, e) (other, n, y, before, short, too, f) =
        let same = one_lack m x y lacks (lacks_there signed w m n y sign other first before short)
        in e ∙ ap (λ z. left_for at.form w z) same ∙ sym f

    pub incomplete_or_none : (a : Left T) → IsIncomplete seen code reading signed s at w a
        → HasNone seen code reading signed s at w → ⊥
    incomplete_or_none a (sign, m, x, first, lacks, cut, e) (other, n, before, none) =
        lack_or_none (is_none sign) m x lacks cut
        (none_there signed w m n sign other first before none)
