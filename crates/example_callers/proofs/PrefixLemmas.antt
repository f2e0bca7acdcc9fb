-- Digits, marks and lists of numbers: what they begin with, and their first invalid byte.
use Rattle.std.specs.Prelude.{◌≡◌, ◌⊎◌, ◌↔◌, ℕ, List, [], ◌∷◌, ◌++◌, length}
use Rattle.std.specs.Borrow.{Bor}
use Rattle.std.specs.List.{All}
use Rattle.std.proofs.Common.{refl, sym, ap, subst, inl, inr, ◌∙◌, arith, append_assoc}
use Rattle.std.proofs.Common.{length-append}
use Rattle.std.proofs.lemmas.List.{append-nil}
use Rattle.std.proofs.lemmas.List.Elements.{All-cons, All-nil}
use Rattle.winnow.specs.AsChar.{IsDecDigit}
use Rattle.winnow.specs.Counted.{counted_reading}
use Rattle.winnow.specs.Equal.{same_first, same_others}
use Rattle.winnow.specs.Grammar.Inversion.{slice_for}
use Rattle.winnow.specs.Texts.{BothText, Itself, Members, NotFirst, Spelled, Text}
use Rattle.winnow.specs.Prefixes.{FollowedBy, IsDelimitedBy, IsFirstInvalid, IsNonempty, IsPrefixOf}
use Rattle.winnow.specs.Prefixes.Parts.{between_of, members_prefix, no_front}
use Rattle.example_callers.specs.Prefixes.{IsDigitOr, IsMarkedPrefix, IsTimePrefix}
use Rattle.example_callers.specs.Times.{Digits, MarkedText}

-- ---- one token

-- of one token: none of it, or all of it
pub none_or_one : (x : ℕ) (front more : List ℕ) → x ∷ [] ≡ front ++ more
    → (front ≡ []) ⊎ (front ≡ x ∷ [])
none_or_one x [] more e = inl refl
none_or_one x (t ∷ ts) more e =
    let none : ts ≡ [] = no_front ts more (sym (same_others e)) in
    let same : x ≡ t = same_first e in inr (cc)

-- tokens that do not begin with `x`
pub other_token : (these : ℕ → Type 0) (x : ℕ) → these x → (tokens : List ℕ) → NotFirst these tokens
    → (more : List ℕ) → tokens ≡ x ∷ more → ⊥
other_token these x is [] ends more e = absurd (cc)
other_token these x is (t ∷ ts) ends more e = ends (subst these (sym (same_first e)) is)

pub not_first : (these those : ℕ → Type 0) → ((t : ℕ) → those t → these t) → (tokens : List ℕ)
    → NotFirst these tokens → NotFirst those tokens
not_first these those among [] ends = tt
not_first these those among (t ∷ ts) ends = λ is. ends (among t is)

-- ---- digits, and digits after a mark

pub some_digits : IsNonempty Digits
unfolding Members
some_digits =
    let (slice, shown) = slice_for {T = ℕ} (48 ∷ []) in
    let digit : IsDecDigit 48 = omega arith in
    (slice, 48 ∷ [], (All-cons IsDecDigit 48 [] digit (All-nil IsDecDigit), omega arith, shown))

pub some_marked : (mark : ℕ) → IsNonempty (MarkedText mark)
unfolding BothText Spelled
some_marked mark =
    let (slice, digits, a) = some_digits in
    (slice, mark ∷ digits, (mark, slice, mark ∷ [], digits, (refl, refl), a, refl, refl))

pub never_empty : (mark : ℕ) (o : Bor (List ℕ)) → MarkedText mark o [] → ⊥
unfolding BothText Spelled
never_empty mark o (p, q, ys, zs, (is, e), a, d, out) = absurd (cc)

-- a mark is no digit
pub mark_delimits : (mark : ℕ) → (IsDecDigit mark → ⊥) → IsDelimitedBy Digits (MarkedText mark)
unfolding BothText Spelled
mark_delimits mark other = record {
  apart = λ o xs t a longer (p, more, (q, r, ys, zs, (is, e), b, d, out)).
      let P : ℕ → Type 0 = λ z. IsDecDigit z in
      let (all, any) = (members_prefix counted_reading IsDecDigit 1 slice_for (xs ++ t ∷ [])).0
      longer in
      other (subst P (same_first (d ∙ ap (λ l. l ++ zs) e)) (between_of IsDecDigit xs t [] all));
}

-- nothing continues a mark
pub digits_delimit : (mark : ℕ) → IsDelimitedBy (Itself mark) Digits
unfolding Spelled
digits_delimit mark = record {
  apart = λ o xs t (is, e) (p, more, (was, f)) starts. omega (
    arith,
    ap (λ l. length l) e,
    ap (λ l. length l) f,
    length-append (xs ++ t ∷ []) more,
    length-append xs (t ∷ []),
  );
}

-- a mark does not continue the digits after a mark
pub marked_delimits : (mark : ℕ) → (IsDecDigit mark → ⊥)
    → IsDelimitedBy (MarkedText mark) (MarkedText mark)
unfolding BothText Spelled Members
marked_delimits mark other = record {
  apart = λ o xs t (p, q, ys, zs, (is, e), a, d, out) (
    p1,
    more,
    (
      q1,
      r1,
      ys1,
      zs1,
      (is1, e1),
      (all, enough, shown),
      d1,
      out1,
    ),
  ) (p2, more2, (q2, r2, ys2, zs2, (is2, e2), c, d2, out2)).
      let P : ℕ → Type 0 = λ z. IsDecDigit z in
      let Q : List ℕ → Type 0 = λ l. All IsDecDigit l in
      let front : xs ≡ mark ∷ zs = d ∙ ap (λ l. l ++ zs) e in
      let whole : (zs ++ t ∷ []) ++ more ≡ zs1 =
      same_others (ap (λ l. (l ++ t ∷ []) ++ more) (sym front) ∙ d1 ∙ ap (λ l. l ++ zs1) e1) in
      let digits = subst Q (sym whole ∙ append_assoc zs (t ∷ []) more) all in
      other (subst P (same_first (d2 ∙ ap (λ l. l ++ zs2) e2))
      (between_of IsDecDigit zs t more digits));
}

module _ (mark : ℕ) (digits : (xs : List ℕ) → IsPrefixOf Digits xs ↔ All IsDecDigit xs)
    (front : List ℕ) where
  pub marked_there : (IsPrefixOf (Itself mark) front × IsNonempty Digits)
      ⊎ FollowedBy (Itself mark) (IsPrefixOf Digits) front → IsMarkedPrefix mark front
  unfolding Spelled
  marked_there (inl ((o, more, (is, e)), some)) = elim (none_or_one mark front more (sym e)) [
    | inl none ↦ inl none
    | inr one ↦ inr ([], All-nil IsDecDigit, one)
  ]
  marked_there (inr (o, xs, ys, (is, e), p, d)) =
      inr (ys, (digits ys).0 p, d ∙ ap (λ l. l ++ ys) e)

  pub marked_back : IsMarkedPrefix mark front
      → (IsPrefixOf (Itself mark) front × IsNonempty Digits)
      ⊎ FollowedBy (Itself mark) (IsPrefixOf Digits) front
  unfolding Spelled
  marked_back (inl none) =
      inl ((mark, mark ∷ [], (refl, ap (λ l. l ++ mark ∷ []) none)), some_digits)
  marked_back (inr (ys, all, e)) = inr (mark, mark ∷ [], ys, (refl, refl), (digits ys).1 all, e)

-- ---- digits, and more

-- Digits come first; after them, other tokens begin with the mark.
module _ {O P : Type 0} (whole : Text ℕ O) (others : Text ℕ P) (mark : ℕ)
    (digits : (front rest : List ℕ) → All IsDecDigit front → NotFirst IsDecDigit rest
    → IsFirstInvalid Digits (front ++ rest) front rest)
    (marked : (tokens : List ℕ) → NotFirst (λ t. t ≡ mark) tokens
    → IsFirstInvalid others tokens [] tokens)
    (first : (tokens front rest : List ℕ) → IsFirstInvalid Digits tokens front rest
    → ((o : Bor (List ℕ)) → Digits o front → ⊥) → IsFirstInvalid whole tokens front rest)
    (second : (tokens front mid more rest : List ℕ) (o : Bor (List ℕ)) → Digits o front
    → IsFirstInvalid Digits tokens front mid → IsFirstInvalid others mid more rest
    → IsFirstInvalid whole tokens (front ++ more) rest) where
  pub invalid_after_digits : (front rest : List ℕ) → All IsDecDigit front
      → NotFirst (IsDigitOr mark) rest → IsFirstInvalid whole (front ++ rest) front rest
  unfolding Members
  invalid_after_digits [] rest all ends =
      first rest [] rest
      (digits [] rest all (not_first (IsDigitOr mark) IsDecDigit (λ t is. inl is) rest ends))
      (λ o (none, enough, shown). absurd (omega (arith, enough)))
  invalid_after_digits (t ∷ ts) rest all ends =
      let Q : List ℕ → Type 0 = λ l. IsFirstInvalid whole ((t ∷ ts) ++ rest) l rest in
      let (slice, shown) = slice_for (t ∷ ts) in
      subst Q (append-nil (t ∷ ts))
      (second ((t ∷ ts) ++ rest) (t ∷ ts) rest [] rest slice (all, omega arith, shown)
      (digits (t ∷ ts) rest all
      (not_first (IsDigitOr mark) IsDecDigit (λ t is. inl is) rest ends))
      (marked rest (not_first (IsDigitOr mark) (λ t. t ≡ mark) (λ t is. inr is) rest ends)))

-- ---- times

module _ (digits : (xs : List ℕ) → IsPrefixOf Digits xs ↔ All IsDecDigit xs)
    (marked : (xs : List ℕ) → IsPrefixOf (MarkedText 58) xs ↔ IsMarkedPrefix 58 xs)
    (front : List ℕ) where
  pub time_there : (IsPrefixOf Digits front × IsNonempty (MarkedText 58))
      ⊎ FollowedBy Digits (IsPrefixOf (MarkedText 58)) front → IsTimePrefix front
  unfolding Members
  time_there (inl (p, some)) = inl ((digits front).0 p)
  time_there (inr (o, xs, ys, (all, enough, shown), p, e)) =
      let Q : List ℕ → Type 0 = λ l. All IsDecDigit l in
      elim ((marked ys).0 p) [
        | inl none ↦ inl (subst Q (sym (e ∙ ap (λ l. xs ++ l) none ∙ append-nil xs)) all)
        | inr (more, also, d) ↦ inr (xs, more, all, enough, also, e ∙ ap (λ l. xs ++ l) d)
      ]

  pub time_back : IsTimePrefix front → (IsPrefixOf Digits front × IsNonempty (MarkedText 58))
      ⊎ FollowedBy Digits (IsPrefixOf (MarkedText 58)) front
  unfolding Members
  time_back (inl all) = inl ((digits front).1 all, some_marked 58)
  time_back (inr (xs, more, all, enough, also, e)) =
      let (slice, shown) = slice_for xs in
      inr (
        slice,
        xs,
        58 ∷ more,
        (all, enough, shown),
        (marked (58 ∷ more)).1
            (inr (more, also, refl)),
        e,
      )
