-- Lists of numbers: what they begin with.
use Rattle.std.specs.Prelude.{◌≡◌, ◌⊎◌, ◌↔◌, ℕ, List, [], ◌∷◌, ◌++◌}
use Rattle.std.specs.Borrow.{Bor}
use Rattle.std.specs.List.{All}
use Rattle.std.proofs.Common.{refl, sym, ap, inl, inr, ◌∙◌, arith, append_assoc}
use Rattle.std.proofs.lemmas.List.{append-nil}
use Rattle.std.proofs.lemmas.List.Elements.{All-nil}
use Rattle.winnow.specs.AsChar.{IsDecDigit}
use Rattle.winnow.specs.Grammar.Inversion.{slice_for}
use Rattle.winnow.specs.Texts.{AtLeast, BothText, EachText, Members, PartedText, Spelled, Text}
use Rattle.winnow.specs.Prefixes.{FollowedBy, IsPrefixOf, NoneOr}
use Rattle.winnow.specs.Prefixes.Parts.{whole_prefix}
use Rattle.example_callers.specs.Prefixes.{IsListPrefix, IsMarkedPrefix, NumbersText}
use Rattle.example_callers.specs.Times.{Digits, MarkedText}

-- one more element
one_more : {T O : Type 0} (text : Text T O) (os : List O) (o : O) (xs ys : List T)
    → EachText text os xs → text o ys → EachText text (os ++ o ∷ []) (xs ++ ys)
unfolding EachText
one_more text [] o xs ys e a = (ys, [], a, refl, ap (λ l. l ++ ys) e ∙ sym (append-nil ys))
one_more text (p ∷ os) o xs ys (us, vs, b, more, e) a = (
  us,
  vs ++ ys,
  b,
  one_more text os o vs ys more a,
  ap (λ l. l ++ ys) e ∙ append_assoc us vs ys,
)

-- a number after a comma
next_number : (t : ℕ) (ts vs : List ℕ) → All IsDecDigit (t ∷ ts) → vs ≡ 44 ∷ t ∷ ts
    → (o : Bor (List ℕ)) × MarkedText 44 o vs
unfolding BothText Spelled Members
next_number t ts vs all e =
    let (slice, shown) = slice_for (t ∷ ts) in
    (slice, (44, slice, 44 ∷ [], t ∷ ts, (refl, refl), (all, omega arith, shown), e, refl))

module _ (digits : (xs : List ℕ) → IsPrefixOf Digits xs ↔ All IsDecDigit xs)
    (marked : (xs : List ℕ) → IsPrefixOf (MarkedText 44) xs ↔ IsMarkedPrefix 44 xs)
    (others : (xs : List ℕ) → IsPrefixOf (EachText (MarkedText 44)) xs
    ↔ FollowedBy (EachText (MarkedText 44)) (NoneOr (IsPrefixOf (MarkedText 44))) xs)
    (some : (xs : List ℕ) → IsPrefixOf (AtLeast 1 NumbersText) xs
    ↔ (IsPrefixOf Digits xs ⊎ FollowedBy Digits (IsPrefixOf (EachText (MarkedText 44))) xs))
    (any : (xs : List ℕ) → IsPrefixOf NumbersText xs
    ↔ NoneOr (IsPrefixOf (AtLeast 1 NumbersText)) xs) where
  -- numbers, and then nothing, a comma, or a comma and digits
  ended : (front : List ℕ) (o : Bor (List ℕ)) (os : List (Bor (List ℕ))) (xs us vs : List ℕ)
      → Digits o xs → EachText (MarkedText 44) os us → front ≡ xs ++ (us ++ vs)
      → IsMarkedPrefix 44 vs → IsListPrefix front
  unfolding PartedText
  ended front o os xs us vs a each e (inl none) =
      let all = ap (λ l. us ++ l) none ∙ append-nil us in
      inl (o ∷ os, (xs, us, a, each, e ∙ ap (λ l. xs ++ l) all))
  ended front o os xs us vs a each e (inr ([], all, d)) = inr (
    o ∷ os,
    xs ++ us,
    ((xs, us, a, each, refl), omega arith),
    e ∙ ap (λ l. xs ++ (us ++ l)) d ∙ sym (append_assoc xs us (44 ∷ [])),
  )
  ended front o os xs us vs a each e (inr (t ∷ ts, all, d)) =
      let (p, b) = next_number t ts vs all d in
      inl (o ∷ (os ++ p ∷ []), (xs, us ++ vs, a, one_more (MarkedText 44) os p us vs each b, e))

  from_one : (front : List ℕ) → IsPrefixOf Digits front
      ⊎ FollowedBy Digits (IsPrefixOf (EachText (MarkedText 44))) front → IsListPrefix front
  unfolding PartedText Members EachText
  from_one [] (inl p) = inl ([], refl)
  from_one (t ∷ ts) (inl p) =
      let (slice, shown) = slice_for (t ∷ ts) in
      let number : Digits slice (t ∷ ts) = ((digits (t ∷ ts)).0 p, omega arith, shown) in
      inl (slice ∷ [], (t ∷ ts, [], number, refl, sym (append-nil (t ∷ ts))))
  from_one front (inr (o, xs, ys, a, p, e)) =
      let (os, us, vs, each, last, d) = (others ys).0 p in
      ended front o os xs us vs a each (e ∙ ap (λ l. xs ++ l) d)
      (elim last [ inl none ↦ inl none | inr q ↦ (marked vs).0 q ])

  with_comma : (front : List ℕ) (os : List (Bor (List ℕ))) (list : List ℕ)
      → AtLeast 1 NumbersText os list → front ≡ list ++ 44 ∷ [] → IsPrefixOf NumbersText front
  unfolding PartedText
  with_comma front [] list (it, enough) e = absurd (omega (arith, enough))
  with_comma front (o ∷ os) list ((xs, us, a, each, d), enough) e =
      let comma = (marked (44 ∷ [])).1 (inr ([], All-nil IsDecDigit, refl)) in
      let more = (others (us ++ 44 ∷ [])).1 (os, us, 44 ∷ [], each, inr comma, refl) in
      let all = e ∙ ap (λ l. l ++ 44 ∷ []) d ∙ append_assoc xs us (44 ∷ []) in
      (any front).1 (inr ((some front).1 (inr (o, xs, us ++ 44 ∷ [], a, more, all))))

  pub list_prefix : (front : List ℕ) → IsPrefixOf NumbersText front ↔ IsListPrefix front
  unfolding PartedText
  list_prefix front = (
    λ p. elim ((any front).0 p) [
      | inl none ↦ inl ([], none)
      | inr q ↦ from_one front ((some front).0 q)
    ],
    λ it. elim it [
      | inl (os, list) ↦ whole_prefix NumbersText os front list
      | inr (os, list, some_of, e) ↦ with_comma front os list some_of e
    ],
  )
