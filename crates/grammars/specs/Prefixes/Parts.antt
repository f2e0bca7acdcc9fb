-- The prefixes of tokens, sequences, choices and options, and of outputs that are mapped.
use Rattle.std.specs.Prelude.{◌≡◌, ◌⊎◌, ◌↔◌, ◌≤◌, ℕ, List, [], ◌∷◌, ◌++◌, length}
use Rattle.std.specs.Prelude.{replicate}
use Rattle.std.specs.List.{All}
use Rattle.std.proofs.Common.{refl, sym, ap, subst, inl, inr, ◌∙◌, arith, append_assoc}
use Rattle.std.proofs.lemmas.List.{append-nil, length-append, length-replicate}
use Rattle.std.proofs.lemmas.List.Elements.{All-append, All-cons, All-head, All-nil}
use Rattle.std.proofs.lemmas.List.Elements.{All-replicate, All-tail}
use Rattle.streams.specs.Equal.{same_first, same_others}
use Rattle.streams.specs.Reading.{Reading}
use Rattle.grammars.specs.Texts.{BothText, EitherText, Members}
use Rattle.grammars.specs.Texts.{Spelled, Text}
use Rattle.grammars.specs.Prefixes.{FollowedBy, IsNonempty, IsPrefixOf}

-- ---- lists

-- of two ways to split a list, one splits later
pub two_splits : {T : Type 0} (xs ys zs ws : List T) → xs ++ ys ≡ zs ++ ws
    → ((m : List T) × (zs ≡ xs ++ m) × (ys ≡ m ++ ws))
    ⊎ ((m : List T) × (xs ≡ zs ++ m) × (ws ≡ m ++ ys))
two_splits [] ys zs ws e = inl (zs, refl, e)
two_splits (x ∷ xs) ys [] ws e = inr (x ∷ xs, refl, sym e)
two_splits (x ∷ xs) ys (z ∷ zs) ws e =
    let first : x ≡ z = same_first e in
    elim (two_splits xs ys zs ws (same_others e)) [
      | inl (m, d, f) ↦ inl (m, cc, f)
      | inr (m, d, f) ↦ inr (m, cc, f)
    ]

-- no tokens of two lists, no tokens of the first
pub no_front : {T : Type 0} (xs ys : List T) → xs ++ ys ≡ [] → xs ≡ []
no_front [] ys e = refl
no_front (x ∷ xs) ys e = absurd (cc)

-- ---- prefixes

module _ {T O : Type 0} (text : Text T O) where
  -- a prefix of a prefix
  pub shorter_prefix : (xs ys : List T) → IsPrefixOf text (xs ++ ys) → IsPrefixOf text xs
  shorter_prefix xs ys (o, more, it) =
      let P : List T → Type 0 = λ l. text o l in
      (o, ys ++ more, subst P (append_assoc xs ys more) it)

  -- an encoding is a prefix of itself
  pub whole_prefix : (o : O) (xs : List T) → text o xs → IsPrefixOf text xs
  whole_prefix o xs it =
      let P : List T → Type 0 = λ l. text o l in (o, [], subst P (sym (append-nil xs)) it)

-- ---- tokens

pub spelled_prefix : {T O : Type 0} (xs : List T) (output : O) (front : List T)
    → IsPrefixOf (Spelled xs output) front ↔ ((more : List T) × (xs ≡ front ++ more))
unfolding Spelled
spelled_prefix xs output front =
    (λ (o, more, (is, e)). (more, sym e), λ (more, e). (output, more, (refl, sym e)))

-- all of two lists are in the set, so are those of the first
front_of : {T : Type 0} (these : T → Type 0) (xs ys : List T) → All these (xs ++ ys) → All these xs
front_of these [] ys all = All-nil these
front_of these (x ∷ xs) ys all = All-cons these x xs (All-head these x (xs ++ ys) all)
    (front_of these xs ys (All-tail these x (xs ++ ys) all))

-- and the token between them
pub between_of : {T : Type 0} (these : T → Type 0) (xs : List T) (t : T) (ys : List T)
    → All these (xs ++ t ∷ ys) → these t
between_of these [] t ys all = All-head these t ys all
between_of these (x ∷ xs) t ys all =
    between_of these xs t ys (All-tail these x (xs ++ t ∷ ys) all)

module _ {T L : Type 0} (reading : Reading T L) (these : T → Type 0) (least : ℕ)
    (slices : (xs : List T) → (slice : L) × reading.shows slice xs) where
  members_there : (front more : List T) (slice : L)
      → Members reading these least slice (front ++ more)
      → All these front × ((least ≤ length front) ⊎ ((t : T) × these t))
  unfolding Members
  members_there front [] slice (all, enough, shown) =
      let P : List T → Type 0 = λ l. All these l in (
        subst P (append-nil front) all,
        inl (omega (arith, enough, ap (λ l. length l) (append-nil front))),
      )
  members_there front (t ∷ more) slice (all, enough, shown) =
      (front_of these front (t ∷ more) all, inr (t, between_of these front t more all))

  members_back : (front : List T)
      → All these front × ((least ≤ length front) ⊎ ((t : T) × these t))
      → IsPrefixOf (Members reading these least) front
  unfolding Members
  members_back front (all, inl enough) =
      let (slice, shown) = slices front in whole_prefix (Members reading these least) slice front
      (all, enough, shown)
  members_back front (all, inr (t, is)) =
      let more = replicate least t in
      let (slice, shown) = slices (front ++ more) in (
        slice,
        more,
        (
          All-append these front more all (All-replicate these least t is),
          omega (arith, length-append front more, length-replicate least t),
          shown,
        ),
      )

  pub members_prefix : (front : List T) → IsPrefixOf (Members reading these least) front
      ↔ (All these front × ((least ≤ length front) ⊎ ((t : T) × these t)))
  members_prefix front =
      (λ (slice, more, it). members_there front more slice it, members_back front)

-- ---- sequences

module _ {T O1 O2 O : Type 0} (output : O1 → O2 → O) (first : Text T O1) (second : Text T O2)
    (front : List T) where
  both_there : IsPrefixOf (BothText output first second) front
      → (IsPrefixOf first front × IsNonempty second) ⊎ FollowedBy first (IsPrefixOf second) front
  unfolding BothText
  both_there (o, more, (o1, o2, xs, ys, a, b, e, out)) =
      let P : List T → Type 0 = λ l. first o1 l in
      let Q : List T → Type 0 = λ l. second o2 l in
      elim (two_splits front more xs ys e) [
        | inl (m, d, f) ↦ inl ((o1, m, subst P d a), (o2, ys, b))
        | inr (m, d, f) ↦ inr (o1, xs, m, a, (o2, more, subst Q f b), d)
      ]

  both_back : (IsPrefixOf first front × IsNonempty second)
      ⊎ FollowedBy first (IsPrefixOf second) front
      → IsPrefixOf (BothText output first second) front
  unfolding BothText
  both_back (inl ((o1, m, a), (o2, ys, b))) =
      (output o1 o2, m ++ ys, (o1, o2, front ++ m, ys, a, b, sym (append_assoc front m ys), refl))
  both_back (inr (o1, xs, zs, a, (o2, more, b), e)) =
      let all = ap (λ l. l ++ more) e ∙ append_assoc xs zs more in
      (output o1 o2, more, (o1, o2, xs, zs ++ more, a, b, all, refl))

  -- A prefix of a sequence is a prefix of the first part, if the second has an encoding; or an
  -- encoding by the first, followed by a prefix of the second.
  pub both_prefix : IsPrefixOf (BothText output first second) front
      ↔ ((IsPrefixOf first front × IsNonempty second)
      ⊎ FollowedBy first (IsPrefixOf second) front)
  both_prefix = (both_there, both_back)

-- A prefix of the first of three parts, of the second after the first, or of the third after both.
abbrev pub InOneOfThree : {T O1 O2 O3 : Type 0} → Text T O1 → Text T O2 → Text T O3 → List T
    → Type 0
InOneOfThree first second third front =
    (IsPrefixOf first front × (IsNonempty second × IsNonempty third))
    ⊎ ((FollowedBy first (IsPrefixOf second) front × IsNonempty third)
    ⊎ FollowedBy first (FollowedBy second (IsPrefixOf third)) front)

module _ {T O1 O2 O3 P O : Type 0} (outer : O1 → P → O) (inner : O2 → O3 → P) (first : Text T O1)
    (second : Text T O2) (third : Text T O3) (front : List T) where
  three_there : (IsPrefixOf first front × IsNonempty (BothText inner second third))
      ⊎ FollowedBy first (IsPrefixOf (BothText inner second third)) front
      → InOneOfThree first second third front
  unfolding BothText
  three_there (inl (x, (p, tokens, (o2, o3, ys, zs, b, c, e, out)))) =
      inl (x, ((o2, ys, b), (o3, zs, c)))
  three_there (inr (o1, xs, ys, a, x, e)) = elim (both_there inner second third ys x) [
    | inl (y, some) ↦ inr (inl ((o1, xs, ys, a, y, e), some))
    | inr y ↦ inr (inr (o1, xs, ys, a, y, e))
  ]

  three_back : InOneOfThree first second third front
      → (IsPrefixOf first front × IsNonempty (BothText inner second third))
      ⊎ FollowedBy first (IsPrefixOf (BothText inner second third)) front
  unfolding BothText
  three_back (inl (x, ((o2, ys, b), (o3, zs, c)))) =
      inl (x, (inner o2 o3, ys ++ zs, (o2, o3, ys, zs, b, c, refl, refl)))
  three_back (inr (inl ((o1, xs, ys, a, x, e), some))) =
      inr (o1, xs, ys, a, both_back inner second third ys (inl (x, some)), e)
  three_back (inr (inr (o1, xs, ys, a, x, e))) =
      inr (o1, xs, ys, a, both_back inner second third ys (inr x), e)

  pub three_prefix : IsPrefixOf (BothText outer first (BothText inner second third)) front
      ↔ InOneOfThree first second third front
  three_prefix =
      let (there, back) = both_prefix outer first (BothText inner second third) front in
      (λ x. three_there (there x), λ x. back (three_back x))

-- ---- choices and options

pub either_prefix : {T O : Type 0} (first second : Text T O) (front : List T)
    → IsPrefixOf (EitherText first second) front
    ↔ (IsPrefixOf first front ⊎ IsPrefixOf second front)
unfolding EitherText
either_prefix first second front = (
  λ (o, more, it). elim it [ inl a ↦ inl (o, more, a) | inr b ↦ inr (o, more, b) ],
  λ it. elim it [ inl (o, more, a) ↦ (o, more, inl a) | inr (o, more, b) ↦ (o, more, inr b) ],
)
