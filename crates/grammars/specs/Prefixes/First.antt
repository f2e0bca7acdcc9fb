-- The first invalid token: it is unique, and composes.
use Rattle.std.specs.Prelude.{◌≡◌, ◌≤◌, ℕ, List, [], ◌∷◌, ◌++◌, length}
use Rattle.std.specs.List.{All}
use Rattle.std.proofs.Common.{refl, sym, ap, subst, inl, inr, ◌∙◌, arith, append_assoc}
use Rattle.std.proofs.Common.{length-append}
use Rattle.std.proofs.lemmas.List.{append-nil}
use Rattle.streams.specs.Equal.{same_first}
use Rattle.streams.specs.Reading.{Reading}
use Rattle.grammars.specs.Texts.{BothText, EitherText, Itself, Members}
use Rattle.grammars.specs.Texts.{NotFirst, Text}
use Rattle.grammars.specs.Prefixes.{FollowedBy, IsDelimitedBy, IsFirstInvalid, IsNonempty}
use Rattle.grammars.specs.Prefixes.{IsPrefixOf}
use Rattle.grammars.specs.Prefixes.Parts.{between_of, both_prefix, either_prefix}
use Rattle.grammars.specs.Prefixes.Parts.{members_prefix}
use Rattle.grammars.specs.Prefixes.Parts.{shorter_prefix, spelled_prefix, two_splits}

module _ {T O : Type 0} {text : Text T O} where
  -- a longer prefix has the first invalid token
  past_invalid : {tokens front rest : List T} → IsFirstInvalid text tokens front rest → (t : T)
      (ts more : List T) → rest ≡ t ∷ more → IsPrefixOf text (front ++ t ∷ ts) → ⊥
  past_invalid {front = front} it t ts more e longer =
      let P : List T → Type 0 = λ l. IsPrefixOf text l in
      it.stops t more e (shorter_prefix text (front ++ t ∷ []) ts
      (subst P (sym (append_assoc front (t ∷ []) ts)) longer))

  -- and so has a prefix that is longer by some tokens
  past_invalid_at : {tokens front rest : List T} → IsFirstInvalid text tokens front rest
      → (between : List T) (t : T) (more : List T) → rest ≡ between ++ t ∷ more
      → IsPrefixOf text (front ++ (between ++ t ∷ [])) → ⊥
  past_invalid_at it [] t more e longer = past_invalid it t [] more e longer
  past_invalid_at it (u ∷ us) t more e longer =
      past_invalid it u (us ++ t ∷ []) (us ++ t ∷ more) e longer

  one_rest : {tokens front rest other end : List T} → IsFirstInvalid text tokens front rest
      → IsFirstInvalid text tokens other end → (m : List T) → other ≡ front ++ m → rest ≡ m ++ end
      → rest ≡ end
  one_rest it too [] e f = f
  one_rest {end = end} it too (t ∷ m) e f =
      let P : List T → Type 0 = λ l. IsPrefixOf text l in
      absurd (past_invalid it t m (m ++ end) f (subst P e too.valid))

  -- at most one token is the first that is invalid
  pub one_first_invalid : {tokens front rest other end : List T}
      → IsFirstInvalid text tokens front rest → IsFirstInvalid text tokens other end → rest ≡ end
  one_first_invalid {front = front} {rest} {other} {end} it too =
      elim (two_splits front rest other end (sym it.splits ∙ too.splits)) [
        | inl (m, e, f) ↦ one_rest it too m e f
        | inr (m, e, f) ↦ sym (one_rest too it m e f)
      ]

-- ---- sequences

module _ {T O1 O2 O : Type 0} (output : O1 → O2 → O) {first : Text T O1} {second : Text T O2}
    (by : IsDelimitedBy first second) where
  -- where the first part stops, the second starts
  past_first : (front : List T) (t : T) (ts : List T) → IsPrefixOf first front
      → (IsPrefixOf first (front ++ t ∷ []) → ⊥)
      → FollowedBy first (IsPrefixOf second) (front ++ t ∷ ts)
      → (o : O1) × first o front × IsPrefixOf second (t ∷ ts)
  past_first front t ts valid stops (o, xs, ys, a, b, e) =
      elim (two_splits xs ys front (t ∷ ts) (sym e)) [
        | inl (m, d, f) ↦ shorter m d f
        | inr (m, d, f) ↦ longer m d f
      ]
    where
      P : List T → Type 0
      P l = IsPrefixOf first l

      Q : List T → Type 0
      Q l = IsPrefixOf second l

      R : List T → Type 0
      R l = first o l

      shorter : (m : List T) → front ≡ xs ++ m → ys ≡ m ++ t ∷ ts
          → (o : O1) × first o front × IsPrefixOf second (t ∷ ts)
      shorter [] d f = (o, subst R (sym (d ∙ append-nil xs)) a, subst Q f b)
      shorter (u ∷ us) d f = absurd (by.apart o xs u a
          (shorter_prefix first (xs ++ u ∷ []) us
          (subst P (d ∙ sym (append_assoc xs (u ∷ []) us)) valid))
          (shorter_prefix second (u ∷ []) (us ++ t ∷ ts) (subst Q f b)))

      longer : (m : List T) → xs ≡ front ++ m → t ∷ ts ≡ m ++ ys
          → (o : O1) × first o front × IsPrefixOf second (t ∷ ts)
      longer [] d f = (o, subst R (d ∙ append-nil front) a, subst Q (sym f) b)
      longer (u ∷ us) d f =
          let same : u ≡ t = same_first (sym f) in
          let whole = ap (λ v. front ++ v ∷ us) same ∙ sym (append_assoc front (t ∷ []) us) in
          absurd (stops (o, us, subst R (d ∙ whole) a))

  -- If the first part is not complete at its first invalid token, this is that of the sequence.
  pub both_stops_in_first : {tokens front rest : List T} → IsNonempty second
      → IsFirstInvalid first tokens front rest → ((o : O1) → first o front → ⊥)
      → IsFirstInvalid (BothText output first second) tokens front rest
  both_stops_in_first {front = front} some it none = record {
    splits = it.splits;
    valid = (both_prefix output first second front).1 (inl (it.valid, some));
    stops = λ t more e longer.
        elim ((both_prefix output first second (front ++ t ∷ [])).0 longer) [
          | inl (x, y) ↦ it.stops t more e x
          | inr x ↦
              let (o, a, b) = past_first front t [] it.valid (it.stops t more e) x in none o a
        ];
  }

  -- If it is complete there, that of the second part is.
  pub both_stops_in_second : {tokens front mid more rest : List T} (o : O1) → first o front
      → IsFirstInvalid first tokens front mid → IsFirstInvalid second mid more rest
      → IsFirstInvalid (BothText output first second) tokens (front ++ more) rest
  both_stops_in_second {front = front} {mid} {more} {rest} o a it next = record {
    splits = it.splits ∙ ap (λ l. front ++ l) next.splits ∙ sym (append_assoc front more rest);
    valid = (both_prefix output first second (front ++ more)).1
        (inr (o, front, more, a, next.valid, refl));
    stops = λ t end e longer.
        let P : List T → Type 0 = λ l. IsPrefixOf (BothText output first second) l in
        next.stops t end e (after more t end (next.splits ∙ ap (λ l. more ++ l) e)
        (subst P (append_assoc front more (t ∷ [])) longer));
  }
    where
      begun : (u : T) (us end : List T) → mid ≡ u ∷ end
          → IsPrefixOf (BothText output first second) (front ++ u ∷ us) → IsPrefixOf second (u ∷ us)
      begun u us end e longer =
          elim ((both_prefix output first second (front ++ u ∷ us)).0 longer) [
            | inl (x, y) ↦ absurd (past_invalid it u us end e x)
            | inr x ↦ (past_first front u us it.valid (it.stops u end e) x).2
          ]

      after : (xs : List T) (t : T) (end : List T) → mid ≡ xs ++ t ∷ end
          → IsPrefixOf (BothText output first second) (front ++ (xs ++ t ∷ []))
          → IsPrefixOf second (xs ++ t ∷ [])
      after [] t end e longer = begun t [] end e longer
      after (u ∷ us) t end e longer = begun u (us ++ t ∷ []) (us ++ t ∷ end) e longer

-- ---- choices and options

-- what is no prefix at a token is none at a later one
behind_invalid : {T O : Type 0} {text : Text T O} {tokens front rest : List T} (other : List T)
    (t : T) (more : List T) → IsFirstInvalid text tokens front rest → tokens ≡ other ++ t ∷ more
    → length front ≤ length other → IsPrefixOf text (other ++ t ∷ []) → ⊥
behind_invalid {T} {text = text} {front = front} {rest} other t more it splits less longer =
    elim (two_splits front rest other (t ∷ more) (sym it.splits ∙ splits)) [
      | inl (m, d, f) ↦ past_invalid_at it m t more f
          (subst P (ap (λ l. l ++ t ∷ []) d ∙ append_assoc front m (t ∷ [])) longer)
      | inr (m, d, f) ↦ same m d f
    ]
  where
    P : List T → Type 0
    P l = IsPrefixOf text l

    same : (m : List T) → front ≡ other ++ m → t ∷ more ≡ m ++ rest → ⊥
    same [] d f = past_invalid it t [] more (sym f)
        (subst P (ap (λ l. l ++ t ∷ []) (sym (d ∙ append-nil other))) longer)
    same (u ∷ us) d f =
        absurd (omega (arith, less, ap (λ l. length l) d, length-append other (u ∷ us)))

module _ {T O : Type 0} {first second : Text T O} {tokens front rest other end : List T}
    (one : IsFirstInvalid first tokens front rest) (two : IsFirstInvalid second tokens other end)
  where
    -- The first invalid token of a choice is the later one of its branches.
    pub either_stops_in_second : length front ≤ length other
        → IsFirstInvalid (EitherText first second) tokens other end
    either_stops_in_second less = record {
      splits = two.splits;
      valid = (either_prefix first second other).1 (inr two.valid);
      stops = λ t more e longer. elim ((either_prefix first second (other ++ t ∷ [])).0 longer) [
        | inl x ↦ behind_invalid other t more one (two.splits ∙ ap (λ l. other ++ l) e) less x
        | inr y ↦ two.stops t more e y
      ];
    }

    pub either_stops_in_first : length other ≤ length front
        → IsFirstInvalid (EitherText first second) tokens front rest
    either_stops_in_first less = record {
      splits = one.splits;
      valid = (either_prefix first second front).1 (inl one.valid);
      stops = λ t more e longer. elim ((either_prefix first second (front ++ t ∷ [])).0 longer) [
        | inl x ↦ one.stops t more e x
        | inr y ↦ behind_invalid front t more two (one.splits ∙ ap (λ l. front ++ l) e) less y
      ];
    }

-- ---- tokens

-- A token for itself: the first token is invalid if it is another.
pub itself_stops : {T : Type 0} (x : T) (tokens : List T)
    → ((more : List T) → tokens ≡ x ∷ more → ⊥) → IsFirstInvalid (Itself x) tokens [] tokens
itself_stops x tokens other = record {
  splits = refl;
  valid = (spelled_prefix (x ∷ []) x []).1 (x ∷ [], refl);
  stops = λ t more e longer.
      let (end, f) = (spelled_prefix (x ∷ []) x (t ∷ [])).0 longer in
      other more (e ∙ ap (λ v. v ∷ more) (sym (same_first f)));
}

pub itself_ends : {T : Type 0} (x : T) (rest : List T)
    → IsFirstInvalid (Itself x) (x ∷ rest) (x ∷ []) rest
itself_ends x rest = record {
  splits = refl;
  valid = (spelled_prefix (x ∷ []) x (x ∷ [])).1 ([], refl);
  stops = λ t more e longer.
      let (end, f) = (spelled_prefix (x ∷ []) x (x ∷ t ∷ [])).0 longer in absurd (cc);
}

-- Tokens of a set: the first that is not in it is invalid.
pub members_stop : {T L : Type 0} (reading : Reading T L) (these : T → Type 0) (least : ℕ)
    {tokens front rest : List T} → ((xs : List T) → (slice : L) × reading.shows slice xs)
    → (t : T) × these t → All these front → tokens ≡ front ++ rest → NotFirst these rest
    → IsFirstInvalid (Members reading these least) tokens front rest
members_stop reading these least {front = front} {rest} slices some all splits ends = record {
  splits = splits;
  valid = (members_prefix reading these least slices front).1 (all, inr some);
  stops = λ t more e longer.
      let P : List _ → Type 0 = λ l. NotFirst these l in
      let (both, any) =
      (members_prefix reading these least slices (front ++ t ∷ [])).0 longer in
      subst P e ends (between_of these front t [] both);
}
