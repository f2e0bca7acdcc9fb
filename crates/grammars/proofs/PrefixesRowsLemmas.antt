-- The prefixes of repetitions, and of elements with separators between them.
use Rattle.std.specs.Prelude.{◌≡◌, ◌⊎◌, ◌↔◌, ◌≤◌, List, [], ◌∷◌, ◌++◌, length}
use Rattle.std.proofs.Common.{refl, sym, ap, subst, inl, inr, ◌∙◌, arith, append_assoc}
use Rattle.std.proofs.lemmas.List.{append-nil}
use Rattle.grammars.specs.Texts.{AtLeast, BothText, EachText, PartedText, Text}
use Rattle.grammars.specs.Prefixes.{FollowedBy, IsNonempty, IsPrefixOf, NoneOr}
use Rattle.grammars.specs.Prefixes.Parts.{both_prefix, no_front, two_splits}
use Rattle.grammars.proofs.PrefixesPartsLemmas.{same_prefix}
use Rattle.grammars.specs.Prefixes.Rows.{NextText}

module _ {T O : Type 0} (text : Text T O) where
  -- one more encoding
  each_then_one : (os : List O) (o : O) (xs ys : List T) → EachText text os xs → text o ys
      → EachText text (os ++ o ∷ []) (xs ++ ys)
  unfolding EachText
  each_then_one [] o xs ys e b =
      (ys, [], b, refl, ap (λ l. l ++ ys) e ∙ sym (append-nil ys))
  each_then_one (p ∷ os) o xs ys (us, vs, a, more, e) b = (
    us,
    vs ++ ys,
    a,
    each_then_one os o vs ys more b,
    ap (λ l. l ++ ys) e ∙ append_assoc us vs ys,
  )

  each_there : (os : List O) (front more : List T) → EachText text os (front ++ more)
      → FollowedBy (EachText text) (NoneOr (IsPrefixOf text)) front
  unfolding EachText
  each_there [] front more e = ([], [], front, refl, inl (no_front front more e), refl)
  each_there (o ∷ os) front more (xs, ys, a, b, e) =
      let P : List T → Type 0 = λ l. text o l in
      let Q : List T → Type 0 = λ l. EachText text os l in
      elim (two_splits front more xs ys e) [
        | inl (m, d, f) ↦ ([], [], front, refl, inr (o, m, subst P d a), refl)
        | inr (m, d, f) ↦
            let (ps, us, vs, c, last, g) = each_there os m more (subst Q f b) in (
              o ∷ ps,
              xs ++ us,
              vs,
              (xs, us, a, c, refl),
              last,
              d ∙ ap (λ l. xs ++ l) g ∙ sym (append_assoc xs us vs),
            )
      ]

  each_back : (front : List T) → FollowedBy (EachText text) (NoneOr (IsPrefixOf text)) front
      → IsPrefixOf (EachText text) front
  each_back front (os, xs, ys, a, inl none, e) =
      let P : List T → Type 0 = λ l. EachText text os l in
      let all = e ∙ ap (λ l. xs ++ l) none ∙ append-nil xs in
      (os, [], subst P (sym (append-nil front ∙ all)) a)
  each_back front (os, xs, ys, a, inr (o, more, b), e) =
      let P : List T → Type 0 = λ l. EachText text (os ++ o ∷ []) l in
      let all = ap (λ l. l ++ more) e ∙ append_assoc xs ys more in
      (os ++ o ∷ [], more, subst P (sym all) (each_then_one os o xs (ys ++ more) a b))

  -- A prefix of a repetition is a repetition, followed by no tokens or by a prefix of one more.
  pub each_prefix : (front : List T) → IsPrefixOf (EachText text) front
      ↔ FollowedBy (EachText text) (NoneOr (IsPrefixOf text)) front
  each_prefix front = (λ (os, more, a). each_there os front more a, each_back front)

-- ---- lists of elements: none, or one and the others

-- `whole` encodes a list as an element by `text` and the others by `others`, and an empty list as
-- no tokens.
pub record IsRow {T O : Type 0} (text : Text T O) (others whole : Text T (List O)) : Type 0 where
  pub none_there : (tokens : List T) → whole [] tokens → tokens ≡ []
  pub none_back : (tokens : List T) → tokens ≡ [] → whole [] tokens
  pub there : (o : O) (os : List O) (tokens : List T) → whole (o ∷ os) tokens
      → (xs : List T) × (ys : List T) × text o xs × others os ys × (tokens ≡ xs ++ ys)
  pub back : (o : O) (os : List O) (xs ys tokens : List T) → text o xs → others os ys
      → tokens ≡ xs ++ ys → whole (o ∷ os) tokens

-- repetitions
pub each_row : {T O : Type 0} (text : Text T O) → IsRow text (EachText text) (EachText text)
unfolding EachText
each_row text = record {
  none_there = λ tokens e. e;
  none_back = λ tokens e. e;
  there = λ o os tokens x. x;
  back = λ o os xs ys tokens a b e. (xs, ys, a, b, e);
}

-- elements with separators between them
pub parted_row : {T O D : Type 0} (separator : Text T D) (text : Text T O)
    → IsRow text (EachText (NextText separator text)) (PartedText separator text)
unfolding PartedText
parted_row separator text = record {
  none_there = λ tokens e. e;
  none_back = λ tokens e. e;
  there = λ o os tokens x. x;
  back = λ o os xs ys tokens a b e. (xs, ys, a, b, e);
}

pub each_some : {T O : Type 0} (text : Text T O) → IsNonempty (EachText text)
unfolding EachText
each_some text = ([], [], refl)

module _ {T O : Type 0} {text : Text T O} {others whole : Text T (List O)}
    (is : IsRow text others whole) where
  abbrev pub OneAndOthers : Text T (List O)
  OneAndOthers = BothText (λ o os. o ∷ os) text others

  split : (os : List O) (tokens : List T) → AtLeast 1 whole os tokens
      → (ps : List O) × OneAndOthers ps tokens
  unfolding BothText
  split [] tokens (a, some) = absurd (omega arith)
  split (o ∷ os) tokens (a, some) =
      let (xs, ys, b, c, e) = is.there o os tokens a in (o ∷ os, (o, os, xs, ys, b, c, e, refl))

  joined : (ps : List O) (tokens : List T) → OneAndOthers ps tokens
      → (os : List O) × AtLeast 1 whole os tokens
  unfolding BothText
  joined ps tokens (o, os, xs, ys, a, b, e, out) =
      let some : 1 ≤ length (o ∷ os) = omega arith in
      (o ∷ os, (is.back o os xs ys tokens a b e, some))

  pub some_as : (front : List T)
      → IsPrefixOf OneAndOthers front ↔ IsPrefixOf (AtLeast 1 whole) front
  some_as = same_prefix OneAndOthers (AtLeast 1 whole) joined split

  -- A prefix of a list is empty or one of a list of at least one element.
  pub any_prefix : (front : List T)
      → IsPrefixOf whole front ↔ NoneOr (IsPrefixOf (AtLeast 1 whole)) front
  any_prefix front = (λ (os, more, a). there os more a, back)
    where
      there : (os : List O) (more : List T) → whole os (front ++ more)
          → NoneOr (IsPrefixOf (AtLeast 1 whole)) front
      there [] more a = inl (no_front front more (is.none_there (front ++ more) a))
      there (o ∷ os) more a =
          let some : 1 ≤ length (o ∷ os) = omega arith in inr (o ∷ os, more, (a, some))

      back : NoneOr (IsPrefixOf (AtLeast 1 whole)) front → IsPrefixOf whole front
      back (inl none) = ([], [], is.none_back (front ++ []) (append-nil front ∙ none))
      back (inr (os, more, (a, some))) = (os, more, a)

  -- A prefix of a list of at least one element is one of an element; or an element, followed by a
  -- prefix of the others.
  pub some_prefix : IsNonempty others → (front : List T) → IsPrefixOf (AtLeast 1 whole) front
      ↔ (IsPrefixOf text front ⊎ FollowedBy text (IsPrefixOf others) front)
  some_prefix any front =
      let (there, back) = both_prefix (λ o os. o ∷ os) text others front in (
        λ x. elim (there ((some_as front).1 x)) [ inl (y, some) ↦ inl y | inr y ↦ inr y ],
        λ x. (some_as front).0 (back (elim x [ inl y ↦ inl (y, any) | inr y ↦ inr y ])),
      )
