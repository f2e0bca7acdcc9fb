-- Grammars of rows of texts.
use Rattle.std.specs.Prelude.{◌≡◌, ◌≤◌, ℕ, zero, suc, List, [], ◌∷◌, ◌++◌, length, Option, None}
use Rattle.std.specs.declared.vec.Vec.{Vec}
use Rattle.std.proofs.Common.{refl, sym, ap, subst, inr, ◌∙◌, arith, append_assoc}
use Rattle.stream_sets.specs.Range.{Bounds, IsBelow, from_to}
use Rattle.grammars.specs.Grammar.{Both, Each, Gathered, Grammar, Many, NoMatch, Parted}
use Rattle.grammars.specs.Grammar.Inversion.{Listed}
use Rattle.grammars.specs.Texts.{AtLeast, BothText, EachText, GatheredText, InFront, InList}
use Rattle.grammars.specs.Texts.{IsGrammarOf, PartedText, Text}
use Rattle.grammars.specs.Texts.Fronts.{both_front}
use Rattle.grammars.specs.Texts.Parts.{both_of}

-- what holds the outputs
pub gathered_of : {T O C : Type 0} (holds : C → List O → Type 0) {g : Grammar T (List O)}
    {text : Text T (List O)} {follow : List T → Type 0} → IsGrammarOf g text follow
    → IsGrammarOf (Gathered holds g) (GatheredText holds text) follow
unfolding Gathered GatheredText
gathered_of holds is = record {
  there = λ tokens all rest (os, held, x).
      let (front, e, a) = is.there tokens os rest x in (front, e, (os, held, a));
  back = λ all front rest (os, held, a) behind. (os, held, is.back os front rest a behind);
}

-- and a list of them
pub list_of : {T O A : Type 0} {g : Grammar T (List O)} {text : Text T (List O)}
    {follow : List T → Type 0} → IsGrammarOf g text follow
    → IsGrammarOf (Gathered (λ (list : Vec O A) os. list.items ≡ os) g) (InList text) follow
unfolding Gathered InList
list_of {T} {O} {A} {g} {text} is = record {
  there = λ tokens list rest (os, held, x).
      let (front, e, a) = is.there tokens os rest x in
      let P : List O → Type 0 = λ l. text l front in (front, e, subst P (sym held) a);
  back = λ list front rest a behind.
      (list.items, refl, is.back list.items front rest a behind);
}

at_least : {T O : Type 0} (least : ℕ) (text : Text T (List O)) (os : List O) (tokens : List T)
    → text os tokens → least ≤ length os → AtLeast least text os tokens
at_least zero text os tokens a enough = a
at_least (suc n) text os tokens a enough = (a, enough)

are_enough : {T O : Type 0} (least : ℕ) (text : Text T (List O)) (os : List O) (tokens : List T)
    → AtLeast least text os tokens → text os tokens × (least ≤ length os)
are_enough zero text os tokens a = (a, omega arith)
are_enough (suc n) text os tokens a = a

-- consecutive encodings
module _ {T O : Type 0} {g : Grammar T O} {text : Text T O} {follow : List T → Type 0}
    (is : IsGrammarOf g text follow) where
  pub each_there : (os : List O) (tokens rest : List T) → Each g tokens os rest
      → (front : List T) × (tokens ≡ front ++ rest) × EachText text os front
  unfolding EachText
  each_there [] tokens rest e = ([], sym e, refl)
  each_there (o ∷ os) tokens rest (mid, x, more) =
      let (xs, e, a) = is.there tokens o mid x in
      let (ys, d, b) = each_there os mid rest more in (
        xs ++ ys,
        e ∙ ap (λ l. xs ++ l) d ∙ sym (append_assoc xs ys rest),
        (xs, ys, a, b, refl),
      )

  -- an encoding, with what follows it, may follow an encoding
  pub each_back : InFront text follow follow → (os : List O) (front rest : List T)
      → EachText text os front → follow rest
      → follow (front ++ rest) × Each g (front ++ rest) os rest
  unfolding EachText
  each_back again [] front rest e behind =
      let P : List T → Type 0 = λ l. follow (l ++ rest) in
      (subst P (sym e) behind, ap (λ l. l ++ rest) (sym e))
  each_back again (o ∷ os) front rest (xs, ys, a, b, e) behind =
      let (next, more) = each_back again os ys rest b behind in
      let P : List T → Type 0 = λ l. follow l × Each g l (o ∷ os) rest in
      subst P (sym (append_assoc xs ys rest) ∙ ap (λ l. l ++ rest) (sym e)) (
        again.makes o xs (ys ++ rest) a next,
        (ys ++ rest, is.back o xs (ys ++ rest) a next, more),
      )

  -- maximal repetitions: no match follows
  pub many_of : {ends : List T → Type 0} (bounds : Bounds) (least : ℕ)
      → bounds ≡ from_to least None → InFront text follow follow
      → ((rest : List T) → ends rest → follow rest)
      → ((rest : List T) → ends rest → NoMatch g rest)
      → IsGrammarOf (Many g bounds) (AtLeast least (EachText text)) ends
  unfolding Many
  many_of {ends} bounds least any again last never = record {
    there = λ tokens os rest (each, enough, stops).
        let (front, e, a) = each_there os tokens rest each in (
          front,
          e,
          at_least least (EachText text) os front a
              (omega (arith, ap (λ b. b.least) any, enough)),
        );
    back = λ os front rest x behind.
        let (a, enough) = are_enough least (EachText text) os front x in
        let P : Option ℕ → Type 0 = λ g. IsBelow g (length os) in (
          (each_back again os front rest a (last rest behind)).1,
          omega (arith, ap (λ b. b.least) any, enough),
          inr (subst P (sym (ap (λ b. b.greatest) any)) tt, never rest behind),
        );
  }

  -- maximal repetitions, stored in a list
  pub listed_of : {A : Type 0} {ends : List T → Type 0} (least : ℕ) → InFront text follow follow
      → ((rest : List T) → ends rest → follow rest)
      → ((rest : List T) → ends rest → NoMatch g rest)
      → IsGrammarOf (Listed {A = A} g least) (InList (AtLeast least (EachText text))) ends
  unfolding Listed InList
  listed_of least again last never = record {
    there = λ tokens list rest (each, enough, none).
        let (front, e, a) = each_there list.items tokens rest each in
        (front, e, at_least least (EachText text) list.items front a enough);
    back = λ list front rest x behind.
        let (a, enough) = are_enough least (EachText text) list.items front x in (
          (each_back again list.items front rest a (last rest behind)).1,
          enough,
          never rest behind,
        );
  }

pub none_both : {T O1 O2 O : Type 0} (output : O1 → O2 → O) (g1 : Grammar T O1) (g2 : Grammar T O2)
    (tokens : List T) → NoMatch g1 tokens → NoMatch (Both output g1 g2) tokens
unfolding Both
none_both output g1 g2 tokens none o rest (o1, o2, mid, x, y, out) = none o1 mid x

-- with separators between them
module _ {T O D : Type 0} {g : Grammar T O} {h : Grammar T D} {text : Text T O}
    {separator : Text T D} {follow between : List T → Type 0}
    (is : IsGrammarOf g text follow) (by : IsGrammarOf h separator between)
    (divides : InFront separator between follow) (goes_on : InFront text follow between) where
  -- a separator and an element
  pub links : IsGrammarOf (Both (λ d o. o) h g) (BothText (λ d o. o) separator text) follow
  links = both_of (λ d o. o) by is goes_on

  pub parted_of : {ends : List T → Type 0} (bounds : Bounds) (least : ℕ)
      → bounds ≡ from_to least None → ((rest : List T) → ends rest → follow rest)
      → ((rest : List T) → ends rest → NoMatch h rest)
      → ((rest : List T) → least ≡ 0 → ends rest → NoMatch g rest)
      → IsGrammarOf (Parted g h bounds) (AtLeast least (PartedText separator text)) ends
  unfolding Parted PartedText
  parted_of {ends} bounds least any last never none = record { there = there; back = back }
    where
      there : (tokens : List T) (os : List O) (rest : List T) → Parted g h bounds tokens os rest
          → (front : List T) × (tokens ≡ front ++ rest)
          × AtLeast least (PartedText separator text) os front
      there tokens [] rest (e, few, stops) =
          let enough : least ≤ 0 = omega (arith, ap (λ b. b.least) any, few) in
          ([], sym e, at_least least (PartedText separator text) [] [] refl enough)
      there tokens (o ∷ os) rest (mid, x, each, enough, stops) =
          let (xs, e, a) = is.there tokens o mid x in
          let (ys, d, b) = each_there links os mid rest each in (
            xs ++ ys,
            e ∙ ap (λ l. xs ++ l) d ∙ sym (append_assoc xs ys rest),
            at_least least (PartedText separator text) (o ∷ os) (xs ++ ys) (xs, ys, a, b, refl)
                (omega (arith, ap (λ b. b.least) any, enough)),
          )

      below : (n : ℕ) → IsBelow bounds.greatest n
      below n =
          let P : Option ℕ → Type 0 = λ g. IsBelow g n in
          subst P (sym (ap (λ b. b.greatest) any)) tt

      joined : (os : List O) (front rest : List T) → PartedText separator text os front
          → least ≤ length os → ends rest → Parted g h bounds (front ++ rest) os rest
      joined [] front rest e enough behind =
          let P : List T → Type 0 = λ l. Parted g h bounds (l ++ rest) [] rest in
          let few : bounds.least ≡ 0 = omega (arith, ap (λ b. b.least) any, enough) in
          subst P (sym e) (refl, few, inr (below 0, none rest (omega arith) behind))
      joined (o ∷ os) front rest (xs, ys, a, b, e) enough behind =
          let (next, more) = each_back links
          (both_front (λ d o. o) divides goes_on) os ys rest b (last rest behind) in
          let P : List T → Type 0 = λ l. Parted g h bounds l (o ∷ os) rest in
          subst P (sym (append_assoc xs ys rest) ∙ ap (λ l. l ++ rest) (sym e)) (
            ys ++ rest,
            is.back o xs (ys ++ rest) a next,
            more,
            omega (arith, ap (λ b. b.least) any, enough),
            inr (below (length (o ∷ os)), none_both (λ d o. o) h g rest (never rest behind)),
          )

      back : (os : List O) (front rest : List T)
          → AtLeast least (PartedText separator text) os front → ends rest
          → Parted g h bounds (front ++ rest) os rest
      back os front rest x behind =
          let (a, enough) = are_enough least (PartedText separator text) os front x in
          joined os front rest a enough behind
