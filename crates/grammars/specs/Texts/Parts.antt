-- Of grammars of texts, grammars of texts are made.
use Rattle.std.specs.Prelude.{◌≡◌, List, [], ◌++◌, Option, Some, None}
use Rattle.std.proofs.Common.{refl, sym, ap, subst, inl, inr, ◌∙◌, append_assoc}
use Rattle.std.proofs.lemmas.List.{append_cancel_right}
use Rattle.streams.specs.Reading.{Reading}
use Rattle.grammars.specs.Grammar.{AndTaken, Both, Either, Grammar, Made, NoMatch, Optional}
use Rattle.grammars.specs.Grammar.{Taken, Three}
use Rattle.grammars.specs.Grammar.Same.{Same}
use Rattle.grammars.specs.Texts.{AndTakenText, TextsStartWith, BothText, EitherText, InFront}
use Rattle.grammars.specs.Texts.{IsGrammarOf}
use Rattle.grammars.specs.Texts.{MadeText, NotFirst, OptionalText, TakenText, Text}
use Rattle.grammars.specs.Texts.Fronts.{both_front, front_whole, none_begins}

-- ---- the same in other words

-- the condition on the tokens that follow may be stronger
pub behind_less : {T O : Type 0} {g : Grammar T O} {text : Text T O}
    {follow nearer : List T → Type 0} → ((rest : List T) → nearer rest → follow rest)
    → IsGrammarOf g text follow → IsGrammarOf g text nearer
behind_less narrow is = record {
  there = is.there;
  back = λ o front rest x b. is.back o front rest x (narrow rest b);
}

-- a grammar that is the same is that of the same texts
pub same_of : {T O : Type 0} {g h : Grammar T O} {text : Text T O} {follow : List T → Type 0}
    → Same g h → IsGrammarOf g text follow → IsGrammarOf h text follow
same_of same is = record {
  there = λ tokens o rest x. is.there tokens o rest (same.back tokens o rest x);
  back = λ o front rest x b. same.there (front ++ rest) o rest (is.back o front rest x b);
}

-- and of texts that are the same
pub text_of : {T O : Type 0} {g : Grammar T O} {text other : Text T O} {follow : List T → Type 0}
    → ((o : O) (tokens : List T) → text o tokens → other o tokens)
    → ((o : O) (tokens : List T) → other o tokens → text o tokens)
    → IsGrammarOf g text follow → IsGrammarOf g other follow
text_of there back is = record {
  there = λ tokens o rest x.
      let (front, e, it) = is.there tokens o rest x in (front, e, there o front it);
  back = λ o front rest x b. is.back o front rest (back o front x) b;
}

-- ---- sequences

pub both_of : {T O1 O2 O : Type 0} (output : O1 → O2 → O) {g1 : Grammar T O1} {g2 : Grammar T O2}
    {first : Text T O1} {second : Text T O2} {mid follow : List T → Type 0}
    → IsGrammarOf g1 first mid → IsGrammarOf g2 second follow → InFront second follow mid
    → IsGrammarOf (Both output g1 g2) (BothText output first second) follow
unfolding Both BothText
both_of {T = T} {O = O} output {g1} {g2} {first} {second} {follow = follow} one two front = record {
  there = λ tokens o rest (o1, o2, middle, x, y, out).
      let (xs, e, a) = one.there tokens o1 middle x in
      let (ys, d, b) = two.there middle o2 rest y in (
        xs ++ ys,
        e ∙ ap (λ l. xs ++ l) d ∙ sym (append_assoc xs ys rest),
        (o1, o2, xs, ys, a, b, refl, out),
      );
  back = back;
}
  where
    back : (o : O) (tokens rest : List T) → BothText output first second o tokens → follow rest
        → Both output g1 g2 (tokens ++ rest) o rest
    back o tokens rest (o1, o2, xs, ys, a, b, e, out) behind =
        let P : List T → Type 0 = λ l. Both output g1 g2 l o rest in
        subst P (sym (append_assoc xs ys rest) ∙ ap (λ l. l ++ rest) (sym e)) (
          o1,
          o2,
          ys ++ rest,
          one.back o1 xs (ys ++ rest) a (front.makes o2 ys rest b behind),
          two.back o2 ys rest b behind,
          out,
        )

-- three are two, the second of which is two
module _ {T O1 O2 O3 P O : Type 0} (outer : O1 → P → O) (inner : O2 → O3 → P) where
  three_same : (g1 : Grammar T O1) (g2 : Grammar T O2) (g3 : Grammar T O3)
      → Same (Both outer g1 (Both inner g2 g3))
      (Three (λ o1 o2 o3. outer o1 (inner o2 o3)) g1 g2 g3)
  unfolding Both Three
  three_same g1 g2 g3 = record {
    there = λ tokens o rest (o1, p, a, x, (o2, o3, b, y, z, is), out).
        (o1, o2, o3, a, b, x, y, z, out ∙ ap (λ q. outer o1 q) is);
    back = λ tokens o rest (o1, o2, o3, a, b, x, y, z, out).
        (o1, inner o2 o3, a, x, (o2, o3, b, y, z, refl), out);
  }

  pub three_of : {g1 : Grammar T O1} {g2 : Grammar T O2} {g3 : Grammar T O3} {first : Text T O1}
      {second : Text T O2} {third : Text T O3} {near mid follow : List T → Type 0}
      → IsGrammarOf g1 first near → IsGrammarOf g2 second mid → IsGrammarOf g3 third follow
      → InFront second mid near → InFront third follow mid
      → IsGrammarOf (Three (λ o1 o2 o3. outer o1 (inner o2 o3)) g1 g2 g3)
      (BothText outer first (BothText inner second third)) follow
  three_of {g1} {g2} {g3} one two three before between =
      same_of (three_same g1 g2 g3)
      (both_of outer one (both_of inner two three between) (both_front inner before between))

-- ---- one or the other

pub either_of : {T O : Type 0} {g1 g2 : Grammar T O} {first second : Text T O}
    {follow : List T → Type 0} → IsGrammarOf g1 first follow → IsGrammarOf g2 second follow
    → InFront second follow (NoMatch g1)
    → IsGrammarOf (Either g1 g2) (EitherText first second) follow
unfolding Either EitherText
either_of one two never = record {
  there = λ tokens o rest it. elim it [
    | inl x ↦ let (front, e, a) = one.there tokens o rest x in (front, e, inl a)
    | inr (none, y) ↦ let (front, e, b) = two.there tokens o rest y in (front, e, inr b)
  ];
  back = λ o front rest it behind. elim it [
    | inl a ↦ inl (one.back o front rest a behind)
    | inr b ↦ inr (never.makes o front rest b behind, two.back o front rest b behind)
  ];
}

-- the encodings by `first` start with a token of the set; those by `second`, with what follows
-- them, do not
pub either_apart : {T O : Type 0} {g1 g2 : Grammar T O} {first second : Text T O}
    {follow : List T → Type 0} {these : T → Type 0} → IsGrammarOf g1 first follow
    → IsGrammarOf g2 second follow → TextsStartWith these first
    → InFront second follow (NotFirst these)
    → IsGrammarOf (Either g1 g2) (EitherText first second) follow
either_apart one two begins outside =
    either_of one two (front_whole (none_begins one begins) outside)

-- an option: what may follow an absent value is not a match
pub optional_of : {T O : Type 0} {g : Grammar T O} {text : Text T O} {follow : List T → Type 0}
    → IsGrammarOf g text follow → ((rest : List T) → follow rest → NoMatch g rest)
    → IsGrammarOf (Optional g) (OptionalText text) follow
unfolding Optional OptionalText
optional_of {T} {O} {g} {text} {follow} is never = record { there = there; back = back }
  where
    there : (tokens : List T) (o : Option O) (rest : List T) → Optional g tokens o rest
        → (front : List T) × (tokens ≡ front ++ rest) × OptionalText text o front
    there tokens o rest (inl (x, e, it)) =
        let (front, d, a) = is.there tokens x rest it in
        let P : Option O → Type 0 = λ p. OptionalText text p front in (front, d, subst P (sym e) a)
    there tokens o rest (inr (e, none, same)) =
        let P : Option O → Type 0 =
        λ p. OptionalText text p [] in ([], sym same, subst P (sym e) refl)

    back : (o : Option O) (front rest : List T) → OptionalText text o front → follow rest
        → Optional g (front ++ rest) o rest
    back None front rest e behind =
        let P : List T → Type 0 = λ l. Optional g (l ++ rest) None rest in
        subst P (sym e) (inr (refl, never rest behind, refl))
    back (Some x) front rest a behind = inl (x, refl, is.back x front rest a behind)

-- ---- what is made of an output

pub made_of : {F T O U : Type 0} (makes : F → O → U → Type 0) (part : F) {g : Grammar T O}
    {text : Text T O} {follow : List T → Type 0} → IsGrammarOf g text follow
    → IsGrammarOf (Made makes part g) (MadeText makes part text) follow
unfolding Made MadeText
made_of makes part is = record {
  there = λ tokens u rest (o, x, made).
      let (front, e, a) = is.there tokens o rest x in (front, e, (o, a, made));
  back = λ u front rest (o, a, made) behind. (o, is.back o front rest a behind, made);
}

pub taken_of : {T L O : Type 0} (reading : Reading T L) {g : Grammar T O} {text : Text T O}
    {follow : List T → Type 0} → IsGrammarOf g text follow
    → IsGrammarOf (Taken reading g) (TakenText reading text) follow
unfolding Taken TakenText
taken_of {T = T} reading {text = text} is = record {
  there = λ tokens slice rest (o, x, (xs, d, shown)).
      let (front, e, a) = is.there tokens o rest x in
      let P : List T → Type 0 = λ l. text o l in
      (xs, d, (o, subst P (append_cancel_right front xs rest (sym e ∙ d)) a, shown));
  back = λ slice front rest (o, a, shown) behind.
      (o, is.back o front rest a behind, (front, refl, shown));
}

pub and_taken_of : {T L O : Type 0} (reading : Reading T L) {g : Grammar T O} {text : Text T O}
    {follow : List T → Type 0} → IsGrammarOf g text follow
    → IsGrammarOf (AndTaken reading g) (AndTakenText reading text) follow
unfolding AndTaken AndTakenText
and_taken_of {T = T} {O = O} reading {g} {text} is = record {
  there = λ tokens both rest (o, x, (same, (xs, d, shown))).
      let (front, e, a) = is.there tokens o rest x in
      let P : List T → Type 0 = λ l. text o l in
      let Q : O → Type 0 = λ p. text p xs in (
        xs,
        d,
        (subst Q (sym same) (subst P (append_cancel_right front xs rest (sym e ∙ d)) a), shown),
      );
  back = λ both front rest (a, shown) behind.
      (both.0, is.back both.0 front rest a behind, (refl, (front, refl, shown)));
}
