-- Lemmas about the first tokens of encodings, and about the tokens before and after them.
use Rattle.std.specs.Prelude.{◌≡◌, ◌<◌, ℕ, List, [], ◌∷◌, ◌++◌, length, Option, Some, None}
use Rattle.std.specs.List.{All}
use Rattle.std.proofs.Common.{refl, sym, ap, subst, inl, inr, ◌∙◌, arith, append_assoc}
use Rattle.streams.specs.Reading.{Reading}
use Rattle.grammars.specs.Grammar.{Grammar, NoMatch}
use Rattle.grammars.specs.Texts.{Anything, AtEnd, StartsWith, TextsStartWith, BothText, EachText}
use Rattle.grammars.specs.Texts.{EitherText}
use Rattle.grammars.specs.Texts.{GatheredText, InFront, InList, IsGrammarOf, MadeText, MayStartWith}
use Rattle.grammars.specs.Texts.{TextsMayStartWith, Members, NotFirst, OptionalText, Spelled}
use Rattle.grammars.specs.Texts.{TakenText}
use Rattle.grammars.specs.Texts.{Text, TokenOfText}

-- ---- tokens

pub may_begin : {T : Type 0} (these those : T → Type 0) → ((t : T) → these t → those t)
    → (tokens : List T) → StartsWith these tokens → MayStartWith those tokens
may_begin these those more [] b = absurd b
may_begin these those more (t ∷ ts) b = more t b

pub begins_more : {T : Type 0} (these those : T → Type 0) → ((t : T) → these t → those t)
    → (tokens : List T) → StartsWith these tokens → StartsWith those tokens
begins_more these those more [] b = absurd b
begins_more these those more (t ∷ ts) b = more t b

-- what may begin in a set may begin in a larger one
pub may_begin_more : {T : Type 0} (these those : T → Type 0) → ((t : T) → these t → those t)
    → (tokens : List T) → MayStartWith these tokens → MayStartWith those tokens
may_begin_more these those more [] b = tt
may_begin_more these those more (t ∷ ts) b = more t b

-- what begins outside of a set begins outside of a smaller one
pub not_first : {T : Type 0} (these those : T → Type 0) → ((t : T) → these t → those t)
    → (tokens : List T) → NotFirst those tokens → NotFirst these tokens
not_first these those more [] not = tt
not_first these those more (t ∷ ts) not = λ is. not (more t is)

-- nothing begins in a set and outside of it
pub begins_never : {T P : Type 0} (these : T → Type 0) (tokens : List T) → StartsWith these tokens
    → NotFirst these tokens → P
begins_never these [] b not = absurd b
begins_never these (t ∷ ts) b not = absurd (not b)

-- where there is none, none is first
pub may_begin_none : {T : Type 0} (these : T → Type 0) (tokens : List T) → AtEnd tokens
    → MayStartWith these tokens
may_begin_none {T} these tokens e =
    let P : List T → Type 0 = λ l. MayStartWith these l in subst P (sym e) tt

-- ---- weaker and stronger conditions on the tokens after and before

module _ {T O : Type 0} {text : Text T O} {behind whole : List T → Type 0} where
  pub front_behind : {nearer : List T → Type 0} → ((rest : List T) → nearer rest → behind rest)
      → InFront text behind whole → InFront text nearer whole
  front_behind narrow front = record {
    makes = λ o xs rest x b. front.makes o xs rest x (narrow rest b);
  }

  pub front_whole : {wider : List T → Type 0} → ((tokens : List T) → whole tokens → wider tokens)
      → InFront text behind whole → InFront text behind wider
  front_whole widen front = record {
    makes = λ o xs rest x b. widen (xs ++ rest) (front.makes o xs rest x b);
  }

pub front_any : {T O : Type 0} {text : Text T O} {behind : List T → Type 0}
    → InFront text behind Anything
front_any = record { makes = λ o xs rest x b. tt }

-- what begins in a set begins in a larger one
pub begins_wider : {T O : Type 0} {text : Text T O} {these those : T → Type 0}
    → ((t : T) → these t → those t) → TextsStartWith these text → TextsStartWith those text
begins_wider {T} {these = these} {those} wider begins =
    front_whole (begins_more these those wider) begins

-- the first token of an encoding is in the set, regardless of what follows
pub front_begins : {T O : Type 0} {text : Text T O} {these those : T → Type 0}
    {behind : List T → Type 0} → ((t : T) → these t → those t) → TextsStartWith these text
    → InFront text behind (MayStartWith those)
front_begins {these = these} {those} more begins = record {
  makes = λ o xs rest x b. may_begin these those more (xs ++ rest) (begins.makes o xs rest x tt);
}

-- an encoding that may be empty: its first token, or the first one after it, is in the set
pub front_may : {T O : Type 0} {text : Text T O} {these those : T → Type 0}
    {behind : List T → Type 0} → ((t : T) → these t → those t)
    → ((rest : List T) → behind rest → MayStartWith those rest) → TextsMayStartWith these text
    → InFront text behind (MayStartWith those)
front_may {T} {O} {text} {these} {those} {behind} more alone may = record { makes = makes }
  where
    makes : (o : O) (xs rest : List T) → text o xs → behind rest → MayStartWith those (xs ++ rest)
    makes o [] rest a b = alone rest b
    makes o (x ∷ xs) rest a b = more x (may.makes o (x ∷ xs) [] a tt)

-- ---- by the words of texts

pub spelled_begins : {T O : Type 0} (t : T) (ts : List T) (o : O)
    → TextsStartWith (λ s. s ≡ t) (Spelled (t ∷ ts) o)
unfolding Spelled
spelled_begins t ts o = record {
  makes = λ p xs rest (is, e) b.
      let P : List _ → Type 0 = λ l. StartsWith (λ s. s ≡ t) (l ++ rest) in subst P (sym e) refl;
}

pub token_of_begins : {K T : Type 0} (seen : K → T) (these : K → Type 0)
    → TextsStartWith (λ t. (k : K) × (seen k ≡ t) × these k) (TokenOfText seen these)
unfolding TokenOfText
token_of_begins {K} {T} seen these = record {
  makes = λ k xs rest (is, e) b.
      let P : List T → Type 0 = λ l. StartsWith (λ t. (k : K) × (seen k ≡ t) × these k)
      (l ++ rest) in
      subst P (sym e) (k, refl, is);
}

module _ {T L : Type 0} (reading : Reading T L) (these : T → Type 0) where
  pub members_begin : (least : ℕ) → 0 < least → TextsStartWith these (Members reading these least)
  unfolding Members
  members_begin least some = record {
    makes = λ slice xs rest (all, enough, shown) any. first xs rest all (omega arith);
  }
    where
      first : (xs rest : List T) → All these xs → 0 < length xs → StartsWith these (xs ++ rest)
      first [] rest all some = absurd (omega arith)
      first (x ∷ xs) rest all some = all 0 x (omega arith)

  pub members_may : (least : ℕ) → TextsMayStartWith these (Members reading these least)
  unfolding Members
  members_may least = record { makes = λ slice xs rest (all, enough, shown) b. first xs rest all b }
    where
      first : (xs rest : List T) → All these xs → MayStartWith these rest
          → MayStartWith these (xs ++ rest)
      first [] rest all b = b
      first (x ∷ xs) rest all b = all 0 x (omega arith)

pub both_front : {T O1 O2 O : Type 0} (output : O1 → O2 → O) {first : Text T O1}
    {second : Text T O2} {behind mid whole : List T → Type 0} → InFront first mid whole
    → InFront second behind mid → InFront (BothText output first second) behind whole
unfolding BothText
both_front {T = T} output {whole = whole} f g = record {
  makes = λ o tokens rest (o1, o2, xs, ys, x, y, e, out) b.
      let P : List T → Type 0 = λ l. whole l in
      subst P (sym (append_assoc xs ys rest) ∙ ap (λ l. l ++ rest) (sym e))
      (f.makes o1 xs (ys ++ rest) x (g.makes o2 ys rest y b));
}

module _ {T : Type 0} {behind whole : List T → Type 0} where
  pub either_front : {O : Type 0} {first second : Text T O} → InFront first behind whole
      → InFront second behind whole → InFront (EitherText first second) behind whole
  unfolding EitherText
  either_front f g = record {
    makes = λ o xs rest it b. elim it [
      | inl x ↦ f.makes o xs rest x b
      | inr y ↦ g.makes o xs rest y b
    ];
  }

  pub of_front : {F O U : Type 0} (makes : F → O → U → Type 0) (part : F) {text : Text T O}
      → InFront text behind whole → InFront (MadeText makes part text) behind whole
  unfolding MadeText
  of_front makes part f = record { makes = λ u xs rest (o, x, made) b. f.makes o xs rest x b }

  pub gathered_front : {O C : Type 0} (holds : C → List O → Type 0) {text : Text T (List O)}
      → InFront text behind whole → InFront (GatheredText holds text) behind whole
  unfolding GatheredText
  gathered_front holds f = record {
    makes = λ u xs rest (os, held, x) b. f.makes os xs rest x b;
  }

  pub in_list_front : {O A : Type 0} {text : Text T (List O)} → InFront text behind whole
      → InFront (InList {A = A} text) behind whole
  unfolding InList
  in_list_front f = record { makes = λ list xs rest x b. f.makes list.items xs rest x b }

  pub taken_front : {L O : Type 0} (reading : Reading T L) {text : Text T O}
      → InFront text behind whole → InFront (TakenText reading text) behind whole
  unfolding TakenText
  taken_front reading f = record {
    makes = λ u xs rest (o, x, shown) b. f.makes o xs rest x b;
  }

-- a text that may be left out makes such tokens of such tokens, where the text does
pub optional_front : {T O : Type 0} {text : Text T O} {behind : List T → Type 0}
    → InFront text behind behind → InFront (OptionalText text) behind behind
unfolding OptionalText
optional_front {T} {O} {text} {behind} front = record { makes = makes }
  where
    makes : (o : Option O) (xs rest : List T) → OptionalText text o xs → behind rest
        → behind (xs ++ rest)
    makes None xs rest e b =
        let P : List T → Type 0 = λ l. behind (l ++ rest) in subst P (sym e) b
    makes (Some o) xs rest x b = front.makes o xs rest x b

-- and so do rows of it
pub each_front : {T O : Type 0} {text : Text T O} {behind : List T → Type 0}
    → InFront text behind behind → InFront (EachText text) behind behind
unfolding EachText
each_front {T} {O} {text} {behind} front = record { makes = makes }
  where
    makes : (os : List O) (tokens rest : List T) → EachText text os tokens → behind rest
        → behind (tokens ++ rest)
    makes [] tokens rest e b =
        let P : List T → Type 0 = λ l. behind (l ++ rest) in subst P (sym e) b
    makes (o ∷ os) tokens rest (xs, ys, x, more, e) b =
        let P : List T → Type 0 = λ l. behind l in
        subst P (sym (append_assoc xs ys rest) ∙ ap (λ l. l ++ rest) (sym e))
        (front.makes o xs (ys ++ rest) x (makes os ys rest more b))

-- ---- grammars that do not match

-- what begins outside of a set is nothing that begins in it
pub none_begins : {T O : Type 0} {g : Grammar T O} {text : Text T O} {follow : List T → Type 0}
    {these : T → Type 0} → IsGrammarOf g text follow → TextsStartWith these text → (tokens : List T)
    → NotFirst these tokens → NoMatch g tokens
none_begins {these = these} is begins tokens not o rest x =
    let (front, e, it) = is.there tokens o rest x in
    let P : List _ → Type 0 = λ l. NotFirst these l in
    begins_never these (front ++ rest) (begins.makes o front rest it tt) (subst P e not)
