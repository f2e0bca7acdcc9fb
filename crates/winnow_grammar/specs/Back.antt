-- Texts that are those of one value: what is written for a value reads back as that value.
use Rattle.std.specs.Prelude.{◌≡◌, List, [], ◌∷◌, ◌++◌, Result, Ok, Err, IfOk, IfErr, ⊤}
use Rattle.std.specs.List.{AllZip}
use Rattle.std.proofs.Common.{refl, sym, ap, subst, inl, inr, ◌∙◌, arith}
use Rattle.std.proofs.lemmas.List.{append_cancel_right}
use Rattle.streams.specs.Kind.{Kind}
use Rattle.streams.specs.declared.needed.Needed.{Needed}
use Rattle.grammars.specs.Grammar.{Both, Grammar, IsUnique}
use Rattle.grammars.specs.Grammar.Unique.{both_unique}
use Rattle.grammars.specs.Texts.{AtEnd, AtLeast, StartsWith, TextsStartWith, BothText, EachText}
use Rattle.grammars.specs.Texts.{EitherText}
use Rattle.grammars.specs.Texts.{GatheredText, InFront, InList, IsGrammarOf, MadeText, NotFirst}
use Rattle.grammars.specs.Texts.{PartedText, Spelled, Text}
use Rattle.grammars.specs.Texts.Fronts.{begins_never, both_front, front_any}
use Rattle.grammars.specs.Texts.Rows.{links}
use Rattle.stream_errors.specs.declared.fault.ParseFault.{ParseFault}
use Rattle.winnow_core.specs.Exact.Whole.{IsWant}
use Rattle.winnow_grammar.specs.Told.{IsTextOf, text_found}

-- Values with the same encoding are equal.
pub record IsUnambiguous {T O : Type 0} (text : Text T O) (alike : O → O → Type 0) : Type 0 where
  pub one : (o p : O) (tokens : List T) → text o tokens → text p tokens → alike o p

-- The result for an encoding of `o`: an equal value, or out of memory.
pub record ReadsBack {I O X : Type 0} (inner_kind : X → Kind) (alike : O → O → Type 0) (o : O)
    (result : Result O (ParseFault I X Needed)) : Type 0 where
  pub back : IfOk result (λ p. alike o p)
  pub wants : IfErr result (λ fault. IsWant inner_kind fault)

pub reads_back : {I T O X : Type 0} {inner_kind : X → Kind} {text : Text T O}
    {alike : O → O → Type 0} {tokens : List T} {result : Result O (ParseFault I X Needed)}
    → IsUnambiguous text alike → IsTextOf inner_kind text tokens result → (o : O) → text o tokens
    → ReadsBack inner_kind alike o result
reads_back {tokens = tokens} {result = Ok p} one told o a =
    record { back = one.one o p tokens a told.stands; wants = tt }
reads_back {result = Err fault} one told o a =
    record { back = tt; wants = text_found told o a }

-- a weaker equality
pub one_weaker : {T O : Type 0} {text : Text T O} {alike same : O → O → Type 0}
    → ((o p : O) → alike o p → same o p) → IsUnambiguous text alike → IsUnambiguous text same
one_weaker weaker one = record {
  one = λ o p tokens a b. weaker o p (one.one o p tokens a b);
}

-- ---- tokens, and values computed from one encoding

pub spelled_one : {T O : Type 0} (xs : List T) (output : O)
    → IsUnambiguous (Spelled xs output) (λ o p. o ≡ p)
unfolding Spelled
spelled_one xs output = record { one = λ o p tokens (is, e) (are, d). is ∙ sym are }

-- no tokens encode a value by both
pub among_one : {T O : Type 0} {first second : Text T O} {alike : O → O → Type 0}
    → IsUnambiguous first alike → IsUnambiguous second alike
    → ((o p : O) (tokens : List T) → first o tokens → second p tokens → ⊥)
    → IsUnambiguous (EitherText first second) alike
unfolding EitherText
among_one {T} {O} {first} {second} {alike} one two never = record { one = both }
  where
    both : (o p : O) (tokens : List T) → EitherText first second o tokens
        → EitherText first second p tokens → alike o p
    both o p tokens (inl a) (inl b) = one.one o p tokens a b
    both o p tokens (inl a) (inr b) = absurd (never o p tokens a b)
    both o p tokens (inr a) (inl b) = absurd (never p o tokens b a)
    both o p tokens (inr a) (inr b) = two.one o p tokens a b

-- this holds if one starts with a token of a set and the other does not
pub never_both : {T O : Type 0} {first second : Text T O} {these : T → Type 0}
    → TextsStartWith these first → InFront second AtEnd (NotFirst these)
    → (o p : O) (tokens : List T)
    → first o tokens → second p tokens → ⊥
never_both {these = these} begins outside o p tokens a b =
    begins_never these (tokens ++ []) (begins.makes o tokens [] a tt)
    (outside.makes p tokens [] b refl)

-- stored lists are equal if their items are
pub in_list_one : {T O A : Type 0} {text : Text T (List O)} {alike : List O → List O → Type 0}
    → IsUnambiguous text alike
    → IsUnambiguous (InList {A = A} text) (λ list more. alike list.items more.items)
unfolding InList
in_list_one one = record {
  one = λ list more tokens a b. one.one list.items more.items tokens a b;
}

-- accumulators are equal if their contents are
pub holding_one : {T O C : Type 0} (holds : C → List O → Type 0) {text : Text T (List O)}
    {alike : List O → List O → Type 0} {same : C → C → Type 0}
    → ((all more : C) (os ps : List O) → holds all os → holds more ps → alike os ps
    → same all more) → IsUnambiguous text alike → IsUnambiguous (GatheredText holds text) same
unfolding GatheredText
holding_one holds makes one = record {
  one = λ all more tokens (os, held, a) (ps, holding, b).
      makes all more os ps held holding (one.one os ps tokens a b);
}

-- computed values are equal if their arguments are
pub of_one : {F T O U : Type 0} (makes : F → O → U → Type 0) (part : F) {text : Text T O}
    {alike : O → O → Type 0} {same : U → U → Type 0}
    → ((u v : U) (o p : O) → makes part o u → makes part p v → alike o p → same u v)
    → IsUnambiguous text alike → IsUnambiguous (MadeText makes part text) same
unfolding MadeText
of_one makes part keeps one = record {
  one = λ u v tokens (o, a, is) (p, b, are). keeps u v o p is are (one.one o p tokens a b);
}

-- ---- sequences

-- where a text ends its grammar tells
module _ {T O : Type 0} {g : Grammar T O} {text : Text T O} {follow : List T → Type 0}
    {alike : O → O → Type 0} (is : IsGrammarOf g text follow) (unique : IsUnique g)
    (one : IsUnambiguous text alike) where
  pub split_one : (o p : O) (xs ys zs ws : List T) → text o xs → text p ys → follow zs → follow ws
      → xs ++ zs ≡ ys ++ ws → alike o p × (zs ≡ ws)
  split_one o p xs ys zs ws a b behind after e =
      let P : List T → Type 0 = λ l. g l o zs in
      let rest = unique.one (ys ++ ws) o p zs ws (subst P e (is.back o xs zs a behind))
      (is.back p ys ws b after) in
      let Q : List T → Type 0 = λ l. text p l in
      let same = append_cancel_right ys xs zs (ap (λ l. ys ++ l) rest ∙ sym e) in
      (one.one o p xs a (subst Q same b), rest)

  pub then_one : {O2 U : Type 0} (output : O → O2 → U) {second : Text T O2}
      {alike2 : O2 → O2 → Type 0} {same : U → U → Type 0}
      → ((o p : O) (o2 p2 : O2) → alike o p → alike2 o2 p2 → same (output o o2) (output p p2))
      → ((o : O2) (tokens : List T) → second o tokens → follow tokens)
      → IsUnambiguous second alike2 → IsUnambiguous (BothText output text second) same
  unfolding BothText
  then_one output {second} {same = same} keeps behind two = record {
    one = λ u v tokens (o, o2, xs, ys, a, b, e, out) (p, p2, zs, ws, c, d, f, other).
        let (like, rest) = split_one o p xs zs ys ws a c (behind o2 ys b) (behind p2 ws d)
        (sym e ∙ f) in
        let P : List T → Type 0 = λ l. second p2 l in
        let like2 = two.one o2 p2 ys b (subst P (sym rest) d) in
        let Q : _ → Type 0 = λ w. same w v in
        let R : _ → Type 0 = λ w. same (output o o2) w in
        subst Q (sym out) (subst R (sym other) (keeps o p o2 p2 like like2));
  }

  -- a row of texts that are not empty
  module _ (some : TextsStartWith (λ t. ⊤) text) (again : InFront text follow follow)
      (last : follow []) where
    row_follows : (os : List O) (tokens : List T) → EachText text os tokens → follow tokens
    unfolding EachText
    row_follows [] tokens e = let P : List T → Type 0 = λ l. follow l in subst P (sym e) last
    row_follows (o ∷ os) tokens (xs, ys, a, more, e) =
        let P : List T → Type 0 = λ l. follow l in
        subst P (sym e) (again.makes o xs ys a (row_follows os ys more))

    never : {P : Type 0} (o : O) (xs ys : List T) → text o xs → xs ++ ys ≡ [] → P
    never o xs ys a e =
        let Q : List T → Type 0 = λ l. StartsWith (λ t. ⊤) l in
        absurd (subst Q e (some.makes o xs ys a tt))

    both_rows : (os ps : List O) (tokens : List T) → EachText text os tokens
        → EachText text ps tokens
        → AllZip alike os ps
    unfolding EachText
    both_rows [] [] tokens e f = tt
    both_rows [] (p ∷ ps) tokens e (zs, ws, c, d, f) = never p zs ws c (sym f ∙ e)
    both_rows (o ∷ os) [] tokens (xs, ys, a, b, e) f = never o xs ys a (sym e ∙ f)
    both_rows (o ∷ os) (p ∷ ps) tokens (xs, ys, a, b, e) (zs, ws, c, d, f) =
        let (like, rest) = split_one o p xs zs ys ws a c (row_follows os ys b)
        (row_follows ps ws d) (sym e ∙ f) in
        let P : List T → Type 0 = λ l. EachText text ps l in
        (like, both_rows os ps ys b (subst P (sym rest) d))

    pub row_one : IsUnambiguous (EachText text) (AllZip alike)
    row_one = record { one = both_rows }

-- one encoding or more, with nonempty encodings of a separator between them
module _ {T O D : Type 0} {g : Grammar T O} {h : Grammar T D} {text : Text T O}
    {separator : Text T D} {follow between : List T → Type 0} {alike : O → O → Type 0}
    {same : D → D → Type 0} (is : IsGrammarOf g text follow) (unique : IsUnique g)
    (one : IsUnambiguous text alike) (by : IsGrammarOf h separator between)
    (by_unique : IsUnique h) (by_one : IsUnambiguous separator same) where
  pub joined_one : TextsStartWith (λ t. ⊤) separator → InFront separator between follow
      → InFront text follow between → ((o : O) (tokens : List T) → text o tokens → between tokens)
      → follow [] → IsUnambiguous (AtLeast 1 (PartedText separator text)) (AllZip alike)
  unfolding PartedText
  joined_one some divides goes_on behind last = record { one = lists }
    where
      link : Text T O
      link = BothText (λ d o. o) separator text

      is_link : IsGrammarOf (Both (λ d o. o) h g) link follow
      is_link = links is by divides goes_on

      link_unique : IsUnique (Both (λ d o. o) h g)
      link_unique = both_unique (λ d o. o) by_unique unique

      link_one : IsUnambiguous link alike
      link_one = then_one by by_unique by_one (λ d o. o) (λ d c o p e a. a) behind one

      begins : TextsStartWith (λ t. ⊤) link
      begins = both_front (λ d o. o) some front_any

      again : InFront link follow follow
      again = both_front (λ d o. o) divides goes_on

      lists : (os ps : List O) (tokens : List T) → AtLeast 1 (PartedText separator text) os tokens
          → AtLeast 1 (PartedText separator text) ps tokens → AllZip alike os ps
      lists [] ps tokens (e, enough) b = absurd (omega arith)
      lists (o ∷ os) [] tokens a (e, enough) = absurd (omega arith)
      lists (o ∷ os) (p ∷ ps) tokens ((xs, ys, a, b, e), enough) ((zs, ws, c, d, f), more) =
          let (like, rest) = split_one is unique one o p xs zs ys ws a c
          (row_follows is_link link_unique link_one begins again last os ys b)
          (row_follows is_link link_unique link_one begins again last ps ws d) (sym e ∙ f) in
          let P : List T → Type 0 = λ l. EachText link ps l in (
            like,
            (row_one is_link link_unique link_one begins again last).one os ps ys b
                (subst P (sym rest) d),
          )
