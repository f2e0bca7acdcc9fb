-- Grammars of texts of tokens.
use Rattle.std.specs.Prelude.{◌≡◌, ◌⊎◌, ◌≤◌, ◌↔◌, ℕ, List, [], ◌∷◌, ◌++◌, length, Option}
use Rattle.std.specs.Prelude.{Some}
use Rattle.std.specs.Prelude.{Bool, true, false, IsTrue, None}
use Rattle.std.proofs.Common.{refl, sym, ap, subst, inl, inr, ◌∙◌, arith}
use Rattle.std.proofs.lemmas.List.Elements.{All-weaker}
use Rattle.streams.specs.Counted.{counted_reading}
use Rattle.streams.specs.Equal.{true_is_false}
use Rattle.streams.specs.Reading.{Reading}
use Rattle.streams.specs.Stream.{AnswersSeen}
use Rattle.stream_sets.specs.Once.{Others}
use Rattle.stream_sets.specs.Range.{Bounds, IsWithin, from_to}
use Rattle.stream_sets.specs.Sets.{InEither}
use Rattle.grammars.specs.Grammar.{Class, Counted, InClass, Literally, Longest, NoTokens, Nothing}
use Rattle.grammars.specs.Grammar.{TokenOf}
use Rattle.grammars.specs.Grammar.Inversion.{Byte, slice_for}
use Rattle.grammars.specs.Texts.{Anything, AtEnd, CountedText, Divides, IsGrammarOf, Itself}
use Rattle.grammars.specs.Texts.{LiterallyText, MayStartWith, Members, NoTokensText, NotFirst}
use Rattle.grammars.specs.Texts.{SoManyOf}
use Rattle.grammars.specs.Texts.{Spelled, TokenOfText}

-- a token that stands for itself, where slices show all tokens
pub itself_of : {T L : Type 0} (reading : Reading T L)
    → ((xs : List T) → (slice : L) × reading.shows slice xs) → (t : T)
    → IsGrammarOf (Literally reading (λ t xs. xs ≡ t ∷ []) (λ t _. t) t) (Itself t) Anything
unfolding Literally Spelled
itself_of reading slices t = record {
  there = λ tokens o rest (front, slice, is, shown, e, a). (front, e, (a, is));
  back = λ o front rest (a, is) any.
      let (slice, shown) = slices front in (front, slice, is, shown, refl, a);
}

-- a byte
pub byte_of : (x : ℕ) → IsGrammarOf (Byte x) (Itself x) Anything
byte_of = itself_of counted_reading slice_for

-- a literal
pub literal_of : {S T L O : Type 0} (reading : Reading T L) (spelled : S → List T → Type 0)
    (output : S → L → O) (literal : S)
    → IsGrammarOf (Literally reading spelled output literal)
    (LiterallyText reading spelled output literal) Anything
unfolding Literally LiterallyText
literal_of reading spelled output literal = record {
  there = λ tokens o rest (front, slice, is, shown, e, a). (front, e, (slice, is, shown, a));
  back = λ o front rest (slice, is, shown, a) any. (front, slice, is, shown, refl, a);
}

-- ---- sets

-- a set that tells whether something holds
pub divides_where : {T : Type 0} (these : T → Type 0)
    → Divides (λ t b. IsTrue b ↔ these t) these (λ t. these t → ⊥)
divides_where these = record {
  has = λ t. (λ (there, back). there refl, λ is. (λ any. is, λ it. refl));
  lacks = λ t. (
    λ (there, back) is. true_is_false (sym (back is)),
    λ not. (λ e. true_is_false (sym e), λ is. absurd (not is)),
  );
}

-- the complement of a set
pub divides_others : {X K : Type 0} (tells : X → K → Bool → Type 0) (set : X)
    {inside outside : K → Type 0} → Divides (tells set) inside outside
    → Divides (Others tells set) outside inside
divides_others tells set d = record { has = d.lacks; lacks = d.has }

-- the union of two sets
pub divides_either : {T : Type 0} {first others : T → Bool → Type 0}
    {inside outside these those : T → Type 0} → Divides first inside outside
    → Divides others these those
    → Divides (InEither first others) (λ t. inside t ⊎ (outside t × these t))
    (λ t. outside t × those t)
divides_either {T} {first} {others} {inside} {outside} {these} {those} d more =
    record { has = λ t. (has t, is t); lacks = λ t. (lacks t, not t) }
  where
    has : (t : T) → InEither first others t true → inside t ⊎ (outside t × these t)
    has t (inl (it, e)) = inl ((d.has t).0 it)
    has t (inr (out, it)) = inr ((d.lacks t).0 out, (more.has t).0 it)

    is : (t : T) → inside t ⊎ (outside t × these t) → InEither first others t true
    is t (inl it) = inl ((d.has t).1 it, refl)
    is t (inr (out, it)) = inr ((d.lacks t).1 out, (more.has t).1 it)

    lacks : (t : T) → InEither first others t false → outside t × those t
    lacks t (inl (it, e)) = true_is_false (sym e)
    lacks t (inr (out, it)) = ((d.lacks t).0 out, (more.lacks t).0 it)

    not : (t : T) → outside t × those t → InEither first others t false
    not t (out, it) = inr ((d.lacks t).1 out, (more.lacks t).1 it)

-- tokens that are seen as themselves
pub divides_seen : {K : Type 0} (member : K → Bool → Type 0) {inside outside : K → Type 0}
    → Divides member inside outside → Divides (AnswersSeen (λ t. t) member) inside outside
divides_seen {K} member {inside} {outside} d = record {
  has = λ t. (λ it. (d.has t).0 (itself t true it), λ is. (t, refl, (d.has t).1 is));
  lacks = λ t. (λ it. (d.lacks t).0 (itself t false it), λ is. (t, refl, (d.lacks t).1 is));
}
  where
    itself : (t : K) (b : Bool) → AnswersSeen (λ t. t) member t b → member t b
    itself t b (u, is, told) = let P : K → Type 0 = λ v. member v b in subst P is told

-- the same sets in other words
pub divides_as : {T : Type 0} {member : T → Bool → Type 0} {inside outside these those : T → Type 0}
    → ((t : T) → inside t ↔ these t) → ((t : T) → outside t ↔ those t)
    → Divides member inside outside → Divides member these those
divides_as same differ d = record {
  has = λ t. (λ it. (same t).0 ((d.has t).0 it), λ is. (d.has t).1 ((same t).1 is));
  lacks = λ t. (λ it. (differ t).0 ((d.lacks t).0 it), λ is. (d.lacks t).1 ((differ t).1 is));
}

-- a token of a set
pub token_of : {X K T : Type 0} (seen : K → T) (tells : X → K → Bool → Type 0) (set : X)
    {these those : K → Type 0} → Divides (tells set) these those
    → IsGrammarOf (TokenOf seen tells set) (TokenOfText seen these) Anything
unfolding TokenOf TokenOfText
token_of seen tells set d = record {
  there = λ tokens k rest (is, e). (seen k ∷ [], e, ((d.has k).0 is, refl));
  back = λ k front rest (is, e) any. ((d.has k).1 is, ap (λ l. l ++ rest) e);
}

module _ {X K T L : Type 0} (reading : Reading T L) (seen : K → T)
    (tells : X → K → Bool → Type 0) (set : X) {these those : T → Type 0} where
  -- a maximal slice of members: no member follows
  pub longest_of : (bounds : Bounds) (least : ℕ) → bounds ≡ from_to least None
      → Divides (AnswersSeen seen (tells set)) these those
      → IsGrammarOf (Longest reading seen tells set bounds) (Members reading these least)
      (MayStartWith those)
  unfolding Longest Members
  longest_of bounds least any d = record {
    there = λ tokens slice rest (front, longest, enough, shown). (
      front,
      longest.splits,
      (
        All-weaker (λ t. AnswersSeen seen (tells set) t true) these (λ t is. (d.has t).0 is) front
            longest.members,
        omega (arith, ap (λ b. b.least) any, enough),
        shown,
      ),
    );
    back = λ slice front rest (all, enough, shown) ends.
        let P : Option ℕ → Type 0 = λ g. IsWithin g (length front) in (
          front,
          record {
            splits = refl;
            members = All-weaker these (λ t. AnswersSeen seen (tells set) t true)
                (λ t is. (d.has t).1 is) front all;
            within = subst P (sym (ap (λ b. b.greatest) any)) tt;
            stops = λ t more e.
                let Q : List T → Type 0 = λ l. MayStartWith those l in
                inl ((d.lacks t).1 (subst Q e ends));
          },
          omega (arith, ap (λ b. b.least) any, enough),
          shown,
        );
  }

  -- a slice of `n` members: any token may follow
  pub exactly_of : (bounds : Bounds) (n : ℕ) → bounds ≡ from_to n (Some n)
      → Divides (AnswersSeen seen (tells set)) these those
      → IsGrammarOf (Longest reading seen tells set bounds) (SoManyOf reading these n) Anything
  unfolding Longest SoManyOf
  exactly_of bounds n one d = record {
    there = λ tokens slice rest (front, longest, enough, shown). (
      front,
      longest.splits,
      (
        All-weaker (λ t. AnswersSeen seen (tells set) t true) these (λ t is. (d.has t).0 is) front
            longest.members,
        full (length front) longest.within enough,
        shown,
      ),
    );
    back = λ slice front rest (all, many, shown) any.
        let most = ap (λ b. b.greatest) one ∙ ap (λ m. Some m) (sym many) in
        let P : Option ℕ → Type 0 = λ g. IsWithin g (length front) in
        let itself : length front ≤ length front = omega arith in (
          front,
          record {
            splits = refl;
            members = All-weaker these (λ t. AnswersSeen seen (tells set) t true)
                (λ t is. (d.has t).1 is) front all;
            within = subst P (sym most) itself;
            stops = λ t more e. inr most;
          },
          omega (arith, ap (λ b. b.least) one, many),
          shown,
        );
  }
    where
      full : (m : ℕ) → IsWithin bounds.greatest m → bounds.least ≤ m → m ≡ n
      full m within enough =
          let P : Option ℕ → Type 0 = λ g. IsWithin g m in
          let most : m ≤ n = subst P (ap (λ b. b.greatest) one) within in
          omega (arith, most, enough, ap (λ b. b.least) one)

-- the characters of a class: no character of the class follows
pub class_of : {K L : Type 0} (reading : Reading K L) (class : ℕ → Type 0) (code : K → ℕ)
    (least : ℕ) → IsGrammarOf (Class class least code (λ t. t) reading)
    (Members reading (λ t. class (code t)) least) (NotFirst (λ t. class (code t)))
class_of reading class code least =
    longest_of reading (λ t. t) (InClass class code) tt (from_to least None) least refl
    (divides_seen (InClass class code tt) (divides_where (λ t. class (code t))))

-- `n` tokens
pub counted_of : {T L : Type 0} (reading : Reading T L) (n : ℕ)
    → IsGrammarOf (Counted reading n) (CountedText reading n) Anything
unfolding Counted CountedText
counted_of reading n = record {
  there = λ tokens slice rest (front, many, shown, e). (front, e, (many, shown));
  back = λ slice front rest (many, shown) any. (front, many, shown, refl);
}

-- nothing
pub nothing_of : {T O : Type 0} (output : O) → IsGrammarOf {T = T} (Nothing output)
    (Spelled [] output) Anything
unfolding Nothing Spelled
nothing_of output = record {
  there = λ tokens o rest (is, e). ([], sym e, (is, refl));
  back = λ o front rest (is, e) any. (is, ap (λ l. l ++ rest) (sym e));
}

-- no tokens
pub no_tokens_of : {T L : Type 0} (reading : Reading T L)
    → IsGrammarOf (NoTokens reading) (NoTokensText reading) AtEnd
unfolding NoTokens NoTokensText
no_tokens_of reading = record {
  there = λ tokens slice rest (none, e, shown). ([], none ∙ sym e, (refl, shown));
  back = λ slice front rest (none, shown) e.
      (ap (λ l. l ++ rest) none ∙ e, e, shown);
}
