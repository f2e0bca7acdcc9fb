-- Characters and words of texts: what parsers read of them, and what is written.
use Rattle.std.specs.Prelude.{◌≡◌, ◌≤◌, ℕ, true, false, List, [], ◌∷◌, ◌++◌, length, Ok, Err}
use Rattle.std.specs.Borrow.{Bor}
use Rattle.std.specs.List.{All}
use Rattle.std.specs.Str.{chars, encode_utf8_all}
use Rattle.std.proofs.Common.{refl, sym, ap, subst, inl, ◌∙◌, arith}
use Rattle.std.proofs.lemmas.List.Elements.{All-weaker}
use Rattle.streams.specs.Equal.{true_is_false}
use Rattle.streams.specs.Input.{Input}
use Rattle.streams.specs.Kind.{Kind}
use Rattle.streams.specs.Stream.{AnswersSeen}
use Rattle.streams.specs.Text.{text_reading}
use Rattle.grammars.specs.Grammar.Same.{Same}
use Rattle.grammars.specs.Grammar.{Both, Class, Grammar, InClass, Literally, Longest}
use Rattle.grammars.specs.Grammar.{Three, Token, TokenOf}
use Rattle.grammars.specs.Grammar.Meaning.{Meaning}
use Rattle.grammars.specs.Grammar.Tuples.{Four}
use Rattle.grammars.specs.Texts.{Anything, StartsWith, TextsStartWith, BothText, InFront}
use Rattle.grammars.specs.Texts.{IsGrammarOf}
use Rattle.grammars.specs.Texts.{MadeText}
use Rattle.grammars.specs.Texts.{NotFirst, Spelled, Text}
use Rattle.grammars.specs.Texts.Fronts.{both_front, of_front}
use Rattle.grammars.specs.Texts.Parts.{both_of, made_of, same_of}
use Rattle.winnow_core.specs.Exact.{Reads}
use Rattle.winnow_grammar.specs.Read.{err_as, ok_as}

-- a slice of a text
abbrev pub Slice : Type 0
Slice = Bor (List ℕ)

-- ---- what is made of two outputs

abbrev pub former : {A B : Type 0} → A → B → A
former a b = a

abbrev pub latter : {A B : Type 0} → A → B → B
latter a b = b

abbrev pub pair : {A B : Type 0} → A → B → A × B
pair a b = (a, b)

abbrev pub to_four : {A B C D : Type 0} → A → B × (C × D) → A × B × C × D
to_four a b = (a, b.0, b.1.0, b.1.1)

-- ---- what parsers read

-- a character that stands for itself
abbrev pub Char : ℕ → Grammar ℕ ℕ
Char = Literally text_reading (λ c xs. xs ≡ c ∷ []) (λ c _. c)

-- a character of a class
abbrev pub OneIn : (ℕ → Type 0) → Grammar ℕ ℕ
OneIn class = TokenOf (λ c. c) (InClass class (λ c. c)) tt

-- The longest prefix of characters of `class`, if it has at least `least`.
abbrev pub RunOf : (ℕ → Type 0) → ℕ → Grammar ℕ (Bor (List ℕ))
RunOf class least = Class class least (λ c. c) (λ c. c) text_reading

-- these characters, for this
unfoldable pub Word : {O : Type 0} → List ℕ → O → Grammar ℕ O
Word word output tokens o rest = (o ≡ output) × (tokens ≡ word ++ rest)

-- ---- what is written

-- this character
abbrev pub One : ℕ → Text ℕ ℕ
One c = Spelled (c ∷ []) c

-- a character of a class
unfoldable pub In : (ℕ → Type 0) → Text ℕ ℕ
In class c tokens = class c × (tokens ≡ c ∷ [])

-- whatever character it is
unfoldable pub Whichever : Text ℕ ℕ
Whichever c tokens = tokens ≡ c ∷ []

-- `least` or more characters of `class`, for a slice that shows them.
unfoldable pub Run : (ℕ → Type 0) → ℕ → Text ℕ (Bor (List ℕ))
Run class least slice tokens =
    All class tokens × (least ≤ length tokens) × text_reading.shows slice tokens

-- ---- the one reads the other

slice_of : (tokens : List ℕ) → (slice : Bor (List ℕ)) × text_reading.shows slice tokens
slice_of tokens = (record { ref_ptr = (0, 0); now = encode_utf8_all tokens }, refl)

pub char_of : (c : ℕ) → IsGrammarOf (Char c) (One c) Anything
unfolding Literally Spelled
char_of c = record {
  there = λ tokens o rest (front, slice, is, shown, e, a). (front, e, (a, is));
  back = λ o front rest (is, e) any.
      let (slice, shown) = slice_of front in (front, slice, e, shown, refl, is);
}

pub in_of : (class : ℕ → Type 0) → IsGrammarOf (OneIn class) (In class) Anything
unfolding TokenOf In
in_of class = record {
  there = λ tokens c rest (is, e). (c ∷ [], e, (is.0 refl, refl));
  back = λ c front rest (is, e) any. ((λ t. is, λ x. refl), ap (λ l. l ++ rest) e);
}

pub any_of : IsGrammarOf (Token (λ c. c)) Whichever Anything
unfolding Token Whichever
any_of = record {
  there = λ tokens c rest e. (c ∷ [], e, refl);
  back = λ c front rest e any. ap (λ l. l ++ rest) e;
}

member : (class : ℕ → Type 0) (c : ℕ) → AnswersSeen (λ t. t) (InClass class (λ c. c) tt) c true
    → class c
member class c (t, is, told) = subst class is (told.0 refl)

outside : (class : ℕ → Type 0) (c : ℕ) → (class c → ⊥)
    → AnswersSeen (λ t. t) (InClass class (λ c. c) tt) c false
outside class c not = (c, refl, (λ t. true_is_false (sym t), λ x. absurd (not x)))

pub run_of : (class : ℕ → Type 0) (least : ℕ)
    → IsGrammarOf (RunOf class least) (Run class least) (NotFirst class)
unfolding Longest Run
run_of class least = record {
  there = λ tokens slice rest (front, longest, enough, shown). (
    front,
    longest.splits,
    (
      All-weaker (λ c. AnswersSeen (λ t. t) (InClass class (λ c. c) tt) c true) class
          (member class) front longest.members,
      enough,
      shown,
    ),
  );
  back = λ slice front rest (members, enough, shown) ends. (
    front,
    record {
      splits = refl;
      members = All-weaker class (λ c. AnswersSeen (λ t. t) (InClass class (λ c. c) tt) c true)
          (λ c is. (c, refl, ((λ t. is), (λ x. refl)))) front members;
      within = tt;
      stops = λ c more e. inl (outside class c (subst (NotFirst class) e ends));
    },
    enough,
    shown,
  );
}

-- ---- what they begin with

pub in_begins : (class : ℕ → Type 0) → TextsStartWith class (In class)
unfolding In
in_begins class = record {
  makes = λ c xs rest (is, e) any.
      let P : List ℕ → Type 0 = λ l. StartsWith class (l ++ rest) in subst P (sym e) is;
}

pub run_begins : (class : ℕ → Type 0) → TextsStartWith class (Run class 1)
unfolding Run
run_begins class = record { makes = λ slice xs rest x any. first xs rest x.0 x.1 }
  where
    first : (xs rest : List ℕ) → All class xs → 1 ≤ length xs → StartsWith class (xs ++ rest)
    first [] rest all some = absurd (omega arith)
    first (x ∷ xs) rest all some = all 0 x (omega arith)

-- ---- what an output means

-- `For means text`: the encodings of a value by `text`, through an output that means the value.
abbrev pub For : {O U : Type 0} → (O → U → Type 0) → Text ℕ O → Text ℕ U
For {O} {U} means text = MadeText (λ (_ : Unit {0}) o u. means o u) tt text

pub for_of : {O U : Type 0} (means : O → U → Type 0) {g : Grammar ℕ O} {text : Text ℕ O}
    {follow : List ℕ → Type 0} → IsGrammarOf g text follow
    → IsGrammarOf (Meaning means g) (For means text) follow
for_of {O} {U} means is = made_of (λ (_ : Unit {0}) o u. means o u) tt is

pub for_front : {O U : Type 0} (means : O → U → Type 0) {text : Text ℕ O}
    {behind whole : List ℕ → Type 0} → InFront text behind whole
    → InFront (For means text) behind whole
for_front {O} {U} means front = of_front (λ (_ : Unit {0}) o u. means o u) tt front

-- ---- sequences

-- four texts
abbrev pub FourTexts : {O1 O2 O3 O4 : Type 0} → Text ℕ O1 → Text ℕ O2 → Text ℕ O3 → Text ℕ O4
    → Text ℕ (O1 × O2 × O3 × O4)
FourTexts {O1} {O2} {O3} {O4} t1 t2 t3 t4 =
    BothText to_four t1 (BothText pair t2 (BothText pair t3 t4))

-- four are one and three, which are one and two; they are also three and one
pub four_same : {O1 O2 O3 O4 : Type 0} (g1 : Grammar ℕ O1) (g2 : Grammar ℕ O2) (g3 : Grammar ℕ O3)
    (g4 : Grammar ℕ O4)
    → Same (Both to_four g1 (Both pair g2 (Both pair g3 g4))) (Four g1 g2 g3 g4)
unfolding Both Three
four_same {O1} {O2} {O3} {O4} g1 g2 g3 g4 = record {
  there = λ tokens o rest (o1, q, a, x, (o2, p, b, y, (o3, o4, c, z, w, r), s), t).
      let e = s ∙ ap (λ (p : O3 × O4). (o2, p)) r in
      let f = t ∙ ap (λ (q : O2 × (O3 × O4)). (o1, q.0, q.1.0, q.1.1)) e in
      ((o1, o2, o3), o4, c, (o1, o2, o3, a, b, x, y, z, refl), w, f);
  back = λ tokens o rest (front, o4, c, (o1, o2, o3, a, b, x, y, z, e), w, f).
      let whole = f ∙ ap (λ (q : O1 × O2 × O3). (q.0, q.1, q.2, o4)) e in
      (o1, (o2, (o3, o4)), a, x, (o2, (o3, o4), b, y, (o3, o4, c, z, w, refl), refl), whole);
}

-- a text between two others
abbrev pub Between : {O1 O2 O3 : Type 0} → Text ℕ O1 → Text ℕ O2 → Text ℕ O3 → Text ℕ O2
Between opens text closes = BothText latter opens (BothText former text closes)

between_same : {O1 O2 O3 : Type 0} (g1 : Grammar ℕ O1) (g2 : Grammar ℕ O2) (g3 : Grammar ℕ O3)
    → Same (Both latter g1 (Both former g2 g3)) (Three (λ o1 o2 o3. o2) g1 g2 g3)
unfolding Both Three
between_same g1 g2 g3 = record {
  there = λ tokens o rest (o1, q, a, x, (o2, o3, b, y, z, r), s).
      (o1, o2, o3, a, b, x, y, z, s ∙ r);
  back = λ tokens o rest (o1, o2, o3, a, b, x, y, z, e).
      (o1, o2, a, x, (o2, o3, b, y, z, refl), e);
}

pub between_of : {O1 O2 O3 : Type 0} {g1 : Grammar ℕ O1} {g2 : Grammar ℕ O2} {g3 : Grammar ℕ O3}
    {first : Text ℕ O1} {second : Text ℕ O2} {third : Text ℕ O3} {near mid follow : List ℕ → Type 0}
    → IsGrammarOf g1 first near → IsGrammarOf g2 second mid → IsGrammarOf g3 third follow
    → InFront second mid near → InFront third follow mid
    → IsGrammarOf (Three (λ o1 o2 o3. o2) g1 g2 g3) (Between first second third) follow
between_of {g1 = g1} {g2} {g3} one two three before between =
    same_of (between_same g1 g2 g3)
    (both_of latter one (both_of former two three between) (both_front former before between))

-- ---- a text as a word

-- a text that is read
abbrev pub Spelling : Slice → Grammar ℕ Slice
Spelling = Literally text_reading (λ s xs. xs ≡ chars s.now) (λ _ slice. slice)

module _ {O E : Type 0} (word : Slice) (value : O) {kind : E → Kind} {i j : Input ℕ} where
  pub spelled : {slice : Slice} → Reads text_reading kind (Spelling word) i (Ok slice) j
      → Reads text_reading kind (Word (chars word.now) value) i (Ok value) j
  unfolding Literally Word
  spelled {slice} r = ok_as r (λ tokens rest (front, shows, is, shown, e, same).
      (refl, e ∙ ap (λ l. l ++ rest) is))

  pub spelled_none : {e : E} → Reads text_reading kind (Spelling word) i (Err e) j
      → Reads text_reading kind (Word (chars word.now) value) i (Err e) j
  unfolding Literally Word
  spelled_none r = err_as r (λ tokens o rest (is, e).
      let slice : Slice = record { ref_ptr = (0, 0); now = encode_utf8_all (chars word.now) } in
      (slice, (chars word.now, slice, refl, refl, e, refl)))
