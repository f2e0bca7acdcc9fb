-- Lemmas on items in brackets.
use Rattle.std.specs.Prelude.{◌≡◌, ◌<◌, ◌⊎◌, ◌-◌, ◌/◌, ℕ, zero, suc, List, [], ◌∷◌, ◌++◌}
use Rattle.std.specs.Prelude.{Bool, true, false}
use Rattle.std.specs.Prelude.{length, IsTrue, ⊤, ◌||◌, ◌==◌}
use Rattle.std.proofs.Common.{◌∙◌, inl, inr, refl, sym, subst, ap, append_assoc, arith}
use Rattle.std.proofs.lemmas.Bool.{eq-eqb}
use Rattle.machines.specs.Bounds.{disjoint_by, or_left, or_right}
use Rattle.machines.specs.Concats.{concat, concat_cases, concat_empty, concat_first, concat_never}
use Rattle.machines.specs.Concats.{concat_second, first_same, nonempty_second, others_same}
use Rattle.machines.specs.Grammar.{Grammar, Lawful}
use Rattle.machines.specs.Languages.{Concat, Derivative, HasNonEmpty, Language, NeverStarts}
use Rattle.machines.specs.Nests.{AreApart, Balanced, Brackets, Enclosed, Item, OneByte, is_bracket}
use Rattle.machines.specs.Nests.{is_close, is_open, room, stack}
use Rattle.machines.specs.Stars.{none_yet}

-- ---- stacks

pub stack_length : (depth kinds : ℕ) → length (stack depth kinds) ≡ depth
stack_length zero kinds = refl
stack_length (suc depth) kinds = ap (λ n. suc n) (stack_length depth (kinds / 2))

pub room_is : (limit : ℕ) (ks : List Bool) → room limit ks ≡ limit - length ks
room_is limit [] = omega arith
room_is limit (k ∷ ks) = refl

-- ---- the word of one byte

no_empty_byte : (x : ℕ) → OneByte x [] → ⊥
no_empty_byte x e = cc

byte_is : (x y : ℕ) (word : List ℕ) → OneByte y (x ∷ word) → x ≡ y
byte_is x y word e = first_same e

byte_first : (x y : ℕ) (K : Language) → x ≡ y → Derivative (Concat (OneByte y) K) (x ∷ []) K
byte_first x y K same = record {
  there = λ word it. concat (x ∷ []) word (ap (λ z. z ∷ []) same) it;
  back = λ word it. by word (concat_cases it);
}
  where
    by : (word : List ℕ) → (OneByte y [] × K (x ∷ word))
        ⊎ ((left : List ℕ) × (right : List ℕ) × (word ≡ left ++ right) × OneByte y (x ∷ left)
        × K right) → K word
    by word (inl (one, two)) = absurd (no_empty_byte y one)
    by word (inr (left, right, e, one, two)) =
        let P : List ℕ → Type 0 = λ l. word ≡ l ++ right in
        let same_word : word ≡ right = subst P (others_same one) e in subst K (sym same_word) two

byte_never : (x y : ℕ) (K : Language) → (x ≡ y → ⊥) → NeverStarts (Concat (OneByte y) K) x
byte_never x y K other = concat_never x (λ word e. other (byte_is x y word e))
    (λ empty. absurd (no_empty_byte y empty))

-- ---- words in another order of brackets

concat_right : {X Y Z : Language} {word : List ℕ} → Concat (Concat X Y) Z word
    → Concat X (Concat Y Z) word
concat_right it = record {
  left = it.first.left;
  right = it.first.right ++ it.right;
  splits = it.splits ∙ ap (λ l. l ++ it.right) it.first.splits
      ∙ append_assoc it.first.left it.first.right it.right;
  first = it.first.first;
  second = concat it.first.right it.right it.first.second it.second;
}

concat_left : {X Y Z : Language} {word : List ℕ} → Concat X (Concat Y Z) word
    → Concat (Concat X Y) Z word
concat_left it = record {
  left = it.left ++ it.second.left;
  right = it.second.right;
  splits = it.splits ∙ ap (λ l. it.left ++ l) it.second.splits
      ∙ sym (append_assoc it.left it.second.left it.second.right);
  first = concat it.left it.second.left it.first it.second.first;
  second = it.second.second;
}

pub opener_is : (b : Brackets) (k : Bool) (x : ℕ) → x ≡ b.opener k → IsTrue (is_open b x)
opener_is b false x e = or_left (x == b.opener false) (x == b.opener true)
    (eq-eqb x (b.opener false) e)
opener_is b true x e = or_right (x == b.opener false) (x == b.opener true)
    (eq-eqb x (b.opener true) e)

pub closer_is : (b : Brackets) (k : Bool) (x : ℕ) → x ≡ b.closer k → IsTrue (is_close b x)
closer_is b false x e = or_left (x == b.closer false) (x == b.closer true)
    (eq-eqb x (b.closer false) e)
closer_is b true x e = or_right (x == b.closer false) (x == b.closer true)
    (eq-eqb x (b.closer true) e)

-- the byte does not close the innermost open bracket
abbrev pub NoCloser : Brackets → List Bool → ℕ → Type 0
NoCloser b [] x = ⊤
NoCloser b (k ∷ ks) x = x ≡ b.closer k → ⊥

module _ {A : Type 0} (b : Brackets) (a : Grammar A) (la : Lawful a) (apart : AreApart b a) where
  leaf_solid : a.residual a.start [] → ⊥
  leaf_solid it = let e = la.null it in let f = apart.filled in cc

  same_kind : (k j : Bool) → b.opener k ≡ b.opener j → k ≡ j
  same_kind false false e = refl
  same_kind true true e = refl
  same_kind false true e = let f = eq-eqb (b.opener false) (b.opener true) e in
      let g = apart.kinds in cc
  same_kind true false e = let f = eq-eqb (b.opener false) (b.opener true) (sym e) in
      let g = apart.kinds in cc

  pub item_solid : (depth : ℕ) → Item b (a.residual a.start) depth [] → ⊥
  item_solid zero it = leaf_solid it
  item_solid (suc depth) (inl it) = leaf_solid it
  item_solid (suc depth) (inr (k, it)) = no_empty_byte (b.opener k) (concat_empty it).0

  opened : (depth x : ℕ) (word : List ℕ) (k : Bool)
      → Concat (OneByte (b.opener k)) (Concat (Balanced b (a.residual a.start) depth)
      (OneByte (b.closer k))) (x ∷ word) → x ≡ b.opener k
  opened depth x word k it = by (concat_cases it)
    where
      by : (OneByte (b.opener k) [] × Concat (Balanced b (a.residual a.start) depth)
          (OneByte (b.closer k)) (x ∷ word))
          ⊎ ((left : List ℕ) × (right : List ℕ) × (word ≡ left ++ right)
          × OneByte (b.opener k) (x ∷ left) × Concat (Balanced b (a.residual a.start) depth)
          (OneByte (b.closer k)) right) → x ≡ b.opener k
      by (inl (one, two)) = absurd (no_empty_byte (b.opener k) one)
      by (inr (left, right, e, one, two)) = byte_is x (b.opener k) left one

  pub item_first : (depth x : ℕ) (word : List ℕ) → Item b (a.residual a.start) depth (x ∷ word)
      → IsTrue (a.firsts x || is_open b x)
  item_first zero x word it = or_left (a.firsts x) (is_open b x) (la.first x word it)
  item_first (suc depth) x word (inl it) = or_left (a.firsts x) (is_open b x) (la.first x word it)
  item_first (suc depth) x word (inr (k, it)) = or_right (a.firsts x) (is_open b x)
      (opener_is b k x (opened depth x word k it))

  not_first_open : (x : ℕ) → x < 256 → IsTrue (a.firsts x) → IsTrue (is_open b x) → ⊥
  not_first_open x low one two = disjoint_by a.firsts (is_bracket b) apart.first x low one
      (or_left (is_open b x) (is_close b x) two)

  -- the derivative by the first byte of a word
  pub item_leaf : (depth x : ℕ) (t : A) → x < 256
      → Derivative (a.residual a.start) (x ∷ []) (a.residual t)
      → Derivative (Item b (a.residual a.start) depth) (x ∷ []) (a.residual t)
  item_leaf zero x t low goes = goes
  item_leaf (suc depth) x t low goes = record {
    there = λ word it. inl (goes.there word it);
    back = λ word it. by word it;
  }
    where
      first : IsTrue (a.firsts x)
      first = let (word, it) = la.live t in la.first x word (goes.there word it)

      by : (word : List ℕ) → Item b (a.residual a.start) (suc depth) (x ∷ word) → a.residual t word
      by word (inl it) = goes.back word it
      by word (inr (k, it)) = absurd (not_first_open x low first
          (opener_is b k x (opened depth x word k it)))

  -- the derivative by an opening bracket
  pub item_open : (depth x : ℕ) (j : Bool) → x < 256 → x ≡ b.opener j
      → Derivative (Item b (a.residual a.start) (suc depth)) (x ∷ [])
      (Concat (Balanced b (a.residual a.start) depth) (OneByte (b.closer j)))
  item_open depth x j low e = record {
    there = λ word it. inr (j, (byte_first x (b.opener j) (Inside j) e).there word it);
    back = λ word it. by word it;
  }
    where
      Inside : Bool → Language
      Inside k = Concat (Balanced b (a.residual a.start) depth) (OneByte (b.closer k))

      by : (word : List ℕ) → Item b (a.residual a.start) (suc depth) (x ∷ word)
          → Concat (Balanced b (a.residual a.start) depth) (OneByte (b.closer j)) word
      by word (inl it) = absurd (not_first_open x low (la.first x word it) (opener_is b j x e))
      by word (inr (k, it)) =
          let same : k ≡ j = same_kind k j (sym (opened depth x word k it) ∙ e) in
          let P : Bool → Type 0 = λ i. Concat (Balanced b (a.residual a.start) depth)
          (OneByte (b.closer i)) word in
          subst P same ((byte_first x (b.opener k) (Concat (Balanced b (a.residual a.start) depth)
          (OneByte (b.closer k))) (opened depth x word k it)).back word it)

  -- no item starts with a byte of neither a word nor an opening bracket
  pub item_never : (depth x : ℕ) → NeverStarts (a.residual a.start) x
      → ((j : Bool) → x ≡ b.opener j → depth ≡ 0)
      → NeverStarts (Item b (a.residual a.start) depth) x
  item_never zero x never shut word it = never word it
  item_never (suc depth) x never shut word (inl it) = never word it
  item_never (suc depth) x never shut word (inr (k, it)) =
      let e = shut k (opened depth x word k it) in omega (arith, e)

  -- ---- enclosed

  pub enclosed_step : (limit : ℕ) (ks : List Bool) (K K' : Language) (x : ℕ)
      → Derivative K (x ∷ []) K' → (K [] → NoCloser b ks x)
      → Derivative (Enclosed b (a.residual a.start) limit ks K) (x ∷ [])
      (Enclosed b (a.residual a.start) limit ks K')
  enclosed_step limit [] K K' x goes none = goes
  enclosed_step limit (k ∷ ks) K K' x goes none = concat_first x goes (λ empty. byte_never x
      (b.closer k) (Enclosed b (a.residual a.start) limit ks
      (Balanced b (a.residual a.start) (room limit ks))) (none empty))

  pub enclosed_close : (limit : ℕ) (k : Bool) (ks : List Bool) (K : Language) (x : ℕ)
      → x ≡ b.closer k → NeverStarts K x → K []
      → Derivative (Enclosed b (a.residual a.start) limit (k ∷ ks) K) (x ∷ [])
      (Enclosed b (a.residual a.start) limit ks (Balanced b (a.residual a.start) (room limit ks)))
  enclosed_close limit k ks K x e never empty = concat_second x never empty (byte_first x
      (b.closer k) (Enclosed b (a.residual a.start) limit ks
      (Balanced b (a.residual a.start) (room limit ks))) e)

  pub enclosed_never : (limit : ℕ) (ks : List Bool) (K : Language) (x : ℕ) → NeverStarts K x
      → (K [] → NoCloser b ks x) → NeverStarts (Enclosed b (a.residual a.start) limit ks K) x
  enclosed_never limit [] K x never none = never
  enclosed_never limit (k ∷ ks) K x never none = concat_never x never (λ empty. byte_never x
      (b.closer k) (Enclosed b (a.residual a.start) limit ks
      (Balanced b (a.residual a.start) (room limit ks))) (none empty))

  pub enclosed_live : (limit : ℕ) (ks : List Bool) (K : Language) (word : List ℕ) → K word
      → (all : List ℕ) × Enclosed b (a.residual a.start) limit ks K all
  enclosed_live limit [] K word it = (word, it)
  enclosed_live limit (k ∷ ks) K word it =
      let (rest, enclosed) = enclosed_live limit ks
      (Balanced b (a.residual a.start) (room limit ks)) [] none_yet in (
        word ++ b.closer k ∷ rest,
        concat word (b.closer k ∷ rest) it (concat (b.closer k ∷ []) rest refl enclosed),
      )

  pub enclosed_more : (limit : ℕ) (ks : List Bool) (K : Language) (word : List ℕ) → K word
      → HasNonEmpty K → HasNonEmpty (Enclosed b (a.residual a.start) limit ks K)
  enclosed_more limit [] K word it more = more
  enclosed_more limit (k ∷ ks) K word it more =
      let (rest, enclosed) = enclosed_live limit ks
      (Balanced b (a.residual a.start) (room limit ks)) [] none_yet in
      nonempty_second word it
      (b.closer k, rest, concat (b.closer k ∷ []) rest refl enclosed)

  pub enclosed_empty : (limit : ℕ) (ks : List Bool) (K : Language)
      → Enclosed b (a.residual a.start) limit ks K [] → (ks ≡ []) × K []
  enclosed_empty limit [] K it = (refl, it)
  enclosed_empty limit (k ∷ ks) K it =
      absurd (no_empty_byte (b.closer k) (concat_empty (concat_empty it).1).0)

  -- an open bracket, with its items and its closing bracket
  pub enclosed_right : (limit : ℕ) (ks : List Bool) (X Y Z : Language) (word : List ℕ)
      → Enclosed b (a.residual a.start) limit ks (Concat (Concat X Y) Z) word
      → Concat X (Concat Y (Enclosed b (a.residual a.start) limit ks Z)) word
  enclosed_right limit [] X Y Z word it = concat_right it
  enclosed_right limit (k ∷ ks) X Y Z word it = concat_right (concat_right it)

  pub enclosed_left : (limit : ℕ) (ks : List Bool) (X Y Z : Language) (word : List ℕ)
      → Concat X (Concat Y (Enclosed b (a.residual a.start) limit ks Z)) word
      → Enclosed b (a.residual a.start) limit ks (Concat (Concat X Y) Z) word
  enclosed_left limit [] X Y Z word it = concat_left it
  enclosed_left limit (k ∷ ks) X Y Z word it = concat_left (concat_left it)
