-- Searches of bytes for one of several lists, from one candidate to the next.
use Rattle.std.proofs.Common.{◌≡◌, ℕ, ◌+◌, ◌-◌, ◌<◌, ◌≤◌, Bool, true, List, [], ◌∷◌, ◌++◌}
use Rattle.std.proofs.Common.{length}
use Rattle.std.proofs.Common.{take, drop, refl, sym, ap, subst, ◌∙◌, arith, inl, inr, length-append}
use Rattle.std.proofs.Common.{length-drop, get_or, get_or-drop}
use Rattle.std.specs.Prelude.{◌||◌}
use Rattle.std.proofs.lemmas.Bool.{cases_lt, eq-eqb, or_left, or_right}
use Rattle.std.proofs.Math.Dec.{eqb}
use Rattle.std.proofs.lemmas.List.{take-append-drop, length-take-le, drop_at}
use Rattle.memchr.specs.Find.{NoneBefore, Nowhere, Passes, is_byte3}
use Rattle.stream_searches.specs.Compare.{StartsWithSpelling}
use Rattle.stream_searches.specs.FindSlice.{Occurs, IsFirstMatch}
use Rattle.stream_searches.specs.Three.{IsOneOfThree}

-- `NoneFirst all P n`: no needle occurs at an offset below `n`
abbrev pub NoneFirst : List ℕ → (List ℕ → Type 0) → ℕ → Type 0
NoneFirst all P n = (k : ℕ) → k < n → StartsWithSpelling P (drop k all) → ⊥

-- `Begin test P`: every needle begins with a byte that passes the test
abbrev pub Begin : (ℕ → Bool) → (List ℕ → Type 0) → Type 0
Begin test P = (xs : List ℕ) → P xs → (b : ℕ) × (bs : List ℕ) × (xs ≡ b ∷ bs) × (test b ≡ true)

first_passes : (test : ℕ → Bool) (P : List ℕ → Type 0) → Begin test P → (all : List ℕ) (k : ℕ)
    → StartsWithSpelling P (drop k all) → test (get_or all k 0) ≡ true
first_passes test P begin all k (front, rest, p, split) =
    let begins = begin front p in
    let here : k + 0 ≡ k = omega arith in
    let byte : get_or all k 0 ≡ begins.0 =
    ap (λ n. get_or all n 0) (sym here) ∙ sym (get_or-drop k all 0 0)
    ∙ ap (λ l. get_or l 0 0) (split ∙ ap (λ l. l ++ rest) begins.2) in
    ap test byte ∙ begins.3

-- places at which no byte passes the test are skipped
pub skipped : (test : ℕ → Bool) (P : List ℕ → Type 0) → Begin test P
    → (all : List ℕ) (start at : ℕ) → NoneFirst all P start
    → Nowhere (Passes test (drop start all)) 0 at → NoneFirst all P (start + at)
skipped test P begin all start at before nowhere k h s = elim (cases_lt k start) [
  | inl l ↦ before k l s
  | inr g ↦ nowhere (k - start) (omega arith) (omega arith)
      (let there : start + (k - start) ≡ k = omega (arith, g) in
      ap test (get_or-drop start all (k - start) 0 ∙ ap (λ n. get_or all n 0) there)
      ∙ first_passes test P begin all k s)
]

stands_first : (P : List ℕ → Type 0) (all front hit rest : List ℕ) → Occurs P all front hit rest
    → StartsWithSpelling P (drop (length front) all)
stands_first P all front hit rest s = (
  hit,
  rest,
  s.is,
  ap (λ l. drop (length front) l) s.splits
      ∙ drop_at front (hit ++ rest) (length front) refl,
)

pub none_left : (test : ℕ → Bool) (P : List ℕ → Type 0) → Begin test P
    → (all : List ℕ) (start : ℕ) → NoneFirst all P start
    → Nowhere (Passes test (drop start all)) 0 (length (drop start all))
    → (front hit rest : List ℕ) → Occurs P all front hit rest → ⊥
none_left test P begin all start before nowhere front hit rest s =
    let begins = begin hit s.is in
    skipped test P begin all start (length (drop start all)) before nowhere (length front)
    (omega (
      arith,
      length-drop start all,
      ap (λ l. length l) s.splits,
      length-append front (hit ++ rest),
      length-append hit rest,
      ap (λ l. length l) begins.2,
    ))
    (stands_first P all front hit rest s)

-- the first of those left is the first match
pub found_first : (P : List ℕ → Type 0) (all : List ℕ) (at n : ℕ) → NoneFirst all P at
    → at ≤ length all → (front rest : List ℕ) → P front → drop at all ≡ front ++ rest
    → n ≡ length front → IsFirstMatch length P all at (at + n)
found_first P all at n before within front rest p split is_length =
    let front_length : at ≡ length (take at all) = sym (length-take-le at all within) in
    record {
      front = take at all;
      found = front;
      rest = rest;
      stands = record {
        splits = sym (take-append-drop at all)
            ∙ ap (λ l. take at all ++ l) split;
        is = p;
      };
      starts = front_length;
      ends = omega (arith, front_length, is_length);
      least = λ other hit behind s. elim (cases_lt (length other) at) [
        | inl h ↦ absurd (before (length other) h (stands_first P all other hit behind s))
        | inr h ↦ h
      ];
    }

pub one_more : (P : List ℕ → Type 0) (all : List ℕ) (at : ℕ) → NoneFirst all P at
    → (StartsWithSpelling P (drop at all) → ⊥) → NoneFirst all P (at + 1)
one_more P all at before here k h s = elim (cases_lt k at) [
  | inl l ↦ before k l s
  | inr g ↦ here (let same : k
      ≡ at = omega (arith, g, h) in let (front, rest, p, split) = s
      in (front, rest, p, ap (λ n. drop n all) (sym same) ∙ split))
]

-- a list that is not empty is its first byte and others
some_list : (xs : List ℕ) → 0 < length xs → (bs : List ℕ) × (xs ≡ get_or xs 0 0 ∷ bs)
some_list [] h = absurd (omega arith)
some_list (x ∷ xs) h = (xs, refl)

-- one of three lists begins with one of their first bytes
pub begin_three : (a b c : List ℕ) → 0 < length a → 0 < length b → 0 < length c
    → Begin (is_byte3 (get_or a 0 0) (get_or b 0 0) (get_or c 0 0)) (IsOneOfThree a b c)
begin_three a b c some_a some_b some_c xs (inl e) =
    let x = get_or a 0 0 in
    let n = some_list a some_a in (
      x,
      n.0,
      e ∙ n.1,
      or_left (eqb x x || eqb x (get_or b 0 0)) (eqb x (get_or c 0 0))
          (or_left (eqb x x) (eqb x (get_or b 0 0)) (eq-eqb x x refl)),
    )
begin_three a b c some_a some_b some_c xs (inr (inl e)) =
    let x = get_or b 0 0 in
    let n = some_list b some_b in (
      x,
      n.0,
      e ∙ n.1,
      or_left (eqb x (get_or a 0 0) || eqb x x) (eqb x (get_or c 0 0))
          (or_right (eqb x (get_or a 0 0)) (eqb x x) (eq-eqb x x refl)),
    )
begin_three a b c some_a some_b some_c xs (inr (inr e)) =
    let x = get_or c 0 0 in
    let n = some_list c some_c in (
      x,
      n.0,
      e ∙ n.1,
      or_right (eqb x (get_or a 0 0) || eqb x (get_or b 0 0)) (eqb x x) (eq-eqb x x refl),
    )

pub none_at_start : (all : List ℕ) (P : List ℕ → Type 0) → NoneFirst all P 0
none_at_start all P k h s = absurd (omega arith)

-- The state at a byte that begins one of three lists, if none of these occurs before the offset of
-- the search.
pub record Candidate (all a b c : List ℕ) (start at : ℕ) : Type 0 where
  pub within : start + at < length all
  pub before : NoneFirst all (IsOneOfThree a b c) (start + at)

pub candidate : (all a b c : List ℕ) (start at : ℕ) → 0 < length a → 0 < length b → 0 < length c
    → NoneFirst all (IsOneOfThree a b c) start → (left : List ℕ) → left ≡ drop start all
    → NoneBefore (Passes (is_byte3 (get_or a 0 0) (get_or b 0 0) (get_or c 0 0)) left) 0
    (length left) at → Candidate all a b c start at
candidate all a b c start at some_a some_b some_c none left same n =
    let test = is_byte3 (get_or a 0 0) (get_or b 0 0) (get_or c 0 0) in
    let P : List ℕ → Type 0 = λ l. Nowhere (Passes test l) 0 at in
    let high = n.high in
    record {
      within = omega (arith, high, ap (λ l. length l) same, length-drop start all);
      before = skipped test (IsOneOfThree a b c) (begin_three a b c some_a some_b some_c) all
          start at none (subst P same n.before);
    }
