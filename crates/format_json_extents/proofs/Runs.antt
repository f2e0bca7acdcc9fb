-- Runs of bytes of a set, from one position to a later one, and in the lanes of one load.
use Rattle.std.proofs.Common.{◌%◌, ◌++◌, ◌+◌, ◌<◌, ◌∙◌, ◌∷◌, ◌≡◌, ◌≤◌, [], ℕ, Bool}
use Rattle.std.proofs.Common.{List, ap, append_assoc, arith, cond, drop, eqb, false, length, ltb}
use Rattle.std.proofs.Common.{map, not, refl, replicate, subst, suc, sym, true, w8, zero}
use Rattle.std.proofs.lemmas.List.{length-append, length-map}
use Rattle.std.proofs.lemmas.List.Elements.{All-append, All-cons, All-nil}
use Rattle.std.proofs.lemmas.Bool.Decides.{nat_tests}
use Rattle.std.proofs.lemmas.Simd.{bitmask_splat, chunk-drop, map-map, tops_compared}
use Rattle.std.proofs.lemmas.Simd.{trailing_mask_l, zip2_splat}
use Rattle.std.proofs.Math.Seq.{drop-append_seam}
use Rattle.std.specs.List.{All, prefix_len}
use Rattle.format_json_extents.proofs.Matching.{all_stops, heads_equal, rest_after_all}
use Rattle.format_json_extents.specs.Strings.{IsUnescaped}
use Rattle.format_json_extents.specs.Texts.{EndsAt, MatchesAtStart, RestAfter}
use Rattle.format_json_extents.specs.Value.{IsWhitespaceByte}
use lib.Count.{count_trailing_zeros}
use lib.Lanes.{chunk, mask_l, sel_l, top, zip2}

-- ---- from one position to a later one

module _ (P : ℕ → Type 0) {bytes : List ℕ} where
  pub empty_run_matches : MatchesAtStart (All P) bytes bytes
  empty_run_matches = record { text = []; is = All-nil P; splits = refl }

  pub run_on : {rest more : List ℕ} (front : List ℕ) → MatchesAtStart (All P) bytes rest
      → rest ≡ front ++ more → All P front → MatchesAtStart (All P) bytes more
  run_on {more = more} front it e all = record {
    text = it.text ++ front;
    is = All-append P it.text front it.is all;
    splits = it.splits ∙ ap (λ l. it.text ++ l) e ∙ sym (append_assoc it.text front more);
  }

  pub run_extends_by_one : {rest : List ℕ} {b : ℕ} {more : List ℕ}
      → MatchesAtStart (All P) bytes rest
      → rest ≡ b ∷ more → P b → MatchesAtStart (All P) bytes more
  run_extends_by_one {b = b} it e is = run_on (b ∷ []) it e (All-cons P b [] is (All-nil P))

module _ {P : ℕ → Type 0} {bytes : List ℕ} where
  pub run_ends_before_other : {rest : List ℕ} {b : ℕ} {more : List ℕ}
      → MatchesAtStart (All P) bytes rest
      → rest ≡ b ∷ more → (P b → ⊥) → RestAfter (All P) P bytes rest
  run_ends_before_other it e not =
      rest_after_all it.text it.is it.splits
      (λ c tail begins is. not (subst P (heads_equal (sym begins ∙ e)) is))

  pub run_ends_with_bytes : {rest : List ℕ} → MatchesAtStart (All P) bytes rest → length rest ≡ 0
      → RestAfter (All P) P bytes rest
  run_ends_with_bytes it e =
      rest_after_all it.text it.is it.splits
      (λ c tail begins is. omega (arith, e, ap (λ l. length l) begins))

  -- after one more byte
  pub run_after : {b : ℕ} {more rest : List ℕ} → bytes ≡ b ∷ more → P b
      → RestAfter (All P) P more rest → RestAfter (All P) P bytes rest
  run_after {b = b} e is it =
      let text = it.stands.text in
      rest_after_all (b ∷ text) (All-cons P b text is it.stands.is)
      (e ∙ ap (λ l. b ∷ l) it.stands.splits) (all_stops it)

-- ---- where the lanes of one load are the first bytes

pub lanes_stop : (P : ℕ → Type 0) {bytes rest : List ℕ} (count : ℕ)
    → MatchesAtStart (All P) bytes rest → EndsAt P (chunk 0 16 rest) count
    → RestAfter (All P) P bytes (drop count rest)
lanes_stop P {rest = rest} count it (front, other, tail, e, long, all, not) =
    let more = (other ∷ tail) ++ drop 16 rest in
    let whole : rest ≡ front ++ more =
    chunk-drop 0 16 rest ∙ ap (λ l. l ++ drop 16 rest) e
    ∙ append_assoc front (other ∷ tail) (drop 16 rest) in
    let left : drop count rest ≡ more =
    ap (λ n. drop n rest) (sym long) ∙ ap (drop (length front)) whole
    ∙ drop-append_seam front more in
    run_ends_before_other (run_on P front it (whole ∙ ap (λ l. front ++ l) (sym left)) all) left not

pub lanes_go_on : (P : ℕ → Type 0) {bytes rest : List ℕ} → MatchesAtStart (All P) bytes rest
    → All P (chunk 0 16 rest) → MatchesAtStart (All P) bytes (drop 16 rest)
lanes_go_on P {rest = rest} it all = run_on P (chunk 0 16 rest) it (chunk-drop 0 16 rest) all

pub lanes_within : (P : ℕ → Type 0) (rest : List ℕ) (count : ℕ)
    → EndsAt P (chunk 0 16 rest) count → count ≤ length rest
lanes_within P rest count (front, other, tail, e, long, all, not) =
    let whole : length rest ≡ length (chunk 0 16 rest) + length (drop 16 rest) =
    ap (λ l. length l) (chunk-drop 0 16 rest)
    ∙ length-append (chunk 0 16 rest) (drop 16 rest) in
    let part : length (chunk 0 16 rest) ≡ length front + length (other ∷ tail) =
    ap (λ l. length l) e ∙ length-append front (other ∷ tail) in
    omega (arith, whole, part, long)

-- ---- which lanes are set

-- `Refuses p P`: `p` is true for exactly the bytes that are not in `P`.
pub record Refuses (p : ℕ → Bool) (P : ℕ → Type 0) : Type 0 where
  pub no : (x : ℕ) → p x ≡ true → P x → ⊥
  pub yes : (x : ℕ) → p x ≡ false → P x

ends_at : (p : ℕ → Bool) (P : ℕ → Type 0) → Refuses p P → (xs : List ℕ)
    → 0 < mask_l (map p xs) → EndsAt P xs (prefix_len (λ x. not (p x)) xs)
ends_at p P tells [] some = absurd (omega (arith, some))
ends_at p P tells (x ∷ xs) some = by (p x) refl (λ more. ends_at p P tells xs more)
  where
    by : (b : Bool) → p x ≡ b
        → (0 < mask_l (map p xs) → EndsAt P xs (prefix_len (λ y. not (p y)) xs))
        → EndsAt P (x ∷ xs) (prefix_len (λ y. not (p y)) (x ∷ xs))
    by true is ends =
        let more = prefix_len (λ y. not (p y)) xs in
        let none : prefix_len (λ y. not (p y)) (x ∷ xs) ≡ 0 =
        ap {B = ℕ} (λ b. cond (not b) (1 + more) 0) is in
        ([], x, xs, refl, sym none, All-nil P, tells.no x is)
    by false is ends =
        let more = prefix_len (λ y. not (p y)) xs in
        let one : prefix_len (λ y. not (p y)) (x ∷ xs) ≡ 1 + more =
        ap {B = ℕ} (λ b. cond (not b) (1 + more) 0) is in
        let (front, other, rest, e, long, all, not) =
        ends (omega (arith, some, ap {B = ℕ} (λ b. cond b 1 0) is)) in (
          x ∷ front,
          other,
          rest,
          ap (λ l. x ∷ l) e,
          omega (arith, long, one),
          All-cons P x front (tells.yes x is) all,
          not,
        )

-- where none is set, all are of it
pub none_set : {p : ℕ → Bool} {P : ℕ → Type 0} → Refuses p P → (xs : List ℕ)
    → mask_l (map p xs) ≡ 0 → All P xs
none_set {P = P} tells [] none = All-nil P
none_set {p} {P} tells (x ∷ xs) none = by (p x) refl (λ e. none_set tells xs e)
  where
    by : (b : Bool) → p x ≡ b → (mask_l (map p xs) ≡ 0 → All P xs) → All P (x ∷ xs)
    by true is more = absurd (omega (arith, none, ap {B = ℕ} (λ b. cond b 1 0) is))
    by false is more =
        All-cons P x xs (tells.yes x is)
        (more (omega (arith, none, ap {B = ℕ} (λ b. cond b 1 0) is)))

-- the bits of lanes tell the bytes of a set
pub lanes_end : {p : ℕ → Bool} {P : ℕ → Type 0} → Refuses p P → (xs : List ℕ) {others : ℕ}
    → length xs ≡ 16 → others ≡ mask_l (map p xs) → (others ≡ 0 → ⊥)
    → EndsAt P xs (count_trailing_zeros 64 others)
lanes_end {p} {P} tells xs long are some =
    let positive : 0 < mask_l (map p xs) = omega (arith, are, some) in
    subst (EndsAt P xs) (sym (ap (count_trailing_zeros 64) are
    ∙ trailing_mask_l p 64 xs (omega (arith, long)) positive)) (ends_at p P tells xs positive)

-- ---- the bytes that stand for themselves in a string

-- a byte, or 0 in place of a quote or a backslash
abbrev unquoted : ℕ → ℕ
unquoted x = cond (eqb x 34) 0 x

abbrev plain : ℕ → ℕ
plain x = cond (eqb x 92) 0 (unquoted x)

abbrev pub is_other : ℕ → Bool
is_other x = ltb (plain x) 32

pub tells_others : Refuses is_other IsUnescaped
tells_others = record {
  no = λ x is p. grind (arith, nat_tests);
  yes = λ x is. grind (arith, nat_tests);
}

-- lanes selected by a test of each, from a number and a function of each
chosen : (p : ℕ → Bool) (g : ℕ → ℕ) (c n : ℕ) (xs : List ℕ) → length xs ≡ n
    → sel_l (map p xs) (replicate n c) (map g xs) ≡ map (λ x. cond (p x) c (g x)) xs
chosen p g c n [] long = refl
chosen p g c zero (x ∷ xs) long = absurd (omega (arith, long))
chosen p g c (suc n) (x ∷ xs) long =
    ap (λ l. cond (p x) c (g x) ∷ l) (chosen p g c n xs (omega (arith, long)))

same : (xs : List ℕ) → xs ≡ map (λ x. x) xs
same [] = refl
same (x ∷ xs) = ap (λ l. x ∷ l) (same xs)

-- each lane that is the byte `c` as `r`
abbrev instead : ℕ → ℕ → List ℕ → List ℕ → List ℕ
instead r c xs ys =
    sel_l (map (top 7) (zip2 (λ a b. cond (eqb a b) 255 0) xs (replicate 16 c))) (replicate 16 r) ys

instead_is : (r c : ℕ) (g : ℕ → ℕ) (xs ys : List ℕ) → length xs ≡ 16 → ys ≡ map g xs
    → instead r c xs ys ≡ map (λ x. cond (eqb x c) r (g x)) xs
instead_is r c g xs ys long is =
    ap (instead r c xs) is
    ∙ ap (λ ms. sel_l ms (replicate 16 r) (map g xs))
    (tops_compared w8 eqb xs (replicate 16 c) ∙ zip2_splat eqb xs 16 c long)
    ∙ chosen (λ x. eqb x c) g r 16 xs long

-- the bits of the lanes that do not stand for themselves
pub others_are : (xs : List ℕ) → length xs ≡ 16
    → mask_l (map (top 7) (zip2 (λ a b. cond (ltb a b) 255 0)
    (sel_l (map (top 7) (zip2 (λ a b. cond (eqb a b) 255 0) xs (replicate 16 92))) (replicate 16 0)
    (sel_l (map (top 7) (zip2 (λ a b. cond (eqb a b) 255 0) xs (replicate 16 34)))
    (replicate 16 0) xs)) (replicate 16 32))) % 18446744073709551616 ≡ mask_l (map is_other xs)
others_are xs long =
    let none = instead_is 0 34 (λ x. x) xs xs long (same xs) in
    let both = instead_is 0 92 unquoted xs (instead 0 34 xs xs) long none in
    ap (λ l. mask_l (map (top 7) (zip2 (λ a b. cond (ltb a b) 255 0) l (replicate 16 32)))
    % 18446744073709551616) both
    ∙ bitmask_splat w8 ltb (map plain xs) 16 32 (length-map xs plain ∙ long) (omega arith)
    ∙ ap mask_l (map-map (λ x. ltb x 32) plain xs)

-- ---- whitespace

-- a byte, or a space in place of other whitespace
abbrev no_tab : ℕ → ℕ
no_tab x = cond (eqb x 9) 32 x

abbrev no_line : ℕ → ℕ
no_line x = cond (eqb x 10) 32 (no_tab x)

abbrev spaced : ℕ → ℕ
spaced x = cond (eqb x 13) 32 (no_line x)

abbrev pub is_end : ℕ → Bool
is_end x = not (eqb (spaced x) 32)

pub tells_ends : Refuses is_end IsWhitespaceByte
tells_ends = record {
  no = λ x is p. grind (arith, nat_tests);
  yes = λ x is. grind (arith, nat_tests);
}

-- the bits of the lanes that are not whitespace
pub ends_are : (xs : List ℕ) → length xs ≡ 16
    → mask_l (map (top 7) (zip2 (λ a b. cond (not (eqb a b)) 255 0)
    (instead 32 13 xs (instead 32 10 xs (instead 32 9 xs xs))) (replicate 16 32)))
    % 18446744073709551616 ≡ mask_l (map is_end xs)
ends_are xs long =
    let tabs = instead_is 32 9 (λ x. x) xs xs long (same xs) in
    let lines = instead_is 32 10 no_tab xs (instead 32 9 xs xs) long tabs in
    let all = instead_is 32 13 no_line xs (instead 32 10 xs (instead 32 9 xs xs)) long lines in
    ap (λ l. mask_l (map (top 7) (zip2 (λ a b. cond (not (eqb a b)) 255 0) l (replicate 16 32)))
    % 18446744073709551616) all
    ∙ bitmask_splat w8 (λ a b. not (eqb a b)) (map spaced xs) 16 32 (length-map xs spaced ∙ long)
    (omega arith)
    ∙ ap mask_l (map-map (λ x. not (eqb x 32)) spaced xs)
