-- Comparisons of token lists, by an equality of their tokens.
use Rattle.std.specs.Prelude.{◌≡◌, ◌≤◌, ◌<◌, Bool, true, false, List, [], ◌∷◌, ◌++◌, length, take}
use Rattle.std.specs.Prelude.{drop}
use Rattle.std.specs.Cmp.Lexicographic.{pointwise}
use Rattle.std.specs.Cmp.{IsEquivalence}
use Rattle.std.specs.List.{starts_with}
use Rattle.std.proofs.Common.{refl, sym, ap, subst, suc, ◌∙◌, arith}
use Rattle.std.proofs.lemmas.Bool.{and_from, and_parts, false≢true}
use Rattle.std.proofs.lemmas.Cmp.{lists_equiv}
use Rattle.std.proofs.lemmas.List.{take-append-drop, length-take-le, length-append}
use Rattle.std.proofs.Math.Seq.{take-append_seam}
use Rattle.streams.specs.Equal.{same_first}
use Rattle.stream_searches.specs.Compare.{ComparesAs, StartsWithSpelling, IsShort}
use Rattle.stream_searches.specs.declared.compare.CompareResult.TheVariants.{Ok, Incomplete, Error}

-- a list of as many tokens, each equal to that of the literal
abbrev pub EqualsList : {T : Type 0} → (T → T → Bool) → List T → List T → Type 0
EqualsList eq literal xs = pointwise eq literal xs ≡ true

module _ {T : Type 0} (eq : T → T → Bool) where
  equal_length : (xs ys : List T) → EqualsList eq xs ys → length xs ≡ length ys
  equal_length [] [] e = refl
  equal_length [] (y ∷ ys) e = absurd (false≢true e)
  equal_length (x ∷ xs) [] e = absurd (false≢true e)
  equal_length (x ∷ xs) (y ∷ ys) e =
      ap suc (equal_length xs ys (and_parts (eq x y) (pointwise eq xs ys) e).1)

  -- lists are equal where their parts are
  equal_parts : (xs ys zs ws : List T) → EqualsList eq xs ys → EqualsList eq zs ws
      → EqualsList eq (xs ++ zs) (ys ++ ws)
  equal_parts [] [] zs ws e f = f
  equal_parts [] (y ∷ ys) zs ws e f = absurd (false≢true e)
  equal_parts (x ∷ xs) [] zs ws e f = absurd (false≢true e)
  equal_parts (x ∷ xs) (y ∷ ys) zs ws e f =
      let p = and_parts (eq x y) (pointwise eq xs ys) e
      in and_from (eq x y) (pointwise eq (xs ++ zs) (ys ++ ws)) p.0
      (equal_parts xs ys zs ws p.1 f)

  equal_front : (xs ys zs : List T) → EqualsList eq xs (ys ++ zs)
      → EqualsList eq (take (length ys) xs) ys
  equal_front xs [] zs e = refl
  equal_front [] (y ∷ ys) zs e = absurd (false≢true e)
  equal_front (x ∷ xs) (y ∷ ys) zs e =
      let p = and_parts (eq x y) (pointwise eq xs (ys ++ zs)) e
      in and_from (eq x y) (pointwise eq (take (length ys) xs) ys) p.0
      (equal_front xs ys zs p.1)

  first_length : (tokens literal : List T) → StartsWithSpelling (EqualsList eq literal) tokens
      → length literal ≤ length tokens
  first_length tokens literal (front, rest, e, split) =
      omega (
        arith,
        equal_length literal front e,
        ap (λ l. length l) split,
        length-append front rest,
      )

  short_length : (tokens literal : List T) → IsShort (EqualsList eq literal) tokens
      → length tokens < length literal
  short_length tokens literal (x, more, e) =
      omega (
        arith,
        equal_length literal (tokens ++ x ∷ more) e,
        length-append tokens (x ∷ more),
      )

  pub stands : (tokens literal : List T) → length literal ≤ length tokens
      → starts_with eq tokens literal ≡ true
      → ComparesAs length (EqualsList eq literal) tokens (Ok (length literal))
  stands tokens literal le e = (
    take (length literal) tokens,
    drop (length literal) tokens,
    e,
    sym (take-append-drop (length literal) tokens),
    sym (length-take-le (length literal) tokens le),
  )

  -- it does not, and there are tokens enough to tell
  pub differs : (tokens literal : List T) → length literal ≤ length tokens
      → starts_with eq tokens literal ≡ false
      → ComparesAs length (EqualsList eq literal) tokens Error
  differs tokens literal le e = (
    (λ short. let shorter = short_length tokens literal short
        in absurd (omega (arith, le, shorter))),
    (λ first.
        let (front, rest, same, split) = first in
        let is_front : take (length literal) tokens ≡ front =
        ap (λ n. take n tokens) (equal_length literal front same)
        ∙ ap (λ l. take (length front) l) split ∙ take-append_seam front rest in
        let P : List T → Type 0 = λ l. EqualsList eq literal l in
        false≢true (sym e ∙ subst P (sym is_front) same)),
  )

some_more : {T : Type 0} (eq : T → T → Bool) (tokens rest literal : List T)
    → EqualsList eq literal (tokens ++ rest) → 0 < length rest
    → IsShort (EqualsList eq literal) tokens
some_more eq tokens [] literal e h = absurd (omega arith)
some_more eq tokens (x ∷ more) literal e h = (x, more, e)

module _ {T : Type 0} (eq : T → T → Bool) (equivalence : IsEquivalence eq) where
  -- all tokens begin the literal
  pub begins : (tokens literal : List T) → length tokens < length literal
      → starts_with eq literal tokens ≡ true
      → ComparesAs length (EqualsList eq literal) tokens Incomplete
  begins tokens literal lt e =
      let n = length tokens in
      let lists = lists_equiv equivalence in
      let front : EqualsList eq (take n literal) tokens = lists.symm (take n literal) tokens ∙ e in
      let all : EqualsList eq (take n literal ++ drop n literal) (tokens ++ drop n literal) =
      equal_parts eq (take n literal) tokens (drop n literal) (drop n literal) front
      (lists.refl (drop n literal)) in
      let P : List T → Type 0 = λ l. EqualsList eq l (tokens ++ drop n literal) in
      let whole = subst P (take-append-drop n literal) all in (
        some_more eq tokens (drop n literal) literal whole
            (omega (
              arith,
              equal_length eq literal (tokens ++ drop n literal) whole,
              length-append tokens (drop n literal),
            )),
        λ first. let longer = first_length eq tokens literal first in omega (arith, longer),
      )

  -- they do not
  pub strays : (tokens literal : List T) → length tokens < length literal
      → starts_with eq literal tokens ≡ false
      → ComparesAs length (EqualsList eq literal) tokens Error
  strays tokens literal lt e = (
    (λ short. let (x, more, same) = short
        in false≢true (sym e
        ∙ (lists_equiv equivalence).symm tokens (take (length tokens) literal)
        ∙ equal_front eq literal tokens (x ∷ more) same)),
    (λ first. let longer = first_length eq tokens literal first in omega (arith, longer)),
  )

-- lists that equal the same list are of one length
pub same_count : {T : Type 0} (eq : T → T → Bool) (literal xs ys : List T)
    → EqualsList eq literal xs → EqualsList eq literal ys → length xs ≡ length ys
same_count eq literal xs ys p q = sym (equal_length eq literal xs p) ∙ equal_length eq literal ys q

module _ {T : Type 0} (eq : T → T → Bool) (literal : T) where
  one_first : (x : T) (xs front rest : List T) → x ∷ xs ≡ front ++ rest
      → EqualsList eq (literal ∷ []) front → eq literal x ≡ true
  one_first x xs [] rest e same = absurd (false≢true same)
  one_first x xs (y ∷ ys) rest e same =
      ap (λ z. eq literal z) (same_first e)
      ∙ (and_parts (eq literal y) (pointwise eq [] ys) same).0

  one_short : (x : T) (xs : List T) → IsShort (EqualsList eq (literal ∷ [])) (x ∷ xs) → ⊥
  one_short x xs (y, more, e) =
      let n = equal_length eq (literal ∷ []) ((x ∷ xs) ++ y ∷ more) e
      in omega (arith, n, length-append xs (y ∷ more))

  -- no token remains
  pub one_none : IsEquivalence eq → (tokens : List T) → tokens ≡ []
      → ComparesAs length (EqualsList eq (literal ∷ [])) tokens Incomplete
  one_none equivalence tokens none =
      let P : List T → Type 0 = λ l. EqualsList eq (literal ∷ []) (l ++ literal ∷ []) in (
        (
          literal,
          [],
          subst P (sym none)
              (and_from (eq literal literal) true (equivalence.refl literal) refl),
        ),
        λ first. let longer =
            first_length eq tokens (literal ∷ []) first
            in omega (arith, longer, ap (λ l. length l) none),
      )

  -- the first token equals the literal
  pub one_same : (tokens : List T) (x : T) (xs : List T) → tokens ≡ x ∷ xs → eq literal x ≡ true
      → ComparesAs length (EqualsList eq (literal ∷ [])) tokens (Ok 1)
  one_same tokens x xs split same =
      (x ∷ [], xs, and_from (eq literal x) true same refl, split, refl)

  -- the first token does not
  pub one_other : (tokens : List T) (x : T) (xs : List T) → tokens ≡ x ∷ xs
      → (eq literal x ≡ true → ⊥)
      → ComparesAs length (EqualsList eq (literal ∷ [])) tokens Error
  one_other tokens x xs split other =
      let P : List T → Type 0 = λ l. IsShort (EqualsList eq (literal ∷ [])) l in (
        (λ short. one_short x xs (subst P split short)),
        (λ first. let (front, rest, same, parts) = first
            in other (one_first x xs front rest (sym split ∙ parts) same)),
      )
