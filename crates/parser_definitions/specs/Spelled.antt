-- Lemmas about lists of tokens that a literal spells, and about slices.
use Rattle.std.specs.Prelude.{◌≡◌, List, [], ◌∷◌, ◌++◌}
use Rattle.std.proofs.Common.{refl, sym, ap, subst, ◌∙◌, ◌⊎◌, inl, inr, append_assoc, arith}
use Rattle.streams.specs.Equal.{same_first, same_others}
use Rattle.streams.specs.Reading.{Reading, units-nil}
use Rattle.stream_searches.specs.Compare.{IsShort, StartsWithSpelling}

-- Slices that show the same tokens.
abbrev pub ShowSame : {T L : Type 0} → Reading T L → L → L → Type 0
ShowSame {T} reading slice other =
    (front : List T) × reading.shows slice front × reading.shows other front

-- of two prefixes of one list, one is a prefix of the other
pub one_beginning : {T : Type 0} (xs more front rest : List T) → xs ++ more ≡ front ++ rest
    → ((others : List T) × (xs ≡ front ++ others))
    ⊎ ((x : T) × (others : List T) × (front ≡ xs ++ x ∷ others))
one_beginning xs more [] rest e = inl (xs, refl)
one_beginning [] more (y ∷ ys) rest e = inr (y, ys, refl)
one_beginning (x ∷ xs) more (y ∷ ys) rest e =
    elim (one_beginning xs more ys rest (same_others e)) [
      | inl (others, is)
          ↦ inl (others, ap (λ z. z ∷ xs) (same_first e) ∙ ap (λ l. y ∷ l) is)
      | inr (z, others, is)
          ↦ inr (z, others, ap (λ w. w ∷ ys) (sym (same_first e)) ∙ ap (λ l. x ∷ l) is)
    ]

-- prefixes of as many units are equal
pub same_front : {T L : Type 0} (reading : Reading T L) (front other rest more : List T)
    → front ++ rest ≡ other ++ more → reading.units front ≡ reading.units other → front ≡ other
same_front reading [] [] rest more e u = refl
same_front reading [] (y ∷ ys) rest more e u =
    absurd (omega (arith, u, units-nil reading, reading.units_positive y ys))
same_front reading (x ∷ xs) [] rest more e u =
    absurd (omega (arith, u, units-nil reading, reading.units_positive x xs))
same_front {T} reading (x ∷ xs) (y ∷ ys) rest more e u =
    let P : T → Type 0 = λ z. reading.units (z ∷ xs) ≡ reading.units (y ∷ ys) in
    let first = same_first e in
    let same = subst P first u in
    let others = same_front reading xs ys rest more (same_others e)
    (omega (arith, same, reading.units_add (y ∷ []) xs, reading.units_add (y ∷ []) ys)) in
    ap (λ z. z ∷ xs) first ∙ ap (λ l. y ∷ l) others

-- a prefix does not have as many units as a longer list
pub not_longer : {P T L : Type 0} (reading : Reading T L) (tokens front rest more : List T) (x : T)
    → tokens ≡ front ++ rest → reading.units front ≡ reading.units (tokens ++ x ∷ more) → P
not_longer reading tokens front rest more x e u =
    let whole = ap reading.units e in
    absurd (omega (
      arith,
      u,
      whole,
      reading.units_add front rest,
      reading.units_add tokens (x ∷ more),
      reading.units_positive x more,
    ))

-- if tokens do not start with a spelling and are not a proper prefix of one, neither does longer
-- input, nor is it
pub still_not_first : {T : Type 0} (spelled : List T → Type 0) (tokens more : List T)
    → (StartsWithSpelling spelled tokens → ⊥) → (IsShort spelled tokens → ⊥)
    → StartsWithSpelling spelled (tokens ++ more) → ⊥
still_not_first spelled tokens more none short (front, rest, spells, split) =
    elim (one_beginning tokens more front rest split) [
      | inl (others, is) ↦ none (front, others, spells, is)
      | inr (x, others, is) ↦ short (x, others, subst spelled is spells)
    ]

pub still_not_short : {T : Type 0} (spelled : List T → Type 0) (tokens more : List T)
    → (IsShort spelled tokens → ⊥) → IsShort spelled (tokens ++ more) → ⊥
still_not_short spelled tokens [] short (x, others, spells) =
    short (x, others, subst spelled (append_assoc tokens [] (x ∷ others)) spells)
still_not_short spelled tokens (y ∷ ys) short (x, others, spells) =
    short (y, ys ++ x ∷ others, subst spelled (append_assoc tokens (y ∷ ys) (x ∷ others)) spells)
