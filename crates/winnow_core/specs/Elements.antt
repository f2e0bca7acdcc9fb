-- The elements of a list, one by one: those that were visited, and the rest.
use Rattle.std.proofs.Common.{◌≡◌, ◌<◌, ◌∙◌, ℕ, List, [], ◌∷◌, ◌++◌, length, get_or, refl, sym, ap}
use Rattle.std.proofs.Common.{arith, length-append}
use Rattle.std.specs.Prelude.{slice_set}
use Rattle.std.proofs.lemmas.List.{get_or_at}
use Rattle.std.proofs.Math.Seq.{set-append_seam}

-- element k begins the rest
pub rest_of : {S : Type 0} (ran rest now : List S) (k : ℕ) (item d : S) → length ran ≡ k
    → now ≡ ran ++ rest → k < length now → item ≡ get_or now k d
    → (tail : List S) × (rest ≡ item ∷ tail)
rest_of ran [] now k item d count e within is =
    absurd (omega (arith, ap (λ l. length l) e, length-append ran []))
rest_of ran (x ∷ tail) now k item d count e within is =
    let same : x ≡ item = sym (is ∙ ap (λ l. get_or l k d) e ∙ get_or_at ran x tail d k count) in
    (tail, ap (λ z. z ∷ tail) same)

-- a write at element k
pub set_at : {S : Type 0} (ran tail now : List S) (k : ℕ) (item new : S) → length ran ≡ k
    → now ≡ ran ++ item ∷ tail → slice_set now k new ≡ ran ++ new ∷ tail
set_at ran tail now k item new count e =
    ap (λ l. slice_set l k new) e ∙ ap (λ n. slice_set (ran ++ item ∷ tail) n new) (sym count)
    ∙ set-append_seam ran item tail new

pub length-zero : {S : Type 0} (xs : List S) → length xs ≡ 0 → xs ≡ []
length-zero [] e = refl
length-zero (x ∷ xs) e = absurd (omega (arith, e))
