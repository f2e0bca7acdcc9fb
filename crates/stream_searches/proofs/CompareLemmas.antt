-- Lemmas about comparisons and lengths.
use Rattle.std.proofs.Common.{◌≡◌, ℕ, List, [], ◌∷◌, ◌++◌, length, ◌≤◌, ◌<◌, refl, sym, ap, ◌∙◌}
use Rattle.std.proofs.Common.{arith, length-append}
use Rattle.std.proofs.lemmas.List.{append-nil}
use Rattle.std.proofs.lemmas.Bool.{eqb-true, eq-eqb}
use Rattle.std.proofs.Math.Dec.{eqb}
use Rattle.std.specs.Bool.{Decides}
use Rattle.stream_searches.specs.Compare.{StartsWithSpelling, IsShort}

-- the test of two bytes decides whether they are the same
pub eqb-Decides : (a b : ℕ) → Decides (eqb a b) (a ≡ b)
eqb-Decides a b = (eqb-true a b, eq-eqb a b)

pub StartsWithSpelling-length : (t all : List ℕ) → StartsWithSpelling (λ xs. xs ≡ t) all
    → length t ≤ length all
StartsWithSpelling-length t all (front, rest, e, split) =
    omega (arith, ap (λ l. length l) e, ap (λ l. length l) split, length-append front rest)

-- what is short is shorter
pub IsShort-length : (t all : List ℕ) → IsShort (λ xs. xs ≡ t) all → length all < length t
IsShort-length t all (x, more, e) =
    omega (arith, ap (λ l. length l) e, length-append all (x ∷ more))

pub IsShort-of_beginning : (t all rest : List ℕ) → t ≡ all ++ rest → length all < length t
    → IsShort (λ xs. xs ≡ t) all
IsShort-of_beginning t all [] e h = absurd (omega (arith, ap (λ l. length l) (e ∙ append-nil all)))
IsShort-of_beginning t all (x ∷ rest) e h = (x, rest, sym e)

pub StartsWithSpelling-begins : (t all : List ℕ) → StartsWithSpelling (λ xs. xs ≡ t) all
    → (rest : List ℕ) × (all ≡ t ++ rest)
StartsWithSpelling-begins t all (front, rest, e, split) = (rest, split ∙ ap (λ l. l ++ rest) e)

-- nothing is left to begin a byte
pub IsShort-none : (b : ℕ) (all : List ℕ) → length all < 1 → IsShort (λ xs. xs ≡ b ∷ []) all
IsShort-none b [] h = (b, [], refl)
IsShort-none b (x ∷ all) h = absurd (omega arith)
