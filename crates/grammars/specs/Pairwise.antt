-- Equivalent lists and strings.
use Rattle.std.specs.Prelude.{◌≡◌, ⊤, List, [], ◌∷◌, string_bytes}
use Rattle.std.specs.declared.string.String.{String}
use Rattle.std.proofs.Common.{refl, ap, ◌∙◌}

-- lists of the same length whose items are pairwise equivalent
abbrev pub ArePairwise : {O P : Type 0} → (O → P → Type 0) → List O → List P → Type 0
ArePairwise alike [] [] = ⊤
ArePairwise alike [] (p ∷ ps) = ⊥
ArePairwise alike (o ∷ os) [] = ⊥
ArePairwise alike (o ∷ os) (p ∷ ps) = alike o p × ArePairwise alike os ps

-- strings of the same bytes, wherever these lie
abbrev pub HaveSameBytes : {A : Type 0} → String A → String A → Type 0
HaveSameBytes s t = string_bytes s ≡ string_bytes t

-- ---- lists

pub same_list : {O : Type 0} (os ps : List O) → ArePairwise (λ o p. o ≡ p) os ps → os ≡ ps
same_list [] [] are = refl
same_list [] (p ∷ ps) are = absurd are
same_list (o ∷ os) [] are = absurd are
same_list (o ∷ os) (p ∷ ps) (e, are) =
    ap (λ c. c ∷ os) e ∙ ap (λ l. p ∷ l) (same_list os ps are)

pub itself_pairwise : {O : Type 0} (alike : O → O → Type 0) → ((o : O) → alike o o) → (l : List O)
    → ArePairwise alike l l
itself_pairwise alike same [] = tt
itself_pairwise alike same (o ∷ l) = (same o, itself_pairwise alike same l)

pub more_pairwise : {O P : Type 0} (alike like : O → P → Type 0)
    → ((o : O) (p : P) → alike o p → like o p) → (l : List O) (m : List P)
    → ArePairwise alike l m → ArePairwise like l m
more_pairwise alike like more [] [] are = tt
more_pairwise alike like more [] (p ∷ m) are = absurd are
more_pairwise alike like more (o ∷ l) [] are = absurd are
more_pairwise alike like more (o ∷ l) (p ∷ m) (x, are) =
    (more o p x, more_pairwise alike like more l m are)
