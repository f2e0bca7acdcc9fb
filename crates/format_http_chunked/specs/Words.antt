-- Combinators for grammars of bytes with a continuation: `A next bytes` holds if `bytes` starts
-- with a match of `A`, and `next` holds for the rest.
use Rattle.std.specs.Prelude.{◌≡◌, ◌⊎◌, ℕ, zero, suc, List, [], ◌∷◌}

-- one byte of these
abbrev pub One : (ℕ → Type 0) → (List ℕ → Type 0) → List ℕ → Type 0
One these next [] = ⊥
One these next (b ∷ bytes) = these b × next bytes

-- this byte
abbrev pub Byte : ℕ → (List ℕ → Type 0) → List ℕ → Type 0
Byte byte next = One (λ b. b ≡ byte) next

-- any number of bytes of these
abbrev pub Many : (ℕ → Type 0) → (List ℕ → Type 0) → List ℕ → Type 0
Many these next [] = next []
Many these next (b ∷ bytes) = next (b ∷ bytes) ⊎ (these b × Many these next bytes)

-- one byte of these or more
abbrev pub Some : (ℕ → Type 0) → (List ℕ → Type 0) → List ℕ → Type 0
Some these next = One these (Many these next)

-- `n` consecutive matches
abbrev pub Times : ℕ → ((List ℕ → Type 0) → List ℕ → Type 0) → (List ℕ → Type 0) → List ℕ
    → Type 0
Times zero A next bytes = next bytes
Times (suc n) A next bytes = A (Times n A next) bytes

-- any number of texts
abbrev pub Star : ((List ℕ → Type 0) → List ℕ → Type 0) → (List ℕ → Type 0) → List ℕ → Type 0
Star A next bytes = (n : ℕ) × Times n A next bytes
