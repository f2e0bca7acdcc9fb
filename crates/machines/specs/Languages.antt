-- Languages of bytes, and their derivatives.
use Rattle.std.specs.Prelude.{◌≡◌, ◌<◌, ℕ, zero, suc, List, [], ◌∷◌, ◌++◌, Bool, IsTrue, ⊤}

-- The words of a language.
abbrev pub Language : Type 1
Language = List ℕ → Type 0

-- `Derivative L front K`: `K` is the derivative of `L` by `front`. A word is in `K` if and only if
-- `front` and then this word is in `L`.
pub record Derivative (L : Language) (front : List ℕ) (K : Language) : Type 0 where
  pub there : (word : List ℕ) → K word → L (front ++ word)
  pub back : (word : List ℕ) → L (front ++ word) → K word

-- `NeverStarts L b`: no word of `L` starts with `b`.
abbrev pub NeverStarts : Language → ℕ → Type 0
NeverStarts L b = (word : List ℕ) → L (b ∷ word) → ⊥

-- `HasNonEmpty L`: some word of `L` is not empty.
abbrev pub HasNonEmpty : Language → Type 0
HasNonEmpty L = (b : ℕ) × (word : List ℕ) × L (b ∷ word)

-- `Concat L K`: a word of `L` and then a word of `K`.
pub record Concat (L K : Language) (bytes : List ℕ) : Type 0 where
  pub left : List ℕ
  pub right : List ℕ
  pub splits : bytes ≡ left ++ right
  pub first : L left
  pub second : K right

-- Each number is a byte.
abbrev pub AreBytes : List ℕ → Type 0
AreBytes [] = ⊤
AreBytes (b ∷ bytes) = (b < 256) × AreBytes bytes

-- Bytes of a set, zero or more.
abbrev pub AllOf : (ℕ → Bool) → Language
AllOf these [] = ⊤
AllOf these (b ∷ bytes) = IsTrue (these b) × AllOf these bytes

-- One byte of a set.
abbrev pub OneOfThese : (ℕ → Bool) → Language
OneOfThese these bytes = (b : ℕ) × IsTrue (these b) × (bytes ≡ b ∷ [])

-- `Power L n`: `n` words of `L` in sequence.
abbrev pub Power : Language → ℕ → Language
Power L zero bytes = bytes ≡ []
Power L (suc n) bytes = Concat L (Power L n) bytes

-- `Repeated L`: words of `L` in sequence, zero or more.
pub record Repeated (L : Language) (bytes : List ℕ) : Type 0 where
  pub count : ℕ
  pub words : Power L count bytes
