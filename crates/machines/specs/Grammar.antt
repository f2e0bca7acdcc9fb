-- Grammars of machines, their laws, and results of scans.
use Rattle.std.specs.Prelude.{◌≡◌, ◌<◌, ℕ, zero, suc, List, [], ◌∷◌, ◌++◌, length, Bool, true}
use Rattle.std.specs.Prelude.{false, IsTrue, ⊤, Option, Some, None, Result, Ok, Err, ◌&&◌, not}
use Rattle.machines.specs.Languages.{Derivative, HasNonEmpty, Language, NeverStarts}

-- The residual language of each state: the words that complete the bytes before it. Bounds on the
-- first bytes of words, on the bytes that continue a word to a longer one, and on whether the empty
-- word is one.
pub record Grammar (S : Type 0) : Type 1 where
  pub start : S
  pub residual : S → Language
  pub firsts : ℕ → Bool
  pub nexts : ℕ → Bool
  pub nullable : Bool

-- Whether the residual language has no word except the empty one.
abbrev pub HasEnded : {S : Type 0} → Grammar S → S → Bool → Type 0
HasEnded g at true = (b : ℕ) → NeverStarts (g.residual at) b
HasEnded g at false = HasNonEmpty (g.residual at)

-- The bytes lead from one state to another: each byte to a state whose residual language is the
-- derivative by it.
abbrev pub Path : {S : Type 0} → Grammar S → S → List ℕ → S → Type 0
Path {S} g from [] to = from ≡ to
Path {S} g from (b ∷ bytes) to =
    (next : S) × Derivative (g.residual from) (b ∷ []) (g.residual next) × Path g next bytes to

-- no byte follows, or one with which no word of `K` starts
abbrev pub IsStopped : Language → List ℕ → Type 0
IsStopped K [] = ⊤
IsStopped K (b ∷ bytes) = NeverStarts K b

-- A prefix of `bytes` leads from one state to another, and `left` is the rest.
pub record Reaches {S : Type 0} (g : Grammar S) (from : S) (bytes : List ℕ) (to : S)
    (left : List ℕ) : Type 0 where
  pub front : List ℕ
  pub splits : bytes ≡ front ++ left
  pub path : Path g from front to

-- The longest prefix of `bytes` that some word continues leads from `from` to `to`.
abbrev pub Passes : {S : Type 0} → Grammar S → S → List ℕ → S → List ℕ → Type 0
Passes g from bytes to left = Reaches g from bytes to left × IsStopped (g.residual to) left

-- `Lawful g`: the bounds hold, and each state can be completed.
pub record Lawful {S : Type 0} (g : Grammar S) : Type 0 where
  pub first : (b : ℕ) (word : List ℕ) → g.residual g.start (b ∷ word) → IsTrue (g.firsts b)
  pub next : (at : S) (b : ℕ) (word : List ℕ) → g.residual at [] → g.residual at (b ∷ word)
      → IsTrue (g.nexts b)
  pub null : g.residual g.start [] → IsTrue g.nullable
  pub live : (at : S) → (word : List ℕ) × g.residual at word

-- no byte below `n` is in both sets
unfoldable pub disjoint_below : ℕ → (ℕ → Bool) → (ℕ → Bool) → Bool
disjoint_below zero f g = true
disjoint_below (suc n) f g = not (f n && g n) && disjoint_below n f g

-- No byte is in both sets.
abbrev pub Disjoint : (ℕ → Bool) → (ℕ → Bool) → Type 0
Disjoint f g = (b : ℕ) → b < 256 → IsTrue (f b) → IsTrue (g b) → ⊥

-- the same by a test, which computes at sets without variables
unfoldable pub AreDisjoint : (ℕ → Bool) → (ℕ → Bool) → Type 0
AreDisjoint f g = IsTrue (disjoint_below 256 f g)

-- ---- a scan

-- no word starts with `front` and the next byte; at the end of the input, with any byte
abbrev pub NoneLonger : Language → List ℕ → List ℕ → Type 0
NoneLonger L front [] = (b : ℕ) (word : List ℕ) → L (front ++ b ∷ word) → ⊥
NoneLonger L front (b ∷ bytes) = (word : List ℕ) → L (front ++ b ∷ word) → ⊥

-- The first `n` bytes are a word, and no longer word starts with them and the next byte.
pub record LongestWord (L : Language) (bytes : List ℕ) (n : ℕ) : Type 0 where
  pub front : List ℕ
  pub left : List ℕ
  pub splits : bytes ≡ front ++ left
  pub size : length front ≡ n
  pub word : L front
  pub longest : NoneLonger L front left

-- The first `n` bytes are not a word. Some word starts with them, and none with them and the next
-- byte.
pub record FirstInvalid (L : Language) (bytes : List ℕ) (n : ℕ) : Type 0 where
  pub front : List ℕ
  pub byte : ℕ
  pub left : List ℕ
  pub splits : bytes ≡ front ++ byte ∷ left
  pub size : length front ≡ n
  pub none : L front → ⊥
  pub more : List ℕ
  pub live : L (front ++ more)
  pub never : (word : List ℕ) → L (front ++ byte ∷ word) → ⊥

-- The length of the longest word at the start of the bytes; or some longer input is a word; or the
-- offset of the first byte with which no word starts.
abbrev pub Scanned : Language → List ℕ → Result (Option ℕ) ℕ → Type 0
Scanned L bytes (Ok (Some n)) = LongestWord L bytes n
Scanned L bytes (Ok None) = (b : ℕ) × (word : List ℕ) × L (bytes ++ b ∷ word)
Scanned L bytes (Err n) = FirstInvalid L bytes n
