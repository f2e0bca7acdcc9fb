-- Sets of texts, and whether bytes start with a text in a set.
use Rattle.std.specs.Prelude.{◌≡◌, ◌<◌, ◌≤◌, ◌⊎◌, ℕ, List, [], ◌∷◌, ◌++◌, length}
use Rattle.std.specs.List.{All}

-- ---- sets of texts

-- One byte of P.
pub record IsByte (P : ℕ → Type 0) (text : List ℕ) : Type 0 where
  pub byte : ℕ
  pub is_byte : P byte
  pub alone : text ≡ byte ∷ []

-- Two bytes of P.
pub record AreTwoBytes (P : ℕ → ℕ → Type 0) (text : List ℕ) : Type 0 where
  pub one : ℕ
  pub two : ℕ
  pub are_bytes : P one two
  pub alone : text ≡ one ∷ two ∷ []

-- A text in `P`, followed by one in `Q`.
pub record Then (P Q : List ℕ → Type 0) (text : List ℕ) : Type 0 where
  pub first : List ℕ
  pub second : List ℕ
  pub is_first : P first
  pub is_second : Q second
  pub joins : text ≡ first ++ second

-- A text in `P` or in `Q`.
abbrev pub Either : (P Q : List ℕ → Type 0) → List ℕ → Type 0
Either P Q text = P text ⊎ Q text

-- A text in `P`, or the empty text.
abbrev pub Maybe : (List ℕ → Type 0) → List ℕ → Type 0
Maybe P text = (text ≡ []) ⊎ P text

-- Zero or more consecutive texts in `P`.
pub data Many (P : List ℕ → Type 0) : List ℕ → Type 0 where
  nothing : (text : List ℕ) → text ≡ [] → Many P text
  one_more : (first others text : List ℕ) → P first → Many P others → text ≡ first ++ others
      → Many P text

-- One or more texts in `P`, separated by commas.
pub data CommaSeparated (P : List ℕ → Type 0) : List ℕ → Type 0 where
  last : (text : List ℕ) → P text → CommaSeparated P text
  before : (first others text : List ℕ) → P first → CommaSeparated P others
      → text ≡ first ++ 44 ∷ others → CommaSeparated P text

-- ---- texts at the start of bytes

-- `MatchesAtStart P bytes rest`: `bytes` starts with a text in `P`, followed by `rest`.
pub record MatchesAtStart (P : List ℕ → Type 0) (bytes rest : List ℕ) : Type 0 where
  pub text : List ℕ
  pub is : P text
  pub splits : bytes ≡ text ++ rest

-- `NoMatchAtStart P bytes`: `bytes` does not start with a text in `P`.
abbrev pub NoMatchAtStart : (List ℕ → Type 0) → List ℕ → Type 0
NoMatchAtStart P bytes = (rest : List ℕ) → MatchesAtStart P bytes rest → ⊥

-- `IsLongerRest S more rest`: `more` is longer than `rest`, and starts with a byte of `S`.
pub record IsLongerRest (S : ℕ → Type 0) (more rest : List ℕ) : Type 0 where
  pub byte : ℕ
  pub tail : List ℕ
  pub begins : more ≡ byte ∷ tail
  pub is_byte : S byte
  pub is_more : length rest < length more

-- `RestAfter P S bytes rest`: `bytes` starts with a text in `P`, followed by `rest`. Any other
-- prefix
-- in `P` is shorter, and a byte of `S` follows it.
pub record RestAfter (P : List ℕ → Type 0) (S : ℕ → Type 0) (bytes rest : List ℕ) : Type 0 where
  pub stands : MatchesAtStart P bytes rest
  pub only : (other : List ℕ) → MatchesAtStart P bytes other
      → (other ≡ rest) ⊎ IsLongerRest S other rest

-- `EndsAt P bytes count`: the first `count` bytes are in `P`, and the next one is not.
abbrev pub EndsAt : (P : ℕ → Type 0) (bytes : List ℕ) (count : ℕ) → Type 0
EndsAt P bytes count =
    (front : List ℕ) × (other : ℕ) × (rest : List ℕ) × (bytes ≡ front ++ other ∷ rest)
    × (length front ≡ count) × All P front × (P other → ⊥)

-- A byte of S or of T.
abbrev pub EitherByte : (S T : ℕ → Type 0) → ℕ → Type 0
EitherByte S T b = S b ⊎ T b

-- No byte.
abbrev pub NoByte : ℕ → Type 0
NoByte b = ⊥

-- `IsLongest P text bytes rest`: `text` is the longest prefix of `bytes` in `P`, and `rest` follows
-- it.
pub record IsLongest (P : List ℕ → Type 0) (text bytes rest : List ℕ) : Type 0 where
  pub is : P text
  pub splits : bytes ≡ text ++ rest
  pub longest : (other more : List ℕ) → P other → bytes ≡ other ++ more
      → length other ≤ length text
