-- Grammars of the text up to a needle, and of line endings.
use Rattle.std.specs.Prelude.{◌≡◌, ◌⊎◌, ◌≤◌, ℕ, List, [], ◌∷◌, ◌++◌, length}
use Rattle.std.specs.Borrow.{Bor}
use Rattle.streams.specs.Reading.{Reading}
use Rattle.stream_sets.specs.Range.{Bounds, IsWithin}
use Rattle.grammars.specs.Grammar.{Either, Grammar, Literally, SpelledBy}
use Rattle.stream_searches.specs.Compare.{StartsWithSpelling}
use Rattle.stream_searches.specs.FindSlice.{Occurs}
pub mod Unique

-- `front` is followed by a list that `sought` accepts, and no such list occurs at an earlier
-- offset.
pub record IsBefore {T : Type 0} (sought : List T → Type 0) (tokens front rest : List T) : Type 0
  where
    pub splits : tokens ≡ front ++ rest
    pub stands : StartsWithSpelling sought rest
    pub first : (other hit behind : List T) → Occurs sought tokens other hit behind
        → length front ≤ length other

-- The tokens up to the first list that `sought` accepts, with a length within the bounds; `slice`
-- shows them.
unfoldable pub Before : {T L : Type 0} → Reading T L → (List T → Type 0) → Bounds → Grammar T L
Before {T} reading sought bounds tokens slice rest =
    (front : List T) × IsBefore sought tokens front rest × (bounds.least ≤ length front)
    × IsWithin bounds.greatest (length front) × reading.shows slice front

-- A literal with these bytes.
abbrev pub LiterallyBytes : {T L : Type 0} → Reading T L → (Bor (List ℕ) → List T → Type 0) → List ℕ
    → Grammar T L
LiterallyBytes reading spells = Literally reading (SpelledBy spells) (λ _ slice. slice)

-- A line feed, or a carriage return and a line feed.
abbrev pub LineEnd : {T L : Type 0} → Reading T L → (Bor (List ℕ) → List T → Type 0) → Grammar T L
LineEnd reading spells =
    Either (LiterallyBytes reading spells (10 ∷ [])) (LiterallyBytes reading spells (13 ∷ 10 ∷ []))

-- Neither a carriage return nor a line feed occurs in `tokens`. `sought` gives the lists that match
-- a pair of characters.
abbrev pub HasNoLineEnd : {T : Type 0} → (ℕ × ℕ → List T → Type 0) → List T → Type 0
HasNoLineEnd {T} sought tokens =
    (front hit rest : List T) → Occurs (sought (13, 10)) tokens front hit rest → ⊥

-- `front` is the tokens up to the first carriage return or line feed, or all tokens if neither
-- occurs.
abbrev pub IsLineOf : {T : Type 0} → (ℕ × ℕ → List T → Type 0) → List T → List T → List T → Type 0
IsLineOf sought tokens front rest =
    IsBefore (sought (13, 10)) tokens front rest
    ⊎ (HasNoLineEnd sought tokens × (front ≡ tokens) × (rest ≡ []))

-- A line without its line ending, which `slice` shows. If a carriage return follows the line, a
-- line feed follows the carriage return.
unfoldable pub Line : {T L : Type 0} → Reading T L → (Bor (List ℕ) → List T → Type 0)
    → (ℕ × ℕ → List T → Type 0) → Grammar T L
Line {T} reading spells sought tokens slice rest =
    (front : List T) × IsLineOf sought tokens front rest
    × (StartsWithSpelling (SpelledBy spells (13 ∷ [])) rest
    → StartsWithSpelling (SpelledBy spells (13 ∷ 10 ∷ [])) rest)
    × reading.shows slice front
