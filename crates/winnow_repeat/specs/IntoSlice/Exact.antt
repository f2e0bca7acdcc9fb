-- The grammar of a repetition into a slice.
use Rattle.std.specs.Prelude.{◌≡◌, ◌⊎◌, ◌<◌, ℕ, List, length, None}
use Rattle.std.specs.Prelude.{IfErr, IfOk}
use Rattle.streams.specs.Kind.{Kind, memory}
use Rattle.stream_errors.specs.Form.{Answer}
use Rattle.stream_sets.specs.Range.{from_to}
use Rattle.grammars.specs.Grammar.{Each, Grammar, Many}
use Rattle.winnow_repeat.specs.IntoSlice.{Overwrites}

-- as many consecutive matches as there are
abbrev pub AllMatches : {T O : Type 0} → Grammar T O → Grammar T (List O)
AllMatches grammar = Many grammar (from_to 0 None)

-- Each element is the output of a match, and another match follows: there are more matches than
-- elements.
pub record HasMore {T O : Type 0} (grammar : Grammar T O) (elements : List O)
    (tokens rest : List T) : Type 0 where
  pub each : Each grammar tokens elements rest
  pub next : (o : O) × (end : List T) × grammar rest o end
  pub more : (os : List O) (end : List T) → AllMatches grammar tokens os end
      → length elements < length os

-- The result of a repetition into a slice on complete input, in terms of the grammar of its parser.
-- `spares`: that parser is never out of memory.
pub record ReadsIntoSlice {T O : Type 0} (grammar : Grammar T O) (spares : Type 0)
    (too_many : ℕ → Kind → Type 0) (old : List O) (tokens : List T) (answer : Answer ℕ)
    (new : List O) (rest : List T) : Type 0 where
  -- the outputs of all matches are in the first elements
  pub stands : IfOk answer (λ n. (os : List O) × (n ≡ length os) × Overwrites os old new
      × AllMatches grammar tokens os rest)
  -- there are more matches than elements; or an item is out of memory
  pub fails : IfErr answer (λ k. (too_many (length old) k × (length new ≡ length old)
      × HasMore grammar new tokens rest)
      ⊎ ((k ≡ memory) × (spares → ⊥)))
