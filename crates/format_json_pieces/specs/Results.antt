-- The result of a call for a value, also with more bytes.
use Rattle.std.specs.Prelude.{◌≡◌, ◌⊎◌, ℕ, false, true, Bool, List, [], ◌++◌}
use Rattle.std.specs.Str.{IsUtf8}
use Rattle.format_json_extents.specs.Value.{IsNotContinued, IsValue}
use Rattle.format_json_texts.specs.Values.Texts.{BeginsNumber}
use Rattle.streams.specs.Kind.{Kind, backtrack, memory}
use Rattle.winnow_grammar.specs.Cut.{Asks}
use Rattle.grammars.specs.Grammar.{Grammar, NoMatch}
use Rattle.grammars.specs.Texts.{StartsWith}

-- more may come after the bytes only where they are cut
abbrev pub Allows : Bool → List ℕ → Type 0
Allows cut more = cut ≡ false → more ≡ []

module _ {O : Type 0} (grammar : Grammar ℕ O) (cut : Bool) (bytes : List ℕ) where
  -- `MatchesWithMore o left`: `o` is a match in the bytes with the rest `left`, for any
  -- continuation.
  abbrev pub MatchesWithMore : O → List ℕ → Type 0
  MatchesWithMore o left =
      (more : List ℕ) → Allows cut more → grammar (bytes ++ more) o (left ++ more)

  -- `FailsWithMore kind`: the error is out of memory; `Incomplete`, if more input may follow; or a
  -- backtrack, if there is no match for any continuation.
  abbrev pub FailsWithMore : Kind → Type 0
  FailsWithMore kind =
      (kind ≡ memory) ⊎ ((Asks kind × (cut ≡ true)) ⊎ ((kind ≡ backtrack)
      × ((more : List ℕ) → Allows cut more → NoMatch grammar (bytes ++ more))))

-- ---- the text of a value

-- `IsFinal level cut bytes text left`: `bytes` starts with `text`, a value in UTF-8 followed by
-- `left`, and the value ends there for any continuation.
abbrev pub IsFinal : ℕ → Bool → List ℕ → List ℕ → List ℕ → Type 0
IsFinal level cut bytes text left =
    IsUtf8 text × IsValue level text × (bytes ≡ text ++ left)
    × ((more : List ℕ) → Allows cut more → IsNotContinued text (left ++ more))

-- `NoneIsFinal level cut bytes`: `bytes` starts with no value in UTF-8, except a number that is all
-- of partial bytes.
abbrev pub NoneIsFinal : ℕ → Bool → List ℕ → Type 0
NoneIsFinal level cut bytes =
    (text rest : List ℕ) → IsUtf8 text → IsValue level text → bytes ≡ text ++ rest
    → IsNotContinued text rest → (cut ≡ true) × (rest ≡ []) × StartsWith BeginsNumber text
