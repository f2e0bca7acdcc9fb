-- Where the statements of a document begin.
use Rattle.std.specs.Prelude.{◌≡◌, ℕ, zero, suc, Bool, true, false, List, [], ◌++◌, Option, Some}
use Rattle.std.specs.Prelude.{None}
use Rattle.std.proofs.Common.{refl}
use Rattle.std.specs.Borrow.{Bor}
use Rattle.std.specs.Str.{chars}
use Rattle.format_toml.specs.Grammars.{Line, Newline}
use Rattle.format_toml.specs.Unique.{line_unique, newline_unique}
use Rattle.format_toml_tree.specs.declared.value.Item.{Item}
use Rattle.grammars.specs.Grammar.{Grammar, NoMatch}
use Rattle.grammars.specs.Grammar.Unique.{end_of_end}

-- `tokens` starts with a match of `grammar`, followed by `rest`
abbrev pub MatchesAtStart : {O : Type 0} → Grammar ℕ O → List ℕ → List ℕ → Type 0
MatchesAtStart {O} grammar tokens rest = (o : O) × grammar tokens o rest

-- the rest after a match, or `None` if there is no match
abbrev pub IsPast : {O : Type 0} → Grammar ℕ O → List ℕ → Option (Bor (List ℕ)) → Type 0
IsPast grammar tokens (Some rest) = MatchesAtStart grammar tokens (chars rest.now)
IsPast grammar tokens None = NoMatch grammar tokens

module _ (A : Type 0) (level : ℕ) where
  -- a line is at the start of `text`, with a statement or without one, followed by `end`
  abbrev pub IsLine : List ℕ → Bool → List ℕ → Type 0
  IsLine text true end = (item : Item A) × Line level text (Some item) end
  IsLine text false end = Line {A = A} level text None end

  -- the line at the start of `text` has a statement
  abbrev pub HasStatement : List ℕ → Type 0
  HasStatement text = (item : Item A) × (end : List ℕ) × Line level text (Some item) end

  -- `text` starts with a line that has this statement or none, and its line ending; then comes
  -- `behind`
  abbrev pub IsLineBefore : List ℕ → Option (Item A) → List ℕ → Type 0
  IsLineBefore text o behind =
      (end : List ℕ) × Line level text o end × MatchesAtStart Newline end behind

  -- `StatementStarts n text line`: `line` is the rest of `text` from the line on whose statement
  -- has the number `n`, counted from 0. Lines without a statement do not count.
  pub data StatementStarts : ℕ → List ℕ → List ℕ → Type 0 where
    here : {text : List ℕ} → HasStatement text → StatementStarts zero text text
    past_none : {n : ℕ} {text behind line : List ℕ} → IsLineBefore text None behind
        → StatementStarts n behind line → StatementStarts n text line
    past_one : {n : ℕ} {text behind line : List ℕ} (item : Item A)
        → IsLineBefore text (Some item) behind → StatementStarts n behind line
        → StatementStarts (suc n) text line

  -- `IsStart text number line`: `line` is the rest of `text` from that statement on; or it is
  -- `None`, and the lines at the start of `text` have fewer statements.
  abbrev pub IsStart : List ℕ → ℕ → Option (Bor (List ℕ)) → Type 0
  IsStart text number (Some line) = StatementStarts number text (chars line.now)
  IsStart text number None = (line : List ℕ) → StatementStarts number text line → ⊥

  -- a statement begins in a suffix of the text
  pub start_end : {n : ℕ} {text line : List ℕ} → StatementStarts n text line
      → (front : List ℕ) × (text ≡ front ++ line)
  start_end (here has) = ([], refl)
  start_end {text = text} (past_none {behind = behind} (end, x, (c, y)) starts) =
      end_of_end (end_of_end ((line_unique {A = A} level).ends text None end x)
      (newline_unique.ends end c behind y)) (start_end starts)
  start_end {text = text} (past_one {behind = behind} item (end, x, (c, y)) starts) =
      end_of_end (end_of_end ((line_unique {A = A} level).ends text (Some item) end x)
      (newline_unique.ends end c behind y)) (start_end starts)
