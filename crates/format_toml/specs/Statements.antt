-- The statements of lines.
use Rattle.std.specs.Prelude.{◌≡◌, ◌≤◌, List, [], ◌∷◌, ◌++◌, Option, Some, None, vec_capacity}
use Rattle.std.specs.Prelude.{vec_len}
use Rattle.std.specs.List.{FoldsTo}
use Rattle.std.proofs.Common.{sym, ap, ◌∙◌, append_assoc}
use Rattle.std.proofs.lemmas.List.{append-nil}
use Rattle.stream_sets.specs.Accumulator.{Accumulator}
use Rattle.stream_sets.specs.Accumulator.Holds.{Holds}
use Rattle.format_toml.specs.declared.statements.Statements.{Statements}

-- the statements of lines in order, without the lines that have none
abbrev pub stated : {X : Type 0} → List (Option X) → List X
stated [] = []
stated (None ∷ lines) = stated lines
stated (Some x ∷ lines) = x ∷ stated lines

module _ {X A : Type 0} where
  -- a statement is added at the end, and nothing for a line without one
  abbrev pub TakesLine : Statements X A → Option X → Statements X A → Type 0
  TakesLine all None more = more.list.items ≡ all.list.items
  TakesLine all (Some x) more = more.list.items ≡ all.list.items ++ x ∷ []

  -- only a statement for which there is no room takes memory
  abbrev pub GrowsAt : Statements X A → Option X → Type 0
  GrowsAt all None = ⊥
  GrowsAt all (Some x) = vec_capacity all.list ≤ vec_len all.list

  -- what it is to keep the statements of lines
  abbrev pub statements_kept : Accumulator (Statements X A) (Option X)
  statements_kept = record {
    starts = λ _ all. all.list.items ≡ [];
    takes = TakesLine;
    start_grows = λ _. ⊥;
    grows = GrowsAt;
  }

  taken : (before after : Statements X A) (lines : List (Option X))
      → FoldsTo TakesLine before lines after
      → after.list.items ≡ before.list.items ++ stated lines
  taken before after [] e = sym (ap (λ all. all.list.items) e) ∙ sym (append-nil before.list.items)
  taken before after (None ∷ lines) (next, takes, rest) =
      taken next after lines rest ∙ ap (λ l. l ++ stated lines) takes
  taken before after (Some x ∷ lines) (next, takes, rest) =
      taken next after lines rest ∙ ap (λ l. l ++ stated lines) takes
      ∙ append_assoc before.list.items (x ∷ []) (stated lines)

  pub has_statements : Holds statements_kept (λ all lines. all.list.items ≡ stated lines)
  has_statements = record {
    held = λ capacity empty all lines starts took.
        taken empty all lines took.taken ∙ ap (λ l. l ++ stated lines) starts;
  }
