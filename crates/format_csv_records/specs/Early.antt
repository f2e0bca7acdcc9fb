-- Definitions of bytes that can be extended to start with a record, and of bytes that cannot.
use Rattle.std.specs.Prelude.{◌<◌, ◌≤◌, ℕ, List, ◌++◌, length}
use Rattle.std.specs.List.{All}
use Rattle.format_csv_records.specs.Dialects.{IsRecord}
use Rattle.format_csv_records.specs.declared.dialect.Dialect.{Dialect}

-- With at most three more bytes they start with a record of these fields, for any continuation.
pub record IsViablePrefix (d : Dialect) (bytes : List ℕ) : Type 0 where
  pub more : List ℕ
  pub known : All (λ b. b < 256) more
  pub few : length more ≤ 3
  pub fields : List (List ℕ)
  pub rest : List ℕ
  pub begins : (after : List ℕ) → IsRecord d ((bytes ++ more) ++ after) fields (rest ++ after)

-- No continuation of the bytes starts with a record.
abbrev pub IsPrefixOfNone : Dialect → List ℕ → Type 0
IsPrefixOfNone d bytes = (more : List ℕ) (fields : List (List ℕ)) (rest : List ℕ)
    → IsRecord d (bytes ++ more) fields rest → ⊥
