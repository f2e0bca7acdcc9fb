-- Calls of a table reader in sequence: what they read is the records that they return, and the
-- bytes that are held after them.
use Rattle.std.specs.Prelude.{ℕ, List, [], ◌∷◌, ◌++◌, Bool, Option, Result, Ok, Err, false, true}
use Rattle.format_csv_records.specs.Dialects.{IsRecord}
use Rattle.format_csv_records.specs.declared.dialect.Dialect.{Dialect}
use Rattle.format_csv_records.specs.Results.{Reads}
use Rattle.format_csv_records.specs.declared.error.ReadError.{ReadError}

-- `Texts d bytes records left`: `bytes` are the encodings of `records`, in sequence, and then
-- `left`.
pub data Texts (d : Dialect) : List ℕ → List (List (List ℕ)) → List ℕ → Type 0 where
  no_text : {left : List ℕ} → Texts d left [] left
  a_text : (text : List ℕ) {bytes left : List ℕ} {fields : List (List ℕ)}
      {records : List (List (List ℕ))} → IsRecord d text fields [] → Texts d bytes records left
      → Texts d (text ++ bytes) (fields ∷ records) left

-- The record that a call returned, if it returned one.
abbrev pub returned : Result Bool ReadError → List (List ℕ) → List (List (List ℕ))
returned (Ok true) fields = fields ∷ []
returned (Ok false) fields = []
returned (Err error) fields = []

-- `Calls d held read records left`: calls in sequence, the first of which has `held` bytes, read
-- the bytes `read`, return `records`, and leave the bytes `left`. Each call is as its clause says.
pub data Calls (d : Dialect) : List ℕ → List ℕ → List (List (List ℕ)) → List ℕ → Type 0 where
  no_call : {held : List ℕ} → Calls d held [] [] held
  a_call : {held mid left read : List ℕ} {before after : Option (List ℕ)}
      {start end size room : ℕ} {result : Result Bool ReadError} {fields : List (List ℕ)}
      {records : List (List (List ℕ))}
      (it : Reads d held mid before after start end size room result fields)
      → Calls d mid read records left
      → Calls d held (it.read ++ read) (returned result fields ++ records) left
