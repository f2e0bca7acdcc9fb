-- The encoding that is written for a record: quotes only for fields that need them.
use Rattle.std.specs.Prelude.{◌≡◌, ◌⊎◌, ℕ, List, [], ◌∷◌, ◌++◌, map, Bool, true}
use Rattle.std.specs.Prelude.{Result, Ok, Err}
use Rattle.std.specs.Borrow.{Bor}
use Rattle.std.specs.List.{All}
use Rattle.format_csv_records.specs.Dialects.{IsPlain, IsRecord, doubled}
use Rattle.format_csv_records.specs.declared.dialect.Dialect.{Dialect}
use Rattle.format_csv_records.specs.declared.dialect.LineEnds.{LineEnds}
use Rattle.format_csv_records.specs.declared.dialect.LineEnds.TheVariants.{CrLf, Lf, Either}
use Rattle.format_csv_records.specs.declared.write.WriteError.{WriteError}
use Rattle.format_csv_records.specs.declared.write.WriteError.TheVariants.{NoFields, OutOfMemory}

-- The line ending that is written: a carriage return and a line feed where either is accepted.
abbrev pub written_end : LineEnds → List ℕ
written_end CrLf = 13 ∷ 10 ∷ []
written_end Lf = 10 ∷ []
written_end Either = 13 ∷ 10 ∷ []

-- The text that is written for a field: unchanged if all its bytes are plain, in quotes otherwise.
abbrev pub IsWritten : Dialect → List ℕ → List ℕ → Type 0
IsWritten d field text = ((text ≡ field) × All (IsPlain d) field)
    ⊎ ((text ≡ d.quote ∷ (doubled d.quote field ++ d.quote ∷ [])) × (All (IsPlain d) field → ⊥))

-- The text that is written for fields, with a delimiter after each.
unfoldable pub WrittenFields : Dialect → List (List ℕ) → List ℕ → Type 0
WrittenFields d [] before = before ≡ []
WrittenFields d (field ∷ fields) before = (text : List ℕ) × (more : List ℕ) × IsWritten d field text
    × (before ≡ text ++ (d.delimiter ∷ more)) × WrittenFields d fields more

-- The text that is written for the last field: two quotes, if it is empty and the only field.
abbrev pub IsLastWritten : Dialect → List (List ℕ) → List ℕ → List ℕ → Type 0
IsLastWritten d others last text =
    ((others ≡ []) × (last ≡ []) × (text ≡ d.quote ∷ d.quote ∷ []))
    ⊎ (((others ≡ []) × (last ≡ []) → ⊥) × IsWritten d last text)

-- A record is appended to the old bytes: its fields separated by delimiters, and the line ending.
pub record Writes (d : Dialect) (fields : List (List ℕ)) (old new : List ℕ) : Type 0 where
  pub others : List (List ℕ)
  pub last : List ℕ
  pub before : List ℕ
  pub text : List ℕ
  pub end : List ℕ
  pub all : fields ≡ others ++ last ∷ []
  pub wrote : WrittenFields d others before
  pub is_last : IsLastWritten d others last text
  pub is_end : end ≡ written_end d.ends
  pub behind : new ≡ old ++ (before ++ (text ++ end))

-- `Extends old new`: `new` is `old`, followed by more bytes or none.
abbrev pub Extends : List ℕ → List ℕ → Type 0
Extends old new = (more : List ℕ) × (new ≡ old ++ more)

-- the bytes of fields
abbrev pub bytes_of : List (Bor (List ℕ)) → List (List ℕ)
bytes_of fields = map (λ f. f.now) fields

-- like `IsLastWritten`, with a test for whether it is the only field
abbrev pub IsLastOf : Dialect → Bool → List ℕ → List ℕ → Type 0
IsLastOf d alone last text =
    ((alone ≡ true) × (last ≡ []) × (text ≡ d.quote ∷ d.quote ∷ []))
    ⊎ (((alone ≡ true) × (last ≡ []) → ⊥) × IsWritten d last text)

-- The new bytes start with the record that was written, for any continuation.
abbrev pub ReadsBack : Dialect → List (List ℕ) → List ℕ → List ℕ → Type 0
ReadsBack d fields old new = (text : List ℕ) × (new ≡ old ++ text)
    × ((rest : List ℕ) → IsRecord d (text ++ rest) fields rest)

-- The contract of a call with these fields: its result, and the bytes before and after it.
abbrev pub WritesRecord : Dialect → List (List ℕ) → List ℕ → Result (Unit {0}) WriteError → List ℕ
    → Type 0
WritesRecord d fields old (Ok u) new = Writes d fields old new × ReadsBack d fields old new
WritesRecord d fields old (Err NoFields) new = (fields ≡ []) × (new ≡ old)
WritesRecord d fields old (Err OutOfMemory) new = new ≡ old
