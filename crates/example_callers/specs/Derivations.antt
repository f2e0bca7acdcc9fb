-- Results of the parser of a sign. Each may be out of memory instead.
use Rattle.std.specs.Prelude.{◌≡◌, ⊤, ℕ, List, Ok, Err}
use Rattle.winnow.specs.Form.{Answer}
use Rattle.winnow.specs.Kind.{backtrack, cut, incomplete, memory}

-- The sign is returned, and `rest` remains.
abbrev pub IsSign : ℕ → List ℕ → Answer ℕ → List ℕ → Type 0
IsSign sign rest (Ok byte) left = (byte ≡ sign) × (left ≡ rest)
IsSign sign rest (Err kind) left = kind ≡ memory

-- A backtrack, and all of the input remains.
abbrev pub IsRefused : List ℕ → Answer ℕ → List ℕ → Type 0
IsRefused all (Ok byte) left = ⊥
IsRefused all (Err backtrack) left = left ≡ all
IsRefused all (Err cut) left = ⊥
IsRefused all (Err (incomplete need)) left = ⊥
IsRefused all (Err memory) left = ⊤
