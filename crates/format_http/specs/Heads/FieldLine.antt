-- A header field line of HTTP/1.1 (RFC 9112, section 5).
use Rattle.std.specs.Prelude.{◌≡◌, ◌<◌, ℕ, List, [], ◌∷◌, ◌++◌, length}
use Rattle.std.specs.List.{All}
use Rattle.format_http.specs.Heads.Bytes.{IsTokenByte, IsValueByte, IsWhite, line_end}
use Rattle.format_http.specs.declared.heads.field_line.Field.{Field}
use Rattle.grammars.specs.Grammar.{Grammar}

-- The text does not end with whitespace.
abbrev pub EndsBare : List ℕ → Type 0
EndsBare text = (b : ℕ) (front : List ℕ) → text ≡ front ++ b ∷ [] → IsWhite b → ⊥

-- The text does not start with whitespace.
abbrev pub BeginsBare : List ℕ → Type 0
BeginsBare text = (b : ℕ) (more : List ℕ) → text ≡ b ∷ more → IsWhite b → ⊥

-- `IsFieldLine name value bytes rest`: `bytes` starts with a field line of this name and value,
-- followed by `rest`. Whitespace may surround the value, and does not belong to it.
pub record IsFieldLine (name value bytes rest : List ℕ) : Type 0 where
  pub before : List ℕ
  pub behind : List ℕ
  pub splits : bytes ≡ name ++ 58 ∷ (before ++ (value ++ (behind ++ (line_end ++ rest))))
  pub some_name : 0 < length name
  pub is_name : All IsTokenByte name
  pub white_before : All IsWhite before
  pub white_behind : All IsWhite behind
  pub is_value : All IsValueByte value
  pub begins_bare : BeginsBare value
  pub ends_bare : EndsBare value

-- `IsTrimmed value text`: `value` is `text` without the whitespace at its end.
pub record IsTrimmed (value text : List ℕ) : Type 0 where
  pub behind : List ℕ
  pub splits : text ≡ value ++ behind
  pub white_behind : All IsWhite behind
  pub ends_bare : EndsBare value

-- The bytes start with the field line of this field.
abbrev pub FieldLineStands : Grammar ℕ Field
FieldLineStands bytes field rest = IsFieldLine field.name.now field.value.now bytes rest
