-- The contents of a text after more was appended to it.
use Rattle.std.specs.Prelude.{◌≡◌, ◌<◌, ◌+◌, ℕ, List, ◌++◌, encode_utf8_all, length}
use Rattle.std.specs.Prelude.{string_capacity, string_len}
use Rattle.std.specs.Str.{chars}
use Rattle.std.specs.declared.string.String.{String}
use Rattle.format_json_texts.specs.Number.{NumberText}
use Rattle.format_parts.specs.Words.{Slice}
use Rattle.grammars.specs.Texts.{Text}

-- `IsPrefixOf before after`: `after` is `before`, possibly followed by more.
pub record IsPrefixOf (before after : List ℕ) : Type 0 where
  pub more : List ℕ
  pub behind : after ≡ before ++ more

-- `Appends text o before after`: `after` is `before` followed by an encoding of `o`, in UTF-8.
pub record Appends {O : Type 0} (text : Text ℕ O) (o : O) (before after : List ℕ) : Type 0 where
  pub tokens : List ℕ
  pub is : text o tokens
  pub behind : after ≡ before ++ encode_utf8_all tokens

-- `PutsNumber text before after`: `text` is a number, and `after` is `before` followed by it.
abbrev pub PutsNumber : List ℕ → List ℕ → List ℕ → Type 0
PutsNumber text before after =
    ((slice : Slice) × NumberText slice (chars text)) × (after ≡ before ++ text)

-- `LacksRoom text more`: `text` must grow before these bytes are appended.
abbrev pub LacksRoom : {B : Type 0} → String B → List ℕ → Type 0
LacksRoom text more = string_capacity text < string_len text + length more
