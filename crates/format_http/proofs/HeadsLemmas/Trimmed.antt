-- The whitespace at the end of a text.
use Rattle.std.proofs.Common.{◌≡◌, ◌++◌, ℕ, List}
use Rattle.std.specs.List.{All}
use Rattle.format_http.specs.Heads.Bytes.{IsWhite}

-- So much was taken off so far.
pub record IsCut (now text : List ℕ) : Type 0 where
  pub behind : List ℕ
  pub splits : text ≡ now ++ behind
  pub white : All IsWhite behind
