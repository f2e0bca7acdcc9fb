-- The text of a string, with its escapes undone, and where it is written.
use Rattle.std.specs.Prelude.{◌≡◌, ◌≤◌, ◌⊎◌, ◌+◌, ℕ, List, [], ◌∷◌, ◌++◌, drop, length, take}
use Rattle.std.specs.Char.{encode_utf8}
use Rattle.format_json_extents.specs.Strings.{IsUnescaped}
use Rattle.format_json_extents.specs.Texts.{IsByte}
use Rattle.format_json_texts.specs.Strings.{EscapeText}

-- `PieceMeans piece bytes`: `piece` is an unescaped byte and `bytes` the same; or it is an escape,
-- and `bytes` the UTF-8 of its character.
abbrev pub PieceMeans : List ℕ → List ℕ → Type 0
PieceMeans piece bytes =
    (IsByte IsUnescaped piece × (bytes ≡ piece))
    ⊎ ((c : ℕ) × EscapeText c piece × (bytes ≡ encode_utf8 c))

-- Consecutive pieces, and the bytes that they denote.
pub data Means : List ℕ → List ℕ → Type 0 where
  means_nothing : (text bytes : List ℕ) → text ≡ [] → bytes ≡ [] → Means text bytes
  means_more : (piece others one more text bytes : List ℕ) → PieceMeans piece one
      → Means others more → text ≡ piece ++ others → bytes ≡ one ++ more → Means text bytes

-- ---- in a buffer

-- `IsPut bytes at old new`: `new` is `old` with `bytes` written at offset `at`, if they fit. Its
-- length is that of `old`.
abbrev pub IsPut : List ℕ → ℕ → List ℕ → List ℕ → Type 0
IsPut bytes at old new =
    (length new ≡ length old)
    × (at + length bytes ≤ length old
    → new ≡ take at old ++ (bytes ++ drop (at + length bytes) old))

-- The character of an escape is written so, and the place after it is the end.
pub record IsEscapePut (escape : List ℕ) (at end : ℕ) (old new : List ℕ) : Type 0 where
  pub char : ℕ
  pub text : EscapeText char (92 ∷ escape)
  pub ends : end ≡ at + length (encode_utf8 char)
  pub short : length (encode_utf8 char) ≤ length escape
  pub is_put : IsPut (encode_utf8 char) at old new

-- `IsTailWritten count bytes rest old new`: `bytes` has pieces, a quote and then `rest`; the pieces
-- denote `count` bytes. If these fit, `new` is `old` with them at its start.
pub record IsTailWritten (count : ℕ) (bytes rest old new : List ℕ) : Type 0 where
  pub text : List ℕ
  pub meant : List ℕ
  pub means : Means text meant
  pub splits : bytes ≡ text ++ 34 ∷ rest
  pub counts : count ≡ length meant
  pub written : count ≤ length old → new ≡ meant ++ drop count old

-- The input begins with a string, whose text is written so, and then comes the rest.
abbrev pub IsStringWritten : ℕ → List ℕ → List ℕ → List ℕ → List ℕ → Type 0
IsStringWritten count input rest old new =
    (inside : List ℕ) × (input ≡ 34 ∷ inside) × IsTailWritten count inside rest old new
