-- The bytes that a dialect tells apart.
use Rattle.std.specs.Prelude.{◌≡◌, ◌⊎◌, ℕ, true}
use Rattle.std.specs.Char.{is_ascii_whitespace}
use Rattle.format_ini.specs.declared.dialect.Delimiters.{Delimiters}
use Rattle.format_ini.specs.declared.dialect.Delimiters.TheVariants.{Equals, Colon, Either}
use Rattle.format_ini.specs.declared.dialect.Marks.{Marks}
use Rattle.format_ini.specs.declared.dialect.Marks.TheVariants as marks

-- The bytes that end a key: `=`, or `:`.
abbrev pub IsDelimiter : Delimiters → ℕ → Type 0
IsDelimiter Equals b = b ≡ 61
IsDelimiter Colon b = b ≡ 58
IsDelimiter Either b = (b ≡ 61) ⊎ (b ≡ 58)

-- The bytes that begin a comment: `#`, or `;`.
abbrev pub IsMark : Marks → ℕ → Type 0
IsMark marks.Neither b = ⊥
IsMark marks.NumberSign b = b ≡ 35
IsMark marks.Semicolon b = b ≡ 59
IsMark marks.Either b = (b ≡ 35) ⊎ (b ≡ 59)

-- Whitespace of ASCII: tab, form feed, carriage return, space. A line feed is none within a line.
abbrev pub IsBlank : ℕ → Type 0
IsBlank b = is_ascii_whitespace b ≡ true
