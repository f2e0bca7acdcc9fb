-- The start of a text: lines, runs of bytes, blanks, comments after them.
use Rattle.std.specs.Prelude.{◌≡◌, ◌⊎◌, ◌≤◌, ◌<◌, ◌-◌, ℕ, List, [], ◌∷◌, ◌++◌, length, take}
use Rattle.std.specs.Prelude.{drop}
use Rattle.std.specs.Prelude.{⊤, slice_index}
use Rattle.std.specs.Char.{is_ascii_whitespace}
use Rattle.std.specs.List.{All, prefix_len, suffix_len}
use Rattle.format_ini.specs.Marks.{IsBlank, IsDelimiter, IsMark}
use Rattle.format_ini.specs.declared.dialect.Marks.{Marks}
use Rattle.format_ini.specs.declared.front.Stop.{Stop}
use Rattle.format_ini.specs.declared.front.Stop.TheVariants.{Bracket, Delimiter, LineFeed}

-- There is no byte, or the first is one of these.
abbrev pub FirstIfAny : (ℕ → Type 0) → List ℕ → Type 0
FirstIfAny these [] = ⊤
FirstIfAny these (b ∷ bs) = these b

-- There is no byte, or the first is none of these.
abbrev pub NotFirst : (ℕ → Type 0) → List ℕ → Type 0
NotFirst these bytes = FirstIfAny (λ b. these b → ⊥) bytes

-- There is a first byte, and it is one of these.
abbrev pub StartsWith : (ℕ → Type 0) → List ℕ → Type 0
StartsWith these [] = ⊥
StartsWith these (b ∷ bs) = these b

-- another byte
abbrev pub IsNotByte : ℕ → ℕ → Type 0
IsNotByte mark b = b ≡ mark → ⊥

-- what a text is cut at: a line feed, `]`, or what ends a key
abbrev pub IsStop : Stop → ℕ → Type 0
IsStop LineFeed b = b ≡ 10
IsStop Bracket b = b ≡ 93
IsStop (Delimiter delimiters) b = IsDelimiter delimiters b

-- `StopsAt stop bytes n`: `n` bytes precede the first byte of `stop`, or `n` is the length of
-- `bytes`.
abbrev pub StopsAt : Stop → List ℕ → ℕ → Type 0
StopsAt stop bytes n = (n ≤ length bytes) × All (λ b. IsStop stop b → ⊥) (take n bytes)
    × (n < length bytes → IsStop stop (slice_index bytes n))

-- `CutAt stop text before behind`: `text` is `before`, the first byte of `stop` in it, and
-- `behind`.
abbrev pub CutAt : Stop → List ℕ → List ℕ → List ℕ → Type 0
CutAt stop text before behind = (mark : ℕ) × (text ≡ before ++ (mark ∷ behind))
    × IsStop stop mark × All (λ b. IsStop stop b → ⊥) before

-- `CutAtLast text before behind`: `text` is `before`, its last `]`, and `behind`.
abbrev pub CutAtLast : List ℕ → List ℕ → List ℕ → Type 0
CutAtLast text before behind =
    (text ≡ before ++ (93 ∷ behind)) × All (λ b. b ≡ 93 → ⊥) behind

-- `FirstLine text line rest`: `text` starts with `line`, followed by `rest`. A line feed ends the
-- line, or the end of `text`.
abbrev pub FirstLine : List ℕ → List ℕ → List ℕ → Type 0
FirstLine text line rest = All (IsNotByte 10) line
    × ((text ≡ line ++ (10 ∷ rest)) ⊎ ((text ≡ line) × (rest ≡ []) × (0 < length line)))

-- The number of blanks at the start of a line.
abbrev pub indent_of : List ℕ → ℕ
indent_of line = prefix_len is_ascii_whitespace line

-- A text without trailing blanks.
abbrev pub trimmed_end : List ℕ → List ℕ
trimmed_end text = take (length text - suffix_len is_ascii_whitespace text) text

-- A text without the blanks at both ends.
unfoldable pub trimmed : List ℕ → List ℕ
trimmed text = trimmed_end (drop (prefix_len is_ascii_whitespace text) text)

-- A comment may begin after these bytes of a line: there are none, or the last is a blank.
abbrev pub MayStartComment : List ℕ → Type 0
MayStartComment before = (before ≡ [])
    ⊎ ((front : List ℕ) × (b : ℕ) × (before ≡ front ++ b ∷ []) × IsBlank b)

-- No comment of these marks begins in a line.
abbrev pub NoComment : Marks → List ℕ → Type 0
NoComment marks line = (before : List ℕ) (mark : ℕ) (rest : List ℕ) → line ≡ before ++ (mark ∷ rest)
    → IsMark marks mark → MayStartComment before → ⊥

-- `IsWithoutComment marks line kept`: `kept` is `line` up to the first comment of `marks`, or all
-- of it if no comment begins in it.
abbrev pub IsWithoutComment : Marks → List ℕ → List ℕ → Type 0
IsWithoutComment marks line kept =
    NoComment marks kept × ((line ≡ kept) ⊎ ((mark : ℕ) × (rest : List ℕ)
    × (line ≡ kept ++ (mark ∷ rest)) × IsMark marks mark × MayStartComment kept))

-- `KeepsSoMany marks line n`: the first `n` bytes of `line` are kept
abbrev pub KeepsSoMany : Marks → List ℕ → ℕ → Type 0
KeepsSoMany marks line n = (n ≤ length line) × NoComment marks (take n line)
    × (n < length line → IsMark marks (slice_index line n) × MayStartComment (take n line))
