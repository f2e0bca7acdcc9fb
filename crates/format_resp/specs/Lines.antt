-- Lines, as far as they are there.
use Rattle.std.specs.Prelude.{◌≡◌, ◌⊎◌, ◌≤◌, ◌<◌, ⊤, ℕ, List, [], ◌∷◌, ◌++◌, length, take}
use Rattle.std.specs.List.{AllByRecursion}
use Rattle.format_resp.specs.Resp.{IsLineByte}
use Rattle.format_resp.specs.declared.lines.Line.{Line}
use Rattle.format_resp.specs.declared.lines.Line.TheVariants.{Never, Open, Whole}

-- `EndsLine tokens line rest`: `tokens` starts with `line` and a line ending, followed by `rest`.
abbrev pub EndsLine : List ℕ → List ℕ → List ℕ → Type 0
EndsLine tokens line rest = AllByRecursion IsLineByte line × (tokens ≡ line ++ (13 ∷ 10 ∷ rest))

-- All are bytes of a line, or with them a part of its end.
abbrev pub IsOpen : List ℕ → Type 0
IsOpen tokens =
    (line : List ℕ) × AllByRecursion IsLineByte line
    × ((tokens ≡ line) ⊎ (tokens ≡ line ++ (13 ∷ [])))

-- The contract of a line: a complete line; or `Open n`, if it is incomplete and `n` bytes have no
-- byte of a line ending; or `Never`, if no continuation starts with one.
abbrev pub IsLine : List ℕ → Line → Type 0
IsLine tokens (Whole line rest) = EndsLine tokens line.now rest.now
IsLine tokens (Open n) =
    (n ≤ length tokens) × AllByRecursion IsLineByte (take n tokens)
    × IsOpen tokens
IsLine tokens Never = (more line rest : List ℕ) → EndsLine (tokens ++ more) line rest → ⊥

-- The rest after a line is shorter than `n` bytes.
abbrev pub IsLessLine : ℕ → Line → Type 0
IsLessLine n (Whole line rest) = length rest.now < n
IsLessLine n (Open m) = ⊤
IsLessLine n Never = ⊤
