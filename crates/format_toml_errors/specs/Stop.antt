-- The offset at which a text is no longer a prefix of a document, and what is expected there.
use Rattle.std.specs.Prelude.{◌≡◌, ◌⊎◌, ◌↔◌, ◌<◌, ◌≤◌, ◌+◌, ℕ, List, [], ◌∷◌, ◌++◌}
use Rattle.std.specs.Prelude.{length, ⊤, Bool, true, false, Option, Some, None}
use Rattle.std.specs.Str.{all_scalars, chars}
use Rattle.format_toml_errors.specs.Expected.{wanted, wanted_at}
use Rattle.format_toml_errors.specs.Steps.{next_step}
use Rattle.format_toml_errors.specs.Unclosed.{IsUnclosed, last_open, opened, others_open, text_of}
use Rattle.format_toml_errors.specs.declared.expected.Expected.{Expected}
use Rattle.format_toml_errors.specs.declared.expected.Expected.TheVariants as what
use Rattle.format_toml_errors.specs.declared.modes.Bracket.{Bracket}
use Rattle.format_toml_errors.specs.declared.modes.Mode.{Mode}
use Rattle.format_toml_errors.specs.declared.modes.Mode.TheVariants as modes
use Rattle.format_toml_errors.specs.declared.modes.Step.{Step}
use Rattle.format_toml_errors.specs.declared.modes.Step.TheVariants.{Closes, Ends, Goes, Opens}
use Rattle.format_toml_errors.specs.declared.modes.Step.TheVariants.{Invalid}
use Rattle.format_toml_errors.specs.declared.walk.Stop.{Stop}

-- ---- the walk

abbrev pub IsNextStep : (Mode → List Bracket → Type 0) → ℕ → List Bracket → Step → Type 0
IsNextStep on level held Invalid = ⊥
IsNextStep on level held (Goes mode) = on mode held
IsNextStep on level held (Opens bracket) =
    (length held < level) × on (opened bracket) (bracket ∷ held)
IsNextStep on level held Closes = on modes.After (others_open held)
IsNextStep on level held Ends = on modes.Line held

-- Each of the characters may occur where it does in a document of the level, where this is expected
-- in these brackets, that which was opened last first.
abbrev pub IsViablePrefix : ℕ → Mode → List Bracket → List ℕ → Type 0
IsViablePrefix level mode held [] = ⊤
IsViablePrefix level mode held (c ∷ tokens) =
    IsNextStep (λ m o. IsViablePrefix level m o tokens) level held
    (next_step mode (last_open held) c)

-- `MayBegin level tokens`: `tokens` is a possible prefix of a document.
abbrev pub MayBegin : ℕ → List ℕ → Type 0
MayBegin level tokens = IsViablePrefix level modes.Line [] tokens

-- ---- the offset

abbrev pub is_end : Step → Bool
is_end Ends = true
is_end step = false

-- A text may end where a line may.
abbrev pub ends_line : Mode → Option Bracket → Bool
ends_line mode held = is_end (next_step mode held 10)

-- `IsStopped level front rest`: no document begins with `front` and the next character of `rest`,
-- by the walk; or `rest` is empty.
abbrev pub IsStopped : ℕ → List ℕ → List ℕ → Type 0
IsStopped level front [] = ⊤
IsStopped level front (c ∷ rest) = MayBegin level (front ++ c ∷ []) → ⊥

-- `LeadsTo level front mode held`: after `front`, `mode` is expected in the brackets `held`.
-- Characters may follow `front` if and only if they may occur there.
abbrev pub LeadsTo : ℕ → List ℕ → Mode → List Bracket → Type 0
LeadsTo level front mode held =
    (more : List ℕ) → IsViablePrefix level mode held more ↔ MayBegin level (front ++ more)

-- `IsNamed level mode held rest expected`: `expected` is the name of `mode` in the brackets `held`,
-- and the text may not end there if it does. If the next character opens a bracket beyond `level`,
-- `expected` is `NoDeeper`.
abbrev pub IsNamed : ℕ → Mode → List Bracket → List ℕ → Expected → Type 0
IsNamed level mode held [] expected =
    (expected ≡ wanted mode (last_open held)) × (ends_line mode (last_open held) ≡ false)
IsNamed level mode held (c ∷ rest) expected =
    ((next_step mode (last_open held) c ≡ Invalid)
    × (expected ≡ wanted_at mode (last_open held) c))
    ⊎ ((k : Bracket) × (next_step mode (last_open held) c ≡ Opens k)
    × ((length held < level → ⊥) × (expected ≡ what.NoDeeper)))

abbrev pub IsWanted : ℕ → List ℕ → List ℕ → Expected → Type 0
IsWanted level front rest expected =
    (mode : Mode) × (held : List Bracket) × LeadsTo level front mode held
    × IsNamed level mode held rest expected

-- `At level mode held tokens`: each of the tokens may occur where it does, where `mode` is expected
-- in the brackets `held`, and a line may end after them.
abbrev pub At : ℕ → Mode → List Bracket → List ℕ → Type 0
At level mode held [] = ends_line mode (last_open held) ≡ true
At level mode held (c ∷ tokens) =
    IsNextStep (λ m o. At level m o tokens) level held (next_step mode (last_open held) c)

-- `IsAccepted level tokens`: each token may occur where it does, and the text may end after them.
abbrev pub IsAccepted : ℕ → List ℕ → Type 0
IsAccepted level tokens = At level modes.Line [] tokens

-- `IsCompletable level front`: the walk accepts some text that begins with `front`. The rest of it
-- has at most 16 characters more than `front`, all permitted by Unicode.
abbrev pub IsCompletable : ℕ → List ℕ → Type 0
IsCompletable level front =
    (more : List ℕ) × IsAccepted level (front ++ more) × (all_scalars more ≡ true)
    × (length more ≤ length front + 16)

-- `StopsAt level tokens rest expected`: the first token with which no document continues is the
-- first of `rest`, and this is expected instead; or all are a prefix of one and not one.
abbrev pub StopsAt : ℕ → List ℕ → List ℕ → Expected → Type 0
StopsAt level tokens rest expected =
    (front : List ℕ) × (tokens ≡ front ++ rest) × IsCompletable level front
    × IsStopped level front rest × IsWanted level front rest expected

abbrev pub IsStopIn : ℕ → List ℕ → Option Stop → Type 0
IsStopIn level tokens None = IsAccepted level tokens
IsStopIn level tokens (Some stop) =
    StopsAt level tokens (chars stop.rest.now) stop.expected
    × IsUnclosed tokens (chars stop.rest.now) (text_of stop.unclosed)
