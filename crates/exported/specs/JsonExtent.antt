-- The search for the end of a JSON value in partial input.
use Rattle.std.specs.Prelude.{◌≡◌, ◌++◌, ℕ, List, [], ◌∷◌, get_or, length}
use Rattle.std.specs.Prelude.{Option, None, Some, Result, Ok, Err}
use Rattle.format_json_pieces.specs.Extents.{ExtentResult, IsExtentOf}
use Rattle.format_json_pieces.specs.declared.begun.Mode.{Mode}
use Rattle.format_json_pieces.specs.declared.begun.Mode.TheVariants as modes
use Rattle.format_json_pieces.specs.declared.extent.Invalid.{Invalid}
use Rattle.format_json_pieces.specs.declared.extent.Reason.{Reason}
use Rattle.format_json_pieces.specs.declared.extent.Reason.TheVariants as reasons
use Rattle.format_json_pieces.specs.declared.extent.ValueExtent.{ValueExtent}
use Rattle.format_json_pieces.specs.declared.inside.Figure.{Figure}
use Rattle.format_json_pieces.specs.declared.inside.Figure.TheVariants as figures
use Rattle.format_json_pieces.specs.declared.inside.Letters.{Letters}
use Rattle.format_json_pieces.specs.declared.inside.Letters.TheVariants as letters
use Rattle.format_json_pieces.specs.declared.inside.Part.{Part}
use Rattle.format_json_pieces.specs.declared.inside.Part.TheVariants as parts
use Rattle.exported.specs.Code.{done, incomplete, invalid, too_deep}
use Rattle.exported.specs.Turns.{CallsFrom}
use Rattle.exported.specs.declared.json.extent.JsonValueState.{JsonValueState}

-- ---- states as numbers

-- the parts in the order of their numbers, without the last
abbrev pub part_at : ℕ → Part
part_at n = get_or
    (parts.Plain ∷ parts.Escape ∷ parts.Unit ∷ parts.AfterSurrogateD ∷ parts.Three ∷ parts.Two ∷
    parts.One
    ∷ parts.HighTwo ∷ parts.HighOne ∷ parts.Backslash ∷ parts.LetterU ∷ parts.LowD
    ∷ parts.LowSecond ∷ parts.TailOne ∷ parts.TailTwo ∷ parts.TailThree ∷ parts.TailLong
    ∷ parts.TailScalar ∷ parts.TailLonger ∷ []) n parts.TailLast

abbrev pub figure_at : ℕ → Figure
figure_at n = get_or
    (figures.Minus ∷ figures.Zero ∷ figures.Whole ∷ figures.Point ∷ figures.Fraction
    ∷ figures.Exponent ∷ figures.Sign ∷ []) n figures.Power

abbrev pub letters_at : ℕ → Letters
letters_at n = get_or
    (letters.Ull ∷ letters.Ll ∷ letters.L ∷ letters.Rue ∷ letters.Ue ∷ letters.E ∷ letters.Alse
    ∷ letters.Lse ∷ []) n letters.Se

-- the expected input, from its number and that of its part
abbrev pub mode_at : ℕ → ℕ → Mode
mode_at mode part = get_or
    (modes.Value ∷ modes.First ∷ modes.Item ∷ modes.Colon ∷ modes.After
    ∷ modes.Name (part_at part) ∷ modes.Text (part_at part) ∷ modes.Number (figure_at part) ∷ [])
    mode (modes.Word (letters_at part))

-- The extent that a state represents.
abbrev pub value_extent_of : JsonValueState → ValueExtent
value_extent_of s = record { passed = s.passed; depth = s.depth; mode = mode_at s.mode s.part }

-- the state of zeros
abbrev pub nothing : JsonValueState
nothing = record { passed = 0; depth = 0; mode = 0; part = 0 }

-- ---- results as codes

-- the code of a reason
abbrev pub IsCodeFor : Reason → ℕ → Type 0
IsCodeFor reasons.Malformed code = code ≡ invalid
IsCodeFor reasons.TooDeep code = code ≡ too_deep
IsCodeFor reasons.Unfinished code = code ≡ invalid

-- `IsToldBy none answer code out`: a result as a code and a number; `none` is the code of no value
abbrev pub IsToldBy : ℕ → Result (Option ℕ) Invalid → ℕ → ℕ → Type 0
IsToldBy none (Ok (Some length)) code out = (code ≡ done) × (out ≡ length)
IsToldBy none (Ok None) code out = (code ≡ none) × (out ≡ 0)
IsToldBy none (Err rejected) code out = IsCodeFor rejected.reason code × (out ≡ rejected.offset)

-- `TellsBy holds none code out`: the result for which `holds` is true, by its code. `done`: the
-- length `out`. `none`: no value. `too_deep` and `invalid`: an error at `out`, with the reason
-- `TooDeep` or another.
pub record TellsBy (holds : Result (Option ℕ) Invalid → Type 0) (none code out : ℕ) : Type 0 where
  pub ends : code ≡ done → holds (Ok (Some out))
  pub lacks : code ≡ none → holds (Ok None)
  pub never : code ≡ invalid → (reason : Reason) × (reason ≡ reasons.TooDeep → ⊥)
      × holds (Err (record { reason = reason; offset = out }))
  pub deep : code ≡ too_deep
      → holds (Err (record { reason = reasons.TooDeep; offset = out }))

-- ---- calls

-- a state and the open brackets
abbrev pub IsOfBoth : JsonValueState × List ℕ → List ℕ → Type 0
IsOfBoth (state, opened) bytes = IsExtentOf (value_extent_of state) opened bytes

-- The result of a call on `bytes`, and a state of `bytes`, for any continuation.
pub record TellsValue (level : ℕ) (bytes : List ℕ) (code out : ℕ)
    (next : JsonValueState × List ℕ) : Type 0 where
  pub told : TellsBy (ExtentResult level bytes) incomplete code out
  pub kept : (more : List ℕ) → IsOfBoth next (bytes ++ more)

-- Successive calls that all return `incomplete`.
abbrev pub ValueCalls : ℕ → JsonValueState × List ℕ → List ℕ → List (List ℕ)
    → JsonValueState × List ℕ → Type 0
ValueCalls level state bytes pieces last =
    CallsFrom IsOfBoth (TellsValue level) state bytes pieces last
