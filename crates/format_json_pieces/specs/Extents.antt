-- The scanner for the end of a value: the bytes passed, and the results. All of it is by the walk
-- of `Begun.antt`.
use Rattle.std.specs.Prelude.{◌≡◌, ◌≤◌, ◌<◌, ◌+◌, ◌⊎◌, ◌==◌, if◌then◌else◌}
use Rattle.std.specs.Prelude.{ℕ, zero, suc, List}
use Rattle.std.specs.Prelude.{[], ◌∷◌, ◌++◌, get_or, length, Option, Some, None, Result, Ok, Err}
use Rattle.std.specs.Prelude.{set, ⊤}
use Rattle.std.specs.List.{All}
use Rattle.format_json_extents.specs.Strings.{IsUnescaped}
use Rattle.format_json_extents.specs.Texts.{MatchesAtStart}
use Rattle.format_json_extents.specs.Value.{IsWhitespace}
use Rattle.format_json_pieces.specs.Begun.{HoldsAfterStep, IsViablePrefix, last_open, next_step}
use Rattle.format_json_pieces.specs.declared.begun.Bracket.{Bracket}
use Rattle.format_json_pieces.specs.declared.begun.Bracket.TheVariants as kinds
use Rattle.format_json_pieces.specs.declared.begun.Mode.{Mode}
use Rattle.format_json_pieces.specs.declared.begun.Mode.TheVariants as modes
use Rattle.format_json_pieces.specs.declared.begun.Step.{Step}
use Rattle.format_json_pieces.specs.declared.begun.Step.TheVariants as steps
use Rattle.format_json_pieces.specs.declared.extent.Invalid.{Invalid}
use Rattle.format_json_pieces.specs.declared.extent.Reason.{Reason}
use Rattle.format_json_pieces.specs.declared.extent.Reason.TheVariants as reasons
use Rattle.format_json_pieces.specs.declared.extent.Turn.{Turn}
use Rattle.format_json_pieces.specs.declared.extent.Turn.TheVariants as turns
use Rattle.format_json_pieces.specs.declared.extent.ValueExtent.{ValueExtent}
use Rattle.format_json_pieces.specs.declared.inside.Part.{Part}
use Rattle.format_json_pieces.specs.declared.inside.Part.TheVariants as parts

-- ---- the walk to a state, and to the end of a value

-- `IsWalkedTo level mode held bytes last inner`: the walk over all of `bytes` stays in a value, and
-- then `last` is expected in the brackets `inner`. At first `mode` is expected in `held`.
abbrev pub IsWalkedTo : ℕ → Mode → List Bracket → List ℕ → Mode → List Bracket → Type 0
IsWalkedTo level mode held [] last inner = (mode ≡ last) × (held ≡ inner)
IsWalkedTo level mode held (b ∷ bytes) last inner =
    HoldsAfterStep ⊥ ⊥ (λ m o. IsWalkedTo level m o bytes last inner) level held
    (next_step mode (last_open held) b)

-- `EndsBefore level mode held bytes rest`: the walk over `bytes` comes to the end of the value, and
-- `rest` remains. A number ends before a byte that cannot continue it, other values with their last
-- byte.
abbrev pub EndsBefore : ℕ → Mode → List Bracket → List ℕ → List ℕ → Type 0
EndsBefore level mode held [] rest = ⊥
EndsBefore level mode held (b ∷ bytes) rest =
    HoldsAfterStep (b ∷ bytes ≡ rest) (bytes ≡ rest) (λ m o. EndsBefore level m o bytes rest)
    level held
    (next_step mode (last_open held) b)

-- ---- the open brackets, as bytes

-- the bracket that a byte opens
abbrev pub bracket_at : ℕ → Bracket
bracket_at b = if b == 91 then kinds.Array else if b == 123 then kinds.Object else kinds.Whole

-- the byte that opens a bracket
abbrev pub byte_of : Bracket → ℕ
byte_of kinds.Array = 91
byte_of kinds.Object = 123
byte_of kinds.Whole = 0

-- `brackets_in opened depth`: the brackets that the first `depth` bytes of `opened` open, the last
-- one first
abbrev pub brackets_in : List ℕ → ℕ → List Bracket
brackets_in opened zero = []
brackets_in opened (suc n) = bracket_at (get_or opened n 0) ∷ brackets_in opened n

-- ---- an extent

-- `Walked extent opened bytes left`: the walk has come to the state of the extent after a prefix of
-- `bytes`, and `left` remains. `opened` has the open brackets, and a byte for each level of the
-- limit.
pub record Walked (extent : ValueExtent) (opened bytes left : List ℕ) : Type 0 where
  pub front : List ℕ
  pub splits : bytes ≡ front ++ left
  pub few : extent.depth ≤ length opened
  pub leads : IsWalkedTo (length opened) modes.Value [] front extent.mode
      (brackets_in opened extent.depth)

-- `IsExtentOf extent opened bytes`: the extent, with the open brackets, is of a prefix of `bytes`.
abbrev pub IsExtentOf : ValueExtent → List ℕ → List ℕ → Type 0
IsExtentOf extent opened bytes =
    (left : List ℕ) × Walked extent opened bytes left × (extent.passed + length left ≡ length bytes)

-- nothing is passed
abbrev pub IsNew : ValueExtent → Type 0
IsNew extent = (extent.passed ≡ 0) × (extent.depth ≡ 0) × (extent.mode ≡ modes.Value)

-- ---- results

-- `EndsAt level bytes n`: the first `n` bytes are a value, after whitespace, and the value ends
-- there.
abbrev pub EndsAt : ℕ → List ℕ → ℕ → Type 0
EndsAt level bytes n =
    (front : List ℕ) × (rest : List ℕ) × (bytes ≡ front ++ rest) × (length front ≡ n)
    × EndsBefore level modes.Value [] bytes rest

-- `EndsNowhere level bytes`: the bytes do not have the end of a value.
abbrev pub EndsNowhere : ℕ → List ℕ → Type 0
EndsNowhere level bytes = (rest : List ℕ) → EndsBefore level modes.Value [] bytes rest → ⊥

-- `Begins level bytes`: `bytes` is a possible prefix of whitespace and a value, or has both.
abbrev pub Begins : ℕ → List ℕ → Type 0
Begins level bytes = IsViablePrefix level modes.Value [] bytes

-- `IsReason level bytes reason`: why `bytes` do not begin a value, as all but the last do. At no
-- level do they; or one level more would do.
abbrev pub IsReason : ℕ → List ℕ → Reason → Type 0
IsReason level bytes reasons.Malformed = (deep : ℕ) → Begins deep bytes → ⊥
IsReason level bytes reasons.TooDeep = (Begins level bytes → ⊥) × Begins (suc level) bytes
IsReason level bytes reasons.Unfinished = ⊥

-- `IsRejected level bytes invalid`: the bytes before the offset begin a value, and do not with the
-- byte there.
abbrev pub IsRejected : ℕ → List ℕ → Invalid → Type 0
IsRejected level bytes invalid =
    (front : List ℕ) × (b : ℕ) × (rest : List ℕ) × (bytes ≡ front ++ b ∷ rest)
    × (length front ≡ invalid.offset) × Begins level front
    × IsReason level (front ++ b ∷ []) invalid.reason

-- The result for bytes that more may follow: the length of the whitespace and the value at the
-- start; or `None`, if they can continue to a value; or the first byte with which they cannot.
abbrev pub ExtentResult : ℕ → List ℕ → Result (Option ℕ) Invalid → Type 0
ExtentResult level bytes (Ok (Some n)) = EndsAt level bytes n
ExtentResult level bytes (Ok None) = Begins level bytes × EndsNowhere level bytes
ExtentResult level bytes (Err invalid) = IsRejected level bytes invalid

-- The value ends at the end of complete input as it does before a space.
abbrev pub EndsWhole : ℕ → List ℕ → ℕ → Type 0
EndsWhole level bytes n = (n ≤ length bytes) × EndsAt level (bytes ++ 32 ∷ []) n

-- The input ends in a value.
abbrev pub IsUnfinished : ℕ → List ℕ → Invalid → Type 0
IsUnfinished level bytes invalid =
    (invalid.reason ≡ reasons.Unfinished) × (invalid.offset ≡ length bytes) × Begins level bytes
    × ((n : ℕ) → EndsWhole level bytes n → ⊥) × (IsWhitespace bytes → ⊥)

-- The result for complete input: the length of the whitespace and the value at the start; or `None`
-- if the bytes are whitespace; or an error.
abbrev pub WholeResult : ℕ → List ℕ → Result (Option ℕ) Invalid → Type 0
WholeResult level bytes (Ok (Some n)) = EndsWhole level bytes n
WholeResult level bytes (Ok None) = IsWhitespace bytes
WholeResult level bytes (Err invalid) =
    IsRejected level bytes invalid ⊎ IsUnfinished level bytes invalid

-- the length or the offset is at most `n`
abbrev pub Within : ℕ → Result (Option ℕ) Invalid → Type 0
Within n (Ok (Some length)) = length ≤ n
Within n (Ok None) = ⊤
Within n (Err invalid) = invalid.offset ≤ n

-- ---- one byte

-- a bracket is opened; or as many are open as the limit permits
abbrev pub IsOpened : ValueExtent → List ℕ → Bracket → ValueExtent → List ℕ → Turn → Type 0
IsOpened old opened bracket new others turns.Goes =
    (old.depth < length opened) × (others ≡ set opened old.depth (byte_of bracket))
    × (new.depth ≡ suc old.depth) × (new.mode ≡ modes.First)
IsOpened old opened bracket new others (turns.Never reason) =
    (length opened ≤ old.depth) × (reason ≡ reasons.TooDeep)
IsOpened old opened bracket new others turns.Ended = ⊥
IsOpened old opened bracket new others turns.Ends = ⊥

-- a value ends in a bracket; or in none
abbrev pub IsClosed : ℕ → ValueExtent → Turn → Type 0
IsClosed depth new turns.Goes = (0 < depth) × (new.depth ≡ depth) × (new.mode ≡ modes.After)
IsClosed depth new turns.Ends = depth ≡ 0
IsClosed depth new turns.Ended = ⊥
IsClosed depth new (turns.Never reason) = ⊥

-- the reason why a byte with this step is rejected
abbrev pub IsRejectedStep : ValueExtent → List ℕ → Step → Reason → Type 0
IsRejectedStep old opened step reasons.Malformed = step ≡ steps.Invalid
IsRejectedStep old opened step reasons.TooDeep =
    (bracket : Bracket) × (step ≡ steps.Opens bracket) × (length opened ≤ old.depth)
IsRejectedStep old opened step reasons.Unfinished = ⊥

-- the effect of a byte
abbrev pub IsTurn : ValueExtent → List ℕ → ℕ → ValueExtent → List ℕ → Turn → Type 0
IsTurn old opened b new others turns.Goes =
    (length others ≡ length opened) × (new.depth ≤ length opened)
    × IsWalkedTo (length opened) old.mode (brackets_in opened old.depth) (b ∷ []) new.mode
    (brackets_in others new.depth)
IsTurn old opened b new others turns.Ended =
    next_step old.mode (last_open (brackets_in opened old.depth)) b ≡ steps.Ended
IsTurn old opened b new others turns.Ends =
    EndsBefore (length opened) old.mode (brackets_in opened old.depth) (b ∷ []) []
IsTurn old opened b new others (turns.Never reason) =
    IsRejectedStep old opened (next_step old.mode (last_open (brackets_in opened old.depth)) b)
    reason

-- ---- bytes of strings

-- a byte that stands for itself, in ASCII
abbrev pub IsPlain : ℕ → Type 0
IsPlain b = IsUnescaped b × (b < 128)

-- Plain bytes are skipped where any character is expected, and no bytes elsewhere.
abbrev pub SkipsIn : Part → List ℕ → List ℕ → Type 0
SkipsIn part bytes rest =
    ((part ≡ parts.Plain) × MatchesAtStart (All IsPlain) bytes rest) ⊎ (bytes ≡ rest)

-- Bytes are skipped that leave the state as it is.
abbrev pub SkipsPlain : Mode → List ℕ → List ℕ → Type 0
SkipsPlain mode bytes rest =
    (front : List ℕ) × (bytes ≡ front ++ rest)
    × ((level : ℕ) (held : List Bracket) → IsWalkedTo level mode held front mode held)
