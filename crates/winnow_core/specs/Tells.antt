-- The contracts of calls, by the definition of the parser.
use Rattle.std.specs.Prelude.{◌≡◌, ◌+◌, ℕ, List, [], Result, Ok, Err}
use Rattle.streams.specs.Input.{Input}
use Rattle.streams.specs.Kind.{Kind, backtrack}
use Rattle.streams.specs.Reading.{Reading}
use Rattle.streams.specs.declared.needed.Needed.{Needed}
use Rattle.stream_errors.specs.Fault.{refused_inner, refused_offset}
use Rattle.stream_errors.specs.Form.{Answer, ErrorForm}
use Rattle.stream_errors.specs.declared.fault.ParseFault.{ParseFault}
use Rattle.stream_errors.specs.declared.fault.ParseFault.TheVariants.{Invalid, Incomplete}
use Rattle.parser_definitions.specs.Does.{Ran}
use Rattle.parser_definitions.specs.Left.{End, left_of}
use Rattle.parser_definitions.specs.Outcome.{Alike, Does, Outcome, asks, backs, cuts, outcome_of}
use Rattle.parser_definitions.specs.Outcome.{setting_of, took, wants}
use Rattle.winnow_core.specs.Exact.Whole.{IsWant}

-- The call has an outcome of the definition, and no other.
pub record Tells {S T L O : Type 0} (reading : Reading T L) (alike : O → O → Type 0)
    (does : Does S T O) (form : ErrorForm) (s : S) (i : Input T) (answer : Answer O) (t : S)
    (j : Input T) : Type 0 where
  pub ran : Ran reading does form s i answer t j
  pub only : (y : Outcome (End S T) O) → does (setting_of form i) s (left_of i) y
      → Alike alike (outcome_of answer (t, left_of j)) y

-- ---- all of an input

-- `fault` is at the offset in `tokens` at which `rest` begins, in units; its inner error is a
-- backtrack.
abbrev pub IsFaultBefore : {I T X : Type 0} → (List T → ℕ) → (X → Kind) → List T → List T
    → ParseFault I X Needed → Type 0
IsFaultBefore units inner_kind tokens rest (Invalid e) =
    (refused_offset e + units rest ≡ units tokens) × (inner_kind (refused_inner e) ≡ backtrack)
IsFaultBefore units inner_kind tokens rest (Incomplete needed) = ⊥

-- A parse of all of `tokens` from a state that becomes `t` returns `result` by this outcome of its
-- parser: an output that leaves nothing, or an error where the parser failed, or where the output
-- left something.
abbrev pub IsParseOf : {I S T O X : Type 0} → (List T → ℕ) → (X → Kind) → List T
    → Outcome (End S T) O → S → Result O (ParseFault I X Needed) → Type 0
IsParseOf units inner_kind tokens (took o end) t (Ok p) =
    (o ≡ p) × (end.1.tokens ≡ []) × (t ≡ end.0)
IsParseOf units inner_kind tokens (took o end) t (Err fault) =
    (end.1.tokens ≡ [] → ⊥) × IsFaultBefore units inner_kind tokens end.1.tokens fault
    × (t ≡ end.0)
IsParseOf units inner_kind tokens (backs end) t (Ok p) = ⊥
IsParseOf units inner_kind tokens (backs end) t (Err fault) =
    IsFaultBefore units inner_kind tokens end.1.tokens fault × (t ≡ end.0)
IsParseOf units inner_kind tokens (cuts end) t (Ok p) = ⊥
IsParseOf units inner_kind tokens (cuts end) t (Err fault) =
    IsFaultBefore units inner_kind tokens end.1.tokens fault × (t ≡ end.0)
IsParseOf units inner_kind tokens (asks need end) t result = ⊥
IsParseOf units inner_kind tokens wants t (Ok p) = ⊥
IsParseOf units inner_kind tokens wants t (Err fault) = IsWant inner_kind fault

-- The parser has an outcome on the input, no other, and `result` is the parse by it.
pub record TellsAll {I S T O X : Type 0} (units : List T → ℕ) (inner_kind : X → Kind)
    (alike : O → O → Type 0) (does : Does S T O) (form : ErrorForm) (s : S) (i : Input T) (t : S)
    (result : Result O (ParseFault I X Needed)) : Type 0 where
  pub outcome : Outcome (End S T) O
  pub told : does (setting_of form i) s (left_of i) outcome
  pub only : (y : Outcome (End S T) O) → does (setting_of form i) s (left_of i) y
      → Alike alike outcome y
  pub parsed : IsParseOf units inner_kind i.left.tokens outcome t result
