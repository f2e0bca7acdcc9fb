-- Whole parses that record errors.
use Rattle.std.specs.Prelude.{◌≡◌, ◌⊎◌, List, [], ◌∷◌, ◌++◌, map, Option, Some, None, Ok, Err}
use Rattle.std.specs.Prelude.{Result, MatchResult}
use Rattle.std.specs.declared.vec.Vec.{Vec}
use Rattle.streams.specs.Input.{Input}
use Rattle.streams.specs.Kind.{Kind, backtrack, memory}
use Rattle.stream_errors.specs.Form.{Answer}
use Rattle.winnow_core.specs.CompleteErr.{complete_kind}
use Rattle.winnow_recovery.specs.declared.parser.NoMemory.{NoMemory}
pub mod Inversion

-- the stream that is returned if memory allocation failed
abbrev pub no_memory_input : {I : Type 0} → NoMemory I → I
no_memory_input refused = refused.0

-- A stream is back at its start, with the flag that it had there.
abbrev pub IsBack : {I T : Type 0} → (I → Input T) → Input T → I → Type 0
IsBack view start back =
    ((view back).left ≡ start.left) × ((view back).status.cut ≡ start.status.cut)

-- A stream is back at its start, and the errors are those that were recorded at `j`, in order.
abbrev pub ResetsWithErrors : {I T R : Type 0} → (I → Input T) → (R → Kind) → Input T → Input T → I
    → List R → Type 0
ResetsWithErrors view kind start j back errors =
    IsBack view start back × ((view back).status.recorded ++ map kind errors ≡ j.status.recorded)

-- Likewise, followed by the error of kind `k` that ended the parse.
abbrev pub ComesBackWith : {I T R : Type 0} → (I → Input T) → (R → Kind) → Input T → Input T
    → Kind → I → List R → Type 0
ComesBackWith {R = R} view kind start j k back errors =
    (earlier : List R) × (last : R) × (errors ≡ earlier ++ last ∷ []) × (kind last ≡ k)
    × ResetsWithErrors view kind start j back earlier

-- The result, where `ran` gives the results and the inputs with which the parser's call on all of
-- the input may end. It is the stream, the output, and the errors; or an allocation failure with
-- the stream.
abbrev pub RecoverableParses : {I T O R A : Type 0} → (I → Input T) → (R → Kind) → Input T
    → (Answer O → Input T → Type 0) → Result (I × Option O × Vec R A) (NoMemory I) → Type 0
RecoverableParses {I} {T} {O} view kind start ran result = MatchResult result
    (λ all.
    -- the run succeeds and leaves nothing
    ((o : O) × (j : Input T) × ran (Ok o) j × (j.left.tokens ≡ []) × (all.1 ≡ Some o)
    × ResetsWithErrors view kind start j all.0 all.2.items)
    -- it succeeds and leaves something: an error that backtracks is the last
    ⊎ (((o : O) × (j : Input T) × ran (Ok o) j × (j.left.tokens ≡ [] → ⊥) × (all.1 ≡ Some o)
    × ComesBackWith view kind start j backtrack all.0 all.2.items)
    -- it fails: its error is the last, and backtracks if it needs more than the complete input
    ⊎ ((k : Kind) × (j : Input T) × ran (Err k) j × (k ≡ memory → ⊥) × (all.1 ≡ None)
    × ComesBackWith view kind start j (complete_kind k) all.0 all.2.items)))
    (λ refused. IsBack view start (no_memory_input refused) × (
    -- the run is out of memory
    ((j : Input T) × ran (Err memory) j)
    -- or there is none for the error that ended the parse
    ⊎ (((o : O) × (j : Input T) × ran (Ok o) j × (j.left.tokens ≡ [] → ⊥))
    ⊎ ((k : Kind) × (j : Input T) × ran (Err k) j × (k ≡ memory → ⊥)))))
