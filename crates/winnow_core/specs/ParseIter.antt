-- The runs of a parser over all of an input, one by one.
use Rattle.std.specs.Prelude.{◌≡◌, ℕ, [], Option, Some, None, Ok, Err, Result, ◌⊎◌, ⊤, length}
use Rattle.streams.specs.Input.{Ends, Input, Remaining}
use Rattle.streams.specs.Kind.{Kind}
use Rattle.streams.specs.Reading.{Reading}
use Rattle.winnow_core.specs.Chain.{IsItem}
use Rattle.winnow_core.specs.Runs.{Runs}
use Rattle.winnow_core.specs.declared.combinator.impls.parse_iter.ParseIter.{ParseIter}
use Rattle.winnow_core.specs.declared.combinator.impls.parse_iter.Unread.{Unread}
pub mod Inversion

-- The position of an iterator: the start of its input and the unread input, or ended.
pub data IterPosition (T : Type 0) : Type 0 where
  reads : Remaining T → Input T → IterPosition T
  ended : IterPosition T

-- The state of an iterator: the state of its parser, and its position.
pub record ParseIterState (S T : Type 0) : Type 0 where
  pub parser : S
  pub standing : IterPosition T

-- the position of an iterator, by its unread input
abbrev pub standing_by : {I C T : Type 0} → (I → Input T) → (C → Remaining T)
    → Option (Unread I C) → IterPosition T
standing_by view seen (Some unread) = reads (seen unread.start) (view unread.input)
standing_by view seen None = ended

-- An iterator: its parser, its stream, the output and the error, and then the types of the stream:
-- its tokens, what contracts see of one, its slices, its offsets and its checkpoints.

-- the state of an iterator
abbrev pub parse_iter_state : {P I O E K T L N C S : Type 0} → (P → S) → (I → Input T)
    → (C → Remaining T) → ParseIter P I O E K T L N C → ParseIterState S T
parse_iter_state state view seen s = record {
  parser = state s.parser.now;
  standing = standing_by view seen s.unread;
}

-- its position
abbrev pub parse_iter_standing : {P I O E K T L N C : Type 0} → (I → Input T)
    → (C → Remaining T) → ParseIter P I O E K T L N C → IterPosition T
parse_iter_standing view seen s = standing_by view seen s.unread

-- the parser that is run
abbrev pub parse_iter_parser : {P I O E K T L N C : Type 0} → ParseIter P I O E K T L N C → P
parse_iter_parser s = s.parser.now

-- which reference to a parser it has
abbrev pub parse_iter_name : {P I O E K T L N C : Type 0} → ParseIter P I O E K T L N C → ℕ
parse_iter_name s = s.parser.ghost_name

-- The unread input is a suffix of the input at the start.
abbrev pub IsReached : {T L : Type 0} → Reading T L → IterPosition T → Type 0
IsReached reading (reads start i) = Ends reading i.left start
IsReached reading ended = ⊤

-- how many tokens are left to be read
abbrev pub tokens_to_read : {T : Type 0} → IterPosition T → ℕ
tokens_to_read (reads start i) = length i.left.tokens
tokens_to_read ended = 0

-- Nothing is left to be read.
abbrev pub NothingToRead : {T : Type 0} → IterPosition T → Type 0
NothingToRead (reads start i) = i.left.tokens ≡ []
NothingToRead ended = ⊤

-- A run that ends an iterator, with the kind of its error.
abbrev pub EndsIter : {S T O : Type 0} → Runs S T O → Kind → S → Input T → Kind → S → Input T
    → Type 0
EndsIter {O = O} run assert_kind s i k t j =
    -- it fails
    run s i (Err k) t j
    -- it consumes nothing
    ⊎ ((o : O) × run s i (Ok o) t j × (j.left.tokens ≡ i.left.tokens) × (k ≡ assert_kind))

-- One call of an iterator: its item, if there is one, and its new state. Errors are given by the
-- start, the input at the error and the kind.
abbrev pub ParseIterNext : {S T O F : Type 0} → Runs S T O → Kind
    → (Remaining T → Input T → Kind → F → Type 0) → ParseIterState S T → Option (Result O F)
    → ParseIterState S T → Type 0
ParseIterNext {S} {T} {O} {F} run assert_kind is_fault s item t =
    -- the run succeeds and consumes: its output is the item
    ((start : Remaining T) × (i j : Input T) × (o : O) × (s.standing ≡ reads start i)
    × IsItem run (s.parser, i) o (t.parser, j) × (item ≡ Some (Ok o))
    × (t.standing ≡ reads start j))
    -- the run ends it: the item is the fault, whose place is counted from the start
    ⊎ (((start : Remaining T) × (i j : Input T) × (k : Kind) × (fault : F)
    × (s.standing ≡ reads start i) × (i.left.tokens ≡ [] → ⊥)
    × EndsIter run assert_kind s.parser i k t.parser j × is_fault start j k fault
    × (item ≡ Some (Err fault)) × (t.standing ≡ ended))
    -- nothing is left to be read: nothing is run
    ⊎ (NothingToRead s.standing × (item ≡ None) × (t.parser ≡ s.parser)
    × (t.standing ≡ ended)))
