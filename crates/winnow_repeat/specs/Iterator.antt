-- The runs of a parser, one by one.
use Rattle.std.specs.Prelude.{◌≡◌, ◌<◌, ℕ, length, Option, Some, None, Ok, Err, ◌⊎◌, ⊤}
use Rattle.streams.specs.Input.{Input, back_at}
use Rattle.streams.specs.Kind.{Kind, backtrack}
use Rattle.stream_errors.specs.Form.{Answer}
use Rattle.winnow_core.specs.Runs.{Runs}
use Rattle.winnow_repeat.specs.declared.combinator.impls.iterator.ParserIterator.{ParserIterator}
use Rattle.winnow_repeat.specs.declared.combinator.impls.iterator.Progress.{Progress}
use Rattle.winnow_repeat.specs.declared.combinator.impls.iterator.Progress.TheVariants.{
  Running,
  Done,
  Stopped,
}
pub mod Inversion

-- The status of an iterator: it is running, its parser backtracked, or an error of this kind
-- stopped it.
pub data IteratorStatus : Type 0 where
  running : IteratorStatus
  done : IteratorStatus
  stopped : Kind → IteratorStatus

-- The state of an iterator: the state of its parser, its input, and its status.
pub record IteratorState (S T : Type 0) : Type 0 where
  pub parser : S
  pub input : Input T
  pub standing : IteratorStatus

-- the progress of an iterator, with its error seen by kind
abbrev pub standing_by : {E : Type 0} → (E → Kind) → Progress E → IteratorStatus
standing_by kind Running = running
standing_by kind Done = done
standing_by kind (Stopped e) = stopped (kind e)

-- the state of an iterator
abbrev pub iterator_state : {P I O E S T : Type 0} → (P → S) → (I → Input T) → (E → Kind)
    → ParserIterator P I O E → IteratorState S T
iterator_state state view kind s = record {
  parser = state s.parser;
  input = view s.input.now;
  standing = standing_by kind s.progress;
}

-- whether it gives more items
abbrev pub iterator_standing : {P I O E : Type 0} → (E → Kind) → ParserIterator P I O E
    → IteratorStatus
iterator_standing kind s = standing_by kind s.progress

-- the parser that is run
abbrev pub iterator_parser : {P I O E : Type 0} → ParserIterator P I O E → P
iterator_parser s = s.parser

-- the stream that it runs on
abbrev pub iterator_input : {P I O E : Type 0} → ParserIterator P I O E → I
iterator_input s = s.input.now

-- which reference to a stream it has
abbrev pub iterator_input_name : {P I O E : Type 0} → ParserIterator P I O E → ℕ
iterator_input_name s = s.input.ghost_name

-- A call that stops a running iterator.
abbrev pub IteratorStops : {S T O : Type 0} → Runs S T O → Kind → IteratorState S T
    → IteratorState S T → Type 0
IteratorStops {S} {T} {O} run assert_kind s t =
    -- the parser backtracks, and the input goes back before that run
    ((m : Input T) × run s.parser s.input (Err backtrack) t.parser m
    × (t.input ≡ back_at s.input.left m) × (t.standing ≡ done))
    -- it fails by another kind
    ⊎ (((k : Kind) × run s.parser s.input (Err k) t.parser t.input × (k ≡ backtrack → ⊥)
    × (t.standing ≡ stopped k))
    -- it consumes nothing
    ⊎ ((o : O) × run s.parser s.input (Ok o) t.parser t.input
    × (t.input.left.tokens ≡ s.input.left.tokens) × (t.standing ≡ stopped assert_kind)))

-- One call of an iterator: the item that it gives, if it gives one, and what becomes of it.
abbrev pub IteratorNext : {S T O : Type 0} → Runs S T O → Kind → IteratorState S T → Option O
    → IteratorState S T → Type 0
IteratorNext {S} {T} {O} run assert_kind s item t =
    -- the parser succeeds and consumes: its output is the item
    ((o : O) × (s.standing ≡ running) × run s.parser s.input (Ok o) t.parser t.input
    × (length t.input.left.tokens < length s.input.left.tokens) × (item ≡ Some o)
    × (t.standing ≡ running))
    -- the one run stops it
    ⊎ (((s.standing ≡ running) × IteratorStops run assert_kind s t × (item ≡ None))
    -- it had been stopped: nothing is run
    ⊎ ((s.standing ≡ running → ⊥) × (item ≡ None) × (t ≡ s)))

-- The result of `finish`: the error that stopped the iterator, if there is one.
abbrev pub finish_answer : IteratorStatus → Answer ⊤
finish_answer running = Ok tt
finish_answer done = Ok tt
finish_answer (stopped k) = Err k
