-- Laws of elements with separators.
use Rattle.std.specs.List.{FoldsTo}
use Rattle.std.specs.Prelude.{◌≡◌, ◌≤◌, List, Some, None, ◌⊎◌}
use Rattle.stream_sets.specs.Accumulator.{Accumulator}
use Rattle.stream_sets.specs.declared.range.Range.{Range}
use Rattle.parser_definitions.specs.Left.{End, Left, back}
use Rattle.parser_definitions.specs.Link.{Link}
use Rattle.parser_definitions.specs.Outcome.{Does, Setting, backs, took}

-- No element: the first backtracked, and the input is back before it.
pub record NoElement {S W T O C : Type 0} (element : Does S T O) (into : Accumulator C O)
    (at : Setting) (s : S × W) (w : Left T) (all : C) (end : End (S × W) T) : Type 0 where
  -- where the element that backtracked left the input
  pub last : Left T
  pub starts : into.starts None all
  pub ended : element at s.0 w (backs (end.0.0, last))
  pub kept : end.0.1 ≡ s.1
  pub reset : end.1 ≡ back w last

-- One element or more: links follow the first, until one backtracked; and the input is back before
-- that link.
pub record SomeElements {S W T O D C : Type 0} (element : Does S T O) (separator : Does W T D)
    (into : Accumulator C O) (at : Setting) (s : S × W) (w : Left T) (all : C)
    (end : End (S × W) T) : Type 0 where
  pub first : O
  -- where the first element ended
  pub start : End S T
  pub ran : element at s.0 w (took first start)
  pub empty : C
  pub one : C
  pub starts : into.starts None empty
  pub takes_first : into.takes empty first one
  -- the elements of the links
  pub outputs : List O
  -- where the last of them ended
  pub place : End (S × W) T
  pub links : FoldsTo
      (λ p o q. Link (λ d o. o) element separator at p.0 p.1 (took (Some o) q))
      ((start.0, s.1), start.1) outputs place
  -- where the link that backtracked left the input
  pub last : Left T
  pub ended : Link (λ d o. o) element separator at place.0 place.1 (backs (end.0, last))
  pub takes : FoldsTo into.takes one outputs all
  pub reset : end.1 ≡ back place.1 last

-- The elements that are returned for the ranges `0..` and `1..`. Either there are no elements and
-- none is required: the first backtracked, and the input is reset to its start. Or they are the
-- first and the elements of consecutive links after it, as the accumulator took them. After the
-- last link a separator backtracked, or an element after a separator that consumed input, and the
-- input is reset to the start of that separator.
abbrev pub LeavesTheSeparator : {S W T O D C : Type 0} → Does S T O → Does W T D
    → Accumulator C O → Does (S × W × Range) T C → Type 0
LeavesTheSeparator {S} {W} {T} {O} {D} {C} element separator into elements =
    (at : Setting) (s : S × W × Range) (w : Left T) (all : C) (t : S × W × Range) (end : Left T)
    → s.2.end_inclusive ≡ None → s.2.start_inclusive ≤ 1 → elements at s w (took all (t, end))
    → ((s.2.start_inclusive ≡ 0)
    × NoElement element into at (s.0, s.1) w all ((t.0, t.1), end))
    ⊎ SomeElements element separator into at (s.0, s.1) w all ((t.0, t.1), end)
