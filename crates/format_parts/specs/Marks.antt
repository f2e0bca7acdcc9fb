-- Items between marks, by the grammars of their parts, and their results by equal grammars.
use Rattle.std.specs.Prelude.{◌≡◌, List, None, Result}
use Rattle.std.specs.declared.vec.Vec.{Vec}
use Rattle.format_parts.specs.Words.{latter, pair}
use Rattle.stream_errors.specs.Form.{Answer, ErrorForm}
use Rattle.stream_sets.specs.Accumulator.{list_kept}
use Rattle.stream_sets.specs.declared.range.Range.{Range}
use Rattle.streams.specs.Input.{Input}
use Rattle.streams.specs.Reading.{Reading}
use Rattle.parser_definitions.specs.Both.{BothDo}
use Rattle.parser_definitions.specs.Does.{Ran}
use Rattle.parser_definitions.specs.Outcome.{Does}
use Rattle.parser_definitions.specs.Separated.{SeparatedDoes}
use Rattle.parser_definitions.specs.Sequence.{DelimitedDoes}
use Rattle.streams.specs.declared.needed.Needed.{Needed}
use Rattle.stream_errors.specs.declared.fault.ParseFault.{ParseFault}
use Rattle.winnow_core.specs.Exact.Whole.{ReadsAll}
use Rattle.grammars.specs.Grammar.{Both, Gathered, Grammar, Parted, Three}
use Rattle.streams.specs.Kind.{Kind}
use Rattle.stream_sets.specs.Range.{from_to}

module _ {T M W A : Type 0} where
  -- Items with a mark between each two of them, between two others. Whitespace follows the first
  -- mark, and the marks between items.
  abbrev pub Items : {O : Type 0} → Grammar T O → Grammar T M → Grammar T M → Grammar T M
      → Grammar T W → Grammar T (Vec O A)
  Items {O} item opening comma closing gap =
      Three (λ _ o _. o) (Both pair opening gap)
      (Gathered (λ (list : Vec O A) os. list.items ≡ os)
      (Parted item (Both pair comma gap) (from_to 0 None))) closing

-- A call of these parts in sequence: the first mark and whitespace, items with a mark and
-- whitespace between each two, and the last mark. It starts in the states of the item, the three
-- marks and whitespace.
pub record ItemsRan {S M W T L O N D A : Type 0} (reading : Reading T L) (form : ErrorForm)
    (item : Does S T O) (mark : Does M T N) (gap : Does W T D) (s : S × M × M × M × W)
    (i : Input T) (answer : Answer (Vec O A)) (j : Input T) : Type 0 where
  -- the states of the parts after the call
  pub after : (M × W) × (S × (M × W) × Range) × M
  pub ran : Ran reading (DelimitedDoes (BothDo pair mark gap)
      (SeparatedDoes list_kept item (BothDo pair mark gap)) mark) form
      ((s.1, s.4), (s.0, (s.2, s.4), record { start_inclusive = 0; end_inclusive = None }), s.3) i
      answer after j

-- The first mark, whitespace and an item.
abbrev pub FirstItem : {T M W O : Type 0} → Grammar T O → Grammar T M → Grammar T W → Grammar T O
FirstItem item opening gap = Both latter (Both pair opening gap) item

pub three_by : {T O1 O2 O3 O : Type 0} (output : O1 → O2 → O3 → O) {f1 g1 : Grammar T O1}
    {f2 g2 : Grammar T O2} {f3 g3 : Grammar T O3} → f1 ≡ g1 → f2 ≡ g2 → f3 ≡ g3
    → Three output f1 f2 f3 ≡ Three output g1 g2 g3
three_by output first second third = rw (first, second, third)

-- what all tokens are by a grammar they are by one that is the same
pub reads_all_by : {I T O X : Type 0} {inner_kind : X → Kind} {g h : Grammar T O} {tokens : List T}
    {result : Result O (ParseFault I X Needed)} → ReadsAll inner_kind g tokens result → g ≡ h
    → ReadsAll inner_kind h tokens result
reads_all_by {I} {T} {O} {X} {inner_kind} {g} {h} {tokens} {result} r e = rw e at r
