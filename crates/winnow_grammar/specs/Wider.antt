-- Equal results on longer input, for a weaker equality of outputs.
use Rattle.streams.specs.Input.{Input}
use Rattle.stream_errors.specs.Form.{Answer}
use Rattle.parser_definitions.specs.Left.{End, extend, left_of}
use Rattle.parser_definitions.specs.Outcome.{alike_wider, outcome_of}
use Rattle.winnow_core.specs.Longer.{SameOnLonger}
use Rattle.winnow_core.specs.Runs.{Runs}

pub same_wider : {S T O : Type 0} {run : Runs S T O} {alike also : O → O → Type 0} {s : S}
    {i : Input T} {answer : Answer O} {t : S} {j : Input T} → ((o p : O) → alike o p → also o p)
    → SameOnLonger run alike s i answer t j → SameOnLonger run also s i answer t j
same_wider {S} {T} {also = also} {answer = answer} {t} {j} wider is = record {
  same = λ final more flag other u k ran.
      alike_wider {L = End S T} {also = also} wider
      (outcome_of answer (t, extend more (left_of j))) (outcome_of other (u, left_of k))
      (is.same final more flag other u k ran);
}
