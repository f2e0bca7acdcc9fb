-- Takes by a range that stands for its least number.
use Rattle.std.proofs.Common.{◌≡◌, ◌≤◌, ℕ, Bool, None, sym, subst}
use Rattle.std.specs.Prelude.{⊤}
use Rattle.streams.specs.Input.{Input}
use Rattle.streams.specs.Reading.{Reading}
use Rattle.streams.specs.Stream.{AnswersSeen}
use Rattle.stream_errors.specs.Form.{ErrorForm, Answer}
use Rattle.stream_sets.specs.declared.range.Range.{Range}
use Rattle.stream_sets.specs.Range.{Bounds, bounds_of, from_to, greatest_of, greatest_of-few}
use Rattle.parser_definitions.specs.Does.{Ran}
use Rattle.parser_definitions.specs.TakeWhile.{TakeWhileDoes}
use Rattle.winnow_token.specs.Elsewhere.{take_while_from}

-- a take by the range of the least number, which is at most 1, has no greatest one
pub least_ran : {X K T L : Type 0} (tells : X → K → Bool → Type 0) (least : ℕ) (seen : K → T)
    (reading : Reading T L) (form : ErrorForm) (i : Input T) (answer : Answer L) (t : Range × X)
    (j : Input T) (r : Range) (taken set : X) → least ≤ 1
    → r ≡ record { start_inclusive = least; end_inclusive = None } → taken ≡ set
    → Ran reading (TakeWhileDoes reading (λ x. AnswersSeen seen (tells x.1)) (λ x. bounds_of x.0))
    form (r, taken) i answer t j
    → Ran {S = ⊤} reading (TakeWhileDoes reading (λ _. AnswersSeen seen (tells set))
    (λ _. from_to least None)) form tt i answer tt j
least_ran {X} {T = T} tells least seen reading form i answer t j r taken set few e same ran =
    let P : X → Bounds → Type 0 = λ x b. Ran {S = ⊤} reading (TakeWhileDoes reading
    (λ _. AnswersSeen seen (tells x)) (λ _. b)) form tt i answer tt j in
    subst (λ g. P set (from_to least g)) (sym (greatest_of-few least few))
    (subst (λ x. P x (from_to least (greatest_of least None))) same
    (subst (λ x. P taken (bounds_of x)) e
    (take_while_from reading (r, taken) tt (AnswersSeen seen (tells taken)) (bounds_of r) form i
    answer t j ran)))
