-- A child on the first tokens as a complete input.
use Rattle.std.specs.Prelude.{◌≡◌, Bool, false, List, Ok, Err}
use Rattle.std.proofs.Common.{refl, ap, ◌∙◌}
use Rattle.streams.specs.Input.{Input, Status, Takes}
use Rattle.streams.specs.Kind.{backtrack, cut, incomplete, memory}
use Rattle.streams.specs.Place.{Place}
use Rattle.streams.specs.Reading.{Reading, ShowsOneList}
use Rattle.streams.specs.Stream.{IsUpdate, update_begins, update_tokens}
use Rattle.stream_errors.specs.Form.{Answer}
use Rattle.parser_definitions.specs.Left.{Left}
use Rattle.parser_definitions.specs.Length.{leaving}
use Rattle.parser_definitions.specs.Outcome.{outcome_of}
use Rattle.winnow_core.specs.AndThen.{completed}

-- the tokens `taken` as a complete input at the same position
abbrev pub only_first : {T : Type 0} → List T → Input T → Input T
only_first taken i =
    record i {
      left = record i.left { tokens = taken };
      status = record i.status { cut = false };
    }

-- an input that has these parts is made of them
made_of : {T : Type 0} (now : Input T) (tokens : List T) (place : Place) (possible : Bool)
    (status : Status) → now.left.tokens ≡ tokens → now.left.place ≡ place
    → now.left.possible ≡ possible → now.status ≡ status
    → now ≡ record {
      left = record { tokens = tokens; place = place; possible = possible };
      status = status;
    }
made_of {T} now tokens place possible status a b c d =
    let make : List T → Place → Bool → Status → Input T =
    λ t p q s. record { left = record { tokens = t; place = p; possible = q }; status = s } in
    ap (λ t. make t now.left.place now.left.possible now.status) a
    ∙ ap (λ p. make tokens p now.left.possible now.status) b
    ∙ ap (λ q. make tokens place q now.status) c ∙ ap (λ s. make tokens place possible s) d

-- A stream over the slice of the taken tokens, marked complete, is the input of only these tokens.
pub only_first_is : {T S : Type 0} {reading : Reading T S} {taken : List T}
    {earlier later now : Input T} {slice : S} → ShowsOneList reading
    → Takes reading taken earlier slice later → IsUpdate reading later slice now
    → completed now ≡ only_first taken earlier
only_first_is {taken = taken} {earlier = earlier} {later = later} {now = now} one takes update =
    made_of (completed now) taken earlier.left.place earlier.left.possible
    (record earlier.status { cut = false }) (update_tokens one takes.shown update)
    (update_begins takes update) (update.possible ∙ takes.passed.possible)
    (ap (λ (s : Status). record s { cut = false }) (update.status ∙ takes.passed.status))

-- the whole's outcome, from the child's
pub inside : {S T O : Type 0} (rest end : Left T) (answer : Answer O) (t : S)
    → outcome_of answer (t, rest) ≡ leaving rest (outcome_of answer (t, end))
inside rest end (Ok o) t = refl
inside rest end (Err backtrack) t = refl
inside rest end (Err cut) t = refl
inside rest end (Err (incomplete need)) t = refl
inside rest end (Err memory) t = refl
