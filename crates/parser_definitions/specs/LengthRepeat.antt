-- The definition of `length_repeat`.
use Rattle.std.specs.Prelude.{ℕ, Some}
use Rattle.stream_sets.specs.Accumulator.{Accumulator}
use Rattle.stream_sets.specs.Range.{Bounds, from_to}
use Rattle.parser_definitions.specs.Does.{Lawful}
use Rattle.parser_definitions.specs.Folding.{Built, gathering, gathers_one}
use Rattle.parser_definitions.specs.Length.{LengthDoes, OneLength, length_law}
use Rattle.parser_definitions.specs.Outcome.{Does}
use Rattle.parser_definitions.specs.Repeat.{Many, many_law}
use Rattle.parser_definitions.specs.Then.Steps.{first, second, with_first, with_second}

-- exactly `n` times
abbrev pub times : ℕ → Bounds
times n = from_to n (Some n)

-- A length, and as many items as it says, into an accumulator.
abbrev pub LengthRepeatDoes : {V S T N C O : Type 0} → (N → ℕ) → Accumulator C O → Does V T N
    → Does S T O → Does (V × S) T C
LengthRepeatDoes number into count does =
    LengthDoes first with_first number count
    (λ n. Many second with_second (gathering into) does (times n))

pub length_repeat_law : {V S T N C O : Type 0} {stable also : Type 0} {alike : N → N → Type 0}
    {beside : O → O → Type 0} (number : N → ℕ) (into : Accumulator C O) {count : Does V T N}
    {does : Does S T O} → OneLength number alike → Lawful stable alike count
    → Lawful also beside does
    → Lawful (stable × also) (Built (gathering {Q = V × S} into) beside)
    (LengthRepeatDoes number into count does)
length_repeat_law number into {does = does} one law each =
    length_law first with_first number
    (λ n. Many second with_second (gathering into) does (times n)) one law
    (λ n. many_law second with_second (gathers_one into _) each (times n))
