-- The definition of `by_ref`: the child's. The state is the child's, and which reference it is.
use Rattle.std.specs.Prelude.{ℕ}
use Rattle.parser_definitions.specs.Does.{Lawful}
use Rattle.parser_definitions.specs.Outcome.{Does}
use Rattle.parser_definitions.specs.Then.Steps.{In, first, in_law, with_first}

abbrev pub ByRefDoes : {S T O : Type 0} → Does S T O → Does (S × ℕ) T O
ByRefDoes does = In first with_first does

pub by_ref_law : {S T O : Type 0} {stable : Type 0} {alike : O → O → Type 0} {does : Does S T O}
    → Lawful stable alike does → Lawful stable alike (ByRefDoes does)
by_ref_law law = in_law first with_first law
