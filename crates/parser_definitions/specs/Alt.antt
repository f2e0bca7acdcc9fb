-- The definition of choices: the first branch that does not backtrack, each from the start.
use Rattle.std.proofs.Common.{inl, inr}
use Rattle.parser_definitions.specs.Does.{Lawful}
use Rattle.parser_definitions.specs.Equal.{AlikeEither}
use Rattle.parser_definitions.specs.Outcome.{Does}
use Rattle.parser_definitions.specs.Then.{Next, Then, then_law}
use Rattle.parser_definitions.specs.Then.Steps.{In, asks_later, asks_meet, asks_on, cuts_hold}
use Rattle.parser_definitions.specs.Then.Steps.{cuts_meet, cuts_on, else_holds, else_meets, first}
use Rattle.parser_definitions.specs.Then.Steps.{in_law, or_else, second, takes, takes_hold}
use Rattle.parser_definitions.specs.Then.Steps.{takes_meet, with_first, with_second}

-- If the branch backtracks, the others are called from the start.
abbrev pub or_others : {S1 S2 T O : Type 0} → Does S2 T O → Next S1 (S1 × S2) T O O
or_others others = record {
  on_took = λ o. takes with_first o;
  on_backs = or_else with_first (In second with_second others);
  on_cuts = cuts_on with_first;
  on_asks = asks_on with_first;
}

-- One branch, and the others.
abbrev pub AltDoes : {S1 S2 T O : Type 0} → Does S1 T O → Does S2 T O → Does (S1 × S2) T O
AltDoes one others = Then first one (or_others others)

pub alt_law : {S1 S2 T O : Type 0} {sure also : Type 0} {one two : O → O → Type 0}
    {does1 : Does S1 T O} {does2 : Does S2 T O} → Lawful sure one does1 → Lawful also two does2
    → Lawful (sure × also) (AlikeEither one two) (AltDoes does1 does2)
alt_law law1 law2 = then_law law1 (record {
  took = λ o p like. takes_meet with_first (inl like);
  backs = else_meets with_first (λ o p like. inr like) (in_law second with_second law2);
  cuts = cuts_meet with_first;
  asks = asks_meet with_first;
}) (record {
  took = λ o. takes_hold with_first;
  backs = else_holds with_first (λ is. is.1) (in_law second with_second law2);
  cuts = cuts_hold with_first;
  asks = asks_later with_first;
}) (λ is. is.0)
