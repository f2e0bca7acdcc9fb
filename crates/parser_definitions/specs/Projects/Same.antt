-- A parser has each of equivalent grammars.
use Rattle.grammars.specs.Grammar.{Grammar}
use Rattle.grammars.specs.Grammar.Same.{Same, none_as, unique_as}
use Rattle.parser_definitions.specs.Outcome.{Does}
use Rattle.parser_definitions.specs.Projects.{Complete, Projects}
use Rattle.parser_definitions.specs.Projects.Then.{other_agrees}

pub same_projects : {S T O : Type 0} {b m : Type 0} {does : Does S T O} {at : Complete} {s : S}
    {g h : Grammar T O} → Same g h → Projects b m does at s g → Projects b m does at s h
same_projects same p = record {
  reads = record {
    agrees = λ w x d. other_agrees (same.there w.tokens) (none_as same w.tokens)
        (p.reads.agrees w x d);
  };
  unique = unique_as same p.unique;
}
