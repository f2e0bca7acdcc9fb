use Rattle.format_json_extents.proofs.Pointing.{ends_here, found_child, pointer_rooted, reached}
use Rattle.format_json_extents.proofs.Pointing.{reaches_more, stops_here, token_taken}
use Rattle.format_json_extents.proofs.Scanning.{if_none_of_true, no_match_is_not_whole}
use Rattle.format_json_extents.proofs.Values.{no_element, value_starts}
use Rattle.format_json_extents.specs.Pointer.{reaches_root}
use Rattle.format_json_extents.specs.Value.{IsText}
use Rattle.format_json_extents.specs.declared.pointer.Lookup.TheVariants as lookup
use Rattle.format_json_extents.proofs.pointer.find_value.Goals as goal

pub tokens-init : goal.tokens-init
tokens-init c = record {
  reaches = reaches_root _ _ c.skip_whitespace-here.ensures.stands c.in_ok-rest.ensures;
  rooted = pointer_rooted _ c.requires;
}

pub returns-in_err-rest-clause-none : goal.returns-in_err-rest-clause-none
returns-in_err-rest-clause-none c =
    let none : IsText c.args.level c.args.text.now → ⊥ = λ is.
    no_match_is_not_whole (no_element (value_starts c.args.level) c.skip_whitespace-here.ensures
    c.in_err-rest.ensures) is in
    if_none_of_true _ _ none

pub returns-in_err-lookup-in-Some-clause-none : goal.returns-in_err-lookup-in-Some-clause-none
returns-in_err-lookup-in-Some-clause-none c =
    let none : IsText c.args.level c.args.text.now → ⊥ = λ is.
    c.in_err-lookup-in-Some.ensures.none _ (reached c.tokens.invariant.reaches).stands in
    if_none_of_true _ _ none

pub returns-in-NoMember-clause-found : goal.returns-in-NoMember-clause-found
returns-in-NoMember-clause-found c =
    stops_here c.tokens.invariant.reaches lookup.NoMember _ _
    c.tokens.invariant.rooted c.in-Some.ensures.cases.0 (token_taken c.skip_token-after.ensures)
    c.in-NoMember.is c.in_ok-lookup-in-Some.ensures.found

pub returns-in-NoElement-clause-found : goal.returns-in-NoElement-clause-found
returns-in-NoElement-clause-found c =
    stops_here c.tokens.invariant.reaches lookup.NoElement _ _
    c.tokens.invariant.rooted c.in-Some.ensures.cases.0 (token_taken c.skip_token-after.ensures)
    c.in-NoElement.is c.in_ok-lookup-in-Some.ensures.found

pub returns-in-NotAContainer-clause-found : goal.returns-in-NotAContainer-clause-found
returns-in-NotAContainer-clause-found c =
    stops_here c.tokens.invariant.reaches lookup.NotAContainer _ _
    c.tokens.invariant.rooted c.in-Some.ensures.cases.0 (token_taken c.skip_token-after.ensures)
    c.in-NotAContainer.is c.in_ok-lookup-in-Some.ensures.found

pub returns-in-None-clause-found : goal.returns-in-None-clause-found
returns-in-None-clause-found c =
    ends_here c.tokens.invariant.reaches c.in-None.ensures.cases

pub tokens-preserved : goal.tokens-preserved
tokens-preserved c =
    let token = token_taken c.skip_token-after.ensures in
    record {
      reaches = reaches_more c.tokens.invariant.reaches c.tokens.invariant.rooted
          c.in-Some.ensures.cases.0 token
          (found_child _ _ c.in-Found.is c.in_ok-lookup-in-Some.ensures.found);
      rooted = token.is_rooted;
    }
