use Rattle.std.proofs.Common.{arith, rules}
use Rattle.format_json_extents.proofs.Scanning.{no_match_is_not_whole}
use Rattle.format_json_extents.proofs.Values.{no_element, rest_after_element, value_starts}
use Rattle.format_json_extents.proofs.Written.Values.{text_standard}
use Rattle.format_json_extents.specs.Standard.{IsTextByStandard}
use Rattle.format_json_extents.specs.Value.{IsText}
use Rattle.format_json_extents.proofs.NodeWhole.{not_whole, is_whole, whole_nodes}
use Rattle.format_json_extents.proofs.nodes.write_nodes.Goals as goal

pub returns-in_err-count-clause-text : goal.returns-in_err-count-clause-text
returns-in_err-count-clause-text c =
    let none : IsText c.args.level c.args.text.now → ⊥ =
    no_match_is_not_whole (no_element (value_starts c.args.level) c.skip_whitespace-start.ensures
    c.in_err-count.ensures.rest) in
    search rules

pub returns-then-is_empty-clause-text : goal.returns-then-is_empty-clause-text
returns-then-is_empty-clause-text c =
    is_whole c.is_empty.result
    (rest_after_element (value_starts c.args.level) c.skip_whitespace-start.ensures
    c.in_ok-count.ensures.rest c.skip_whitespace.ensures) c.is_empty.ensures c.if-is_empty.true

pub returns-else-is_empty-clause-text : goal.returns-else-is_empty-clause-text
returns-else-is_empty-clause-text c =
    not_whole c.is_empty.result
    (rest_after_element (value_starts c.args.level) c.skip_whitespace-start.ensures
    c.in_ok-count.ensures.rest c.skip_whitespace.ensures) c.is_empty.ensures c.if-is_empty.false

pub returns-then-is_empty-clause-nodes : goal.returns-then-is_empty-clause-nodes
returns-then-is_empty-clause-nodes c =
    whole_nodes c.args.level c.is_empty.result c.skip_whitespace-start.ensures
    c.in_ok-count.ensures.nodes c.skip_whitespace.ensures c.is_empty.ensures c.if-is_empty.true

pub returns-in_err-count-clause-standard : goal.returns-in_err-count-clause-standard
returns-in_err-count-clause-standard c = λ utf8.
    let none : IsTextByStandard c.args.level c.args.text.now → ⊥ = λ is.
    no_match_is_not_whole (no_element (value_starts c.args.level) c.skip_whitespace-start.ensures
    c.in_err-count.ensures.rest)
    ((text_standard c.args.level c.args.text.now (omega arith) utf8).1 is) in
    search rules

pub returns-then-is_empty-clause-standard : goal.returns-then-is_empty-clause-standard
returns-then-is_empty-clause-standard c = λ utf8.
    (text_standard c.args.level c.args.text.now (omega arith) utf8).0
    (returns-then-is_empty-clause-text c)

pub returns-else-is_empty-clause-standard : goal.returns-else-is_empty-clause-standard
returns-else-is_empty-clause-standard c = λ utf8 is.
    returns-else-is_empty-clause-text c
    ((text_standard c.args.level c.args.text.now (omega arith) utf8).1 is)
