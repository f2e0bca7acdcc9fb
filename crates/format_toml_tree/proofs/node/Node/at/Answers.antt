use Rattle.std.proofs.Common.{sym, ◌∙◌, arith, rules}
use Rattle.std.proofs.lemmas.Option.{slice_get_past}
use Rattle.format_toml_tree.specs.Access.{at_none, at_some, got_some}
use Rattle.format_toml_tree.proofs.node.Node.at.Goals as goal

pub returns-in-Some : goal.returns-in-Some
returns-in-Some g c =
    let (some, same, less, found, reads) = c.get.ensures.lookup in
    at_some c.args.self.now c.below.result.now c.below.ensures c.args.index c.in-Some.place
    (got_some c.below.result.now c.args.index c.in-Some.place _
    (sym c.copied.ensures ∙ c.in-Some.is) (search rules) (reads (omega arith)))

pub returns-in-None : goal.returns-in-None
returns-in-None g c =
    at_none c.args.self.now c.below.result.now c.below.ensures c.args.index
    (slice_get_past c.below.result.now c.args.index (search rules))
