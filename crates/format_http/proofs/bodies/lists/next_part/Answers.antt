use Rattle.std.proofs.Common.{sym, ◌∙◌}
use Rattle.format_http.proofs.BodiesLemmas.Parts.{part_first, part_only}
use Rattle.format_http.proofs.bodies.lists.next_part.Goals as goal

pub returns-in-Some : goal.returns-in-Some
returns-in-Some c =
    part_first c.args.list.now c.in-Some.at (sym c.comma_in.ensures ∙ c.in-Some.is)

pub returns-in-None : goal.returns-in-None
returns-in-None c = part_only c.args.list.now (sym c.comma_in.ensures ∙ c.in-None.is)
