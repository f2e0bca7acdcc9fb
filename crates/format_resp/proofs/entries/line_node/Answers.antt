use Rattle.std.proofs.Common.{◌∙◌, ◌+◌, ap, length, rules}
use Rattle.format_resp.proofs.NodeTexts.{number_line, text_line}
use Rattle.format_resp.specs.Nodes.{bytes_node}
use Rattle.format_resp.proofs.entries.line_node.Goals as goal

pub returns-in-Some : goal.returns-in-Some
returns-in-Some c reply says =
    rw c.in-Colon.is (number_line c.args.line.now c.args.start c.args.index c.of_number.result
    c.in-Some.number _ c.in-Some.ensures.some (search rules) c.of_number.ensures)

pub returns-in_default : goal.returns-in_default
returns-in_default c reply says =
    text_line c.args.line.now c.args.start c.args.index c.of_bytes.result c.args.mark reply
    c.in_default.not-Colon c.in_default.not-Underscore c.in_default.not-Hash says
    (c.of_bytes.ensures
    ∙ ap (λ k. bytes_node k 0 c.args.start (c.args.start + length c.args.line.now)
    (c.args.index + 1)) c.kind_of.ensures)
