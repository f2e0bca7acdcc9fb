use Rattle.std.specs.Prelude.{◌+◌, ◌-◌, length, set}
use Rattle.std.proofs.Common.{◌∙◌, ap, arith, refl}
use Rattle.format_resp.proofs.NodesWritten.{single_writes, string_long, string_node}
use Rattle.format_resp.specs.Nodes.{bytes_node}
use Rattle.format_resp.proofs.nodes.pass_string.Goals as goal

pub overflow_add-start : goal.overflow_add-start
overflow_add-start c =
    let (string, is) = rw c.in-Ok-Some.field-0-is at c.in-Ok-Some.ensures.told in
    omega (
      arith,
      c.ranges.size.fits,
      c.requires.room,
      c.requires.less,
      string_long c.args.bulk string c.args.left.now c.in-Ok-Some.rest.now is,
    )

pub returns-in-Ok-Some-clause-nodes : goal.returns-in-Ok-Some-clause-nodes
returns-in-Ok-Some-clause-nodes c protocol level head =
    let (string, is) = rw c.in-Ok-Some.field-0-is at c.in-Ok-Some.ensures.told in
    let size = c.args.size in
    let index = c.args.index.now in
    let left = c.args.left.now in
    let start = size - length left in
    let node = bytes_node c.kind_at.result 0 start (start + c.args.bulk.size) (index + 1) in
    single_writes protocol level size index node
    (string_node protocol size index c.kind_at.result start c.args.bulk c.args.bytes.now left
    c.in-Ok-Some.rest.now string (omega (arith, c.requires.room, c.requires.less)) c.requires.room
    c.kind_at.ensures head is) refl
    (c.put.ensures ∙ ap (λ n. set c.args.nodes.now index n) c.of_bytes.ensures)
