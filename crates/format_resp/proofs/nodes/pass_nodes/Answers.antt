use Rattle.std.specs.Prelude.{length}
use Rattle.std.proofs.Common.{ap, arith, length-append}
use Rattle.format_resp.proofs.NodesWritten.{whole_nodes}
use Rattle.format_resp.proofs.Within.{leads_long, never_within, none_within}
use Rattle.format_resp.proofs.nodes.pass_nodes.Goals as goal

pub overflow_sub-result : goal.overflow_sub-result
overflow_sub-result c =
    let (due, below, leads, part) = c.in-Err.ensures.told in
    omega (arith, leads_long c.args.protocol c.args.level c.args.bytes.now due below _ leads)

pub returns-in-Err-clause-told : goal.returns-in-Err-clause-told
returns-in-Err-clause-told c =
    let (due, below, leads, part) = c.in-Err.ensures.told in
    let protocol = c.args.protocol in
    let tokens = c.args.bytes.now in (
      never_within protocol c.args.level tokens due below _ _ leads part,
      record {
        due = due;
        below = below;
        rest = c.in-Err.stop.rest.now;
        leads = leads;
        offset =
            omega (arith, leads_long protocol c.args.level tokens due below _ leads);
        part = part;
      },
    )

pub returns-in-Ok-None-clause-told : goal.returns-in-Ok-None-clause-told
returns-in-Ok-None-clause-told c =
    let (due, below, rest, leads, wants) =
    rw c.in-Ok-None.field-0-is at c.in-Ok-None.ensures.told in (
      none_within c.args.protocol c.args.level c.args.bytes.now due below rest leads wants,
      (due, below, rest, leads, wants),
    )

pub returns-in-Ok-Some-clause-nodes : goal.returns-in-Ok-Some-clause-nodes
returns-in-Ok-Some-clause-nodes c =
    let wrote = rw c.in-Ok-Some.field-0-is at c.in-Ok-Some.ensures.nodes in
    whole_nodes c.args.protocol c.args.level _ _ (omega (
      arith,
      ap (λ l. length l) wrote.splits,
      length-append wrote.text c.in-Ok-Some.left.now,
    )) wrote
