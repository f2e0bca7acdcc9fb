use Rattle.std.proofs.Common.{arith}
use Rattle.format_csv_records.proofs.Extents.{kept, led, told, within}
use Rattle.format_csv_records.proofs.extent.RecordExtent.advance.Goals as goal

pub returns-else-self-2-clause-fresh : goal.returns-else-self-2-clause-fresh
returns-else-self-2-clause-fresh c room few =
    let (low, high, is, size) = c.in-Some.ensures.lookup.0 in
    led _ _ _ _ _ c.walk-walked.result _ is low c.begun.ensures c.walk-walked.ensures
    c.say.ensures

pub returns-else-self-2-clause-told : goal.returns-else-self-2-clause-told
returns-else-self-2-clause-told c here =
    let (room, text, fields) = within _ _ _ here in
    told _ c.args.dialect.apart c.is_byte.ensures _ _ _ _ here
    (returns-else-self-2-clause-fresh c room (text, fields))

pub returns-else-self-2-clause-kept : goal.returns-else-self-2-clause-kept
returns-else-self-2-clause-kept c here =
    let (room, text, fields) = within _ _ _ here in
    kept _ c.args.dialect.apart _ _ _ _ here
    (returns-else-self-2-clause-fresh c room (text, fields))

pub returns-else-self-2-clause-many : goal.returns-else-self-2-clause-many
returns-else-self-2-clause-many c not = absurd (not (omega arith, omega arith))
