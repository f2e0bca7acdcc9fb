use Rattle.std.proofs.Common.{arith}
use Rattle.format_csv_records.proofs.Cuts.{field_less}
use Rattle.format_csv_records.proofs.records.column_of.Goals as goal

pub returns : goal.returns
returns g c = λ k e.
    let less = field_less _ k c.args.name.now e in
    c.loop-place.invariant k (omega (arith, less, c.len-place-end.ensures)) e
