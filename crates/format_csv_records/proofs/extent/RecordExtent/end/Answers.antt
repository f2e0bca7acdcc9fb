use Rattle.std.proofs.Common.{arith}
use Rattle.format_csv_records.proofs.Closing.{refused_open, refused_return, sized_end}
use Rattle.format_csv_records.proofs.extent.RecordExtent.end.Goals as goal

pub returns-in-Quoted : goal.returns-in-Quoted
returns-in-Quoted c d not it all =
    refused_open _ d.apart _ _ _ (rw c.in-Quoted.is at it)

pub returns-in-Return : goal.returns-in-Return
returns-in-Return c d not it all =
    refused_return _ d.apart _ _ _ (rw c.in-Return.is at it)

pub returns-in_default : goal.returns-in_default
returns-in_default c d not it all =
    let (fields, text, length, ended) = c.size.ensures in
    sized_end _ d.apart _ _ _ _ not c.in_default.not-Quoted c.in_default.not-Return it
    c.if-not-is_some.ensures _ fields text (omega (arith, length, all)) ended
