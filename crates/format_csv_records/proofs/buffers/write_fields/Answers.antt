use Rattle.std.proofs.Common.{arith}
use Rattle.format_csv_records.proofs.Placing.{behind, shows}
use Rattle.format_csv_records.proofs.buffers.write_fields.Goals as goal

pub returns-in-Ok-clause-written : goal.returns-in-Ok-clause-written
returns-in-Ok-clause-written g c = shows g.P.FieldPlace.made c.args.dialect c.args.dialect.apart
    c.args.bytes.now _ _ _ _ c.args.size _ c.requires c.in-Ok.ensures (omega arith) (omega arith)

pub returns-in-Ok-clause-behind : goal.returns-in-Ok-clause-behind
returns-in-Ok-clause-behind g c _ = behind g.P.FieldPlace.made c.args.dialect
    c.args.dialect.apart c.args.bytes.now _ _ _ _ c.args.size _ c.requires c.in-Ok.ensures

pub returns-in-Ok-clause-room : goal.returns-in-Ok-clause-room
returns-in-Ok-clause-room g c _ = (omega arith, omega arith)
