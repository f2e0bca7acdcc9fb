use Rattle.std.proofs.Common.{sym, ◌∙◌}
use Rattle.format_csv_records.proofs.Cuts.{cut_length}
use Rattle.format_csv_records.proofs.record.ByteRecord.len.Goals as goal

pub returns : goal.returns
returns g c = rw (← c.self.view_is) (c.len.ensures ∙ c.self.inside.ends.ok.0
    ∙ sym (cut_length 0 c.self.inside.ends.items c.self.inside.bytes.items))
