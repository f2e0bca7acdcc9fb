use Rattle.std.proofs.Common.{inl, inr}
use Rattle.format_dns.proofs.RecordLaws.{fail_records}
use Rattle.format_dns.proofs.record.read_records.Goals as goal

pub returns-in-Err : goal.returns-in-Err
returns-in-Err g c = elim c.in-Err.ensures.1 [
  | inl (parts, place, rows, size, few, memory) ↦ inl memory
  | inr (lacks, none) ↦ inr (
    fail_records c.args.message.now c.args.pointers c.args.place
        c.args.count _ _ lacks,
    none,
  )
]
