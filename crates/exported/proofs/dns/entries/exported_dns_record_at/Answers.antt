use Rattle.std.proofs.Common.{◌≡◌, ◌+◌, ◌-◌, ap, arith, inr, ℕ}
use Rattle.exported.proofs.DnsFaults.{is_code, memory, not_done, reason}
use Rattle.exported.specs.Dns.{record_of, refused_record}
use Rattle.exported.specs.declared.dns.DnsFault.{DnsFault}
use Rattle.exported.proofs.dns.entries.exported_dns_record_at.Goals as goal

pub returns-in-Ok-clause-record : goal.returns-in-Ok-clause-record
returns-in-Ok-clause-record c _ =
    let found = c.in-Ok.record in
    let is = c.in-Ok.ensures in
    let size : found.behind - (found.name.behind + 10) ≡ is.size = omega (arith, is.behind) in
    record {
      found = found;
      is_record = is;
      shows = ap (λ (n : ℕ). record_of found n) size;
    }

pub returns-in-Err-clause-record : goal.returns-in-Err-clause-record
returns-in-Err-clause-record c is = absurd (not_done c.in-Err.why c.code_for.ensures is)

pub returns-in-Err-clause-refused : goal.returns-in-Err-clause-refused
returns-in-Err-clause-refused c is =
    let (fails, none) = reason c.in-Err.why c.code_for.ensures is c.in-Err.ensures in
    (c.in-Err.why, fails, none, ap (λ (f : DnsFault). refused_record f) c.fault_in.ensures)

pub returns-in-Err-clause-memory : goal.returns-in-Err-clause-memory
returns-in-Err-clause-memory c is =
    ap (λ (f : DnsFault). refused_record f)
    (memory c.in-Err.why c.code_for.ensures c.fault_in.result c.fault_in.ensures is)

pub returns-in-Err-clause-codes : goal.returns-in-Err-clause-codes
returns-in-Err-clause-codes c = inr (is_code c.in-Err.why c.code_for.ensures)
