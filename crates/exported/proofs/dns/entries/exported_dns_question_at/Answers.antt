use Rattle.std.proofs.Common.{ap, inr}
use Rattle.exported.proofs.DnsFaults.{is_code, memory, not_done, reason}
use Rattle.exported.specs.Dns.{refused_question}
use Rattle.exported.specs.declared.dns.DnsFault.{DnsFault}
use Rattle.exported.proofs.dns.entries.exported_dns_question_at.Goals as goal

pub returns-in-Err-clause-question : goal.returns-in-Err-clause-question
returns-in-Err-clause-question c is = absurd (not_done c.in-Err.why c.code_for.ensures is)

pub returns-in-Err-clause-refused : goal.returns-in-Err-clause-refused
returns-in-Err-clause-refused c is =
    let (fails, none) = reason c.in-Err.why c.code_for.ensures is c.in-Err.ensures in
    (c.in-Err.why, fails, none, ap (λ (f : DnsFault). refused_question f) c.fault_in.ensures)

pub returns-in-Err-clause-memory : goal.returns-in-Err-clause-memory
returns-in-Err-clause-memory c is =
    ap (λ (f : DnsFault). refused_question f)
    (memory c.in-Err.why c.code_for.ensures c.fault_in.result c.fault_in.ensures is)

pub returns-in-Err-clause-codes : goal.returns-in-Err-clause-codes
returns-in-Err-clause-codes c = inr (is_code c.in-Err.why c.code_for.ensures)
