use Rattle.std.proofs.Common.{ap, arith, inr}
use Rattle.exported.proofs.DnsFaults.{is_code, memory, not_done, not_small, reason}
use Rattle.exported.proofs.DnsNames.{wants_name, writes_name}
use Rattle.exported.specs.Dns.{refused_name}
use Rattle.exported.specs.declared.dns.DnsFault.{DnsFault}
use Rattle.exported.proofs.dns.exported_dns_name_at.Goals as goal

pub returns-then-length-buffer-clause-small : goal.returns-then-length-buffer-clause-small
returns-then-length-buffer-clause-small c _ =
    wants_name c.args.message.now c.args.offset c.in-Ok.name.labels.items c.deref.result.now
    c.in-Ok.ensures c.deref.ensures.value c.put_labels-length.ensures c.args.buffer.now
    c.if-length-buffer.true

pub returns-else-length-buffer-clause-name : goal.returns-else-length-buffer-clause-name
returns-else-length-buffer-clause-name c _ =
    writes_name c.args.message.now c.args.offset c.in-Ok.name.labels.items c.deref.result.now
    c.in-Ok.ensures c.deref.ensures.value c.put_labels-length.ensures c.deref-in-Ok.result.now
    c.deref-in-Ok.ensures.value c.put_labels.ensures (omega (arith, c.if-length-buffer.false))
    (omega arith)

pub returns-in-Err-clause-name : goal.returns-in-Err-clause-name
returns-in-Err-clause-name c is = absurd (not_done c.in-Err.why c.code_for.ensures is)

pub returns-in-Err-clause-small : goal.returns-in-Err-clause-small
returns-in-Err-clause-small c is = absurd (not_small c.in-Err.why c.code_for.ensures is)

pub returns-in-Err-clause-refused : goal.returns-in-Err-clause-refused
returns-in-Err-clause-refused c is =
    let (fails, none) = reason c.in-Err.why c.code_for.ensures is c.in-Err.ensures in (
      c.in-Err.why,
      fails,
      λ labels end it. none labels end it.0 it.1,
      ap (λ (f : DnsFault). refused_name f) c.fault_in.ensures,
    )

pub returns-in-Err-clause-memory : goal.returns-in-Err-clause-memory
returns-in-Err-clause-memory c is =
    ap (λ (f : DnsFault). refused_name f)
    (memory c.in-Err.why c.code_for.ensures c.fault_in.result c.fault_in.ensures is)

pub returns-in-Err-clause-codes : goal.returns-in-Err-clause-codes
returns-in-Err-clause-codes c = inr (inr (is_code c.in-Err.why c.code_for.ensures))
