use Rattle.exported.proofs.DnsNames.{wire_put}
use Rattle.exported.proofs.dns.+put_labels.Goals as goal

pub returns : goal.returns
returns t c =
    wire_put c.args.labels.now c.in-Some.below.now c.in-Some.label.now c.in-Some.ensures.cases.0
    c.put_byte-end.ensures c.put_bytes-end.ensures c.put_labels.ensures
