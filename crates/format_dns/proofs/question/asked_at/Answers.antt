use Rattle.format_dns.proofs.PartLaws.{suffix_from_slice}
use Rattle.format_dns.proofs.question.asked_at.Goals as goal

pub returns-in-Ok : goal.returns-in-Ok
returns-in-Ok c =
    let (enough, end, is, size) = c.in-Some.ensures.lookup.0 in (
      c.in-Some.rest.now,
      c.read_asked.new.input.now,
      suffix_from_slice c.args.message.now c.args.place enough is,
      c.in-Ok.ensures.fields,
    )
