use Rattle.std.proofs.Common.{arith}
use Rattle.format_dns.proofs.PartLaws.{suffix_from_slice}
use Rattle.format_dns.proofs.data.octets_to_end.Goals as goal

pub returns : goal.returns
returns c =
    let (enough, end, is, size) = c.in-Some.ensures.lookup.0 in (
      suffix_from_slice c.args.message.now c.args.place enough is,
      omega (arith, c.if-octets-size.false, c.if-octets-size-2.false),
    )
