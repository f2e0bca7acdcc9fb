use Rattle.std.proofs.Common.{rules}
use Rattle.format_dns.proofs.PartLaws.{suffix_from_slice}
use Rattle.format_dns.proofs.data.read_data.Goals as goal

pub returns-in-Some : goal.returns-in-Some
returns-in-Some g c =
    let (enough, end, is, size) = c.in-Some.ensures.lookup.0 in (
      search rules,
      suffix_from_slice c.args.message.now c.args.place enough is,
    )
