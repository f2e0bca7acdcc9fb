use Rattle.std.proofs.Common.{refl, inr}
use Rattle.format_dns.specs.Data.{NoLastName}
use Rattle.format_dns.proofs.DataLaws.{no_last_name}
use Rattle.format_dns.specs.declared.fault.PartError.TheVariants.{Trailing}
use Rattle.format_dns.proofs.data.name_to_end.Goals as goal

pub returns-then-name-message : goal.returns-then-name-message
returns-then-name-message g c =
    let fails : NoLastName c.args.message.now c.args.pointers c.args.place
    (Trailing c.in_ok-name.name.behind) = inr (
      c.in_ok-name.name.labels.items,
      c.in_ok-name.name.behind,
      c.in_ok-name.ensures,
      refl,
      c.if-name-message.true,
    ) in
    inr (
      fails,
      λ name is. no_last_name c.args.message.now c.args.pointers c.args.place _ name fails is,
    )
