use Rattle.std.proofs.Common.{refl, arith, inl, inr, ◌+◌}
use Rattle.format_dns.specs.Data.{HasZone, NoZone}
use Rattle.format_dns.proofs.DataLaws.{no_zone}
use Rattle.format_dns.proofs.FieldLaws.{zone_length}
use Rattle.format_dns.proofs.PartLaws.{part_err, suffix_length}
use Rattle.format_dns.specs.declared.fault.PartError.TheVariants.{Trailing}
use Rattle.format_dns.proofs.data.zone_to_end.Goals as goal

pub returns-in_err-mailbox : goal.returns-in_err-mailbox
returns-in_err-mailbox g c =
    part_err (HasZone c.args.message.now c.args.pointers c.args.place)
    (NoZone c.args.message.now c.args.pointers c.args.place)
    c.from_residual-in_err-mailbox.result c.from_residual-in_err-mailbox.ensures.1
    (elim c.in_err-mailbox.ensures [
      | inl memory ↦ inl memory
      | inr (none, never) ↦
          let fails : NoZone c.args.message.now c.args.pointers c.args.place
          c.in_err-mailbox.field-0.0 = inr (
            c.in_ok-primary.primary.labels.items,
            c.in_ok-primary.primary.behind,
            c.in_ok-primary.ensures,
            inl none,
          ) in
          inr (
            fails,
            λ zone is. no_zone c.args.message.now c.args.pointers c.args.place _ zone fails is,
          )
    ])

pub returns-in_err-zone : goal.returns-in_err-zone
returns-in_err-zone g c =
    let fails : NoZone c.args.message.now c.args.pointers c.args.place
    c.in_err-zone.field-0.0 = inr (
      c.in_ok-primary.primary.labels.items,
      c.in_ok-primary.primary.behind,
      c.in_ok-primary.ensures,
      inr (
        c.in_ok-mailbox.mailbox.labels.items,
        c.in_ok-mailbox.mailbox.behind,
        c.in_ok-mailbox.ensures,
        inl (c.in_err-zone.ensures.0, c.in_err-zone.ensures.1),
      ),
    ) in
    part_err (HasZone c.args.message.now c.args.pointers c.args.place)
    (NoZone c.args.message.now c.args.pointers c.args.place)
    c.from_residual-in_err-zone.result c.from_residual-in_err-zone.ensures.1
    (inr (
      fails,
      λ zone is. no_zone c.args.message.now c.args.pointers c.args.place _ zone fails is,
    ))

pub returns-then-end-message : goal.returns-then-end-message
returns-then-end-message g c =
    let (tokens, rest, at, fields) = c.in_ok-zone.ensures in
    let fails : NoZone c.args.message.now c.args.pointers c.args.place
    (Trailing (c.in_ok-mailbox.mailbox.behind + 20)) = inr (
      c.in_ok-primary.primary.labels.items,
      c.in_ok-primary.primary.behind,
      c.in_ok-primary.ensures,
      inr (
        c.in_ok-mailbox.mailbox.labels.items,
        c.in_ok-mailbox.mailbox.behind,
        c.in_ok-mailbox.ensures,
        inr (
          refl,
          omega (arith, c.if-end-message.true, suffix_length at, zone_length fields),
        ),
      ),
    ) in
    inr (
      fails,
      λ zone is. no_zone c.args.message.now c.args.pointers c.args.place _ zone fails is,
    )
