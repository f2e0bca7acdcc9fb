use Rattle.std.proofs.Common.{refl, rules, ap, sym, inr, arith, ◌≤◌, ◌∙◌, ◌++◌, ◌+◌, ◌-◌, ◌/◌}
use Rattle.std.proofs.Common.{length}
use Rattle.format_dns.proofs.Laws.{pushed_is_append, told_pointer, told_root}
use Rattle.format_dns.proofs.NameLaws.{err_further, labels_at, name_ends, name_goes_on, none_ends}
use Rattle.format_dns.proofs.NameLaws.{none_prior, octets_at, told_err, told_fault, too_long}
use Rattle.format_dns.proofs.NameLaws.{too_many}
use Rattle.format_dns.specs.Names.{octets}
use Rattle.format_dns.proofs.Octets.{none_here, octets_append}
use Rattle.format_dns.proofs.name.+read_within.Goals as goal

pub read_ending-requires : goal.read_ending-requires
read_ending-requires g t c =
    let (enough, end, is, size) = c.in-Some.ensures.lookup.0 in
    let a = labels_at c.args.message.now c.args.place (c.args.room / 2 + 1) c.args.room _ _
    c.in-Ok.labels enough is (c.in-Ok.ensures.stands refl) (omega arith)
    c.in-Some-checked_sub.ensures.0 in
    none_here a

pub returns-in_err-read_ending : goal.returns-in_err-read_ending
returns-in_err-read_ending g t c =
    let (enough, end, is, size) = c.in-Some.ensures.lookup.0 in
    let place = length c.args.message.now - length c.read_labels.new.input.now in
    let a = labels_at c.args.message.now c.args.place (c.args.room / 2 + 1) c.args.room _ _
    c.in-Ok.labels enough is (c.in-Ok.ensures.stands refl) (omega arith)
    c.in-Some-checked_sub.ensures.0 in
    let at = octets_at c.args.message.now a in
    let few : octets c.in-Ok.labels.items ≤ c.args.room =
    omega (arith, at, c.in-Some-checked_sub.ensures.0) in
    told_err c.args.message.now c.args.pointers c.args.room c.args.place c.from_residual.result
    c.from_residual.ensures.1
    (inr (none_ends c.args.message.now a few c.args.pointers _ c.in_err-read_ending.ensures))

pub returns-in-Root : goal.returns-in-Root
returns-in-Root g t c =
    let (enough, end, is, size) = c.in-Some.ensures.lookup.0 in
    let place = length c.args.message.now - length c.read_labels.new.input.now in
    let a = labels_at c.args.message.now c.args.place (c.args.room / 2 + 1) c.args.room _ _
    c.in-Ok.labels enough is (c.in-Ok.ensures.stands refl) (omega arith)
    c.in-Some-checked_sub.ensures.0 in
    let at = octets_at c.args.message.now a in
    let few : octets c.in-Ok.labels.items ≤ c.args.room =
    omega (arith, at, c.in-Some-checked_sub.ensures.0) in (
      name_ends c.args.message.now a c.args.pointers
          (told_root place c.in_ok-read_ending.field-0 c.in-Root.is c.in_ok-read_ending.ensures),
      few,
    )

pub returns-then-to-place : goal.returns-then-to-place
returns-then-to-place g t c =
    let (enough, end, is, size) = c.in-Some.ensures.lookup.0 in
    let place = length c.args.message.now - length c.read_labels.new.input.now in
    let a = labels_at c.args.message.now c.args.place (c.args.room / 2 + 1) c.args.room _ _
    c.in-Ok.labels enough is (c.in-Ok.ensures.stands refl) (omega arith)
    c.in-Some-checked_sub.ensures.0 in
    let at = octets_at c.args.message.now a in
    let few : octets c.in-Ok.labels.items ≤ c.args.room =
    omega (arith, at, c.in-Some-checked_sub.ensures.0) in
    let p = told_pointer place c.in_ok-read_ending.field-0 c.in-Pointer.is
    c.in_ok-read_ending.ensures in
    told_fault c.args.message.now c.args.pointers c.args.room c.args.place _
    (none_prior c.args.message.now a few c.args.pointers p c.if-to-place.true)

pub returns-in_default-checked_sub : goal.returns-in_default-checked_sub
returns-in_default-checked_sub g t c =
    let (enough, end, is, size) = c.in-Some.ensures.lookup.0 in
    told_fault c.args.message.now c.args.pointers c.args.room c.args.place _
    (too_long c.args.message.now c.args.pointers c.args.place (c.args.room / 2 + 1) c.args.room _ _
    c.in-Ok.labels enough is (c.in-Ok.ensures.stands refl)
    (omega (arith, c.in_default-checked_sub.ensures)))

pub returns-in_default-checked_sub-2 : goal.returns-in_default-checked_sub-2
returns-in_default-checked_sub-2 g t c =
    let (enough, end, is, size) = c.in-Some.ensures.lookup.0 in
    let place = length c.args.message.now - length c.read_labels.new.input.now in
    let a = labels_at c.args.message.now c.args.place (c.args.room / 2 + 1) c.args.room _ _
    c.in-Ok.labels enough is (c.in-Ok.ensures.stands refl) (omega arith)
    c.in-Some-checked_sub.ensures.0 in
    let at = octets_at c.args.message.now a in
    let few : octets c.in-Ok.labels.items ≤ c.args.room =
    omega (arith, at, c.in-Some-checked_sub.ensures.0) in
    let p = told_pointer place c.in_ok-read_ending.field-0 c.in-Pointer.is
    c.in_ok-read_ending.ensures in
    told_fault c.args.message.now c.args.pointers c.args.room c.args.place _
    (too_many c.args.message.now a few c.args.pointers p (search rules)
    c.in_default-checked_sub-2.ensures)

pub returns-in_err-further-in-Pointer : goal.returns-in_err-further-in-Pointer
returns-in_err-further-in-Pointer g t c =
    let (enough, end, is, size) = c.in-Some.ensures.lookup.0 in
    let place = length c.args.message.now - length c.read_labels.new.input.now in
    let a = labels_at c.args.message.now c.args.place (c.args.room / 2 + 1) c.args.room _ _
    c.in-Ok.labels enough is (c.in-Ok.ensures.stands refl) (omega arith)
    c.in-Some-checked_sub.ensures.0 in
    let at = octets_at c.args.message.now a in
    let few : octets c.in-Ok.labels.items ≤ c.args.room =
    omega (arith, at, c.in-Some-checked_sub.ensures.0) in
    let p = told_pointer place c.in_ok-read_ending.field-0 c.in-Pointer.is
    c.in_ok-read_ending.ensures in
    told_err c.args.message.now c.args.pointers c.args.room c.args.place
    c.from_residual-in_err-further-in-Pointer.result
    c.from_residual-in_err-further-in-Pointer.ensures.1
    (err_further c.args.message.now a few c.args.pointers c.in-Some-checked_sub-2.below
    c.in-Some-checked_sub.left c.in-Some-checked_sub-2.ensures.0
    c.in-Some-checked_sub-2.ensures.1 (omega (arith, at, c.in-Some-checked_sub.ensures.1)) p
    (search rules) c.in_err-further-in-Pointer.ensures)

pub returns-else-is_err : goal.returns-else-is_err
returns-else-is_err g t c =
    let (enough, end, is, size) = c.in-Some.ensures.lookup.0 in
    let place = length c.args.message.now - length c.read_labels.new.input.now in
    let a = labels_at c.args.message.now c.args.place (c.args.room / 2 + 1) c.args.room _ _
    c.in-Ok.labels enough is (c.in-Ok.ensures.stands refl) (omega arith)
    c.in-Some-checked_sub.ensures.0 in
    let at = octets_at c.args.message.now a in
    let few : octets c.in-Ok.labels.items ≤ c.args.room =
    omega (arith, at, c.in-Some-checked_sub.ensures.0) in
    let p = told_pointer place c.in_ok-read_ending.field-0 c.in-Pointer.is
    c.in_ok-read_ending.ensures in
    let put = pushed_is_append c.in-Ok.labels.items c.deref.result.now c.extend_from_slice.result
    c.extend_from_slice.ensures.items (sym c.is_err.ensures.value ∙ c.if-is_err.false)
    ∙ ap (λ l. c.in-Ok.labels.items ++ l) c.deref.ensures.value in (
      name_goes_on c.args.message.now a c.args.pointers c.in-Some-checked_sub-2.below
          c.in-Some-checked_sub-2.ensures.0 c.in-Some-checked_sub-2.ensures.1 p (search rules) _ _
          _ c.in_ok-further-in-Pointer.ensures.0 put,
      omega (
        arith,
        at,
        ap octets put,
        octets_append c.in-Ok.labels.items c.in_ok-further-in-Pointer.further.labels.items,
        c.in_ok-further-in-Pointer.ensures.1,
        c.in-Some-checked_sub.ensures.0,
        c.in-Some-checked_sub.ensures.1,
      ),
    )
