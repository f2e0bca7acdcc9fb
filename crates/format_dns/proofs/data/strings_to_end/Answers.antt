use Rattle.std.proofs.Common.{refl, sym, arith, inl, inr}
use Rattle.std.proofs.lemmas.Bool.{eqb-false, eqb-true}
use Rattle.format_dns.proofs.DataLaws.{no_strings, strings_fail, strings_stand}
use Rattle.format_dns.proofs.PartLaws.{suffix_from_slice}
use Rattle.format_dns.proofs.data.strings_to_end.Goals as goal
use Rattle.format_dns.proofs.data.strings_to_end.Goals.{
  then-is_empty-via-else-is_empty+then-not-is_empty,
  then-is_empty-via-then-is_empty,
}

pub returns-then-is_empty : goal.returns-then-is_empty
returns-then-is_empty g c =
    let (enough, end, is, size) = c.in-Some.ensures.lookup.0 in
    let fails = strings_fail c.args.message.now c.args.place c.in-Some.rest.now
    c.read_strings.new.input.now c.in-Ok.strings
    (suffix_from_slice c.args.message.now c.args.place enough is) (c.in-Ok.ensures.stands refl)
    (elim c.then-is_empty.branch [
      | then-is_empty-via-then-is_empty w ↦ inl (omega (
        arith,
        eqb-true _ 0 (sym w.if-is_empty.ensures),
        c.in-Ok.strings.ok.0,
      ))
      | then-is_empty-via-else-is_empty+then-not-is_empty w ↦
          inr (eqb-false _ 0 (sym w.if-not-is_empty.ensures))
    ]) in
    inr (
      fails,
      λ strings are. no_strings c.args.message.now c.args.place _ strings.items fails are,
    )

pub returns : goal.returns
returns g c =
    let (enough, end, is, size) = c.in-Some.ensures.lookup.0 in
    strings_stand c.args.message.now c.args.place c.in-Some.rest.now
    c.read_strings.new.input.now c.in-Ok.strings
    (suffix_from_slice c.args.message.now c.args.place enough is) (c.in-Ok.ensures.stands refl)
    (λ none. eqb-false _ 0 (sym c.if-is_empty.ensures)
    (omega (arith, none, c.in-Ok.strings.ok.0))) (eqb-true _ 0 (sym c.if-not-is_empty.ensures))
