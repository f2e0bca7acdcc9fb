use Rattle.std.proofs.Common.{refl, sym, inl, inr, arith, ◌∙◌, ◌∷◌, []}
use Rattle.std.proofs.Common.{length-append}
use Rattle.format_dns.proofs.Laws.{pushed_is_append}
use Rattle.format_dns.proofs.PartLaws.{rows_push}
use Rattle.format_dns.proofs.RecordLaws.{lacking_is_no_records}
use Rattle.format_dns.specs.Records.{IsRecord, RecordsLack}
use Rattle.format_dns.proofs.record.records_in.Goals as goal

pub loop-section-init : goal.loop-section-init
loop-section-init g c = rw (c.new-list.ensures.items) (refl, omega arith)

pub returns-in-Err : goal.returns-in-Err
returns-in-Err g c = elim c.in-Err.ensures [
  | inl memory ↦ (
    refl,
    inl (
      c.loop-section.list.items,
      c.loop-section.behind,
      c.loop-section.invariant.0,
      omega (arith, c.len-entry.ensures),
      omega (arith, c.loop-section-test.true, c.len.ensures, c.len-entry.ensures, c.from.ensures),
      memory,
    ),
  )
  | inr (fails, none) ↦
      let all : RecordsLack c.args.message.now c.args.pointers g.row.A.Denot c.args.place
      c.args.count c.len-entry.result c.in-Err.why = (
        c.loop-section.list.items,
        c.loop-section.behind,
        c.loop-section.invariant.0,
        omega (arith, c.len-entry.ensures),
        omega (arith, c.loop-section-test.true, c.len.ensures, c.len-entry.ensures, c.from.ensures),
        fails,
      ) in (
        refl,
        inr (
          all,
          λ records. lacking_is_no_records c.args.message.now c.args.pointers c.args.place
              c.args.count
              c.len-entry.result c.in-Err.why records all,
        ),
      )
]

pub returns-then-is_err : goal.returns-then-is_err
returns-then-is_err g c = (
  refl,
  inl (
    c.loop-section.list.items,
    c.loop-section.behind,
    c.loop-section.invariant.0,
    omega (arith, c.len-entry.ensures),
    omega (arith, c.loop-section-test.true, c.len.ensures, c.len-entry.ensures, c.from.ensures),
    refl,
  ),
)

pub loop-section-preserved : goal.loop-section-preserved
loop-section-preserved g c =
    let put = pushed_is_append c.loop-section.list.items (c.in-Ok.record ∷ []) c.push.result
    c.push.ensures.items (sym c.is_err.ensures.value ∙ c.if-is_err.false) in
    rw (put) (
      rows_push (λ place it. IsRecord c.args.message.now c.args.pointers place it)
          (λ it. it.behind) c.loop-section.list.items c.args.place c.loop-section.behind
          c.in-Ok.record c.loop-section.invariant.0 c.in-Ok.ensures,
      omega (
        arith,
        length-append c.loop-section.list.items (c.in-Ok.record ∷ []),
        c.loop-section-test.true,
        c.len.ensures,
        c.from.ensures,
      ),
    )

pub returns : goal.returns
returns g c = (
  c.loop-section.invariant.0,
  omega (
    arith,
    c.loop-section.invariant.1,
    c.loop-section-test.false,
    c.len.ensures,
    c.from.ensures,
  ),
)
