use Rattle.std.proofs.Common.{refl, arith}
use Rattle.format_csv_records.proofs.Placing.{fields_end, fields_more, nothing_put}
use Rattle.format_csv_records.proofs.Whole.{so_far_bad, so_far_open}
use Rattle.format_csv_records.proofs.buffers.put_fields.Goals as goal

pub fields-init : goal.fields-init
fields-init g c = nothing_put _ _ _ _ _

pub put_field-requires : goal.put_field-requires
put_field-requires g c = omega (arith, c.fields.invariant.less)

pub returns-in-None : goal.returns-in-None
returns-in-None g c = so_far_open _ c.args.dialect.apart _ _ _ c.fields.invariant.read
    c.in-None.ensures

pub returns-in-Ok : goal.returns-in-Ok
returns-in-Ok g c =
    let (field, first, puts) = c.in-Some.ensures in
    fields_end _ _ c.args.dialect.apart _ _ _ _ _ _ _ _ c.fields.invariant _ _ first _ _ puts _ _
    c.of.ensures c.put_place.ensures _ _ c.in-Ok.ensures c.is_some.ensures _ refl

pub returns-in-Err : goal.returns-in-Err
returns-in-Err g c =
    let (field, first, puts) = c.in-Some.ensures in
    so_far_bad _ c.args.dialect.apart _ _ _ c.fields.invariant.read _ _ first _ _ _
    c.if-not-first_is.ensures c.in-Err.ensures c.why_not-why.ensures refl

pub fields-preserved : goal.fields-preserved
fields-preserved g c =
    let (field, first, puts) = c.in-Some.ensures in
    fields_more _ _ c.args.dialect.apart _ _ _ _ _ _ _ _ c.fields.invariant _ _ first _ _ puts _ _
    c.of.ensures c.put_place.ensures _ c.if-not-first_is.ensures c.behind-rest.ensures
