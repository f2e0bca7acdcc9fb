use Rattle.std.proofs.Common.{refl}
use Rattle.format_csv_records.proofs.Whole.{so_far_bad, so_far_ends, so_far_more, so_far_none}
use Rattle.format_csv_records.proofs.Whole.{so_far_open}
use Rattle.format_csv_records.proofs.read.read_fields.Goals as goal

pub fields-init : goal.fields-init
fields-init g c = record {
  read = so_far_none _ _ _ c.requires.none;
  none = c.requires.begun;
}

pub returns-then-not-branch : goal.returns-then-not-branch
returns-then-not-branch g c =
    let h = rw c.if-not-branch.true at c.in_ok-read_field.ensures in
    so_far_open _ c.args.dialect.apart _ _ _ c.fields.invariant.read h

pub returns-in-Ok : goal.returns-in-Ok
returns-in-Ok g c =
    let h = rw c.if-not-branch.false at c.in_ok-read_field.ensures in
    so_far_ends _ c.args.dialect.apart _ _ _ c.fields.invariant.read _ _ h.1 _ _ h.2
    c.in-Ok.ensures

pub returns-in-Err : goal.returns-in-Err
returns-in-Err g c =
    let h = rw c.if-not-branch.false at c.in_ok-read_field.ensures in
    so_far_bad _ c.args.dialect.apart _ _ _ c.fields.invariant.read _ _ h.1 _ _ _
    c.if-not-first_is.ensures c.in-Err.ensures c.why_not-why.ensures refl

pub fields-preserved : goal.fields-preserved
fields-preserved g c =
    let h = rw c.if-not-branch.false at c.in_ok-read_field.ensures in record {
      read = so_far_more _ c.args.dialect.apart _ _ _ c.fields.invariant.read _ _ h.1 _ _ h.2
          c.if-not-first_is.ensures c.behind-rest.ensures;
      none = h.3;
    }
