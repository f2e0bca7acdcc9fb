use Rattle.std.proofs.Common.{◌<◌, ◌∙◌, length, ap, arith}
use Rattle.format_csv_records.proofs.Cuts.{cut_length, field_cut, field_none, field_within}
use Rattle.format_csv_records.proofs.record.ByteRecord.get.Goals as goal

pub returns-then-place-len-clause-value : goal.returns-then-place-len-clause-value
returns-then-place-len-clause-value g c =
    let n = cut_length 0 c.self.inside.ends.items c.self.inside.bytes.items in
    let size = c.len.ensures ∙ c.self.inside.ends.ok.0 in
    let past = c.if-place-len.true in
    rw (← c.self.view_is) (field_none _ c.args.place (omega arith))

pub returns-clause-value : goal.returns-clause-value
returns-clause-value g c =
    let size = c.len.ensures ∙ c.self.inside.ends.ok.0 in
    let lt : c.args.place < length c.self.inside.ends.items = omega (arith, c.if-place-len.false) in
    let b = c.bounds-start.ensures in
    rw (← c.self.view_is, c.as_slice.ensures.value, b.start, b.end) (field_cut _ _ _ _ lt)

pub slice_bounds-result-count : goal.slice_bounds-result-count
slice_bounds-result-count g c =
    let size = c.len.ensures ∙ c.self.inside.ends.ok.0 in
    let lt : c.args.place < length c.self.inside.ends.items = omega (arith, c.if-place-len.false) in
    let b = c.bounds-start.ensures in
    let f = field_within _ _ _ _
    c.self.invariant lt in
    rw (b.start, b.end) f.0

pub slice_bounds-result-start : goal.slice_bounds-result-start
slice_bounds-result-start g c =
    let size = c.len.ensures ∙ c.self.inside.ends.ok.0 in
    let lt : c.args.place < length c.self.inside.ends.items = omega (arith, c.if-place-len.false) in
    let b = c.bounds-start.ensures in
    let f = field_within _ _ _ _
    c.self.invariant lt in
    omega (arith, b.start, b.end, f.0, f.1, ap length c.as_slice.ensures.value)

pub slice_bounds-result-end : goal.slice_bounds-result-end
slice_bounds-result-end g c =
    let size = c.len.ensures ∙ c.self.inside.ends.ok.0 in
    let lt : c.args.place < length c.self.inside.ends.items = omega (arith, c.if-place-len.false) in
    let b = c.bounds-start.ensures in
    let f = field_within _ _ _ _
    c.self.invariant lt in
    omega (arith, b.start, b.end, f.0, f.1, ap length c.as_slice.ensures.value)

pub returns-clause-place : goal.returns-clause-place
returns-clause-place g c =
    let n = cut_length 0 c.self.inside.ends.items c.self.inside.bytes.items in
    let size = c.len.ensures ∙ c.self.inside.ends.ok.0 in
    rw (← c.self.view_is) (
      omega (arith, n, size, c.if-place-len.false),
      omega (arith, n, size, c.if-place-len.false, c.len.type_inv),
    )
