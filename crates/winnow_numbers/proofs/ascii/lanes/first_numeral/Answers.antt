use Rattle.std.proofs.Common.{w8}
use Rattle.std.proofs.lemmas.Simd.{chunk-fits}
use Rattle.winnow_numbers.proofs.FirstLemmas.{found, lanes_are, zero_found}
use Rattle.winnow_numbers.proofs.ascii.lanes.first_numeral.Goals as goal

pub returns-then-bytes-eq48 : goal.returns-then-bytes-eq48
returns-then-bytes-eq48 c =
    zero_found c.args.bytes.now c.if-bytes-lt-LANES.false c.if-bytes-eq48.true

pub returns : goal.returns
returns c =
    found c.args.bytes.now _ c.in_ok-count.count _ (chunk-fits w8 0 16 c.args.bytes.now
    c.type_inv.bytes) (lanes_are c.args.bytes.now c.if-bytes-lt-LANES.false)
    c.if-bytes-eq48.false c.in_ok-count.ensures c.if-count-eq0.false c.number_first.ensures
