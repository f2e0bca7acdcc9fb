use Rattle.std.proofs.Common.{◌∙◌, ◌+◌, ◌-◌, ◌++◌, [], ap, arith, length, length-take-le, sym}
use Rattle.std.proofs.Common.{take}
use Rattle.std.proofs.KnownBytes.{Consumes-trans}
use borrow.Rule.Slice.PartMut.{post_of, put_mid}
use Rattle.format_csv_records.proofs.Finding.{behind_front}
use Rattle.format_csv_records.proofs.refill.read_behind.Goals as goal

pub returns-in-Ok-clause-read : goal.returns-in-Ok-clause-read
returns-in-Ok-clause-read g c =
    let from = c.args.filled in
    let room = length c.loop-count.bytes - from in
    let read = c.read.new.buf in
    let fits = c.in-Ok.ensures.bound.0 in
    let as_many = length-take-le c.in-Ok.count read fits in
    let whole = put_mid from room c.loop-count.bytes read in (
      take c.in-Ok.count read,
      ap (λ m. take (from + m) whole) as_many ∙ behind_front _ _ _ _ (post_of from room
          c.loop-count.bytes) (omega arith) fits ∙ ap (λ l. l ++ take c.in-Ok.count read)
          c.loop-count.invariant.kept,
      Consumes-trans _ _ _ [] (take c.in-Ok.count read) c.loop-count.invariant.none
          c.in-Ok.ensures.bytes.0,
      sym as_many,
    )
