use Rattle.std.proofs.Common.{sym, ◌∙◌, ◌-◌, ◌≤◌, arith, length, take, drop}
use Rattle.std.proofs.lemmas.List.{length-take-le, take-append-drop}
use Rattle.stream_bits.specs.BitInput.{readable_says}
use Rattle.stream_bits.specs.Moves.{Moves}
use Rattle.winnow_bits.specs.BytesOfBits.Laws.{whole_behind}
use Rattle.winnow_bits.proofs.bits.whole.whole_bytes.Goals as goal

pub next_slice-begun-requires : goal.next_slice-begun-requires
next_slice-begun-requires g c =
    let bytes = (g.I.Stream.view c.args.bits.0).left.tokens in
    let r = readable_says bytes c.args.bits.1 c.requires in
    let some : 1 ≤ length bytes = omega (arith, r.there, c.if-offset-ne0.true) in (
      take 1 bytes,
      drop 1 bytes,
      sym (take-append-drop 1 bytes),
      sym (g.met.I.ByteStream.counts_bytes.units (take 1 bytes) ∙ length-take-le 1 bytes some),
    )

pub returns-then-offset-ne0 : goal.returns-then-offset-ne0
returns-then-offset-ne0 g c =
    let reading = g.I.Stream.reading in
    let counts = g.met.I.ByteStream.counts_bytes in
    let i = g.I.Stream.view c.args.bits.0 in
    let j = g.I.Stream.view c.next_slice-begun.new.self in
    let offset = c.args.bits.1 in
    let bytes = i.left.tokens in
    let r = readable_says bytes offset c.requires in
    let some : 1 ≤ length bytes = omega (arith, r.there, c.if-offset-ne0.true) in
    let long = length-take-le 1 bytes some in
    let taken = c.next_slice-begun.ensures.cuts (take 1 bytes) (drop 1 bytes)
    (sym (take-append-drop 1 bytes)) (sym (counts.units (take 1 bytes) ∙ long)) in
    let m : Moves reading i j offset (8 - offset) = record {
      counts = counts;
      between = g.met.I.ByteStream.stands_between c.args.bits.0;
      front = take 1 bytes;
      passes = taken.passed;
      readable = c.requires;
      few = omega (arith, some, r.inside);
      whole = omega (arith, long, r.inside);
    } in
    whole_behind reading i j offset (8 - offset) m (omega (arith, r.inside))
    (omega (arith, r.inside, c.if-offset-ne0.true)) c.shows_bytes.ensures
    (g.met.I.ByteStream.stands_between c.next_slice-begun.new.self)
    (g.met.I.ByteStream.always_possible c.next_slice-begun.new.self)
