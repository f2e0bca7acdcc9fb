use Rattle.std.specs.Prelude.{◌≡◌, ◌<◌, ◌≤◌, ◌+◌, ◌/◌, ◌%◌, ℕ, List, true, false, length, nat_le}
use Rattle.std.proofs.Common.{arith, ◌∙◌}
use Rattle.std.proofs.lemmas.Bool.{leb-false, leb-true}
use Rattle.streams.specs.Following.{most_bytes}
use Rattle.stream_bits.specs.BitInput.{bits_from, can_be_read, length_from}
use Rattle.stream_bits.specs.BitInput.{readable_is, readable_says}
use Rattle.stream_bits.proofs.bits.Bits.has.Goals as goal

-- the number of bytes that `count` bits from bit `offset` on take part of
abbrev bytes_of : ℕ → ℕ → ℕ
bytes_of offset count = count / 8 + (count % 8 + offset + 7) / 8

has_bits : (bytes : List ℕ) (offset count n : ℕ) → n ≡ length bytes → offset < 8
    → n ≤ most_bytes → 0 < count → nat_le (bytes_of offset count) n ≡ true
    → (can_be_read bytes offset ≡ true) × (count ≤ length (bits_from bytes offset))
has_bits bytes offset count n e inside counted some is =
    let enough = leb-true (bytes_of offset count) n is in
    let readable = readable_is bytes offset (record {
      inside = inside;
      there = omega (arith, e, enough, inside, some);
      counted = omega (arith, e, counted);
    }) in
    (readable, omega (arith, e, enough, inside, length_from bytes offset readable))

lacks_bits : (bytes : List ℕ) (offset count n : ℕ) → n ≡ length bytes → 0 < count
    → nat_le (bytes_of offset count) n ≡ false → can_be_read bytes offset ≡ true
    → length (bits_from bytes offset) < count
lacks_bits bytes offset count n e some is readable =
    let few = leb-false (bytes_of offset count) n is in
    let known = readable_says bytes offset readable in
    omega (arith, e, few, some, known.inside, known.there, length_from bytes offset readable)

pub returns-then-bytes-le-MOST_BYTES-clause-yes : goal.returns-then-bytes-le-MOST_BYTES-clause-yes
returns-then-bytes-le-MOST_BYTES-clause-yes g c is =
    let bytes = (g.I.Stream.view c.args.self.now.0).left.tokens in
    let counted = c.eof_offset-bytes.ensures ∙ g.met.I.ByteStream.counts_bytes.units bytes in
    let (inside, most) = c.if-bytes-le-MOST_BYTES.true in
    has_bits bytes c.args.self.now.1 c.args.count c.eof_offset-bytes.result counted inside most
    c.requires.some is

pub returns-then-bytes-le-MOST_BYTES-clause-no : goal.returns-then-bytes-le-MOST_BYTES-clause-no
returns-then-bytes-le-MOST_BYTES-clause-no g c is readable =
    let bytes = (g.I.Stream.view c.args.self.now.0).left.tokens in
    let counted = c.eof_offset-bytes.ensures ∙ g.met.I.ByteStream.counts_bytes.units bytes in
    lacks_bits bytes c.args.self.now.1 c.args.count c.eof_offset-bytes.result counted
    c.requires.some is readable
