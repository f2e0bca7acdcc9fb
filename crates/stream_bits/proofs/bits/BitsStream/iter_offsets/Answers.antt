use Rattle.std.proofs.Common.{sym, ap, ◌∙◌, ◌≡◌, arith, length, drop, ℕ, List}
use Rattle.streams.specs.Stream.{length-with_offsets, with_offsets}
use Rattle.stream_bits.specs.BitInput.{bits_from, bits_readable, readable_says}
use Rattle.stream_bits.specs.BitList.{bits_of}
use Rattle.stream_bits.specs.Offsets.{bytes_to_come}
use Rattle.stream_bits.proofs.OffsetsLemmas.{bytes_with_offsets, same_from_start}
use Rattle.stream_bits.proofs.bits.BitsStream.iter_offsets.Goals as goal

counted : (units : List ℕ → ℕ) (bytes : List ℕ) (given : List (ℕ × ℕ))
    → given ≡ with_offsets units 0 bytes → length given ≡ length bytes
counted units bytes given e = ap (λ l. length l) e ∙ length-with_offsets units 0 bytes

pub new-requires-clause-there : goal.new-requires-clause-there
new-requires-clause-there g c =
    let bytes = (g.I.Stream.view c.args.self.now.0).left.tokens in
    let r = readable_says bytes c.args.self.now.1 (sym c.if-is_possible.ensures) in
    omega (
      arith,
      r.there,
      counted g.I.Stream.reading.units bytes _ c.iter_offsets-bytes.ensures.items,
    )

pub new-requires-clause-few : goal.new-requires-clause-few
new-requires-clause-few g c =
    let bytes = (g.I.Stream.view c.args.self.now.0).left.tokens in
    let r = readable_says bytes c.args.self.now.1 (sym c.if-is_possible.ensures) in
    omega (
      arith,
      r.counted,
      counted g.I.Stream.reading.units bytes _ c.iter_offsets-bytes.ensures.items,
    )

pub returns-then-is_possible-clause-items : goal.returns-then-is_possible-clause-items
returns-then-is_possible-clause-items g c =
    let bytes = (g.I.Stream.view c.args.self.now.0).left.tokens in
    let offset = c.args.self.now.1 in
    let bits = c.new.ensures.bits
    ∙ ap (λ l. drop offset (bits_of (bytes_to_come l))) c.iter_offsets-bytes.ensures.items
    ∙ ap (λ l. drop offset (bits_of l)) (bytes_with_offsets g.I.Stream.reading.units 0 bytes)
    ∙ sym (bits_readable bytes offset (sym c.if-is_possible.ensures)) in
    same_from_start _ (bits_from bytes offset) c.new.result.offset c.new.ensures.start bits
