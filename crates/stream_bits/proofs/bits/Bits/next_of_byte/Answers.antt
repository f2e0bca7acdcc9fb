use Rattle.std.proofs.Common.{sym, ap, ◌∙◌, ◌-◌, ◌*◌, ◌/◌, ◌%◌, ◌^◌, ◌∷◌, [], arith}
use Rattle.stream_bits.specs.BitInput.{bits_input}
use Rattle.streams.specs.Input.{back_at}
use Rattle.stream_bits.specs.Within.{reads_inside}
use Rattle.stream_bits.specs.Within.{reads_last}
use Rattle.stream_bits.proofs.WithinLemmas.{back_passes, no_byte, one_shifted}
use Rattle.stream_bits.proofs.bits.Bits.next_of_byte.Goals as goal

pub returns-in_err-byte : goal.returns-in_err-byte
returns-in_err-byte g c =
    let i = g.I.Stream.view c.args.self.now.0 in
    let offset = c.args.self.now.1 in
    let passes = c.in_err-byte.ensures.passes in
    rw c.from_residual.ensures (
      no_byte i.left.tokens offset c.requires.possible passes.0,
      ap (λ x. bits_input x offset) passes.1,
    )

pub returns-then-least-eq0 : goal.returns-then-least-eq0
returns-then-least-eq0 g c =
    let i = g.I.Stream.view c.args.self.now.0 in
    let j = g.I.Stream.view c.next_token.new.self in
    let offset = c.args.self.now.1 in
    let least = 8 - offset - c.args.count in
    let b = c.in_ok-byte.byte in
    reads_last g.I.Stream.reading g.met.I.ByteStream.counts_bytes i j (g.I.Stream.seen_as b)
    offset c.args.count
    least (b / 2 ^ least % (1 * 2 ^ c.args.count % 65536))
    (g.met.I.ByteStream.stands_between c.args.self.now.0) c.requires.possible
    c.in_ok-byte.ensures.passes (omega (arith, c.requires.within))
    (ap (λ m. b / 2 ^ least % m) (one_shifted c.args.count (omega (arith, c.requires.within)))
    ∙ ap (λ x. x / 2 ^ least % 2 ^ c.args.count) (sym (g.met.I.ByteStream.sees_number b)))
    c.if-least-eq0.true

pub returns : goal.returns
returns g c =
    let i = g.I.Stream.view c.args.self.now.0 in
    let j = g.I.Stream.view c.next_token.new.self in
    let k = g.I.Stream.view c.reset.new.self in
    let offset = c.args.self.now.1 in
    let least = 8 - offset - c.args.count in
    let b = c.in_ok-byte.byte in
    let start = c.checkpoint-start.ensures in
    let back = c.reset.ensures ∙ ap (λ x. back_at x j) start in
    reads_inside g.I.Stream.reading g.met.I.ByteStream.counts_bytes i j (g.I.Stream.seen_as b)
    offset c.args.count
    least (b / 2 ^ least % (1 * 2 ^ c.args.count % 65536))
    (g.met.I.ByteStream.stands_between c.args.self.now.0) c.requires.possible
    c.in_ok-byte.ensures.passes (omega (arith, c.requires.within))
    (ap (λ m. b / 2 ^ least % m) (one_shifted c.args.count (omega (arith, c.requires.within)))
    ∙ ap (λ x. x / 2 ^ least % 2 ^ c.args.count) (sym (g.met.I.ByteStream.sees_number b)))
    k (back_passes g.I.Stream.reading (g.I.Stream.seen_as b ∷ []) i j k
    c.in_ok-byte.ensures.passes back)
    c.if-least-eq0.false
