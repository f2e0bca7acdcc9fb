use Rattle.std.proofs.Common.{sym, ap, ◌∙◌, ◌-◌, ◌*◌}
use Rattle.stream_bits.specs.BitInput.{length_from}
use Rattle.stream_bits.proofs.bits.BitsStream.eof_offset.Goals as goal

pub returns-then-is_possible : goal.returns-then-is_possible
returns-then-is_possible g c =
    let bytes = (g.I.Stream.view c.args.self.now.0).left.tokens in
    let counted = c.eof_offset.ensures ∙ g.met.I.ByteStream.counts_bytes.units bytes in
    ap (λ n. 8 * n - c.args.self.now.1) counted
    ∙ sym (length_from bytes c.args.self.now.1 (sym c.if-is_possible.ensures))
