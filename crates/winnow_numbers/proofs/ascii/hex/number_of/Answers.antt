use Rattle.std.proofs.Common.{arith, ap, take, ◌∙◌}
use Rattle.std.specs.Str.Parse.{digits_value}
use Rattle.winnow_numbers.proofs.HexLemmas.{hex_all, hex_step}
use Rattle.winnow_numbers.proofs.ascii.hex.number_of.Goals as goal

pub push_nibble-number-requires-clause-fits : goal.push_nibble-number-requires-clause-fits
push_nibble-number-requires-clause-fits g c =
    (hex_step c.args.bytes.now c.loop-byte.byte-index (g.N.HexUint.number c.loop-byte.number) _
    g.N.HexUint.nibbles c.requires.digits c.requires.few (omega arith) c.loop-byte.invariant
    c.nibble_of.ensures.value).1

pub loop-byte-preserved : goal.loop-byte-preserved
loop-byte-preserved g c =
    c.push_nibble-number.ensures
    ∙ (hex_step c.args.bytes.now c.loop-byte.byte-index (g.N.HexUint.number c.loop-byte.number) _
    g.N.HexUint.nibbles c.requires.digits c.requires.few (omega arith) c.loop-byte.invariant
    c.nibble_of.ensures.value).0

pub returns : goal.returns
returns g c =
    let b = c.args.bytes.now in
    hex_all b (g.N.HexUint.number c.loop-byte.number)
    (c.loop-byte.invariant ∙ ap (λ k. digits_value 16 (take k b)) (omega arith))
