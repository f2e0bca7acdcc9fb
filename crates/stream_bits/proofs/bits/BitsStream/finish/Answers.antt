use Rattle.std.proofs.lemmas.List.{append-nil}
use Rattle.stream_bits.specs.BitInput.{bits_from}
use Rattle.std.proofs.Common.{subst, sym, [], ℕ}
use Rattle.stream_bits.specs.BitReading.{IsBitPosition}
use Rattle.stream_bits.proofs.WithinLemmas.{nothing_behind}
use Rattle.stream_bits.proofs.bits.BitsStream.finish.Goals as goal

pub returns-clause-takes : goal.returns-clause-takes
returns-clause-takes g c =
    let bits = bits_from (g.I.Stream.view c.args.self.now.0).left.tokens c.args.self.now.1 in
    c.next_slice.ensures.cuts bits [] (sym (append-nil bits)) c.eof_offset-left.ensures

pub returns-clause-nothing : goal.returns-clause-nothing
returns-clause-nothing g c =
    let bits = bits_from (g.I.Stream.view c.args.self.now.0).left.tokens c.args.self.now.1 in
    nothing_behind bits _ (returns-clause-takes g c).passed.tokens

pub returns-clause-stands : goal.returns-clause-stands
returns-clause-stands g c =
    let i = g.I.Stream.view c.args.self.now.0 in
    let offset = c.args.self.now.1 in
    let P : ℕ → Type 0 = λ n. IsBitPosition g.I.Stream.reading i.left.tokens offset n
    c.next_slice.result c.next_slice.new.self.1 in
    subst P c.eof_offset-left.ensures c.next_slice.ensures.stands
