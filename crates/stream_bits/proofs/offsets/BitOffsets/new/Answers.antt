use Rattle.std.proofs.Common.{sym, ap, ◌∙◌, ◌-◌, arith, true, drop, length}
use Rattle.stream_bits.specs.BitList.{bits_of}
use Rattle.stream_bits.specs.Offsets.{bytes_to_come}
use Rattle.stream_bits.proofs.OffsetsLemmas.{byte_given, first_begun, length_to_come, none_ahead}
use Rattle.stream_bits.proofs.offsets.BitOffsets.new.Goals as goal

pub invariant_of-result : goal.invariant_of-result
invariant_of-result g c = record {
  inside = omega arith;
  fits = omega (
    arith,
    c.requires.few,
    length_to_come true (g.I.Stream.offsets_left c.args.bytes) 0 0,
  );
}

pub returns-then-read-eq0-clause-bits : goal.returns-then-read-eq0-clause-bits
returns-then-read-eq0-clause-bits g c =
    let bytes = g.I.Stream.offsets_left c.args.bytes in
    none_ahead bytes 0
    ∙ sym (ap (λ n. drop n (bits_of (bytes_to_come bytes))) c.if-read-eq0.true)

pub invariant_of-result-in-Some : goal.invariant_of-result-in-Some
invariant_of-result-in-Some g c =
    let first = g.met.I.Stream.offsets_step c.args.bytes _ c.next.new.self
    c.in-Some.ensures.steps in
    record {
      inside = omega (arith, c.if-read-eq0.false);
      fits = omega (
        arith,
        c.requires.few,
        c.if-read-eq0.false,
        ap (λ l. length l) first,
        length_to_come true (g.I.Stream.offsets_left c.next.new.self) c.in-Some.begun
            (8 - c.args.read),
      );
    }

pub returns-in-Some-clause-bits : goal.returns-in-Some-clause-bits
returns-in-Some-clause-bits g c =
    let first = g.met.I.Stream.offsets_step c.args.bytes _ c.next.new.self
    c.in-Some.ensures.steps in
    first_begun (g.I.Stream.offsets_left c.args.bytes) (g.I.Stream.offsets_left c.next.new.self)
    c.in-Some.field-0-0 c.in-Some.begun c.args.read c.requires.inside
    (byte_given (g.I.Stream.seen_as c.in-Some.begun) c.in-Some.begun c.in-Some.field-0-0 _ _
    (g.met.I.ByteStream.sees_number c.in-Some.begun) first)
