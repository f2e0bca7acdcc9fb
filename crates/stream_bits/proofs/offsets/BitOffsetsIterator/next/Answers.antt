use Rattle.std.proofs.Common.{ap, ◌≡◌, arith, length, ◌==◌, ◌∷◌, ◌/◌, ◌%◌, ◌^◌}
use Rattle.streams.specs.Stream.{with_offsets}
use Rattle.stream_bits.specs.Offsets.{bits_to_come}
use Rattle.stream_bits.proofs.OffsetsLemmas.{byte_given, last_bit, next_bit, next_byte}
use Rattle.stream_bits.proofs.offsets.BitOffsetsIterator.next.Goals as goal

-- the bits before and after the first one of a byte
byte_bits : (g : _) (c : goal.In-Some g)
    → bits_to_come c.args.self.now.possible (g.I.Stream.offsets_left c.args.self.now.bytes)
    c.args.self.now.begun c.args.self.now.ahead
    ≡ (c.in-Some.begun / 2 ^ 7 % 2 == 1) ∷ bits_to_come c.args.self.now.possible
    (g.I.Stream.offsets_left c.next.new.self) c.in-Some.begun 7
byte_bits g c =
    let first = g.met.I.Stream.offsets_step c.args.self.now.bytes _ c.next.new.self
    c.in-Some.ensures.steps in
    next_byte c.args.self.now.possible (g.I.Stream.offsets_left c.args.self.now.bytes)
    (g.I.Stream.offsets_left c.next.new.self) c.args.self.now.begun c.args.self.now.ahead
    c.in-Some.field-0-0 c.in-Some.begun c.if-not-self.false c.if-self-eq0.true
    (byte_given (g.I.Stream.seen_as c.in-Some.begun) c.in-Some.begun c.in-Some.field-0-0 _ _
    (g.met.I.ByteStream.sees_number c.in-Some.begun) first)

pub overflow_add-self : goal.overflow_add-self
overflow_add-self g c =
    omega (arith, c.args.self.now.fits, ap (λ l. length l) (byte_bits g c))

pub invariant_of-self : goal.invariant_of-self
invariant_of-self g c = record {
  inside = omega arith;
  fits = omega (arith, c.args.self.now.fits, ap (λ l. length l) (byte_bits g c));
}

pub returns-in-Some-clause-steps : goal.returns-in-Some-clause-steps
returns-in-Some-clause-steps g c =
    let first = g.met.I.Stream.offsets_step c.args.self.now.bytes _ c.next.new.self
    c.in-Some.ensures.steps in
    ap (λ l. with_offsets length c.args.self.now.offset l)
    (next_byte c.args.self.now.possible (g.I.Stream.offsets_left c.args.self.now.bytes)
    (g.I.Stream.offsets_left c.next.new.self) c.args.self.now.begun c.args.self.now.ahead
    c.in-Some.field-0-0 c.in-Some.begun c.if-not-self.false c.if-self-eq0.true
    (byte_given (g.I.Stream.seen_as c.in-Some.begun) c.in-Some.begun c.in-Some.field-0-0 _ _
    (g.met.I.ByteStream.sees_number c.in-Some.begun) first))

pub returns-in-Some-clause-goes : goal.returns-in-Some-clause-goes
returns-in-Some-clause-goes g c =
    let first = g.met.I.Stream.offsets_step c.args.self.now.bytes _ c.next.new.self
    c.in-Some.ensures.steps in
    let bits = next_byte c.args.self.now.possible
    (g.I.Stream.offsets_left c.args.self.now.bytes) (g.I.Stream.offsets_left c.next.new.self)
    c.args.self.now.begun c.args.self.now.ahead c.in-Some.field-0-0 c.in-Some.begun
    c.if-not-self.false c.if-self-eq0.true
    (byte_given (g.I.Stream.seen_as c.in-Some.begun) c.in-Some.begun c.in-Some.field-0-0 _ _
    (g.met.I.ByteStream.sees_number c.in-Some.begun) first) in
    record {
      on = λ finite.
          (λ p. c.in-Some.ensures.goes.keeps, tt, omega (arith, ap (λ l. length l) bits));
      keeps = λ p. c.in-Some.ensures.goes.keeps;
      rests = λ finite. tt;
    }

pub returns-in-None-clause-steps : goal.returns-in-None-clause-steps
returns-in-None-clause-steps g c =
    let none = g.met.I.Stream.offsets_step c.args.self.now.bytes _ c.next.new.self
    c.in-None.ensures.steps in
    ap (λ l. with_offsets length c.args.self.now.offset l)
    (last_bit c.args.self.now.possible (g.I.Stream.offsets_left c.args.self.now.bytes)
    c.args.self.now.begun c.args.self.now.ahead c.if-self-eq0.true none)

pub overflow_add-self-2 : goal.overflow_add-self-2
overflow_add-self-2 g c =
    let s = c.args.self.now in
    omega (
      arith,
      s.fits,
      ap (λ l. length l)
          (next_bit s.possible (g.I.Stream.offsets_left s.bytes) s.begun s.ahead
          c.if-not-self.false c.if-self-eq0.false),
    )

pub invariant_of-self-2 : goal.invariant_of-self-2
invariant_of-self-2 g c =
    let s = c.args.self.now in
    record {
      inside = omega (arith, s.inside);
      fits = omega (
        arith,
        s.fits,
        ap (λ l. length l)
            (next_bit s.possible (g.I.Stream.offsets_left s.bytes) s.begun s.ahead
            c.if-not-self.false c.if-self-eq0.false),
      );
    }

pub returns-clause-steps : goal.returns-clause-steps
returns-clause-steps g c =
    let s = c.args.self.now in
    ap (λ l. with_offsets length s.offset l)
    (next_bit s.possible (g.I.Stream.offsets_left s.bytes) s.begun s.ahead c.if-not-self.false
    c.if-self-eq0.false)

pub returns-clause-goes : goal.returns-clause-goes
returns-clause-goes g c =
    let s = c.args.self.now in
    let bits = next_bit s.possible (g.I.Stream.offsets_left s.bytes) s.begun s.ahead
    c.if-not-self.false c.if-self-eq0.false in
    record {
      on = λ finite. (c.requires, tt, omega (arith, ap (λ l. length l) bits));
      keeps = c.requires;
      rests = λ finite. tt;
    }
