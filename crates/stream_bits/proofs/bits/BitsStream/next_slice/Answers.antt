use Rattle.std.proofs.Common.{refl, sym, ap, ◌∙◌, ◌≡◌, ◌+◌, ◌/◌, ◌≤◌, [], arith, subst, List}
use Rattle.std.proofs.Common.{Bool, length, take, drop}
use Rattle.std.proofs.lemmas.List.{nil_from_length, take-append-drop, length-take-le}
use Rattle.streams.specs.Input.{Takes, takes_end}
use Rattle.streams.specs.Reading.{units-nil}
use Rattle.stream_bits.specs.BitInput.{bits_input, readable_says, some_readable}
use Rattle.stream_bits.specs.BitReading.{bits_reading}
use Rattle.stream_bits.specs.Moves.{Moves}
use Rattle.stream_bits.specs.Within.{passes_none}
use Rattle.stream_bits.proofs.MovesLemmas.{cut_bits}
use Rattle.stream_bits.proofs.WithinLemmas.{none_passed, shows_none}
use Rattle.stream_bits.proofs.bits.BitsStream.next_slice.Goals as goal

pub returns-then-offset-eq0-clause-cuts : goal.returns-then-offset-eq0-clause-cuts
returns-then-offset-eq0-clause-cuts g c front rest splits at =
    let reading = g.I.Stream.reading in
    let i = g.I.Stream.view c.args.self.now.0 in
    let j = g.I.Stream.view c.next_slice.new.self in
    let offset = c.args.self.now.1 in
    let takes = c.next_slice.ensures.cuts [] i.left.tokens refl (sym (units-nil reading)) in
    let same = ap (λ x. bits_input x offset) (none_passed reading i j takes.passed) in
    let none : front ≡ [] = nil_from_length front (omega (arith, at, c.if-offset-eq0.true)) in
    let P : List Bool → Type 0 = λ l. Takes (bits_reading reading) l (bits_input i offset)
    (c.next_slice.result, offset, offset) (bits_input j offset) in
    subst P (sym none) (record {
      shown = shows_none reading c.next_slice.result offset takes.shown;
      passed = passes_none (bits_reading reading) (bits_input i offset) (bits_input j offset) same;
    })

pub returns-then-offset-eq0-clause-ends : goal.returns-then-offset-eq0-clause-ends
returns-then-offset-eq0-clause-ends g c =
    let owed = c.requires in
    takes_end (returns-then-offset-eq0-clause-cuts g c owed.0 owed.1 owed.2 owed.3)

pub overflow_add-end : goal.overflow_add-end
overflow_add-end g c =
    let bytes = (g.I.Stream.view c.args.self.now.0).left.tokens in
    let offset = c.args.self.now.1 in
    let owed = c.requires in
    let r = some_readable bytes offset owed.0 owed.1 owed.2 c.args.offset owed.3
    c.if-offset-eq0.false in
    let all = readable_says bytes offset r.0 in
    omega (arith, r.1, all.counted)

pub next_slice-requires-2 : goal.next_slice-requires-2
next_slice-requires-2 g c =
    let bytes = (g.I.Stream.view c.args.self.now.0).left.tokens in
    let offset = c.args.self.now.1 in
    let n = (offset + c.args.offset) / 8 in
    let owed = c.requires in
    let r = some_readable bytes offset owed.0 owed.1 owed.2 c.args.offset owed.3
    c.if-offset-eq0.false in
    let few : n ≤ length bytes = omega (arith, r.1) in (
      take n bytes,
      drop n bytes,
      sym (take-append-drop n bytes),
      sym (g.met.I.ByteStream.counts_bytes.units (take n bytes) ∙ length-take-le n bytes few),
    )

pub returns-clause-cuts : goal.returns-clause-cuts
returns-clause-cuts g c front rest splits at =
    let reading = g.I.Stream.reading in
    let counts = g.met.I.ByteStream.counts_bytes in
    let i = g.I.Stream.view c.args.self.now.0 in
    let j = g.I.Stream.view c.next_slice-2.new.self in
    let offset = c.args.self.now.1 in
    let n = (offset + c.args.offset) / 8 in
    let r = some_readable i.left.tokens offset front rest splits c.args.offset at
    c.if-offset-eq0.false in
    let few : n ≤ length i.left.tokens = omega (arith, r.1) in
    let long = length-take-le n i.left.tokens few in
    let cut = c.next_slice-2.ensures.cuts in
    let taken = cut (take n i.left.tokens) (drop n i.left.tokens)
    (sym (take-append-drop n i.left.tokens)) (sym (counts.units (take n i.left.tokens) ∙ long)) in
    let m : Moves reading i j offset c.args.offset = record {
      counts = counts;
      between = g.met.I.ByteStream.stands_between c.args.self.now.0;
      front = take n i.left.tokens;
      passes = taken.passed;
      readable = r.0;
      few = r.1;
      whole = long;
    } in
    cut_bits reading i j offset c.args.offset m c.next_slice-2.result
    (λ bytes as_many behind split.
    (cut bytes behind split (sym (counts.units bytes ∙ as_many))).shown)
    front rest splits at

pub returns-clause-ends : goal.returns-clause-ends
returns-clause-ends g c =
    let owed = c.requires in
    takes_end (returns-clause-cuts g c owed.0 owed.1 owed.2 owed.3)

pub returns-then-offset-eq0-clause-stands : goal.returns-then-offset-eq0-clause-stands
returns-then-offset-eq0-clause-stands g c =
    let reading = g.I.Stream.reading in
    let i = g.I.Stream.view c.args.self.now.0 in
    let offset = c.args.self.now.1 in
    let takes = c.next_slice.ensures.cuts [] i.left.tokens refl (sym (units-nil reading)) in
    let P : List _ → Type 0 = λ l. reading.shows c.next_slice.result l in
    record {
      begins = refl;
      ends = refl;
      passes = λ few.
          let none : (offset + c.args.offset) / 8 ≡ 0 = omega (arith, few, c.if-offset-eq0.true) in
          subst P (ap (λ n. take n i.left.tokens) (sym none)) takes.shown;
      stays = λ far. takes.shown;
    }

pub returns-clause-stands : goal.returns-clause-stands
returns-clause-stands g c =
    let bytes = (g.I.Stream.view c.args.self.now.0).left.tokens in
    let offset = c.args.self.now.1 in
    let n = (offset + c.args.offset) / 8 in
    let owed = c.requires in
    let r = some_readable bytes offset owed.0 owed.1 owed.2 c.args.offset owed.3
    c.if-offset-eq0.false in
    let few : n ≤ length bytes = omega (arith, r.1) in
    record {
      begins = refl;
      ends = refl;
      passes = λ less. (c.next_slice-2.ensures.cuts (take n bytes) (drop n bytes)
          (sym (take-append-drop n bytes))
          (sym (g.met.I.ByteStream.counts_bytes.units (take n bytes)
          ∙ length-take-le n bytes few))).shown;
      stays = λ far.
          let all = readable_says bytes offset r.0 in
          let within = all.inside in
          absurd (omega (arith, within, far));
    }
