use Rattle.std.proofs.Common.{◌∙◌, inl, inr, length, sym}
use Rattle.std.proofs.lemmas.Bool.{eqb-false, eqb-true}
use Rattle.machines.specs.Counts.{counted_data, counted_stays, counted_turns, counted_waits}
use Rattle.machines.proofs.counted.CountedMachine.pass.Goals as goal

pub returns-in-Data : goal.returns-in-Data
returns-in-Data g c = counted_data (g.N.Number.numerals c.args.self.now.0) c.args.at
    c.in-Data.size c.args.bytes.now c.pass_data-more.result.0 c.pass_data-more.result.1.now
    c.in-Data.is c.pass_data-more.ensures

pub returns-in-None : goal.returns-in-None
returns-in-None g c = counted_waits (g.N.Number.numerals c.args.self.now.0)
    (g.met.N.Number.lawful c.args.self.now.0 c.requires) c.args.at c.in-Numeral.from
    c.pass-to.result.0 c.args.bytes.now c.pass-to.result.1.now c.in-Numeral.is c.pass-to.ensures
    (c.in-None.ensures)

pub returns-then-size-eq0 : goal.returns-then-size-eq0
returns-then-size-eq0 g c = counted_stays (g.N.Number.numerals c.args.self.now.0)
    (g.met.N.Number.lawful c.args.self.now.0 c.requires) c.args.at c.in-Numeral.from
    c.pass-to.result.0 c.args.bytes.now c.pass-to.result.1.now c.in-Some.size c.in-Numeral.is
    c.pass-to.ensures (c.in-Some.ensures) (inl c.if-size-eq0.true)

pub returns-then-is_empty : goal.returns-then-is_empty
returns-then-is_empty g c = counted_stays (g.N.Number.numerals c.args.self.now.0)
    (g.met.N.Number.lawful c.args.self.now.0 c.requires) c.args.at c.in-Numeral.from
    c.pass-to.result.0 c.args.bytes.now c.pass-to.result.1.now c.in-Some.size c.in-Numeral.is
    c.pass-to.ensures (c.in-Some.ensures)
    (inr (eqb-true (length c.pass-to.result.1.now) 0 (sym c.is_empty.ensures ∙ c.if-is_empty.true)))

pub returns-else-is_empty : goal.returns-else-is_empty
returns-else-is_empty g c = counted_turns (g.N.Number.numerals c.args.self.now.0)
    (g.met.N.Number.lawful c.args.self.now.0 c.requires) c.args.at c.in-Numeral.from
    c.pass-to.result.0 c.args.bytes.now c.pass-to.result.1.now c.in-Some.size
    c.pass_data-more-in-Some.result.0 c.pass_data-more-in-Some.result.1.now c.in-Numeral.is
    c.pass-to.ensures (c.in-Some.ensures) c.if-size-eq0.false
    (eqb-false (length c.pass-to.result.1.now) 0 (sym c.is_empty.ensures ∙ c.if-is_empty.false))
    c.pass_data-more-in-Some.ensures
