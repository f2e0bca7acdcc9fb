use Rattle.std.proofs.Common.{◌∙◌, IsUtf8, arith, rules, sym, subst, take}
use Rattle.std.proofs.lemmas.Iterator.{YieldsList-from_chars}
use Rattle.std.proofs.lemmas.Iterator.Consumers.{YieldsList-end}
use Rattle.std.proofs.lemmas.List.{length_push, map-id}
use Rattle.std.proofs.lemmas.Str.{IsUtf8-take}
use Rattle.text_positions.proofs.PositionLemmas.{behind_line, within_line}
use Rattle.text_positions.specs.Position.{IsPosition}
use Rattle.text_positions.proofs.position_of.Goals as goal

pub loop-c-preserved-then-c-eq10 : goal.loop-c-preserved-then-c-eq10
loop-c-preserved-then-c-eq10 c =
    let it = c.loop-c.invariant in
    record {
      place = behind_line _ _ _ _ c.if-c-eq10.true it.place;
      bound = omega (arith, length_push c.loop-c.yielded c.in-Some.c, it.bound);
    }

pub loop-c-preserved : goal.loop-c-preserved
loop-c-preserved c =
    let it = c.loop-c.invariant in
    record {
      place = within_line _ _ _ _ c.if-c-eq10.false it.place;
      bound = omega (arith, length_push c.loop-c.yielded c.in-Some.c, it.bound);
    }

pub returns-clause-place : goal.returns-clause-place
returns-clause-place c =
    let is = c.in_ok-before.ensures in
    let utf8 : IsUtf8 (take c.args.offset c.args.text.now) = search (rules, IsUtf8-take) in
    let all = YieldsList-end (YieldsList-from_chars (take c.args.offset c.args.text.now) utf8 cc)
    c.loop-c.yielded _ c.loop-c.yielded_by _ _ c.in-None.is c.next.ensures.steps in
    subst (λ cs. IsPosition cs c.loop-c.line c.loop-c.column)
    (sym (map-id c.loop-c.yielded) ∙ all.0) c.loop-c.invariant.place
