use Rattle.std.proofs.Common.{arith, refl, sym}
use Rattle.std.proofs.lemmas.Bool.{eqb-false, eqb-true}
use Rattle.streams.specs.Equal.{true_is_false}
use Rattle.winnow_machines.proofs.ScanLemmas.{final_end, final_next, last_word, more_comes, no_word}
use Rattle.winnow_machines.proofs.ScanLemmas.{none_comes, none_left, word_ends}
use Rattle.winnow_machines.proofs.word.scan.Goals as goal

pub returns-then-is_over : goal.returns-then-is_over
returns-then-is_over g c =
    let left = c.pass-state.result.1.now in
    let none = none_left left (eqb-true _ 0 (sym (c.if-is_empty.ensures))) in
    let machine = g.M.Machine.grammar c.args.machine.now in
    word_ends machine (g.met.M.Machine.lawful _ c.requires) c.start.ensures c.pass-state.ensures
    c.args.may_continue (final_end machine _ left none (c.if-is_over.ensures))

pub returns-then-may_continue : goal.returns-then-may_continue
returns-then-may_continue g c =
    let none = none_left _ (eqb-true _ 0 (sym (c.if-is_empty.ensures))) in
    more_comes (g.M.Machine.grammar c.args.machine.now) (g.met.M.Machine.lawful _ c.requires)
    c.start.ensures c.pass-state.ensures c.args.may_continue none c.if-is_over.ensures
    c.if-may_continue.true

pub returns-then-is_done : goal.returns-then-is_done
returns-then-is_done g c =
    let none = none_left _ (eqb-true _ 0 (sym (c.if-is_empty.ensures))) in
    last_word (g.M.Machine.grammar c.args.machine.now) (g.met.M.Machine.lawful _ c.requires)
    c.start.ensures c.pass-state.ensures c.args.may_continue none c.if-may_continue.false
    (c.if-is_done.ensures.0 refl)

pub returns-else-is_done : goal.returns-else-is_done
returns-else-is_done g c =
    let none = none_left _ (eqb-true _ 0 (sym (c.if-is_empty.ensures))) in
    none_comes (g.M.Machine.grammar c.args.machine.now) (g.met.M.Machine.lawful _ c.requires)
    c.start.ensures c.pass-state.ensures c.args.may_continue none c.if-is_over.ensures
    (λ word. true_is_false (sym (c.if-is_done.ensures.1 word)))

pub returns-then-is_done-2 : goal.returns-then-is_done-2
returns-then-is_done-2 g c =
    let left = c.pass-state.result.1.now in
    let some = eqb-false _ 0 (sym (c.if-is_empty.ensures)) in
    let machine = g.M.Machine.grammar c.args.machine.now in
    word_ends machine (g.met.M.Machine.lawful _ c.requires) c.start.ensures c.pass-state.ensures
    c.args.may_continue
    (final_next machine _ left (omega (arith, some)) (c.if-is_done-2.ensures.0 refl))

pub returns-else-is_done-2 : goal.returns-else-is_done-2
returns-else-is_done-2 g c =
    let some = eqb-false _ 0 (sym (c.if-is_empty.ensures)) in
    no_word (g.M.Machine.grammar c.args.machine.now) (g.met.M.Machine.lawful _ c.requires)
    c.start.ensures c.pass-state.ensures c.args.may_continue (omega (arith, some))
    (λ word. true_is_false (sym (c.if-is_done-2.ensures.1 word)))
