use Rattle.std.proofs.Common.{[], ◌≡◌, List, Result, Err, refl, subst, sym, ap, arith}
use Rattle.format_toml_tree.specs.Answer.{answers_fault, no_memory, answers_tree}
use Rattle.format_toml_tree.specs.Holds.{AddsLine, HoldsTree}
use Rattle.format_toml_tree.specs.Order.{HoldsInOrder}
use Rattle.format_toml_tree.specs.contracts.build.build.{A-type}
use Rattle.format_toml_tree.specs.declared.tree.Slot.{Slot}
use Rattle.format_toml_tree.proofs.Lines.{all_added, all_in_order, left_added}
use Rattle.format_toml_tree.proofs.Lines.{left_first, line_refused, some_place, stands}
use Rattle.format_toml_tree.specs.Runs.{Gives, empty}
use Rattle.format_toml_tree.specs.declared.build.TreeError.{TreeError}
use Rattle.format_toml_tree.proofs.build.build.Goals as goal
use Rattle.format_toml_tree.proofs.KeysLemmas.{err_is}

pub loop-line-init : goal.loop-line-init
loop-line-init g c = left_first _ _ _ c.in_ok-tree.ensures

pub add_line-requires : goal.add_line-requires
add_line-requires g c = stands _ _ _ _ _ c.loop-line.invariant

err_same : {X : Type 0} {a b : TreeError} (r : Result X TreeError) → r ≡ Err a → r ≡ Err b → a ≡ b
err_same r e f = cc

pub returns-in-Err-clause-refused : goal.returns-in-Err-clause-refused
returns-in-Err-clause-refused g c line why e =
    let (at, stop) = c.fault_at.ensures line why (err_same _ refl e) in
    let lines = c.args.lines.now in
    let old = c.loop-line.tree.slots.items in
    let new = c.add_line.new.self.slots.items in
    subst (λ l. Gives c.args.level (empty, []) 0 lines (Err (l, why))) (sym at) (line_refused _ _
    _ _ _ c.loop-line.invariant _ c.loop-line-test.true c.index-lines-line.is _ new
    (subst (λ s. AddsLine c.args.level old c.loop-line.table c.index-lines-line.result
    (Err s) new) stop
    c.in-Err.ensures))

pub loop-line-preserved : goal.loop-line-preserved
loop-line-preserved g c =
    left_added _ _ _ _ _ c.loop-line.invariant _ c.loop-line-test.true c.index-lines-line.is _ _
    c.in-Ok.ensures

pub returns-clause-accepted : goal.returns-clause-accepted
returns-clause-accepted g c =
    let P : List (Slot (A-type g.row.A)) → Type 0 = λ slots.
    HoldsTree slots c.loop-line.invariant.tree in (
      c.loop-line.invariant.tree,
      all_added _ _ _ _ _ c.loop-line.invariant c.loop-line-test.false (omega arith),
      subst P (sym c.shrink_to_fit.ensures.items) (
        c.loop-line.invariant.path,
        c.loop-line.invariant.holds,
        some_place _ _ _ _ _ c.loop-line.invariant,
      ),
      c.loop-line.invariant.nested,
    )

pub returns-clause-order : goal.returns-clause-order
returns-clause-order g c =
    let P : List (Slot (A-type g.row.A)) → Type 0 = λ slots.
    HoldsInOrder c.args.level c.args.lines.now slots in
    subst P (sym c.shrink_to_fit.ensures.items)
    (all_in_order _ _ _ _ _ c.loop-line.invariant c.loop-line-test.false (omega arith))

pub returns-in_err-tree-clause-answers : goal.returns-in_err-tree-clause-answers
returns-in_err-tree-clause-answers g c =
    rw (err_is c.from_residual.result _ c.from_residual.ensures)
    (λ outcome other. no_memory outcome)

pub returns-in-Err-clause-answers : goal.returns-in-Err-clause-answers
returns-in-Err-clause-answers g c =
    answers_fault _ _ _ (λ line why e.
    returns-in-Err-clause-refused g c line why (ap (λ f. Err f) e))

pub returns-clause-answers : goal.returns-clause-answers
returns-clause-answers g c =
    let told = returns-clause-accepted g c in
    answers_tree _ _ (record { slots = c.shrink_to_fit.new.self }) _ told.1 told.2
