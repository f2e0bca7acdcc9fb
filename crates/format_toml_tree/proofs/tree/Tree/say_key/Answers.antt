use Rattle.std.proofs.Common.{◌≡◌, ◌<◌, ◌≤◌, ◌+◌, length, Err, Ok, refl, ap, subst, arith}
use Rattle.format_toml_tree.specs.Calls.{stays}
use Rattle.format_toml_tree.specs.Holds.{SlotResult, says_of}
use Rattle.format_toml_tree.specs.Runs.{say, say_key}
use Rattle.format_toml_tree.proofs.tree.Tree.say_key.Goals as goal
use Rattle.format_toml_tree.proofs.tree.Tree.say_key.Goals.{else-i-names, then-i-names}
use Rattle.format_toml_tree.proofs.KeysLemmas.{err_is, all_said, said_more, said_refused}

pub loop-i-init : goal.loop-i-init
loop-i-init g c tree path holds = ((tree, path c.args.table), refl, stays _ holds c.requires.3)

pub say-requires : goal.say-requires
say-requires g c =
    let (tree, path, holds, within) = c.requires in
    let (s, e, goes) = c.loop-i.invariant tree path holds in
    (s.0, goes.paths, goes.holds, goes.within)

pub returns-in_err-table : goal.returns-in_err-table
returns-in_err-table g c tree path holds =
    let names = c.as_slice-names.result.now in
    let old = c.args.self.now.slots.items in
    let new = c.say.new.self.slots.items in
    let mid = c.loop-i.self.slots.items in
    let stop = c.in_err-table.field-0.0 in
    let before = says_of c.args.passes in
    let last = says_of c.args.role in
    let here = says_of c.if-i-names.here in
    let which : (c.loop-i.i + 1 < length names → here ≡ before)
    × (length names ≤ c.loop-i.i + 1 → here ≡ last) = elim c.if-i-names.branch [
      | then-i-names w ↦ (
        λ l. ap (λ r. says_of r) w.here-is,
        λ l. absurd (omega (arith, l, w.if-i-names.true)),
      )
      | else-i-names w ↦ (
        λ l. absurd (omega (arith, l, w.if-i-names.false)),
        λ l. ap (λ r. says_of r) w.here-is,
      )
    ] in
    rw (err_is c.from_residual.result _ c.from_residual.ensures)
    (subst (λ l. SlotResult old path (say_key before
    last (tree, path c.args.table) l) (Err stop) new) c.as_slice-names.ensures.value (said_refused
    _ _ _ _ _ _ _ _ c.loop-i.invariant _ c.loop-i-test.true c.index-names-i.is _ which _ _ (λ t p
    h. subst (λ n. SlotResult mid p (say here (t, p c.loop-i.table) n) (Err stop) new)
    c.as_str.ensures.value (c.in_err-table.ensures t p h)) _ _ holds))

pub loop-i-preserved : goal.loop-i-preserved
loop-i-preserved g c =
    let names = c.as_slice-names.result.now in
    let new = c.say.new.self.slots.items in
    let mid = c.loop-i.self.slots.items in
    let before = says_of c.args.passes in
    let last = says_of c.args.role in
    let here = says_of c.if-i-names.here in
    let which : (c.loop-i.i + 1 < length names → here ≡ before)
    × (length names ≤ c.loop-i.i + 1 → here ≡ last) = elim c.if-i-names.branch [
      | then-i-names w ↦ (
        λ l. ap (λ r. says_of r) w.here-is,
        λ l. absurd (omega (arith, l, w.if-i-names.true)),
      )
      | else-i-names w ↦ (
        λ l. absurd (omega (arith, l, w.if-i-names.false)),
        λ l. ap (λ r. says_of r) w.here-is,
      )
    ] in
    said_more _ _ _ _ _ _ _ _ c.loop-i.invariant _ c.loop-i-test.true c.index-names-i.is _ which _
    _ (λ t p h. subst (λ n. SlotResult mid p (say here (t, p c.loop-i.table) n) (Ok
    c.in_ok-table.table) new) c.as_str.ensures.value (c.in_ok-table.ensures t p h))

pub returns : goal.returns
returns g c tree path holds =
    let old = c.args.self.now.slots.items in
    let new = c.loop-i.self.slots.items in
    let before = says_of c.args.passes in
    let last = says_of c.args.role in
    subst (λ l. SlotResult old path (say_key before last (tree, path c.args.table) l) (Ok
    c.loop-i.table) new) c.as_slice-names.ensures.value (all_said _ _ _ _ _ _ _ _
    c.loop-i.invariant c.loop-i-test.false _ _ holds)
