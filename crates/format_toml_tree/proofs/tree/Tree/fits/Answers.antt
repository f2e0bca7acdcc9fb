use Rattle.std.proofs.Common.{◌≡◌, ◌<◌, ◌≤◌, Bool, true, false, arith, length, refl}
use Rattle.std.proofs.lemmas.Option.{slice_get_read, slice_get_within}
use Rattle.format_toml_tree.specs.Holds.{Contains}
use Rattle.format_toml_tree.proofs.Within.{fitting_more}
use Rattle.format_toml_tree.proofs.tree.Tree.fits.Goals as goal

pub returns-then-contains : goal.returns-then-contains
returns-then-contains g c =
    let items = c.args.self.now.slots.items in
    let within : c.loop-i.i < length items =
    omega (arith, c.loop-i-test.true, c.len-i-end.ensures, c.args.self.now.slots.ok.0) in (
      c.loop-i.i,
      c.index-slot.result.now,
      slice_get_read items _ c.loop-i.i c.index-slot.result.now refl within c.index-slot.ensures,
      c.contains.ensures.0 c.if-contains.true,
      c.if-slot-level.true,
    )

true_false : {b : Bool} → b ≡ true → b ≡ false → ⊥
true_false e f = cc

pub loop-i-preserved : goal.loop-i-preserved
loop-i-preserved g c =
    let items = c.args.self.now.slots.items in
    let slot = c.index-slot.result.now in
    let within : c.loop-i.i < length items =
    omega (arith, c.loop-i-test.true, c.len-i-end.ensures, c.args.self.now.slots.ok.0) in
    let at = slice_get_read items _ c.loop-i.i slot refl within c.index-slot.ensures in
    let most : Contains slot.kind → slot.depth ≤ c.args.level =
    elim c.else-slot-level.branch [
      | goal.else-slot-level-via-then-slot-level+else-contains w ↦
          λ has. absurd (true_false (w.contains.ensures.1 has) w.if-contains.false)
      | goal.else-slot-level-via-else-slot-level w ↦ λ has. w.if-slot-level.false
    ] in
    fitting_more c.args.level items c.args.from c.loop-i.i slot c.loop-i.invariant at most

pub returns : goal.returns
returns g c i s past at =
    let within = slice_get_within c.args.self.now.slots.items i s at in
    c.loop-i.invariant i s past
    (omega (arith, within, c.loop-i-test.false, c.len-i-end.ensures, c.args.self.now.slots.ok.0)) at
