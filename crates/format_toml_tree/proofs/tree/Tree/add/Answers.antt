use Rattle.std.proofs.Common.{Err, Ok, subst, sym}
use Rattle.format_toml_tree.proofs.Lines.{adds_header, adds_refused, adds_value}
use Rattle.format_toml_tree.specs.Rules.{adds, defines}
use Rattle.format_toml_tree.specs.Runs.{Runs}
use Rattle.format_toml_tree.proofs.KeysLemmas.{err_is}
use Rattle.format_toml_tree.proofs.PartsLemmas.{key_refused, value_filled}
use Rattle.format_toml_tree.proofs.tree.Tree.add.Goals as goal

pub returns-in-Table : goal.returns-in-Table
returns-in-Table g c =
    adds_header _ _ c.in-Table.key _ defines
    (λ s r e. subst (λ i. Runs s i r) (sym c.in-Table.is) e) _ _
    c.say_key.ensures

pub returns-in-Tables : goal.returns-in-Tables
returns-in-Tables g c =
    adds_header _ _ c.in-Tables.key _ adds
    (λ s r e. subst (λ i. Runs s i r) (sym c.in-Tables.is) e) _ _
    c.say_key-in-Tables.ensures

pub returns-in_err-place-in-Entry : goal.returns-in_err-place-in-Entry
returns-in_err-place-in-Entry g c =
    let entry = c.in-Entry in
    rw (err_is c.from_residual.result _ c.from_residual.ensures)
    (adds_refused _ _ _ _ _ entry.is _ _ (key_refused
    _ _ c.requires.3 _ _ _ _ c.in_err-place-in-Entry.ensures))

pub fill-requires : goal.fill-requires
fill-requires g c =
    let (tree, path, holds, within) = c.requires in
    let (s, e, goes) = c.in_ok-place-in-Entry.ensures tree path holds in
    (s.0, goes.paths, goes.holds, goes.within)

pub returns-in-Ok : goal.returns-in-Ok
returns-in-Ok g c =
    let entry = c.in-Entry in
    let new = c.fill.new.self.slots.items in
    adds_value _ _ _ _ _ entry.is _ _ (value_filled _ _ c.requires.3 entry.key _ _ _
    c.in_ok-place-in-Entry.ensures (Ok tt) new c.in-Ok.ensures)

pub returns-in-Err : goal.returns-in-Err
returns-in-Err g c =
    let entry = c.in-Entry in
    let new = c.fill.new.self.slots.items in
    adds_refused _ _ _ _ _ entry.is _ _ (value_filled _ _ c.requires.3 entry.key _ _ _
    c.in_ok-place-in-Entry.ensures (Err c.in-Err.stop) new c.in-Err.ensures)
