use Rattle.std.proofs.Common.{◌≡◌, ◌<◌, ◌≤◌, ◌+◌, ◌*◌, ℕ, List, length, get_or, max, refl, ap}
use Rattle.std.proofs.Common.{◌∙◌}
use Rattle.std.proofs.Common.{rules, arith}
use Rattle.std.specs.declared.vec.Vec.{Vec}
use Rattle.std.proofs.lemmas.Option.{slice_get_read}
use denote.Param.Weighed.{at_most as the_most, most}
use Rattle.format_toml_tree.specs.Added.{some_there}
use Rattle.format_toml_tree.specs.Calls.{stays}
use Rattle.format_toml_tree.specs.Parts.{fills_array, fills_inline, fills_nowhere}
use Rattle.format_toml_tree.specs.Parts.{fills_single}
use Rattle.format_toml_tree.specs.Runs.{FillsNames, FillsPlaces}
use Rattle.format_toml_tree.specs.Runs as runs
use Rattle.format_toml_tree.specs.declared.value.Value.{Value, size-Value, the_lemmas}
use Rattle.format_toml_tree.specs.declared.value.Value.TheVariants as values
use Rattle.format_toml_tree.specs.declared.value.Key.{Key}
use Rattle.format_toml_tree.proofs.KeysLemmas.{err_is}
use Rattle.format_toml_tree.proofs.PartsLemmas.{all_filled, element_filled, element_refused}
use Rattle.format_toml_tree.proofs.PartsLemmas.{entry_filled, entry_refused, key_refused, value_at}
use Rattle.format_toml_tree.proofs.PartsLemmas.{value_filled}
use Rattle.format_toml_tree.proofs.tree.Tree.+fill.Goals as goal

-- ---- parts are not as deep

array_less : {A : Type 0} (t : ℕ) (v : Value A) (vs : Vec (Value A) A) → v ≡ values.Array vs
    → (xs : List (Value A)) → xs ≡ vs.items → 3 * size-Value A v ≡ t
    → 3 * most (size-Value A) xs + 1 < t
array_less {A = A} t v vs e xs f d =
    let deep : size-Value A (values.Array vs) ≡ most (size-Value A) vs.items + 1 =
    search (rules, the_lemmas) in
    let size : size-Value A v ≡ most (size-Value A) vs.items + 1 = ap (size-Value A) e ∙ deep in
    let same : most (size-Value A) xs ≡ most (size-Value A) vs.items = ap (most (size-Value A)) f in
    omega (arith, d, size, same)

-- how deep the value of an entry is
abbrev size_of : (A : Type 0) → Key A × Value A → ℕ
size_of A e = max 0 (max (size-Value A e.1) 0)

table_less : {A : Type 0} (t : ℕ) (v : Value A) (es : Vec (Key A × Value A) A)
    → v ≡ values.Table es → (xs : List (Key A × Value A)) → xs ≡ es.items → 3 * size-Value A v ≡ t
    → 3 * most (size_of _) xs + 2 < t
table_less {A = A} t v es e xs f d =
    let deep : size-Value A (values.Table es) ≡ most (size_of _) es.items + 1 =
    search (rules, the_lemmas) in
    let size : size-Value A v ≡ most (size_of _) es.items + 1 = ap (size-Value A) e ∙ deep in
    let same : most (size_of _) xs ≡ most (size_of _) es.items = ap (most (size_of _)) f in
    omega (arith, d, size, same)

element_less : {A : Type 0} (t : ℕ) (vs : List (Value A)) (k : ℕ) (v : Value A) → k < length vs
    → v ≡ get_or vs k v → 3 * most (size-Value A) vs + 1 ≡ t → 3 * size-Value A v < t
element_less {A = A} t vs k v w is d =
    let same : size-Value A v ≡ size-Value A (get_or vs k v) = ap (size-Value A) is in
    let less : size-Value A (get_or vs k v) ≤ most (size-Value A) vs =
    the_most (size-Value A) vs k v w in
    omega (arith, d, same, less)

entry_less : {A : Type 0} (t : ℕ) (es : List (Key A × Value A)) (k : ℕ) (e : Key A × Value A)
    → k < length es → e ≡ get_or es k e → 3 * most (size_of _) es + 2 ≡ t → 3 * size_of _ e + 1 <
    t
entry_less {A = A} t es k e w is d =
    let same : size_of _ e ≡ size_of _ (get_or es k e) = ap (size_of _) is in
    let less : size_of _ (get_or es k e) ≤ most (size_of _) es = the_most (size_of _) es k e w in
    omega (arith, d, same, less)

-- ---- a value

pub fill-returns-in_default : goal.fill-returns-in_default
fill-returns-in_default g t c =
    let items = c.args.self.now.slots.items in
    let at = slice_get_read items _ c.args.place c.index.result.now refl c.requires.3
    c.index.ensures in
    fills_nowhere _ _ _ at c.args.value.now c.in_default.not-Value tt

pub fill-fill_elements-requires : goal.fill-fill_elements-requires
fill-fill_elements-requires g t c κs l =
    let items = c.args.self.now.slots.items in
    let at = slice_get_read items _ c.args.place c.index.result.now refl c.requires.3
    c.index.ensures in
    let value = value_at items c.args.place _ _ at c.in-Value.is in (
      array_less _ _ _ c.in-Array.is _ c.as_slice.ensures.value c.decreases,
      (search rules, record { 0 = c.requires; 1 = value }),
    )

pub fill-fill_entries-requires : goal.fill-fill_entries-requires
fill-fill_entries-requires g t c κs l = (
  table_less _ _ _ c.in-Table.is _ c.as_slice-in-Table.ensures.value c.decreases,
  (search rules, c.requires),
)

pub fill-returns-in-Array : goal.fill-returns-in-Array
fill-returns-in-Array g t c =
    let items = c.args.self.now.slots.items in
    let at = slice_get_read items _ c.args.place c.index.result.now refl c.requires.3
    c.index.ensures in
    fills_array _ _ _ at _ c.in-Value.is c.args.value.now c.in-Array.parts c.in-Array.is
    c.as_slice.result.now c.as_slice.ensures.value c.fill_elements.result
    c.fill_elements.new.self.slots.items c.fill_elements.ensures

pub fill-returns-in-Table : goal.fill-returns-in-Table
fill-returns-in-Table g t c =
    let items = c.args.self.now.slots.items in
    let at = slice_get_read items _ c.args.place c.index.result.now refl c.requires.3
    c.index.ensures in
    fills_inline _ _ _ at _ c.in-Value.is c.args.value.now c.in-Table.parts c.in-Table.is
    c.as_slice-in-Table.result.now c.as_slice-in-Table.ensures.value c.fill_entries.result
    c.fill_entries.new.self.slots.items c.fill_entries.ensures

pub fill-returns-in_default-value : goal.fill-returns-in_default-value
fill-returns-in_default-value g t c =
    let items = c.args.self.now.slots.items in
    let at = slice_get_read items _ c.args.place c.index.result.now refl c.requires.3
    c.index.ensures in
    fills_single _ _ _ at c.args.value.now c.in_default-value.not-Array
    c.in_default-value.not-Table tt

-- ---- elements

pub fill_elements-loop-part-init : goal.fill_elements-loop-part-init
fill_elements-loop-part-init g t c tree path holds =
    (tree, λ r by. by, λ p v e. e, stays _ holds c.requires.stands.3)

pub fill_elements-add_element-requires : goal.fill_elements-add_element-requires
fill_elements-add_element-requires g t c =
    let (tree, path, holds, within) = c.requires.stands in
    let (next, f, keeps, goes) = c.loop-part.invariant tree path holds in
    goes.within

pub fill_elements-fill-requires : goal.fill_elements-fill-requires
fill_elements-fill-requires g t c κs l =
    let (tree, path, holds, within) = c.requires.stands in
    let (next, f, keeps, goes) = c.loop-part.invariant tree path holds in
    let (was, at) = some_there _ _ goes.within in
    let added = c.in_ok-below.ensures next goes.paths was goes.holds at in (
      element_less _ _ _ _ c.loop-part-test.true c.part-item.is c.decreases,
      (search rules, (_, added.paths, added.holds, added.within)),
    )

pub fill_elements-returns-in_err-fill : goal.fill_elements-returns-in_err-fill
fill_elements-returns-in_err-fill g t c =
    rw (err_is c.from_residual-in_err-fill.result _ c.from_residual-in_err-fill.ensures)
    (element_refused _ _ _ c.requires.stands.3 _ _
    c.loop-part.invariant c.requires.valued
    (record { ref_ptr = (0, 0); now = c.part-item.result }) c.loop-part-test.true c.part-item.is
    _ _ c.in_ok-below.ensures _ _ c.in_err-fill.ensures)

pub fill_elements-loop-part-preserved : goal.fill_elements-loop-part-preserved
fill_elements-loop-part-preserved g t c =
    element_filled _ _ _ c.requires.stands.3 _ _ c.loop-part.invariant c.requires.valued
    (record { ref_ptr = (0, 0); now = c.part-item.result }) c.loop-part-test.true c.part-item.is
    _ _ c.in_ok-below.ensures _ _ c.in_ok-fill.ensures

pub fill_elements-returns : goal.fill_elements-returns
fill_elements-returns g t c =
    all_filled _ _ _ c.requires.stands.3 FillsPlaces (λ t q. runs.no_more) _ _
    c.loop-part.invariant c.loop-part-test.false _

-- ---- entries

pub fill_entries-loop-part-init : goal.fill_entries-loop-part-init
fill_entries-loop-part-init g t c tree path holds =
    (tree, λ r by. by, λ p v e. e, stays _ holds c.requires.3)

pub fill_entries-fill_entry-requires : goal.fill_entries-fill_entry-requires
fill_entries-fill_entry-requires g t c κs l =
    let (tree, path, holds, within) = c.requires in
    let (next, f, keeps, goes) = c.loop-part.invariant tree path holds in (
      entry_less _ _ _ _ c.loop-part-test.true c.part-item.is c.decreases,
      (search rules, (next, goes.paths, goes.holds, goes.within)),
    )

pub fill_entries-returns-in_err-fill_entry : goal.fill_entries-returns-in_err-fill_entry
fill_entries-returns-in_err-fill_entry g t c =
    rw (err_is c.from_residual.result _ c.from_residual.ensures)
    (entry_refused _ _ _ c.requires.3 _ _ c.loop-part.invariant _
    c.loop-part-test.true c.part-item.is _ _ c.in_err-fill_entry.ensures)

pub fill_entries-loop-part-preserved : goal.fill_entries-loop-part-preserved
fill_entries-loop-part-preserved g t c =
    entry_filled _ _ _ c.requires.3 _ _ c.loop-part.invariant _ c.loop-part-test.true
    c.part-item.is _ _ c.in_ok-fill_entry.ensures

pub fill_entries-returns : goal.fill_entries-returns
fill_entries-returns g t c =
    all_filled _ _ _ c.requires.3 FillsNames (λ t q. runs.no_more_names) _ _
    c.loop-part.invariant c.loop-part-test.false _

-- ---- an entry

pub fill_entry-returns-in_err-below : goal.fill_entry-returns-in_err-below
fill_entry-returns-in_err-below g t c =
    let key = c.args.part.now.0 in
    rw (err_is c.from_residual.result _ c.from_residual.ensures)
    (key_refused _ _ c.requires.3 key _ _ _ c.in_err-below.ensures)

pub fill_entry-fill-requires : goal.fill_entry-fill-requires
fill_entry-fill-requires g t c κs l =
    let (tree, path, holds, within) = c.requires in
    let (s, e, goes) = c.in_ok-below.ensures tree path holds in
    (search (rules, the_lemmas), (search rules, (s.0, goes.paths, goes.holds, goes.within)))

pub fill_entry-returns : goal.fill_entry-returns
fill_entry-returns g t c =
    value_filled _ _ c.requires.3 _ _ _ _ c.in_ok-below.ensures _ _ c.fill.ensures
