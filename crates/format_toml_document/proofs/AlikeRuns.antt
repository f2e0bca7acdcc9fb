-- Proofs that equivalent lines give equivalent trees, or are both rejected.
use Rattle.std.specs.Prelude.{ℕ, List, [], ◌∷◌, Result, Ok, Err}
use Rattle.std.proofs.Common.{refl, sym, ap, subst, subst₂, inl, inr}
use Rattle.grammars.specs.Pairwise.{ArePairwise}
use Rattle.format_toml_document.specs.Alike.{AreAlikeEntries, AreAlikeItems, AreAlikeKeys}
use Rattle.format_toml_document.specs.AlikeTrees.{AreAlikeNodes, AreAlikeTrees, AreAlikeValues}
use Rattle.format_toml_document.proofs.AlikeNodes.{AreAlikeResults, AreAlikeStates}
use Rattle.format_toml_document.proofs.AlikeNodes.{has_value_alike, has_value_back, key_alike}
use Rattle.format_toml_document.proofs.AlikeNodes.{next_alike, put_alike, then_alike, within_alike}
use Rattle.format_toml_document.proofs.AlikeNodes.{within_back}
use Rattle.format_toml_document.proofs.AlikeValues.{array_across, array_back, array_once}
use Rattle.format_toml_document.proofs.AlikeValues.{array_or_table, table_across, table_back}
use Rattle.format_toml_document.proofs.AlikeValues.{table_once}
use Rattle.format_toml_document.proofs.HeldTrees.{one_held}
use Rattle.format_toml_tree.specs.Holds.{HoldsTree}
use Rattle.format_toml_tree.specs.Paths.{Path, placed, put}
use Rattle.format_toml_tree.specs.Rules.{defines, adds, dots, gives, passes, valued}
use Rattle.format_toml_tree.specs.Runs.{Fills, FillsEntry, FillsNames, FillsPlaces, Gives, IsNext}
use Rattle.format_toml_tree.specs.Runs.{Runs, RunsWithin, State, Tree, empty}
use Rattle.format_toml_tree.specs.Runs as runs
use Rattle.format_toml_tree.specs.declared.roles.Reason.{Reason}
use Rattle.format_toml_tree.specs.declared.tree.Slot.{Slot}
use Rattle.format_toml_tree.specs.declared.value.Item.{Item}
use Rattle.format_toml_tree.specs.declared.value.Item.TheVariants as items
use Rattle.format_toml_tree.specs.declared.value.Key.{Key}
use Rattle.format_toml_tree.specs.declared.value.Value.{Value}

module _ {A : Type 0} where
  -- what fills the next place fills it by either number
  fills_at : {t u : Tree A} {q : Path} {w : Value A} {r : Result (Tree A) Reason} {j k : ℕ}
      → AreAlikeTrees t u → IsNext t q j → IsNext u q k
      → Fills (put u (placed k ∷ q) (valued w)) (placed k ∷ q) w r
      → Fills (put u (placed j ∷ q) (valued w)) (placed j ∷ q) w r
  fills_at {t} {u} {q} {w} {r} {j} {k} are is at g =
      subst (λ n. Fills (put u (placed n ∷ q) (valued w)) (placed n ∷ q) w r)
      (next_alike t u are q j k is at) g

  put_values : {t u : Tree A} → AreAlikeTrees t u → (q : Path) (v w : Value A)
      → AreAlikeValues v w → AreAlikeTrees (put t q (valued v)) (put u q (valued w))
  put_values {t} {u} are q v w alike =
      put_alike t u are q (valued v) (valued w) (inr (v, w, refl, refl, alike))

  -- a key that is given equivalent values
  entry_said : (t u : Tree A) → AreAlikeTrees t u → (q : Path) (k l : Key A) → AreAlikeKeys k l
      → (v w : Value A) → AreAlikeValues v w
      → AreAlikeResults AreAlikeStates (runs.say_key dots (gives v) (t, q) k.names.items)
      (runs.say_key dots (gives w) (u, q) l.names.items)
  entry_said t u are q k l names v w alike =
      key_alike dots (gives v) (gives w) (inr (v, w, refl, refl, alike)) (t, q) (u, q) (are, refl)
      k.names.items l.names.items names

  mutual
    fills_alike : {t u : Tree A} {q : Path} {v w : Value A} {r s : Result (Tree A) Reason}
        → Fills t q v r → Fills u q w s → AreAlikeTrees t u → AreAlikeValues v w
        → AreAlikeResults AreAlikeTrees r s
    fills_alike {u = u} {q = q} {v = v} {w = w} {s = s} (runs.array l h e f) (runs.array m i g o)
        are alike =
        let (k, is, parts) = array_across v w alike l e in
        places_alike f (subst (λ x. FillsPlaces u q x.items s) (array_once w m k g is) o) are parts
    fills_alike {v = v} {w = w} (runs.array l h e f) (runs.inline m i g o) are alike =
        let (k, is, parts) = array_across v w alike l e in array_or_table w k m is g
    fills_alike {v = v} {w = w} (runs.array l h e f) (runs.single a b) are alike =
        let (k, is, parts) = array_across v w alike l e in absurd (a k is)
    fills_alike {t = t} {u = u} {q = q} (runs.array l h e f) (runs.nowhere n) are alike =
        absurd (n (has_value_alike t u are q h))
    fills_alike {v = v} {w = w} (runs.inline l h e f) (runs.array m i g o) are alike =
        let (k, is, parts) = table_across v w alike l e in array_or_table w m k g is
    fills_alike {u = u} {q = q} {v = v} {w = w} {s = s} (runs.inline l h e f)
        (runs.inline m i g o) are alike =
        let (k, is, parts) = table_across v w alike l e in
        names_alike f (subst (λ x. FillsNames u q x.items s) (table_once w m k g is) o) are parts
    fills_alike {v = v} {w = w} (runs.inline l h e f) (runs.single a b) are alike =
        let (k, is, parts) = table_across v w alike l e in absurd (b k is)
    fills_alike {t = t} {u = u} {q = q} (runs.inline l h e f) (runs.nowhere n) are alike =
        absurd (n (has_value_alike t u are q h))
    fills_alike {v = v} {w = w} (runs.single a b) (runs.array m i g o) are alike =
        let (k, is) = array_back v w alike m g in absurd (a k is)
    fills_alike {v = v} {w = w} (runs.single a b) (runs.inline m i g o) are alike =
        let (k, is) = table_back v w alike m g in absurd (b k is)
    fills_alike (runs.single a b) (runs.single c d) are alike = are
    fills_alike (runs.single a b) (runs.nowhere n) are alike = are
    fills_alike {t = t} {u = u} {q = q} (runs.nowhere n) (runs.array m i g o) are alike =
        absurd (n (has_value_back t u are q i))
    fills_alike {t = t} {u = u} {q = q} (runs.nowhere n) (runs.inline m i g o) are alike =
        absurd (n (has_value_back t u are q i))
    fills_alike (runs.nowhere n) (runs.single c d) are alike = are
    fills_alike (runs.nowhere n) (runs.nowhere m) are alike = are

    places_alike : {t u : Tree A} {q : Path} {l m : List (Value A)}
        {r s : Result (Tree A) Reason}
        → FillsPlaces t q l r → FillsPlaces u q m s → AreAlikeTrees t u
        → ArePairwise AreAlikeValues l m → AreAlikeResults AreAlikeTrees r s
    places_alike runs.no_more runs.no_more are parts = are
    places_alike runs.no_more (runs.place k at g others) are parts = absurd parts
    places_alike runs.no_more (runs.place_refused k at g) are parts = absurd parts
    places_alike (runs.place j is f more) runs.no_more are parts = absurd parts
    places_alike (runs.place_refused j is f) runs.no_more are parts = absurd parts
    places_alike {q = q} {l = v ∷ l} {m = w ∷ m} (runs.place j is f more) (runs.place k at g others)
        are parts =
        places_alike more others
        (fills_alike f (fills_at are is at g) (put_values are (placed j ∷ q) v w parts.0) parts.0)
        parts.1
    places_alike {q = q} {l = v ∷ l} {m = w ∷ m} (runs.place j is f more)
        (runs.place_refused k at g)
        are parts =
        absurd (fills_alike f (fills_at are is at g) (put_values are (placed j ∷ q) v w parts.0)
        parts.0)
    places_alike {q = q} {l = v ∷ l} {m = w ∷ m} (runs.place_refused j is f)
        (runs.place k at g others)
        are parts =
        absurd (fills_alike f (fills_at are is at g) (put_values are (placed j ∷ q) v w parts.0)
        parts.0)
    places_alike {q = q} {l = v ∷ l} {m = w ∷ m} (runs.place_refused j is f)
        (runs.place_refused k at g) are parts =
        fills_alike f (fills_at are is at g) (put_values are (placed j ∷ q) v w parts.0) parts.0

    names_alike : {t u : Tree A} {q : Path} {l m : List (Key A × Value A)}
        {r s : Result (Tree A) Reason}
        → FillsNames t q l r → FillsNames u q m s → AreAlikeTrees t u
        → ArePairwise (AreAlikeEntries AreAlikeValues) l m → AreAlikeResults AreAlikeTrees r s
    names_alike runs.no_more_names runs.no_more_names are parts = are
    names_alike runs.no_more_names (runs.name g others) are parts = absurd parts
    names_alike runs.no_more_names (runs.name_refused g) are parts = absurd parts
    names_alike (runs.name f more) runs.no_more_names are parts = absurd parts
    names_alike (runs.name_refused f) runs.no_more_names are parts = absurd parts
    names_alike {l = d ∷ l} {m = e ∷ m} (runs.name f more) (runs.name g others) are parts =
        names_alike more others (entry_alike f g are parts.0.0 parts.0.1) parts.1
    names_alike {l = d ∷ l} {m = e ∷ m} (runs.name f more) (runs.name_refused g) are parts =
        absurd (entry_alike f g are parts.0.0 parts.0.1)
    names_alike {l = d ∷ l} {m = e ∷ m} (runs.name_refused f) (runs.name g others) are parts =
        absurd (entry_alike f g are parts.0.0 parts.0.1)
    names_alike {l = d ∷ l} {m = e ∷ m} (runs.name_refused f) (runs.name_refused g) are parts =
        entry_alike f g are parts.0.0 parts.0.1

    entry_alike : {t u : Tree A} {q : Path} {k l : Key A} {v w : Value A}
        {r s : Result (Tree A) Reason}
        → FillsEntry t q k v r → FillsEntry u q l w s → AreAlikeTrees t u → AreAlikeKeys k l
        → AreAlikeValues v w → AreAlikeResults AreAlikeTrees r s
    entry_alike {t = t} {u = u} {q = q} {k = k} {l = l} {v = v} {w = w} (runs.entry_refused e)
        (runs.entry_refused f) are names alike =
        subst₂ (AreAlikeResults AreAlikeStates) e f (entry_said t u are q k l names v w alike)
    entry_alike {t = t} {u = u} {q = q} {k = k} {l = l} {v = v} {w = w} (runs.entry_refused e)
        (runs.entry b f g) are names alike =
        absurd (subst₂ (AreAlikeResults AreAlikeStates) e f
        (entry_said t u are q k l names v w alike))
    entry_alike {t = t} {u = u} {q = q} {k = k} {l = l} {v = v} {w = w} (runs.entry a e f)
        (runs.entry_refused g) are names alike =
        absurd (subst₂ (AreAlikeResults AreAlikeStates) e g
        (entry_said t u are q k l names v w alike))
    entry_alike {t = t} {u = u} {q = q} {k = k} {l = l} {v = v} {w = w} {s = s} (runs.entry a e f)
        (runs.entry b g h) are names alike =
        let (trees, path) =
        subst₂ (AreAlikeResults AreAlikeStates) e g (entry_said t u are q k l names v w alike) in
        fills_alike f (subst (λ p. Fills b.0 p w s) (sym path) h) trees alike

  runs_alike : (level : ℕ) (s t : State A) (i j : Item A) (r x : Result (State A) Reason)
      → Runs s i r → Runs t j x → AreAlikeStates s t → AreAlikeItems level i j
      → AreAlikeResults AreAlikeStates r x
  runs_alike level s t i j r x f g are (inl (k, l, e, d, names)) =
      let one : Runs s (items.Table k) r = subst (λ y. Runs s y r) e f in
      let other : Runs t (items.Table l) x = subst (λ y. Runs t y x) d g in
      subst₂ (AreAlikeResults AreAlikeStates) (sym one) (sym other)
      (key_alike passes defines defines (inl refl) (s.0, []) (t.0, []) (are.0, refl) k.names.items
      l.names.items names)
  runs_alike level s t i j r x f g are (inr (inl (k, l, e, d, names))) =
      let one : Runs s (items.Tables k) r = subst (λ y. Runs s y r) e f in
      let other : Runs t (items.Tables l) x = subst (λ y. Runs t y x) d g in
      subst₂ (AreAlikeResults AreAlikeStates) (sym one) (sym other)
      (key_alike passes adds adds (inl refl) (s.0, []) (t.0, []) (are.0, refl) k.names.items
      l.names.items names)
  runs_alike level s t i j r x f g are (inr (inr (k, l, v, w, e, d, (names, alike)))) =
      let one : Runs s (items.Entry k v) r = subst (λ y. Runs s y r) e f in
      let other : Runs t (items.Entry l w) x = subst (λ y. Runs t y x) d g in
      let (a, filled, is) = one in
      let (b, fills, at) = other in
      subst₂ (AreAlikeResults AreAlikeStates) (sym is) (sym at)
      (then_alike AreAlikeTrees AreAlikeStates a b _ _
      (entry_alike filled (subst (λ p. FillsEntry t.0 p l w b) (sym are.1) fills) are.0 names
      (level, alike)) (λ m n trees. (trees, are.1)))

  line_alike : (level : ℕ) {depth : ℕ} {s t : State A} {i j : Item A}
      {r x : Result (State A) Reason}
      → RunsWithin depth s i r → RunsWithin depth t j x → AreAlikeStates s t
      → AreAlikeItems level i j → AreAlikeResults AreAlikeStates r x
  line_alike level {s = s} {t = t} {i = i} {j = j} (runs.allowed f is) (runs.allowed g at) are
      alike =
      runs_alike level s t i j _ _ f g are alike
  line_alike level {s = s} {t = t} {i = i} {j = j} (runs.allowed f is) (runs.invalid g) are alike =
      runs_alike level s t i j _ _ f g are alike
  line_alike level {depth = depth} {s = s} {t = t} {i = i} {j = j} (runs.allowed {t = a} f is)
      (runs.too_deep b g not) are alike =
      absurd (not (within_alike a.0 b.0 (runs_alike level s t i j _ _ f g are alike).0 depth is))
  line_alike level {s = s} {t = t} {i = i} {j = j} (runs.invalid f) (runs.allowed g at) are alike =
      runs_alike level s t i j _ _ f g are alike
  line_alike level {s = s} {t = t} {i = i} {j = j} (runs.invalid f) (runs.invalid g) are alike =
      runs_alike level s t i j _ _ f g are alike
  line_alike level {s = s} {t = t} {i = i} {j = j} (runs.invalid f) (runs.too_deep b g not) are
      alike =
      absurd (runs_alike level s t i j _ _ f g are alike)
  line_alike level {depth = depth} {s = s} {t = t} {i = i} {j = j} (runs.too_deep a f not)
      (runs.allowed {t = b} g at) are alike =
      absurd (not (within_back a.0 b.0 (runs_alike level s t i j _ _ f g are alike).0 depth at))
  line_alike level {s = s} {t = t} {i = i} {j = j} (runs.too_deep a f not) (runs.invalid g) are
      alike =
      absurd (runs_alike level s t i j _ _ f g are alike)
  line_alike level (runs.too_deep a f not) (runs.too_deep b g never) are alike = refl

  pub gives_alike : (level : ℕ) {depth : ℕ} {s t : State A} {k : ℕ}
      {lines others : List (Item A)}
      {r x : Result (Tree A) (ℕ × Reason)} → Gives depth s k lines r → Gives depth t k others x
      → AreAlikeStates s t → ArePairwise (AreAlikeItems level) lines others
      → AreAlikeResults AreAlikeTrees r x
  gives_alike level runs.ended runs.ended are alike = are.0
  gives_alike level runs.ended (runs.accepted g others) are alike = absurd alike
  gives_alike level runs.ended (runs.refused g) are alike = absurd alike
  gives_alike level (runs.accepted f more) runs.ended are alike = absurd alike
  gives_alike level (runs.accepted f more) (runs.accepted g others) are alike =
      gives_alike level more others (line_alike level f g are alike.0) alike.1
  gives_alike level (runs.accepted f more) (runs.refused g) are alike =
      absurd (line_alike level f g are alike.0)
  gives_alike level (runs.refused f) runs.ended are alike = absurd alike
  gives_alike level (runs.refused f) (runs.accepted g others) are alike =
      absurd (line_alike level f g are alike.0)
  gives_alike level {k = k} (runs.refused f) (runs.refused g) are alike =
      ap (λ why. (k, why)) (line_alike level f g are alike.0)

  -- lines that have a tree are not rejected
  pub tree_or_refusal : {P : Type 0} (level : ℕ) {depth : ℕ} {lines others : List (Item A)}
      {tree : Tree A} {refusal : ℕ × Reason}
      → Gives depth (empty, []) 0 lines (Ok tree) → Gives depth (empty, []) 0 others (Err refusal)
      → ArePairwise (AreAlikeItems level) lines others → P
  tree_or_refusal level f g alike = absurd (gives_alike level f g ((λ p. inl refl), refl) alike)

  -- the trees of equivalent lines hold equivalent values in their slots
  pub held_alike : (level : ℕ) {depth : ℕ} {lines others : List (Item A)}
      (slots below : List (Slot A)) {tree other given also : Tree A}
      → Gives depth (empty, []) 0 lines (Ok tree) → Gives depth (empty, []) 0 others (Ok other)
      → ArePairwise (AreAlikeItems level) lines others
      → HoldsTree slots tree → HoldsTree below other → HoldsTree slots given
      → HoldsTree below also → AreAlikeTrees given also
  held_alike level slots below {tree} {other} {given} {also} f g alike is at has holds p =
      subst₂ AreAlikeNodes (one_held slots tree given is has p)
      (one_held below other also at holds p)
      (gives_alike level f g ((λ q. inl refl), refl) alike p)
