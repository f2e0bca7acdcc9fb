-- Lemmas about the node of a path of names.
use Rattle.std.specs.Prelude.{◌≡◌, ℕ, ◌+◌, ◌<◌, ◌≤◌, List, [], ◌∷◌, ◌++◌, length, take}
use Rattle.std.specs.Prelude.{Some, None}
use Rattle.std.specs.Borrow.{Bor}
use Rattle.std.proofs.Common.{refl, sym, ap, subst, inl, inr, ◌∙◌, arith, get_or}
use Rattle.std.proofs.Common.{drop}
use Rattle.std.proofs.lemmas.List.{drop_more, get_or-map, length-map, take-append-drop, take_all}
use Rattle.std.proofs.lemmas.List.{take_more}
use Rattle.exported.specs.Output.{slices_of}
use Rattle.exported.specs.declared.output.Bytes.{Bytes}
use Rattle.exported.specs.TomlFind.{FindsAlong, HasNoneAt, StandsAlong, along}
use Rattle.format_toml_nodes.specs.Find.{AreAt, FindsEntry, IsFound, are_at}
use Rattle.format_toml_nodes.specs.Nodes.{above}
use Rattle.format_toml_nodes.specs.declared.node.TomlNode.{TomlNode}
use Rattle.format_toml_tree.specs.Added.{some_there}
use Rattle.format_toml_tree.specs.Paths.{Path, Step, named}

-- the path along names and more of them
pub along_more : (p : Path) (names : List (Bor (List ℕ))) (more : List (Bor (List ℕ)))
    → along p (names ++ more) ≡ along (along p names) more
along_more p [] more = refl
along_more p (name ∷ names) more = along_more (named name.now ∷ p) names more

pub split_at : (names : List (Bor (List ℕ))) (i : ℕ) (d : Bor (List ℕ)) → i < length names
    → names ≡ take i names ++ get_or names i d ∷ drop (i + 1) names
split_at names i d w =
    sym (take-append-drop i names)
    ∙ ap (λ l. take i names ++ l) (drop_more names i d w)

module _ {text : List ℕ} {nodes : List TomlNode} {path : ℕ → Path} (are : AreAt text nodes path)
  where
    -- below a path without a node there is none
    none_below : (p : Path) (e : Step) → IsFound nodes path p None
        → IsFound nodes path (e ∷ p) None
    none_below p e none j w f =
        let (it, g) = some_there nodes j w in
        let is = are.is_in j it g in
        none it.parent is.0 (is.1 ∙ ap (λ q. above q) f)

    pub none_along : (p : Path) (names : List (Bor (List ℕ))) → IsFound nodes path p None
        → IsFound nodes path (along p names) None
    none_along p [] none = none
    none_along p (name ∷ names) none =
        none_along (named name.now ∷ p) names (none_below p (named name.now) none)

-- the node along the first names
pub record SoFar (text : List ℕ) (nodes : List TomlNode) (table : ℕ)
    (names : List (Bor (List ℕ))) (i at : ℕ) : Type 0 where
  pub within : at < length nodes
  pub stands : (path : ℕ → Path) → AreAt text nodes path
      → path at ≡ along (path table) (take i names)

module _ {text : List ℕ} {nodes : List TomlNode} {table : ℕ} {names : List (Bor (List ℕ))}
    {i at : ℕ} (so : SoFar text nodes table names i at) where
  pub so_next : (d : Bor (List ℕ)) (next : ℕ) → i < length names → next < length nodes
      → FindsEntry text nodes at (get_or names i d).now (Some next)
      → SoFar text nodes table names (i + 1) next
  so_next d next w inside finds = record {
    within = inside;
    stands = λ path are.
        let here : path at ≡ along (path table) (take i names) = so.stands path are in
        let first : take (i + 1) names ≡ take i names ++ get_or names i d ∷ [] =
        take_more names i d w in
        (finds path are so.within).1
        ∙ ap (λ p. named (get_or names i d).now ∷ p) here
        ∙ sym (ap (λ l. along (path table) l) first
        ∙ along_more (path table) (take i names) (get_or names i d ∷ []));
  }

  pub so_missing : (d : Bor (List ℕ)) → i < length names
      → FindsEntry text nodes at (get_or names i d).now None
      → FindsAlong text nodes table names None
  so_missing d w finds path are inside =
      let here : path at ≡ along (path table) (take i names) = so.stands path are in
      let name = get_or names i d in
      let whole : along (along (path table) (take i names)) (name ∷ drop (i + 1) names)
      ≡ along (path table) names =
      sym (ap (λ l. along (path table) l) (split_at names i d w)
      ∙ along_more (path table) (take i names) (name ∷ drop (i + 1) names)) in
      let none : IsFound nodes path (named name.now ∷ along (path table) (take i names)) None =
      subst (λ p. IsFound nodes path (named name.now ∷ p) None) here (finds path are so.within) in
      subst (λ p. IsFound nodes path p None) whole
      (none_along are (named name.now ∷ along (path table) (take i names))
      (drop (i + 1) names) none)

  pub so_found : length names ≤ i → FindsAlong text nodes table names (Some at)
  so_found past path are inside = (
    so.within,
    so.stands path are ∙ ap (λ l. along (path table) l) (take_all i names past),
  )

-- ---- the slices that the caller passes

module _ {text : List ℕ} {nodes : List TomlNode} {table : ℕ} (slices : List Bytes)
    {i at : ℕ} (so : SoFar text nodes table (slices_of slices) i at) (d : Bytes)
    (w : i < length slices) where
  same_slice : get_or (slices_of slices) i d.bytes ≡ (get_or slices i d).bytes
  same_slice = get_or-map (λ (it : Bytes). it.bytes) slices i d d.bytes w

  same_within : i < length (slices_of slices)
  same_within =
      let same = length-map slices (λ (it : Bytes). it.bytes) in
      omega (arith, w, same)

  pub slice_next : (next : ℕ) → next < length nodes
      → FindsEntry text nodes at (get_or slices i d).bytes.now (Some next)
      → SoFar text nodes table (slices_of slices) (i + 1) next
  slice_next next inside finds =
      so_next so d.bytes next same_within inside
      (subst (λ b. FindsEntry text nodes at b.now (Some next)) (sym same_slice) finds)

  pub slice_missing : FindsEntry text nodes at (get_or slices i d).bytes.now None
      → FindsAlong text nodes table (slices_of slices) None
  slice_missing finds =
      so_missing so d.bytes same_within
      (subst (λ b. FindsEntry text nodes at b.now None) (sym same_slice) finds)

-- ---- documents

pub stands_along : {text : List ℕ} {nodes : List TomlNode} {table at : ℕ}
    (names : List (Bor (List ℕ))) → table < length nodes
    → FindsAlong text nodes table names (Some at) → StandsAlong text nodes table names at
stands_along names inside finds given are = (finds are.path (are_at are) inside).1

pub none_at : {text : List ℕ} {nodes : List TomlNode} (table : ℕ) (names : List (Bor (List ℕ)))
    → FindsAlong text nodes table names None → HasNoneAt text nodes table names
none_at table names finds given are inside = elim (are.all (along (are.path table) names)) [
  | inl none ↦ none
  | inr (j, w, is) ↦ absurd (finds are.path (are_at are) inside j w is)
]
