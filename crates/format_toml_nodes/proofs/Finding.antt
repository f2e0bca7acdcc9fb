-- Lemmas about the search for the entry of a name.
use Rattle.std.specs.Prelude.{◌≡◌, ℕ, ◌+◌, ◌-◌, ◌<◌, ◌≤◌, Bool, true, false, not}
use Rattle.std.specs.Prelude.{List, [], ◌∷◌, ◌++◌, length, take, drop, slice_get, Some, None}
use Rattle.std.proofs.Common.{refl, sym, ap, subst, inl, inr, ◌∙◌, arith}
use Rattle.std.proofs.lemmas.Bool.{cases_lt}
use Rattle.std.specs.List.{slice_range}
use Rattle.std.proofs.lemmas.List.{length-append, take_rest}
use Rattle.std.proofs.lemmas.Option.{same_Some, slice_get_within}
use Rattle.std.proofs.Math.Seq.{drop-append_seam, take-append_seam}
use Rattle.format_toml_nodes.specs.Find.{AreAt, HasAt, IsFound}
use Rattle.format_toml_nodes.specs.Nodes.{HasParent, IsFirstIn, StandsAt, above, is_placed, name_of}
use Rattle.format_toml_nodes.specs.declared.node.Span.{Span}
use Rattle.format_toml_nodes.specs.declared.node.TomlNode.{TomlNode}
use Rattle.format_toml_tree.specs.Added.{some_there}
use Rattle.format_toml_tree.specs.Paths.{Path, Step, named, placed}

-- the bytes at a span
pub has_at : (text : List ℕ) (place : Span) (bytes : List ℕ) → StandsAt text place bytes
    → HasAt text place bytes
has_at text place bytes at =
    let whole : length text ≡ length at.before + (length bytes + length at.behind) =
    ap (λ l. length l) at.splits ∙ length-append at.before (bytes ++ at.behind)
    ∙ ap (λ n. length at.before + n) (length-append bytes at.behind) in
    let dropped : drop place.offset text ≡ bytes ++ at.behind =
    ap (λ n. drop n text) at.begins ∙ ap (λ l. drop (length at.before) l) at.splits
    ∙ drop-append_seam at.before (bytes ++ at.behind) in (
      omega (arith, whole, at.begins),
      omega (arith, whole, at.begins, at.ends),
      ap (λ l. take place.length l) dropped ∙ ap (λ n. take n (bytes ++ at.behind)) at.ends
          ∙ take-append_seam bytes at.behind,
    )

module _ {text : List ℕ} {nodes : List TomlNode} {path : ℕ → Path} (are : AreAt text nodes path)
    (table : ℕ) (within : table < length nodes) (name : List ℕ) where
  -- the path of the entry
  abbrev Wanted : Path
  Wanted = named name ∷ path table

  -- a node of the path is an entry of the table, and has the name
  entry : (j : ℕ) (it : TomlNode) → slice_get nodes j ≡ Some it → path j ≡ Wanted
      → (it.parent ≡ table) × (it.is_element ≡ false) × HasAt text it.name name
  entry j it g e =
      let (inside, up, stands, index, element) = are.is_in j it g in (
        are.apart it.parent table inside within (up ∙ ap (λ p. above p) e),
        element ∙ ap (λ p. is_placed p) e,
        has_at text it.name name
            (subst (λ b. StandsAt text it.name b) (ap (λ p. name_of p) e) stands),
      )

  not_first : (j : ℕ) (p : Path) (s : Step) → path j ≡ s ∷ p → j ≡ 0 → ⊥
  not_first j p s e z =
      let none : [] ≡ s ∷ p = sym are.top ∙ ap path (sym z) ∙ e in absurd (cc)

  -- The entries up to `last` have other names, and `at` is the next one.
  pub record SoFar (last at : ℕ) : Type 0 where
    pub passed : (j : ℕ) → j ≤ last → j < length nodes → path j ≡ Wanted → ⊥
    pub next : IsFirstIn nodes table (last + 1) at

  pub so_first : (it : TomlNode) → slice_get nodes table ≡ Some it → SoFar 0 it.first
  so_first it g = record {
    passed = λ j low w e. not_first j (path table) (named name) e (omega (arith, low));
    next = (are.joined table it g).first;
  }

  -- the next node of the search is in the table
  is_inside : (last at : ℕ) → last < at → IsFirstIn nodes table (last + 1) at
      → HasParent nodes at table
  is_inside last at up (inl (z, none)) = absurd (omega (arith, up, z))
  is_inside last at up (inr (low, parent, none)) = parent

  none_between : (last at j : ℕ) → last < at → IsFirstIn nodes table (last + 1) at → last < j
      → j < at → HasParent nodes j table → ⊥
  none_between last at j up (inl (z, none)) after below has = absurd (omega (arith, up, z))
  none_between last at j up (inr (low, parent, none)) after below has =
      none j (omega (arith, after)) below has

  has_parent : (j : ℕ) → j < length nodes → path j ≡ Wanted → HasParent nodes j table
  has_parent j w e =
      let (it, g) = some_there nodes j w in
      (it, g, (entry j it g e).0)

  -- A node that is not the entry is passed.
  pub so_next : (last at : ℕ) (it : TomlNode) → last < at → slice_get nodes at ≡ Some it
      → (it.is_element ≡ false → HasAt text it.name name → ⊥) → SoFar last at
      → SoFar at it.next
  so_next last at it up g other so =
      let (there, h, parent) = is_inside last at up so.next in
      let same : it.parent ≡ table =
      ap (λ n. n.parent) (same_Some it there (sym g ∙ h)) ∙ parent in
      record {
        passed = λ j low w e. elim (cases_lt last j) [
          | inl after ↦ elim (cases_lt j at) [
            | inl before ↦
                none_between last at j up so.next after before (has_parent j w e)
            | inr reached ↦
                let here : j ≡ at = omega (arith, low, reached) in
                let is = entry at it g (ap path (sym here) ∙ e) in
                other is.1 is.2
          ]
          | inr before ↦ so.passed j before w e
        ];
        next = subst (λ i. IsFirstIn nodes i (at + 1) it.next) same
            ((are.joined at it g).next (omega (arith, up)));
      }

  -- A node in the table that is not an element, and has the name, is the entry.
  by_path : (at : ℕ) (it : TomlNode) (p : Path) → path at ≡ p → (at ≡ 0 → ⊥)
      → at < length nodes → above p ≡ path table → is_placed p ≡ false
      → StandsAt text it.name (name_of p) → HasAt text it.name name → p ≡ Wanted
  by_path at it [] e some w up element stands has =
      absurd (some (are.apart at 0 w (omega (arith, w)) (e ∙ sym are.top)))
  by_path at it (placed k ∷ p) e some w up element stands has = absurd (cc)
  by_path at it (named n ∷ p) e some w up element stands has =
      let same : n ≡ name = sym (has_at text it.name n stands).2 ∙ has.2 in
      ap (λ m. named m ∷ p) same ∙ ap (λ q. named name ∷ q) up

  pub so_found : (last at : ℕ) (it : TomlNode) → last < at → slice_get nodes at ≡ Some it
      → it.is_element ≡ false → HasAt text it.name name → SoFar last at
      → IsFound nodes path Wanted (Some at)
  so_found last at it up g element has so =
      let w = slice_get_within nodes at it g in
      let (there, h, parent) = is_inside last at up so.next in
      let same : it.parent ≡ table =
      ap (λ n. n.parent) (same_Some it there (sym g ∙ h)) ∙ parent in
      let (inside, above_is, stands, index, is) = are.is_in at it g in (
        w,
        by_path at it (path at) refl (λ z. omega (arith, up, z)) w
            (sym above_is ∙ ap path same) (sym is ∙ element) stands has,
      )

  pub so_none : (last at : ℕ) → (last < at → at < length nodes → ⊥) → SoFar last at
      → IsFound nodes path Wanted None
  so_none last at over so j w e = elim (cases_lt last j) [
    | inr before ↦ so.passed j before w e
    | inl after ↦ elim so.next [
      | inl (z, none) ↦ none j (omega (arith, after)) (has_parent j w e)
      | inr (low, parent, none) ↦
          let (it, g, is) = parent in
          over (omega (arith, low)) (slice_get_within nodes at it g)
    ]
  ]

-- ---- tests

pub is_no_element : (b : Bool) → not b ≡ true → b ≡ false
is_no_element false e = refl
is_no_element true e = absurd (cc)

pub no_entry : (b : Bool) → not b ≡ false → b ≡ false → ⊥
no_entry false e f = absurd (cc)
no_entry true e f = absurd (cc)

pub both_ways : (b : Bool) → b ≡ true → b ≡ false → ⊥
both_ways b e f = absurd (cc)

-- ---- spans

pub is_span : (text rest found : List ℕ) (o n : ℕ) → rest ≡ slice_range text o (length text)
    → found ≡ slice_range rest 0 n → found ≡ take n (drop o text)
is_span text rest found o n e f =
    let none : n - 0 ≡ n = omega arith in
    let front : slice_range rest 0 n ≡ take n rest = ap (λ k. take k rest) none in
    f ∙ front ∙ ap (λ l. take n l) (e ∙ take_rest text o)
