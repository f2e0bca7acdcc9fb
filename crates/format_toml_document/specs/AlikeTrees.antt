-- When the trees of two documents are equivalent.
use Rattle.std.specs.Prelude.{◌≡◌, ◌⊎◌, ℕ}
use Rattle.format_toml_document.specs.Alike.{AreAlike}
use Rattle.format_toml_tree.specs.Paths.{Path}
use Rattle.format_toml_tree.specs.Rules.{Node, valued}
use Rattle.format_toml_tree.specs.Runs.{Tree}
use Rattle.format_toml_tree.specs.declared.value.Value.{Value}

module _ {A : Type 0} where
  -- equivalent values of some level
  abbrev pub AreAlikeValues : Value A → Value A → Type 0
  AreAlikeValues v w = (level : ℕ) × AreAlike level v w

  -- the same contents, or equivalent values
  abbrev pub AreAlikeNodes : Node A → Node A → Type 0
  AreAlikeNodes m n =
      (m ≡ n)
      ⊎ ((v : Value A) × (w : Value A) × (m ≡ valued v) × (n ≡ valued w) × AreAlikeValues v w)

  -- equivalent contents at each path
  abbrev pub AreAlikeTrees : Tree A → Tree A → Type 0
  AreAlikeTrees t u = (p : Path) → AreAlikeNodes (t p) (u p)
