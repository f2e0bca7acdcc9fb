-- When keys, values and lines of TOML are equivalent: they differ at most in where their strings
-- and lists lie.
use Rattle.std.specs.Prelude.{◌≡◌, ◌⊎◌, ℕ, zero, suc}
use Rattle.std.specs.declared.vec.Vec.{Vec}
use Rattle.std.specs.declared.string.String.{String}
use Rattle.grammars.specs.Pairwise.{ArePairwise, HaveSameBytes}
use Rattle.format_toml_tree.specs.declared.value.Date.{Date}
use Rattle.format_toml_tree.specs.declared.value.DateTime.{DateTime}
use Rattle.format_toml_tree.specs.declared.value.DateTime.TheVariants as moments
use Rattle.format_toml_tree.specs.declared.value.Float.{Float}
use Rattle.format_toml_tree.specs.declared.value.Item.{Item}
use Rattle.format_toml_tree.specs.declared.value.Item.TheVariants as items
use Rattle.format_toml_tree.specs.declared.value.Key.{Key}
use Rattle.format_toml_tree.specs.declared.value.Offset.{Offset}
use Rattle.format_toml_tree.specs.declared.value.Time.{Time}
use Rattle.format_toml_tree.specs.declared.value.Value.{Value}
use Rattle.format_toml_tree.specs.declared.value.Value as values

module _ {A : Type 0} where
  -- the same names
  abbrev pub AreAlikeKeys : Key A → Key A → Type 0
  AreAlikeKeys k l = ArePairwise HaveSameBytes k.names.items l.names.items

  -- the same time, with a fraction of the same digits
  abbrev pub AreAlikeTimes : Time A → Time A → Type 0
  AreAlikeTimes s t =
      (s.hour ≡ t.hour) × (s.minute ≡ t.minute) × (s.second ≡ t.second)
      × HaveSameBytes s.fraction t.fraction

  -- the same date, time and offset, as far as there are
  abbrev pub AreAlikeMoments : DateTime A → DateTime A → Type 0
  AreAlikeMoments a b =
      (a ≡ b)
      ⊎ (((s : Time A) × (t : Time A) × (a ≡ moments.Time s) × (b ≡ moments.Time t)
      × AreAlikeTimes s t)
      ⊎ (((d : Date) × (s : Time A) × (t : Time A) × (a ≡ moments.Local d s)
      × (b ≡ moments.Local d t) × AreAlikeTimes s t)
      ⊎ ((d : Date) × (s : Time A) × (t : Time A) × (o : Offset) × (a ≡ moments.Offset d s o)
      × (b ≡ moments.Offset d t o) × AreAlikeTimes s t)))

  -- strings and floats of the same characters, equivalent dates and times
  abbrev pub AreAlikeSingles : Value A → Value A → Type 0
  AreAlikeSingles v w =
      ((s : String A) × (t : String A) × (v ≡ values.Text s) × (w ≡ values.Text t)
      × HaveSameBytes s t)
      ⊎ (((f : Float A) × (g : Float A) × (v ≡ values.Float f) × (w ≡ values.Float g)
      × HaveSameBytes f.text g.text)
      ⊎ ((a : DateTime A) × (b : DateTime A) × (v ≡ values.DateTime a) × (w ≡ values.DateTime b)
      × AreAlikeMoments a b))

  -- the same names, and equivalent values
  abbrev pub AreAlikeEntries : (Value A → Value A → Type 0) → Key A × Value A → Key A × Value A
      → Type 0
  AreAlikeEntries alike e f = AreAlikeKeys e.0 f.0 × alike e.1 f.1

  -- the same integer or truth value, equivalent singles, arrays of pairwise equivalent values, or
  -- tables of pairwise equivalent entries
  abbrev pub AreAlikeBy : (Value A → Value A → Type 0) → Value A → Value A → Type 0
  AreAlikeBy alike v w =
      (v ≡ w)
      ⊎ (AreAlikeSingles v w
      ⊎ (((l : Vec (Value A) A) × (m : Vec (Value A) A) × (v ≡ values.Array l)
      × (w ≡ values.Array m) × ArePairwise alike l.items m.items)
      ⊎ ((l : Vec (Key A × Value A) A) × (m : Vec (Key A × Value A) A) × (v ≡ values.Table l)
      × (w ≡ values.Table m) × ArePairwise (AreAlikeEntries alike) l.items m.items)))

  -- values whose arrays and inline tables are nested at most `level` deep
  unfoldable pub AreAlike : ℕ → Value A → Value A → Type 0
  AreAlike zero = AreAlikeBy (λ v w. v ≡ w)
  AreAlike (suc level) = AreAlikeBy (AreAlike level)

  -- equivalent headers or entries
  abbrev pub AreAlikeItems : ℕ → Item A → Item A → Type 0
  AreAlikeItems level i j =
      ((k : Key A) × (l : Key A) × (i ≡ items.Table k) × (j ≡ items.Table l) × AreAlikeKeys k l)
      ⊎ (((k : Key A) × (l : Key A) × (i ≡ items.Tables k) × (j ≡ items.Tables l)
      × AreAlikeKeys k l)
      ⊎ ((k : Key A) × (l : Key A) × (v : Value A) × (w : Value A) × (i ≡ items.Entry k v)
      × (j ≡ items.Entry l w) × (AreAlikeKeys k l × AreAlike level v w)))
