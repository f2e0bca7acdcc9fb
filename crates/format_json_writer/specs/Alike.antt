-- When two values are equivalent.
use Rattle.std.specs.Prelude.{◌≡◌, ◌⊎◌, ℕ, zero, suc}
use Rattle.std.specs.declared.string.String.{String}
use Rattle.std.specs.declared.vec.Vec.{Vec}
use Rattle.grammars.specs.Pairwise.{ArePairwise, HaveSameBytes}
use Rattle.format_json_texts.specs.declared.value.Value.{Value}
use Rattle.format_json_texts.specs.declared.value.Value as values

module _ {A : Type 0} where
  -- the same name, and equivalent values
  abbrev pub AreAlikeMembers : (Value A → Value A → Type 0) → String A × Value A
      → String A × Value A → Type 0
  AreAlikeMembers alike m n = HaveSameBytes m.0 n.0 × alike m.1 n.1

  -- the same word, numbers or strings of the same bytes, arrays of pairwise equivalent values, or
  -- objects of pairwise equivalent members
  abbrev pub AreAlikeBy : (Value A → Value A → Type 0) → Value A → Value A → Type 0
  AreAlikeBy alike v w =
      (v ≡ w)
      ⊎ (((s : String A) × (t : String A) × (v ≡ values.Number s) × (w ≡ values.Number t)
      × HaveSameBytes s t)
      ⊎ (((s : String A) × (t : String A) × (v ≡ values.Text s) × (w ≡ values.Text t)
      × HaveSameBytes s t)
      ⊎ (((l : Vec (Value A) A) × (m : Vec (Value A) A) × (v ≡ values.Array l)
      × (w ≡ values.Array m) × ArePairwise alike l.items m.items)
      ⊎ ((l : Vec (String A × Value A) A) × (m : Vec (String A × Value A) A)
      × (v ≡ values.Object l) × (w ≡ values.Object m)
      × ArePairwise (AreAlikeMembers alike) l.items m.items))))

  -- values of a level that differ at most in where their strings and lists lie
  unfoldable pub AreAlike : ℕ → Value A → Value A → Type 0
  AreAlike zero = AreAlikeBy (λ v w. v ≡ w)
  AreAlike (suc level) = AreAlikeBy (AreAlike level)
