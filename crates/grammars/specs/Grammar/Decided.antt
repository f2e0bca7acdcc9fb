-- Grammars whose output determines the grammar of the rest.
use Rattle.std.specs.Prelude.{◌⊎◌, List}
use Rattle.std.proofs.Common.{subst, arith, inl, inr}
use Rattle.grammars.specs.Grammar.{Grammar, IsUnique, TakesTokens}
use Rattle.grammars.specs.Grammar.Same.{Same, same_sym}
use Rattle.grammars.specs.Grammar.Unique.{end_of_end, no_longer_than}

-- A match of `grammar`, followed by a match of the grammar that `makes` chooses for its output, by
-- `part` of the parser.
unfoldable pub FlatMapped : {F T O H U : Type 0} → (F → O → H → Type 0) → F → (H → Grammar T U)
    → Grammar T O → Grammar T U
FlatMapped {T = T} {O} {H} makes part reads grammar tokens u rest =
    (o : O) × (mid : List T) × (made : H) × grammar tokens o mid × makes part o made
    × reads made mid u rest

-- Outputs for the same tokens choose equivalent grammars.
abbrev pub MadeAlike : {F T O H U : Type 0} → (F → O → H → Type 0) → F → (H → Grammar T U)
    → Grammar T O → Type 0
MadeAlike {T = T} {O} {H} makes part reads grammar =
    (tokens : List T) (o p : O) (mid other : List T) (m n : H) → grammar tokens o mid
    → grammar tokens p other → makes part o m → makes part p n → Same (reads m) (reads n)

-- Each that is made meets this.
abbrev pub EachMade : {F O H : Type 0} → (F → O → H → Type 0) → F → (H → Type 0) → Type 0
EachMade {O = O} {H} makes part meets = (o : O) (made : H) → makes part o made → meets made

module _ {F T O H U : Type 0} (makes : F → O → H → Type 0) (part : F) (reads : H → Grammar T U)
    {g : Grammar T O} (first : IsUnique g)
    (second : EachMade makes part (λ made. IsUnique (reads made))) where
  pub flat_mapped_unique : MadeAlike makes part reads g → IsUnique (FlatMapped makes part reads g)
  unfolding FlatMapped
  flat_mapped_unique alike = record {
    ends = λ tokens u rest (o, mid, made, x, m, y). end_of_end (first.ends tokens o mid x)
        ((second o made m).ends mid u rest y);
    one = λ tokens u v rest end (o, mid, made, x, m, y) (p, other, more, z, n, w).
        let P : List T → Type 0 = λ l. reads made l v end in
        let same = first.one tokens p o other mid z x in
        let there = (alike tokens o p mid other made more x z m n).back other v end w in
        (second o made m).one mid u v rest end y (subst P same there);
  }

  pub flat_mapped_takes : TakesTokens g ⊎ EachMade makes part (λ made. TakesTokens (reads made))
      → TakesTokens (FlatMapped makes part reads g)
  unfolding FlatMapped
  flat_mapped_takes (inl takes) = record {
    fewer = λ tokens u rest (o, mid, made, x, m, y). omega (
      arith,
      takes.fewer tokens o mid x,
      no_longer_than (second o made m) mid u rest y,
    );
  }
  flat_mapped_takes (inr each) = record {
    fewer = λ tokens u rest (o, mid, made, x, m, y). omega (
      arith,
      no_longer_than first tokens o mid x,
      (each o made m).fewer mid u rest y,
    );
  }

-- ---- equivalent grammars give equivalent grammars

module _ {F T O H U : Type 0} (makes : F → O → H → Type 0) (part : F) where
  flat_mapped_as : {reads other : H → Grammar T U} {g h : Grammar T O}
      → ((made : H) → Same (reads made) (other made)) → Same g h → (tokens : List T) (u : U)
      (rest : List T) → FlatMapped makes part reads g tokens u rest
      → FlatMapped makes part other h tokens u rest
  unfolding FlatMapped
  flat_mapped_as each same tokens u rest (o, mid, made, x, m, y) =
      (o, mid, made, same.there tokens o mid x, m, (each made).there mid u rest y)

  pub flat_mapped_same : {reads other : H → Grammar T U} {g h : Grammar T O}
      → ((made : H) → Same (reads made) (other made)) → Same g h
      → Same (FlatMapped makes part reads g) (FlatMapped makes part other h)
  flat_mapped_same each same = record {
    there = flat_mapped_as each same;
    back = flat_mapped_as (λ made. same_sym (each made)) (same_sym same);
  }
