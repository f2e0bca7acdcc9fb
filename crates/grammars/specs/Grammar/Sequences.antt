-- Sequences of three and four: that they leave one rest, and when they take tokens.
use Rattle.std.specs.Prelude.{◌⊎◌, List}
use Rattle.std.proofs.Common.{subst, inl, inr, arith}
use Rattle.grammars.specs.Grammar.{Grammar, IsUnique, TakesTokens, Three}
use Rattle.grammars.specs.Grammar.Tuples.{Four, join4}
use Rattle.grammars.specs.Grammar.Unique.{both_take, both_unique, end_of_end, no_longer_than}

module _ {T O1 O2 O3 O : Type 0} (output : O1 → O2 → O3 → O) {g1 : Grammar T O1}
    {g2 : Grammar T O2} {g3 : Grammar T O3} where
  pub three_unique : IsUnique g1 → IsUnique g2 → IsUnique g3 → IsUnique (Three output g1 g2 g3)
  unfolding Three
  three_unique first second third = record {
    ends = λ tokens o rest (o1, o2, o3, a, b, x, y, z, e).
        end_of_end (first.ends tokens o1 a x)
        (end_of_end (second.ends a o2 b y) (third.ends b o3 rest z));
    one = λ tokens o p rest other (o1, o2, o3, a, b, x, y, z, e) (p1, p2, p3, c, d, u, v, w, f).
        let P : List T → Type 0 = λ l. g2 l o2 b in
        let Q : List T → Type 0 = λ l. g3 l o3 rest in
        third.one d o3 p3 rest other
        (subst Q (second.one c o2 p2 b d (subst P (first.one tokens o1 p1 a c x u) y) v) z) w;
  }

  -- where one of them takes tokens, so do all
  pub three_take : IsUnique g1 → IsUnique g2 → IsUnique g3
      → TakesTokens g1 ⊎ (TakesTokens g2 ⊎ TakesTokens g3)
      → TakesTokens (Three output g1 g2 g3)
  unfolding Three
  three_take first second third some = record {
    fewer = λ tokens o rest (o1, o2, o3, a, b, x, y, z, e).
        let one = no_longer_than first tokens o1 a x in
        let two = no_longer_than second a o2 b y in
        let three = no_longer_than third b o3 rest z in
        elim some [
          | inl takes ↦ omega (arith, takes.fewer tokens o1 a x, two, three)
          | inr (inl takes) ↦ omega (arith, one, takes.fewer a o2 b y, three)
          | inr (inr takes) ↦ omega (arith, one, two, takes.fewer b o3 rest z)
        ];
  }

module _ {T O1 O2 O3 O4 : Type 0} {g1 : Grammar T O1} {g2 : Grammar T O2} {g3 : Grammar T O3}
    {g4 : Grammar T O4} (first : IsUnique g1) (second : IsUnique g2) (third : IsUnique g3)
    (fourth : IsUnique g4) where
  pub four_unique : IsUnique (Four g1 g2 g3 g4)
  four_unique =
      both_unique join4 (three_unique (λ o1 o2 o3. (o1, o2, o3)) first second third) fourth

  -- where one of them takes tokens, so do all
  pub four_take : TakesTokens g1 ⊎ (TakesTokens g2 ⊎ (TakesTokens g3 ⊎ TakesTokens g4))
      → TakesTokens (Four g1 g2 g3 g4)
  four_take some =
      let three : TakesTokens g1 ⊎ (TakesTokens g2 ⊎ TakesTokens g3)
      → TakesTokens (Three (λ o1 o2 o3. (o1, o2, o3)) g1 g2 g3) =
      three_take (λ o1 o2 o3. (o1, o2, o3)) first second third in
      both_take join4 (three_unique (λ o1 o2 o3. (o1, o2, o3)) first second third) fourth
      (elim some [
        | inl takes ↦ inl (three (inl takes))
        | inr (inl takes) ↦ inl (three (inr (inl takes)))
        | inr (inr (inl takes)) ↦ inl (three (inr (inr takes)))
        | inr (inr (inr takes)) ↦ inr takes
      ])
