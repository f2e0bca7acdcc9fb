-- Calls of `void`, `map` and `verify_map` by that of their child.
use Rattle.std.specs.Prelude.{◌≡◌, ◌⊎◌}
use Rattle.std.proofs.Common.{sym, ap, subst, inl, inr, ◌∙◌}
use Rattle.streams.specs.Kind.{Kind, backtrack}
use Rattle.parser_definitions.specs.Left.{End, Left}
use Rattle.parser_definitions.specs.Moved.{moved}
use Rattle.parser_definitions.specs.Outcome.{Outcome, backs, took}
use Rattle.parser_definitions.specs.Inversion.Outcomes.{Failing, fails_by, same_took}
use Rattle.parser_definitions.specs.Inversion.Sequences.{ThenCases, then_err, then_ok}

-- ---- `map` and `void`: an output is made of the child's

-- `Step o u m` makes `u`, and leaves a state that `all` makes with the child's end.
module _ {S Q T O U M : Type 0} {Child : Outcome (End S T) O → Type 0}
    {Step : O → End S T → U → M → Type 0} {all : End S T → M → Q} {put : End S T → Q} where
  pub made_ok : {u : U} {e : End Q T}
      → ThenCases Child (λ o a y. (v : U) × (m : M) × Step o a v m × (y ≡ took v (all a m, a.1)))
      put (took u e)
      → (o : O) × (s : S) × (m : M) × Child (took o (s, e.1)) × Step o (s, e.1) u m
  made_ok {u} {e} ran =
      let (o, a, d, (v, m, step, same)) = then_ok ran in
      let told = same_took same in
      let P : Left T → Type 0 = λ l. Child (took o (a.0, l)) × Step o (a.0, l) u m in
      let both = subst P (sym (ap (λ p. p.1) told.1))
      (d, subst (λ x. Step o a x m) (sym told.0) step) in
      (o, a.0, m, both.0, both.1)

  pub made_err : {k : Kind} {left : Left T}
      → Failing (ThenCases Child
      (λ o a y. (v : U) × (m : M) × Step o a v m × (y ≡ took v (all a m, a.1))) put) k left
      → Failing Child k left
  made_err ran = elim (then_err ran) [
    | inl failed ↦ failed
    | inr (o, a, d, (y, (v, m, step, e), fails)) ↦ absurd ((fails_by e fails).is)
  ]

-- without a state
module _ {S T O U : Type 0} {Child : Outcome (End S T) O → Type 0}
    {Step : O → End S T → U → Type 0} where
  pub void_ok : {u : U} {e : End S T}
      → ThenCases Child (λ o a y. (v : U) × Step o a v × (y ≡ took v a)) (λ a. a.0) (took u e)
      → (o : O) × Child (took o e)
  void_ok ran =
      let (o, a, d, (v, step, same)) = then_ok ran in
      (o, subst (λ l. Child (took o l)) (sym (same_took same).1) d)

  pub void_err : {k : Kind} {left : Left T}
      → Failing (ThenCases Child (λ o a y. (v : U) × Step o a v × (y ≡ took v a)) (λ a. a.0)) k left
      → Failing Child k left
  void_err ran = elim (then_err ran) [
    | inl failed ↦ failed
    | inr (o, a, d, (y, (v, step, e), fails)) ↦ absurd ((fails_by e fails).is)
  ]

-- ---- `verify_map`

-- The closure gave an output, or none, and the input is reset by `reset`.
abbrev pub GivesCases : {S Q T O U G : Type 0} → (O → U → G → Type 0) → (O → G → Type 0)
    → (End S T → G → Q) → (End S T → Left T) → O → End S T → Outcome (End Q T) U → Type 0
GivesCases {U = U} {G} Gives GivesNone all reset o a y =
    (x : Outcome G U) × (((u : U) × (g : G) × Gives o u g × (x ≡ took u g))
    ⊎ ((g : G) × GivesNone o g × (x ≡ backs g)))
    × (y ≡ moved (λ g. (all a g, a.1)) (λ g. (all a g, reset a)) x)

module _ {S Q T O U G : Type 0} {Child : Outcome (End S T) O → Type 0} {Gives : O → U → G → Type 0}
    {GivesNone : O → G → Type 0} {all : End S T → G → Q} {reset : End S T → Left T}
    {put : End S T → Q} where
  pub gives_ok : {u : U} {e : End Q T}
      → ThenCases Child (GivesCases Gives GivesNone all reset) put (took u e)
      → (o : O) × (s : S) × (g : G) × Child (took o (s, e.1)) × Gives o u g
  gives_ok {u} {e} ran = by (then_ok ran)
    where
      by : (o : O) × (a : End S T) × Child (took o a)
          × GivesCases Gives GivesNone all reset o a (took u e)
          → (o : O) × (s : S) × (g : G) × Child (took o (s, e.1)) × Gives o u g
      by (o, a, d, (x, inl (v, g, gave, is), same)) =
          let told = same_took
          (same ∙ ap (λ z. moved (λ g. (all a g, a.1)) (λ g. (all a g, reset a)) z) is) in (
            o,
            a.0,
            g,
            subst (λ l. Child (took o (a.0, l))) (sym (ap (λ p. p.1) told.1)) d,
            subst (λ x. Gives o x g) (sym told.0) gave,
          )
      by (o, a, d, (x, inr (g, none, is), same)) =
          absurd (cc (same ∙ ap (λ z. moved (λ g. (all a g, a.1)) (λ g. (all a g, reset a)) z) is))

  -- an error: the child's; or the closure gave none
  pub gives_err : {k : Kind} {left : Left T}
      → Failing (ThenCases Child (GivesCases Gives GivesNone all reset) put) k left
      → Failing Child k left
      ⊎ ((o : O) × (a : End S T) × (g : G) × Child (took o a) × GivesNone o g × (k ≡ backtrack)
      × (reset a ≡ left))
  gives_err {k} {left} ran = elim (then_err ran) [
    | inl failed ↦ inl failed
    | inr (o, a, d, (y, (x, inl (u, g, gave, is), e), fails)) ↦
        absurd ((fails_by (e ∙ ap (λ z. moved (λ g. (all a g, a.1)) (λ g. (all a g, reset a)) z)
        is) fails).is)
    | inr (o, a, d, (y, (x, inr (g, none, is), e), fails)) ↦
        let told = (fails_by (e ∙ ap (λ z. moved (λ g. (all a g, a.1)) (λ g. (all a g, reset a))
        z) is) fails).is in
        inr (o, a, g, d, none, told.0, told.1)
  ]
