-- The contents of accumulators that collected equal outputs.
use Rattle.std.specs.Prelude.{ℕ, List, [], ◌∷◌, ◌++◌, Option}
use Rattle.std.specs.List.{FoldsTo}
use Rattle.std.proofs.Common.{refl, sym, subst}
use Rattle.stream_sets.specs.Accumulator.{Accumulator}
use Rattle.stream_sets.specs.Accumulator.Holds.{Holds}
use Rattle.parser_definitions.specs.Folding.{Built, added, begun, gathering}
use Rattle.parser_definitions.specs.SeparatedFold.{AlikeLists, alike_append}

-- Accumulators with lists of equal outputs.
abbrev pub HeldAlike : {C O : Type 0} → (C → List O → Type 0) → (O → O → Type 0) → C → C → Type 0
HeldAlike {O = O} holds alike c d =
    (os : List O) × (ps : List O) × holds c os × holds d ps × AlikeLists alike os ps

one_more : {C O : Type 0} (step : C → O → C → Type 0) (os : List O) (o : O) (a b c : C)
    → FoldsTo step a os b → step b o c → FoldsTo step a (os ++ o ∷ []) c
one_more step [] o a b c e last = (c, subst (λ x. step x o c) (sym e) last, refl)
one_more step (x ∷ os) o a b c (d, first, more) last =
    (d, first, one_more step os o d b c more last)

-- Both were made by adding equal outputs to initial values.
abbrev Outputs : {C O : Type 0} → Accumulator C O → (O → O → Type 0) → C → C → Type 0
Outputs {C} {O} into alike c d = (n : Option ℕ) × (a : C) × (b : C) × (os : List O)
    × (ps : List O) × into.starts n a × into.starts n b × FoldsTo into.takes a os c
    × FoldsTo into.takes b ps d × AlikeLists alike os ps

module _ {Q C O : Type 0} (into : Accumulator C O) (alike : O → O → Type 0) where
  outputs_of : (c d : C) → Built (gathering {Q = Q} into) alike c d → Outputs into alike c d
  outputs_of c d (begun (q, u, v, n, (starts, e), (also, f))) =
      (n, c, d, [], [], starts, also, refl, refl, tt)
  outputs_of c d (added {b = b0} {c = c0} o p q u v is like (takes, e) (taken, f)) =
      let (n, a, b, os, ps, starts, also, folds, others, likes) = outputs_of b0 c0 is in (
        n,
        a,
        b,
        os ++ o ∷ [],
        ps ++ p ∷ [],
        starts,
        also,
        one_more into.takes os o a b0 c folds takes,
        one_more into.takes ps p b c0 d others taken,
        alike_append alike os ps o p likes like,
      )

  pub held_alike : {holds : C → List O → Type 0} → Holds into holds → (c d : C)
      → Built (gathering {Q = Q} into) alike c d → HeldAlike holds alike c d
  held_alike keeps c d is =
      let (n, a, b, os, ps, starts, also, folds, others, likes) = outputs_of c d is in (
        os,
        ps,
        keeps.held n a c os starts (record { taken = folds }),
        keeps.held n b d ps also (record { taken = others }),
        likes,
      )
