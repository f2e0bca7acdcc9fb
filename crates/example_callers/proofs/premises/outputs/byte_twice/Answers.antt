use Rattle.std.specs.Prelude.{◌≡◌}
use Rattle.std.proofs.Common.{◌∙◌, rules, subst, sym}
use Rattle.example_callers.proofs.PremiseLemmas.{decided_by, one_alike}
use Rattle.winnow.specs.Exact.Same.{reads_as}
use Rattle.winnow.specs.Grammar.Inversion.{Byte}
use Rattle.winnow.specs.Grammar.Same.{Same, same_refl}
use Rattle.example_callers.proofs.premises.outputs.byte_twice.Goals as goal

pub read-requires-clause-premise : goal.read-requires-clause-premise
read-requires-clause-premise c = (
  tt,
  λ o u h call. search rules,
  λ o made is. tt,
  λ tokens o p mid other m n x y is was.
      let of_one : m ≡ o = search rules in
      let of_other : n ≡ p = search rules in
      subst (λ k. Same (Byte m) (Byte k))
      (of_one ∙ one_alike.alike tokens o p mid other x y ∙ sym of_other) (same_refl (Byte m)),
)

pub returns : goal.returns
returns c =
    reads_as (decided_by _ _ (λ o made. made ≡ o) _ _
    (λ o u. (λ m. search rules, λ m. search rules))) c.read.ensures.reads
