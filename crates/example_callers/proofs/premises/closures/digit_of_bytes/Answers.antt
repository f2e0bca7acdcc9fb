use Rattle.std.specs.Prelude.{ℕ}
use Rattle.std.proofs.Common.{rules, subst, sym}
use Rattle.example_callers.proofs.PremiseLemmas.{one_alike}
use Rattle.example_callers.specs.Premises.{IsValue}
use Rattle.winnow.specs.Exact.Same.{reads_as}
use Rattle.winnow.specs.Grammar.Meaning.{meaning_same}
use Rattle.example_callers.proofs.premises.closures.digit_of_bytes.Goals as goal

pub read-requires-clause-premise : goal.read-requires-clause-premise
read-requires-clause-premise c = (
  tt,
  λ o u h call. search rules,
  λ tokens o p rest other u x y out is.
      let none : (v : ℕ) → IsValue o v → ⊥ = search rules in
      let some : IsValue p u = search rules in
      let P : ℕ → Type 0 = λ z. IsValue z u in
      none u (subst P (sym (one_alike.alike tokens o p rest other x y)) some),
)

pub returns : goal.returns
returns c =
    reads_as (meaning_same _ _ IsValue _ (λ o u. (λ m. search rules, λ m. search rules)))
    c.read.ensures.reads
