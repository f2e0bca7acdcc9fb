use Rattle.std.specs.Prelude.{ℕ}
use Rattle.std.proofs.Common.{rules, subst, sym}
use Rattle.format_json_texts.specs.Strings.{AreSurrogatePair}
use Rattle.grammars.specs.Grammar.Meaning.{meaning_same}
use Rattle.format_json_values.specs.Escapes.{units_one}
use Rattle.winnow_core.specs.Exact.Same.{reads_as}
use Rattle.format_json_values.proofs.escapes.read_pair.Goals as goal

pub read-requires-clause-premise : goal.read-requires-clause-premise
read-requires-clause-premise c = (
  search rules,
  λ o u h call. search rules,
  λ tokens o p rest other u x y out is.
      let none : (v : ℕ) → AreSurrogatePair o v → ⊥ = search rules in
      let some : AreSurrogatePair p u = search rules in
      let P : ℕ × ℕ → Type 0 = λ z. AreSurrogatePair z u in
      none u (subst P (sym (units_one.alike tokens o p rest other x y)) some),
)

pub returns-clause-reads : goal.returns-clause-reads
returns-clause-reads c =
    reads_as (meaning_same _ _ AreSurrogatePair _ (λ o u. (λ m. search rules, λ m. search rules)))
    c.read.ensures.reads
