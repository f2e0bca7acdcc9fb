use Rattle.std.specs.Prelude.{ℕ}
use Rattle.std.proofs.Common.{rules, subst, sym}
use Rattle.format_toml.specs.Toml.{IsWide}
use Rattle.grammars.specs.Grammar.Meaning.{meaning_same}
use Rattle.format_toml.specs.Unique.{wide_one}
use Rattle.winnow_core.specs.Exact.Same.{reads_as}
use Rattle.format_toml.proofs.escapes.read_wide_character.Goals as goal

pub read-requires-clause-premise : goal.read-requires-clause-premise
read-requires-clause-premise c = (
  search rules,
  λ o u h call. search rules,
  λ tokens o p rest other u x y out is.
      let none : (v : ℕ) → IsWide o v → ⊥ = search rules in
      let some : IsWide p u = search rules in
      let P : ℕ × ℕ → Type 0 = λ z. IsWide z u in
      none u (subst P (sym (wide_one.alike tokens o p rest other x y)) some),
)

pub returns : goal.returns
returns c =
    reads_as (meaning_same _ _ IsWide _ (λ o u. (λ m. search rules, λ m. search rules)))
    c.read.ensures.reads
