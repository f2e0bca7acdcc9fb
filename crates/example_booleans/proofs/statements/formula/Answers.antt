use Rattle.std.specs.Prelude.{Err, IfErr, Ok, Result, ◌⊎◌}
use Rattle.std.proofs.Common.{inl, inr, pos, ◌≡◌}
use Rattle.streams.specs.Bytes.{bytes_input, bytes_reading}
use Rattle.streams.specs.Kind.{Kind, backtrack, memory}
use Rattle.winnow_expression_trees.specs.Items.Grammar.{tree_told}
use Rattle.example_booleans.specs.Booleans.{ByteItem, infix_at, logic_value, not_value}
use Rattle.example_booleans.specs.Booleans.{operand_at, postfix_at, prefix_at}
use Rattle.example_booleans.proofs.statements.formula.Goals as goal

soft : {O E : Type 0} (kind : E → Kind) (also : E → Type 0) (result : Result O E)
    → IfErr result (λ e. (kind e ≡ memory) ⊎ ((kind e ≡ backtrack) × also e))
    → IfErr result (λ e. (kind e ≡ memory) ⊎ (kind e ≡ backtrack))
soft kind also (Ok o) told = tt
soft kind also (Err e) told = elim told [
  | inl m ↦ inl m
  | inr (b, more) ↦ inr b
]

pub returns : goal.returns
returns g c = tree_told (ByteItem operand_at) (ByteItem prefix_at) (ByteItem postfix_at)
    (ByteItem infix_at) not_value not_value logic_value (pos 0) bytes_reading _
    (bytes_input c.args.input.now.now) c.truth.result (bytes_input c.truth.new.input.now)
    c.truth.ensures.reads c.truth.ensures.ends (soft _ _ c.truth.result c.truth.ensures.fails)
