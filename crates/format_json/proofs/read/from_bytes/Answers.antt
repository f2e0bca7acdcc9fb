use Rattle.std.proofs.Common.{inl, inr, sym, ◌∙◌}
use Rattle.streams.specs.Equal.{true_is_false}
use Rattle.format_json.proofs.read.from_bytes.Goals as goal

pub returns-else-is_out_of_memory-clause-none : goal.returns-else-is_out_of_memory-clause-none
returns-else-is_out_of_memory-clause-none g c =
    elim c.in-Err.ensures.text.none [
      | inl want ↦ true_is_false
          (sym (c.is_out_of_memory.ensures.0 want) ∙ c.if-is_out_of_memory.false)
      | inr none ↦ inr none
    ]
