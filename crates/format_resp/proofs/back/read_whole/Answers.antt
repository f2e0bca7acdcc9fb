use Rattle.std.proofs.Common.{◌∙◌, ap, false, inl, inr, sym, ℕ}
use Rattle.std.proofs.lemmas.Bool.{true≢false}
use Rattle.streams.specs.Input.{Input}
use Rattle.streams.specs.Partial.{with_flag}
use Rattle.format_resp.proofs.back.read_whole.Goals as goal

pub returns-clause-reads : goal.returns-clause-reads
returns-clause-reads g c =
    let start = ap (λ (i : Input ℕ). i.left.tokens)
    (c.complete.ensures.complete ∙ ap (λ (i : Input ℕ). with_flag i false) c.new-whole.ensures) in
    let left = ap (λ (i : Input ℕ). i.left.tokens) c.into_inner.ensures in
    rw (start, ← left) at c.in-Ok.ensures.first

pub unreachable-requires : goal.unreachable-requires
unreachable-requires g c =
    let start = ap (λ (i : Input ℕ). i.left.tokens)
    (c.complete.ensures.complete ∙ ap (λ (i : Input ℕ). with_flag i false) c.new-whole.ensures) in
    let (reply, rest, stands) = c.requires.stands in
    elim c.in-Err.ensures.first [
      | inl m ↦ true≢false (sym (c.is_memory.ensures.1 m) ∙ c.if-is_memory.false)
      | inr none ↦ none reply rest (rw (← start) at stands)
    ]
