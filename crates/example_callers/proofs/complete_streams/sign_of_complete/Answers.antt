use Rattle.std.specs.Prelude.{◌≡◌, [], ◌∷◌, ℕ, List, false}
use Rattle.std.proofs.Common.{ap, ◌∙◌}
use Rattle.std.specs.Borrow.{Bor}
use Rattle.winnow.specs.Bytes.{bytes_reading}
use Rattle.winnow.specs.Form.{modal}
use Rattle.winnow.specs.Input.{Input}
use Rattle.winnow.specs.Does.{Ran}
use Rattle.winnow.specs.LiteralDefinition.{LiteralDoes}
use Rattle.winnow.specs.Opt.{OptDoes}
use Rattle.example_callers.proofs.MovedRuns.{moved}
use Rattle.example_callers.proofs.complete_streams.sign_of_complete.Goals as goal

pub returns : goal.returns
returns c =
    moved (Ran bytes_reading (OptDoes (LiteralDoes bytes_reading (λ (s : ℕ) xs. xs ≡ s ∷ [])
    (λ s (_ : Bor (List ℕ)). s))) modal) _ _ _ _ _ _ _ c.opt.ensures
    (c.complete-state.ensures.complete
    ∙ ap {A = Input ℕ} (λ i. record i { status = record i.status { cut = false } })
    c.new-input.ensures)
    c.parse_next.ensures.ran
