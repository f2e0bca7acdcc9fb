use Rattle.std.proofs.Common.{◌≡◌, refl, Ok, Err, [], ◌∷◌, rules}
use Rattle.streams.specs.Kind.{backtrack}
use Rattle.winnow_ascii.proofs.LineEndLemmas.{first_line_end, second_line_end, text_ran}
use Rattle.winnow_ascii.proofs.ascii.line_ends.line_ending.Goals as goal

pub returns-then-is_backtrack : goal.returns-then-is_backtrack
returns-then-is_backtrack g c = record {
  ran = second_line_end g.Input.Stream.reading g.Input.Compare.spells g.Error.HasKind.form _ _ _ _
      _ _ refl (c.is_backtrack.ensures.0 c.if-is_backtrack.true) c.in-Err.ensures.ran
      c.crlf.ensures.ran;
}

pub returns-else-is_backtrack : goal.returns-else-is_backtrack
returns-else-is_backtrack g c =
    let other : g.Error.HasKind.kind c.in-Err.error ≡ backtrack → ⊥ =
    search rules depth 1 in record {
      ran = first_line_end g.Input.Stream.reading g.Input.Compare.spells g.Error.HasKind.form _
          (Err (g.Error.HasKind.kind c.in-Err.error)) _
          (λ e. other (cc e))
          (text_ran g.Input.Stream.reading g.Input.Compare.spells (10 ∷ []) g.Error.HasKind.form _
          (Err (g.Error.HasKind.kind c.in-Err.error)) _ _ refl c.in-Err.ensures.ran);
    }

pub returns-in-Ok : goal.returns-in-Ok
returns-in-Ok g c = record {
  ran = first_line_end g.Input.Stream.reading g.Input.Compare.spells g.Error.HasKind.form _
      (Ok c.in-Ok.slice) _ (λ e. absurd (cc e))
      (text_ran g.Input.Stream.reading g.Input.Compare.spells (10 ∷ []) g.Error.HasKind.form _
      (Ok c.in-Ok.slice) _ _ refl c.in-Ok.ensures.ran);
}
