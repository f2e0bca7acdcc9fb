-- Laws of adapters whose output shows the consumed tokens.
use Rattle.std.specs.Prelude.{◌≡◌, List, ◌++◌}
use Rattle.std.proofs.Common.{ap, sym, ◌∙◌}
use Rattle.streams.specs.Reading.{Reading}
use Rattle.stream_errors.specs.Form.{ErrorForm}
use Rattle.parser_definitions.specs.Does.{Ran}
use Rattle.parser_definitions.specs.Left.{End, Left, left_of}
use Rattle.parser_definitions.specs.Outcome.{Does, Outcome, Setting, asks, backs, cuts, setting_of}
use Rattle.parser_definitions.specs.Outcome.{took, wants}
use Rattle.parser_definitions.specs.Outputs.{Makes, OutputDoes, ShowsTaken, TakeDoes, WithTakenDoes}
use Rattle.parser_definitions.specs.Outputs.{made}
use Rattle.parser_definitions.specs.Then.{ComesOf}
use Rattle.parser_definitions.specs.Then.Steps.{instead, where_took}
use Rattle.winnow_core.specs.Laws.{TakesFromTheFront}

-- If a slice determines its tokens, then those of the slice in the output, followed by the rest,
-- are the original input.
module _ {S T L O U : Type 0} (reading : Reading T L) (makes : Makes T O U) (slice : U → L)
    (shows : (w : Left T) (o : O) (end : Left T) (u : U) → makes w o end u
    → ShowsTaken reading w end (slice u)) (tokens_of : L → List T)
    (told : (l : L) (xs : List T) → reading.shows l xs → tokens_of l ≡ xs) where
  from_front : (at : Setting) (s : S) (w : Left T) (x : Outcome (End S T) O) (u : U)
      (end : End S T) → ComesOf (where_took instead (made makes)) at s w x (took u end)
      → w.tokens ≡ tokens_of (slice u) ++ end.1.tokens
  from_front at s w (took o last) u end (v, x, e) =
      let same : u ≡ v = cc in
      let left : end ≡ last = cc in
      let (front, split, shown) = shows w o last.1 v x in
      split ∙ ap (λ l. l ++ last.1.tokens) (sym (told (slice v) front shown))
      ∙ ap (λ y. tokens_of (slice y) ++ last.1.tokens) (sym same)
      ∙ ap (λ z. tokens_of (slice u) ++ z.1.tokens) (sym left)
  from_front at s w (backs last) u end e = absurd (cc)
  from_front at s w (cuts last) u end e = absurd (cc)
  from_front at s w (asks need last) u end e = absurd (cc)
  from_front at s w wants u end e = absurd (cc)

  output_from_the_front : (does : Does S T O) (form : ErrorForm)
      → TakesFromTheFront (λ u. tokens_of (slice u)) (Ran reading (OutputDoes makes does) form)
  output_from_the_front does form s i u t j (ends, more, possible, (x, d, c)) =
      from_front (setting_of form i) s (left_of i) x u (t, left_of j) c

-- The slice is the output, or beside it.
module _ {S T L O : Type 0} (reading : Reading T L) (tokens_of : L → List T)
    (told : (l : L) (xs : List T) → reading.shows l xs → tokens_of l ≡ xs) (does : Does S T O)
    (form : ErrorForm) where
  pub taken_from_the_front : TakesFromTheFront tokens_of (Ran reading (TakeDoes reading does) form)
  taken_from_the_front = output_from_the_front reading (λ w o end u. ShowsTaken reading w end u)
      (λ u. u) (λ w o end u x. x) tokens_of told does form

  pub with_taken_from_the_front : TakesFromTheFront (λ (both : O × L). tokens_of both.1)
      (Ran reading (WithTakenDoes reading does) form)
  with_taken_from_the_front = output_from_the_front {U = O × L} reading
      (λ w o end u. (u.0 ≡ o) × ShowsTaken reading w end u.1) (λ u. u.1) (λ w o end u x. x.1)
      tokens_of told does form
