-- Calls of the function of a rule that parses incremental input.
use Rattle.std.specs.Prelude.{Result}
use Rattle.std.specs.Borrow.{MutBor}
use Rattle.std.specs.Fn.{Called, CalledAtMut, Mut}
use Rattle.std.proofs.Common.{refl, sym, subst}
use Rattle.streams.specs.Input.{Input}
use Rattle.streams.specs.Kind.{Kind}
use Rattle.streams.specs.Reading.{Reading}
use Rattle.stream_errors.specs.Form.{ErrorForm, answer_by}
use Rattle.parser_definitions.specs.Does.{Ran}
use Rattle.parser_definitions.specs.Outcome.{Does}
use Rattle.winnow_grammar.specs.RulePieces.{CallsTell}

here : {F I R : Type 0} {step : Mut F (MutBor I × Unit {0}) (R × (MutBor I × Unit {0}))} {f g : F}
    {shown left : MutBor I} {r : R} → Called step f (shown, tt) (r, (left, tt)) g
    → CalledAtMut step f shown.now r g left.now
here {shown = shown} {left} call =
    record { shown = shown; shows = refl; left = left; called = call; leaves = refl }

module _ {N F I T L O E : Type 0} {reading : Reading T L} {view : I → Input T} {kind : E → Kind}
    {form : ErrorForm} {does : Does N T O}
    {step : Mut F (MutBor I × Unit {0}) (Result O E × (MutBor I × Unit {0}))} {n : N} {f g : F}
    {shown left : MutBor I} {r : Result O E} (call : Called step f (shown, tt) (r, (left, tt)) g)
    (calls : CallsTell reading view kind form (CalledAtMut step) does n f) where
  -- a call has an outcome of the parser's definition
  pub pieces_ran : Ran reading does form n (view shown.now) (answer_by kind r) n (view left.now)
  pieces_ran =
      let ends = calls.ends shown.now r g left.now (here call) in
      (ends, ends.cut, ends.ends.possible, calls.tells shown.now r g left.now (here call))

  -- the function's next calls have outcomes too
  pub tells_again : CallsTell reading view kind form (CalledAtMut step) does n g
  tells_again = subst (CallsTell reading view kind form (CalledAtMut step) does n)
      (sym (calls.kept shown.now r g left.now (here call))) calls
