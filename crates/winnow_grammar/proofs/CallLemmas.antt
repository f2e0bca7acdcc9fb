-- What one call of the function of a rule gives.
use Rattle.std.specs.Prelude.{Result}
use Rattle.std.specs.Borrow.{MutBor}
use Rattle.std.specs.Fn.{Called, CalledAtMut, Mut, always_mut}
use Rattle.std.proofs.Common.{refl}
use denote.Param.Always.{mut_next}
use Rattle.stream_errors.specs.Form.{ErrorForm, answer_by}
use Rattle.parser_definitions.specs.Does.{Ran}
use Rattle.parser_definitions.specs.Func.{ByDoes}
use Rattle.streams.specs.Input.{Input}
use Rattle.streams.specs.Kind.{Kind}
use Rattle.streams.specs.Reading.{Reading}
use Rattle.grammars.specs.Grammar.{Grammar}
use Rattle.winnow_grammar.specs.Rule.{CallsRead, read_again}

-- a call has an outcome of the parser's definition
pub called_ran : {N F I T L O E : Type 0} {reading : Reading T L} {view : I → Input T}
    {kind : E → Kind} {called : F → I → Result O E → F → I → Type 0} {grammar : Grammar T O} {f : F}
    → CallsRead reading view kind called grammar f → (n : N) (form : ErrorForm) (x : I)
    (r : Result O E) (g : F) (y : I) → called f x r g y
    → Ran reading (ByDoes view kind called) form (n, f) (view x) (answer_by kind r) (n, g) (view y)
called_ran {N} {F} reads n form x r g y call =
    let ends = (reads.reads x r g y call).ends in
    let state : N × F = (n, g) in
    (ends, ends.cut, ends.ends.possible, (x, r, state, y, (call, refl), refl, refl, refl, refl))

-- the function can be called again
pub call_again : {F I R : Type 0} {step : Mut F (MutBor I × Unit {0}) (R × (MutBor I × Unit {0}))}
    {f g : F} {shown left : MutBor I} {r : R} → Called step f (shown, tt) (r, (left, tt)) g
    → always_mut step f → always_mut step g
call_again call always = mut_next _ _ _ _ _ _ call refl always

-- and reads as before
pub reads_again : {F I T L O E : Type 0} {reading : Reading T L} {view : I → Input T}
    {kind : E → Kind} {grammar : Grammar T O}
    {step : Mut F (MutBor I × Unit {0}) (Result O E × (MutBor I × Unit {0}))} {f g : F}
    {shown left : MutBor I} {r : Result O E} → Called step f (shown, tt) (r, (left, tt)) g
    → CallsRead reading view kind (CalledAtMut step) grammar f
    → CallsRead reading view kind (CalledAtMut step) grammar g
reads_again {shown = shown} {left} call reads = read_again _ _ _ _ _ _ _ _ _ _ reads
    (record { shown = shown; shows = refl; left = left; called = call; leaves = refl })
