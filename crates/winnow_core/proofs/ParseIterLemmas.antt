-- Laws of iterators over all of an input.
use Rattle.std.specs.Prelude.{◌≡◌, List, [], Option, Some}
use Rattle.std.proofs.Common.{ap, subst, sym, ◌∙◌}
use Rattle.streams.specs.Input.{Ends, Input, IsEndOf, Remaining, Remains, ends_remain, ends_trans}
use Rattle.streams.specs.Reading.{Reading, units-nil}
use Rattle.winnow_core.specs.ParseIter.{IsReached, NothingToRead, IterPosition, reads, standing_by}
use Rattle.winnow_core.specs.declared.combinator.impls.parse_iter.Unread.{Unread}

pub reads_unread : {I C T : Type 0} (view : I → Input T) (seen : C → Remaining T)
    {unread : Option (Unread I C)} {u : Unread I C} → unread ≡ Some u
    → standing_by view seen unread ≡ reads (seen u.start) (view u.input)
reads_unread view seen e = ap (λ x. standing_by view seen x) e

pub reached_behind : {T L : Type 0} {reading : Reading T L} {standing : IterPosition T}
    {start : Remaining T} {i j : Input T} → standing ≡ reads start i → IsReached reading standing
    → IsEndOf reading j i → Ends reading j.left start
reached_behind {reading = reading} on reached end =
    let P : IterPosition _ → Type 0 =
    λ s. IsReached reading s in ends_trans end.ends (subst P on reached)

pub reached_remains : {T L : Type 0} {reading : Reading T L} {standing : IterPosition T}
    {start : Remaining T} {i j : Input T} → standing ≡ reads start i → IsReached reading standing
    → IsEndOf reading j i → Remains j.left start
reached_remains on reached end = ends_remain (reached_behind on reached end)

pub nothing_to_read : {T : Type 0} {standing : IterPosition T} {start : Remaining T} {i : Input T}
    → standing ≡ reads start i → i.left.tokens ≡ [] → NothingToRead standing
nothing_to_read on nothing =
    let P : IterPosition _ → Type 0 = λ s. NothingToRead s in subst P (sym on) nothing

pub some_to_read : {T L : Type 0} (reading : Reading T L) (tokens : List T)
    → (reading.units tokens ≡ 0 → ⊥) → tokens ≡ [] → ⊥
some_to_read reading tokens some nothing = some (ap reading.units nothing ∙ units-nil reading)
