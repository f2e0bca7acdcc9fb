-- Lemmas about parsers of equivalent grammars.
use Rattle.std.specs.Prelude.{Result, Ok, Err}
use Rattle.std.proofs.Common.{inl, inr}
use Rattle.streams.specs.Input.{Input}
use Rattle.streams.specs.Kind.{Kind}
use Rattle.streams.specs.Reading.{Reading}
use Rattle.grammars.specs.Grammar.{Grammar}
use Rattle.grammars.specs.Grammar.Same.{Same, none_as}
use Rattle.winnow_core.specs.Exact.{Reads}

-- what is read by one is read by the other
pub reads_as : {T L O E : Type 0} {reading : Reading T L} {kind : E → Kind} {g h : Grammar T O}
    {i j : Input T} {result : Result O E} → Same g h → Reads reading kind g i result j
    → Reads reading kind h i result j
reads_as {i = i} {j} {result = Ok o} same r = record {
  ends = r.ends;
  stands = λ is. same.there i.left.tokens o j.left.tokens (r.stands is);
  none = λ is. tt;
}
reads_as {i = i} {result = Err e} same r = record {
  ends = r.ends;
  stands = λ is. tt;
  none = λ is. elim (r.none is) [
    | inl m ↦ inl m
    | inr (b, nothing) ↦ inr (b, none_as same i.left.tokens nothing)
  ];
}
