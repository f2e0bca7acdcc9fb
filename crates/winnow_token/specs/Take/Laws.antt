-- Laws of `take`.
use Rattle.std.specs.Prelude.{◌<◌, ℕ, length}
use Rattle.std.proofs.Common.{ap, arith, length-append}
use Rattle.streams.specs.Reading.{Reading}
use Rattle.grammars.specs.Grammar.{Counted, TakesTokens}

pub counted_takes : {T L : Type 0} (reading : Reading T L) (n : ℕ) → 0 < n
    → TakesTokens (Counted reading n)
unfolding Counted
counted_takes reading n some = record {
  fewer = λ tokens o rest (front, many, shown, e). omega
      (arith, ap (λ l. length l) e, length-append front rest, many, some);
}
