-- A value, by what two calls in turn read and between which places.
use Rattle.std.specs.Prelude.{◌≡◌, ◌+◌, ℕ, false, Result, Ok, Err, IfOk}
use Rattle.std.specs.declared.ops.Range.{Range}
use Rattle.std.proofs.Common.{ap, ◌∙◌, arith}
use Rattle.winnow.specs.Exact.{Reads}
use Rattle.winnow.specs.Grammar.{Grammar}
use Rattle.winnow.specs.Input.{Input, IsEndOf}
use Rattle.winnow.specs.Kind.{Kind}
use Rattle.winnow.specs.Located.{located_reading}
use Rattle.winnow.specs.Reading.{Reading}
use Rattle.winnow.specs.Spans.{IsBetween, output_alone}
use Rattle.example_callers.specs.Places.{IsPlaced}

module _ {T L : Type 0} (reading : Reading T L) where
  all_units : (i j : Input T) → IsEndOf (located_reading reading) j i
      → j.left.place.passed + reading.units j.left.tokens
      ≡ i.left.place.passed + reading.units i.left.tokens
  all_units i j end =
      let at : j.left.place.passed ≡ i.left.place.passed + reading.units end.ends.dropped =
      ap (λ p. p.passed) end.ends.place in
      let split = ap reading.units end.ends.tokens
      ∙ reading.units_add end.ends.dropped j.left.tokens in
      omega (arith, at, split)

  placed : {O E : Type 0} {kind : E → Kind} (key : Grammar T O) (value : Grammar T L)
      (i j k : Input T) (o : O) (both : L × Range ℕ) → i.status.cut ≡ false
      → Reads (located_reading reading) kind key i (Ok o) j
      → Reads (located_reading reading) kind value j (Ok both.0) k
      → IsBetween {E = E} j (Ok both) k → IsPlaced reading key value i.left both
  placed key value i j k o both whole first second is = (
    o,
    j.left.tokens,
    k.left.tokens,
    first.stands whole,
    second.stands (first.ends.cut ∙ whole),
    ap (λ r. r.start + reading.units j.left.tokens) is ∙ all_units i j first.ends,
    ap (λ r. r.end + reading.units k.left.tokens) is ∙ all_units j k second.ends
        ∙ all_units i j first.ends,
  )

  pub placed_told : {O E : Type 0} {kind : E → Kind} (key : Grammar T O) (value : Grammar T L)
      (i j k : Input T) (o : O) (result : Result (L × Range ℕ) E) → i.status.cut ≡ false
      → Reads (located_reading reading) kind key i (Ok o) j
      → Reads (located_reading reading) kind value j (output_alone result) k
      → IsBetween j result k → IfOk result (IsPlaced reading key value i.left)
  placed_told key value i j k o (Ok both) whole first second is =
      placed key value i j k o both whole first second is
  placed_told key value i j k o (Err e) whole first second is = tt
