-- Recovery from an error: what the adapters that recover have in common.
use Rattle.std.specs.Prelude.{◌≡◌, ◌⊎◌, ◌<◌, Bool, IsTrue, true, length, Ok, Err}
use Rattle.parser_definitions.specs.Recover.{Recovery}
use Rattle.streams.specs.Input.{Input, back_at}
use Rattle.streams.specs.Kind.{Kind, memory}
use Rattle.stream_errors.specs.Join.{IsOrMemory}
use Rattle.stream_errors.specs.Recover.{with_recorded}
use Rattle.winnow_core.specs.Runs.{Runs}

-- whether the stream records errors, and whether an error may be out of memory after a failed
-- recovery
abbrev pub recovery_of : Bool → Bool → Recovery
recovery_of recovers grows = record { recovers = recovers; grows = grows }

-- Fewer tokens remain.
abbrev pub Consumes : {T : Type 0} → Input T → Input T → Type 0
Consumes i j = length j.left.tokens < length i.left.tokens

-- An error of kind k, where it arose, is recovered from: the parser that recovers succeeds, and
-- consumes where it must; and the kind is recorded, once.
abbrev pub IsRecovered : {W T : Type 0} → Bool → Runs W T (Unit {0}) → Kind → W → Input T → W
    → Input T → Type 0
IsRecovered {W} {T} must_consume recover k w x v j =
    (m : Input T) × recover w x (Ok tt) v m × (must_consume ≡ true → Consumes x m)
    × (j ≡ with_recorded m k)

-- The error is not recovered: an error of kind `l` is returned, and the input is back where the
-- error arose, with everything that the recovering parser has recorded.
abbrev pub IsNotRecovered : {W T : Type 0} → Bool → Bool → Runs W T (Unit {0}) → Kind → W
    → Input T → Kind → W → Input T → Type 0
IsNotRecovered {W} {T} must_consume grows recover k w x l v j =
    (m : Input T) × (j ≡ back_at x.left m) × (
    -- the recovering parser fails: the error is returned
    ((f : Kind) × recover w x (Err f) v m × (f ≡ memory → ⊥)
    × IsOrMemory k (IsTrue grows) l)
    -- it is out of memory
    ⊎ ((recover w x (Err memory) v m × (l ≡ memory))
    -- it consumes nothing although it must: the error is returned
    ⊎ (((must_consume ≡ true) × recover w x (Ok tt) v m × (m.left.tokens ≡ x.left.tokens)
    × IsOrMemory k (IsTrue grows) l)
    -- there is no memory to record the error
    ⊎ (recover w x (Ok tt) v m × (must_consume ≡ true → Consumes x m) × (l ≡ memory)))))
