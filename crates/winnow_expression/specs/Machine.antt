-- One step of the loop.
use Rattle.std.specs.Prelude.{◌≡◌, ◌≤◌, ◌≤ℤ◌, ◌<ℤ◌, OnOk, ℕ, ℤ, Option, Some, None, Ok, Err}
use Rattle.std.specs.Prelude.{◌⊎◌, Bool, true, false, List, [], ◌∷◌}
use Rattle.stream_errors.specs.Form.{Answer}
use Rattle.streams.specs.Input.{Input, IsEndOf, Remaining, back_at}
use Rattle.streams.specs.Reading.{Reading}
use Rattle.streams.specs.Kind.{Kind, memory}
use Rattle.winnow_core.specs.Runs.{Runs}
use Rattle.winnow_expression.specs.Units.{units_left}
use Rattle.winnow_expression.specs.Calls.{Calls, Interrupts, Open}
use Rattle.winnow_expression.specs.Operators.{fold_of, left_power, neither_power, right_power}
use Rattle.winnow_expression.specs.Grammar.{Folding, Prefixes, CallEnds, Infixes, Postfixes}
use Rattle.winnow_expression.specs.Grammar.{TurnEnds, Closes}
use Rattle.winnow_expression.specs.declared.combinator.places.First.{First}
use Rattle.winnow_expression.specs.declared.combinator.places.Next.{Next}
use Rattle.winnow_expression.specs.declared.combinator.places.First.TheVariants.{Operand}
use Rattle.winnow_expression.specs.declared.combinator.operators.Infix.{Infix}
use Rattle.winnow_expression.specs.declared.combinator.calls.Operator.TheVariants.{
  Infix as infix_open,
}
use Rattle.winnow_expression.specs.declared.combinator.machine.Turn.{Turn}
use Rattle.winnow_expression.specs.declared.combinator.machine.Turn.TheVariants.{Ends, EndsAll}
use Rattle.winnow_expression.specs.declared.combinator.machine.Turn.TheVariants.{Goes, Interrupted}

-- A step where an operand is expected. The result is the value of an operand, or `None` if a prefix
-- is open.
abbrev pub OperandStep : {S T V F H : Type 0} → (List T → ℕ) → Runs S T (First V F) → Kind
    → Calls V F H → S
    → Input T → Answer (Option V) → Calls V F H → S → Input T → Type 0
OperandStep {V = V} {F = F} {H = H} units first refusal calls s i answer after t j =
    ((kind : Kind) × CallEnds H units first refusal calls.present s i kind t j
    × (answer ≡ Err kind))
    ⊎ (((value : V) × first s i (Ok (Operand value)) t j × (answer ≡ Ok (Some value))
    × (after ≡ calls))
    ⊎ ((x : Open V F H) × (power : ℤ) × Prefixes units first calls.present s i x power t j
    × (answer ≡ Ok None) × Interrupts calls x power (units_left units j) after))

-- Such steps: prefixes are opened, until an operand is read or one of them fails.
pub data PrefixedOperand {S T V F H : Type 0} (units : List T → ℕ) (first : Runs S T (First V F))
    (refusal : Kind) : Calls V F H → S → Input T → Answer V → Calls V F H → S → Input T → Type 0
  where
    operand_read : (calls after : Calls V F H) (s t : S) (i j : Input T) (a : Answer V) (v : V)
        → OperandStep units first refusal calls s i (Ok (Some v)) after t j
        → units_left units j ≤ units_left units i → a ≡ Ok v
        → PrefixedOperand units first refusal calls s i a after t j
    operand_fails : (calls after : Calls V F H) (s t : S) (i j : Input T) (a : Answer V)
        (kind : Kind) → OperandStep units first refusal calls s i (Err kind) after t j
        → a ≡ Err kind → PrefixedOperand units first refusal calls s i a after t j
    after_prefix : (calls between after : Calls V F H) (s u t : S) (i m j : Input T) (a : Answer V)
        → OperandStep units first refusal calls s i (Ok None) between u m
        → units_left units m ≤ units_left units i
        → PrefixedOperand units first refusal between u m a after t j
        → PrefixedOperand units first refusal calls s i a after t j

-- how a call ends, as the loop sees it
abbrev pub ended : {V : Type 0} → Answer (V × Bool) → Answer (Turn V)
ended (Err kind) = Err kind
ended (Ok (v, true)) = Ok (EndsAll v)
ended (Ok (v, false)) = Ok (Ends v)

-- `EndsToo reading x earlier later`: for each input that begins at `x` and has `earlier` as a
-- suffix, `later` is a suffix too.
abbrev pub EndsToo : {T L : Type 0} → Reading T L → Remaining T → Input T → Input T → Type 0
EndsToo {T} {L} reading x earlier later =
    (i : Input T) → x ≡ i.left → IsEndOf reading earlier i → IsEndOf reading later i

-- The step after a postfix was read from the remaining input `x`.
abbrev pub PostfixTurn : {T V G : Type 0} → (List T → ℕ)
    → (G → Input T → V → Answer V → Input T → Type 0) → Kind
    → ℤ → ℤ → G → Remaining T → ℕ → V → Input T → Answer (Turn V) → Input T → Type 0
PostfixTurn {V = V} units behind refusal least power fold x here left m answer j =
    ((power <ℤ least) × (j ≡ back_at x m) × (answer ≡ Ok (Ends left)))
    ⊎ (((kind : Kind) × (least ≤ℤ power) × behind fold m left (Err kind) j × (answer ≡ Err kind))
    ⊎ (((value : V) × (least ≤ℤ power) × behind fold m left (Ok value) j
    × (units_left units j ≡ here)
    × (answer ≡ Err refusal))
    ⊎ ((value : V) × (least ≤ℤ power) × behind fold m left (Ok value) j
    × (units_left units j ≡ here → ⊥) × (answer ≡ Ok (Goes value)))))

-- The step after an infix was read from the remaining input `x`.
abbrev pub InfixTurn : {T V F H : Type 0} → (List T → ℕ) → Kind → Infix H → Remaining T → ℕ
    → Calls V F H → V
    → Input T → Answer (Turn V) → Calls V F H → Input T → Type 0
InfixTurn {V = V} {F = F} {H = H} units refusal infix_ x here calls left m answer after j =
    ((left_power infix_ <ℤ calls.present.least) × (j ≡ back_at x m) × (answer ≡ Ok (Ends left))
    × (after ≡ calls))
    ⊎ (((calls.present.least ≤ℤ left_power infix_)
    × (calls.present.neither ≡ Some (left_power infix_)) × (j ≡ back_at x m)
    × (answer ≡ Ok (EndsAll left)) × (after ≡ calls))
    ⊎ ((calls.present.least ≤ℤ left_power infix_)
    × (calls.present.neither ≡ Some (left_power infix_) → ⊥) × (j ≡ m)
    × (((units_left units j ≡ calls.present.began) × (answer ≡ Err refusal))
    ⊎ ((units_left units j ≡ calls.present.began → ⊥)
    × ((answer ≡ Err memory) ⊎ ((answer ≡ Ok Interrupted) × Interrupts calls (record {
      operator = infix_open left (fold_of infix_);
      call = record calls.present { turn = here; neither = neither_power infix_ };
    }) (right_power infix_) (units_left units j) after))))))

-- A step where an operator is expected, after a value.
abbrev pub TurnStep : {W T V F G H : Type 0} → (List T → ℕ) → Runs W T (Next G H)
    → (G → Input T → V → Answer V → Input T → Type 0) → Kind → Calls V F H → V
    → W → Input T → Answer (Turn V) → Calls V F H → W → Input T → Type 0
TurnStep {V = V} {F = F} {H = H} units next behind refusal calls left s i answer after t j =
    ((a : Answer (V × Bool)) × TurnEnds F units next behind refusal calls.present left s i a t j
    × (answer ≡ ended a) × OnOk answer (after ≡ calls))
    ⊎ (((value : V) × Postfixes units next behind calls.present left s i value t j
    × (answer ≡ Ok (Goes value))
    × (after ≡ calls))
    ⊎ ((x : Open V F H) × (power : ℤ) × Infixes units next calls.present left s i x power t j
    × (answer ≡ Ok Interrupted) × Interrupts calls x power (units_left units j) after))

-- The operators of a list are folded, from the first one on, and their calls end.
abbrev pub AllEnd : {T V F H : Type 0} → Folding T V F H → List (Open V F H) → V
    → Input T → Answer V → Input T → Type 0
AllEnd g [] v i answer j = (answer ≡ Ok v) × (j ≡ i)
AllEnd {T = T} {V = V} g (x ∷ xs) v i answer j =
    ((kind : Kind) × Closes g x.operator x.call.turn i v (Err kind) j × (answer ≡ Err kind))
    ⊎ ((w : V) × (m : Input T) × Closes g x.operator x.call.turn i v (Ok w) m
    × AllEnd g xs w m answer j)
