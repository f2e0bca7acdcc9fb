-- The steps of the loop, by their results.
use Rattle.std.proofs.Common.{◌≡◌, ◌<◌, ℕ, ℤ, Option, None, Ok, Err}
use Rattle.std.proofs.Common.{true, false, List, subst, sym}
use Rattle.std.proofs.Common.{inl, inr}
use Rattle.stream_errors.specs.Form.{Answer}
use Rattle.streams.specs.Input.{Input}
use Rattle.streams.specs.Kind.{Kind}
use Rattle.winnow_core.specs.Runs.{Runs}
use Rattle.winnow_expression.specs.Units.{units_left}
use Rattle.winnow_expression.specs.Calls.{Calls, Interrupts, Open}
use Rattle.winnow_expression.specs.Grammar.{Infixes, Postfixes}
use Rattle.winnow_expression.specs.Grammar.{TurnEnds}
use Rattle.winnow_expression.specs.Machine.{OperandStep, TurnStep}
use Rattle.winnow_expression.specs.declared.combinator.places.First.{First}
use Rattle.winnow_expression.specs.declared.combinator.places.Next.{Next}
use Rattle.winnow_expression.specs.declared.combinator.machine.Turn.TheVariants.{Ends, EndsAll}
use Rattle.winnow_expression.specs.declared.combinator.machine.Turn.TheVariants.{Goes, Interrupted}

-- a prefix consumes something
pub prefix_consumes : {S T V F H : Type 0} (units : List T → ℕ) (first : Runs S T (First V F))
    (refusal : Kind) {calls after : Calls V F H} {s t : S} {i j : Input T}
    → OperandStep units first refusal calls s i (Ok None) after t j
    → units_left units j < units_left units i
prefix_consumes units first refusal (inl (kind, failed, e)) = absurd (cc)
prefix_consumes units first refusal (inr (inl (v, read, e, same))) = absurd (cc)
prefix_consumes units first refusal (inr (inr (x, power, read, e, opened))) = read.2

-- the same step, with an equal result
pub step_as : {S T V F H : Type 0} (units : List T → ℕ) (first : Runs S T (First V F))
    (refusal : Kind) {calls after : Calls V F H} {s t : S} {i j : Input T} {given left : Option V}
    → given ≡ left → OperandStep units first refusal calls s i (Ok given) after t j
    → OperandStep units first refusal calls s i (Ok left) after t j
step_as units first refusal {calls} {after} {s} {t} {i} {j} is step =
    let P : Option _ → Type 0 =
    λ l. OperandStep units first refusal calls s i (Ok l) after t j in subst P is step

pub goes_of : {W T V F G H : Type 0} (units : List T → ℕ) (next : Runs W T (Next G H))
    (behind : G → Input T → V → Answer V → Input T → Type 0) (refusal : Kind)
    (calls after : Calls V F H) (left v : V) (s t : W) (i j : Input T)
    → TurnStep units next behind refusal calls left s i (Ok (Goes v)) after t j
    → Postfixes units next behind calls.present left s i v t j × (after ≡ calls)
goes_of units next behind refusal calls after left v s t i j
    (inl (Ok (w, true), ends, e, same)) = absurd (cc)
goes_of units next behind refusal calls after left v s t i j
    (inl (Ok (w, false), ends, e, same)) = absurd (cc)
goes_of units next behind refusal calls after left v s t i j (inl (Err kind, ends, e, same)) =
    absurd (cc)
goes_of units next behind refusal calls after left v s t i j (inr (inl (w, read, e, same))) =
    let P : _ → Type 0 = λ x. Postfixes units next behind calls.present left s i x t j in
    let is : v ≡ w = cc in
    (subst P (sym is) read, same)
goes_of units next behind refusal calls after left v s t i j
    (inr (inr (x, power, read, e, opened))) = absurd (cc)

pub interrupted_of : {W T V F G H : Type 0} (units : List T → ℕ) (next : Runs W T (Next G H))
    (behind : G → Input T → V → Answer V → Input T → Type 0) (refusal : Kind)
    (calls after : Calls V F H) (left : V) (s t : W) (i j : Input T)
    → TurnStep units next behind refusal calls left s i (Ok Interrupted) after t j
    → (x : Open V F H) × (power : ℤ) × Infixes units next calls.present left s i x power t j
    × Interrupts calls x power (units_left units j) after
interrupted_of units next behind refusal calls after left s t i j
    (inl (Ok (w, true), ends, e, same)) = absurd (cc)
interrupted_of units next behind refusal calls after left s t i j
    (inl (Ok (w, false), ends, e, same)) = absurd (cc)
interrupted_of units next behind refusal calls after left s t i j
    (inl (Err kind, ends, e, same)) = absurd (cc)
interrupted_of units next behind refusal calls after left s t i j
    (inr (inl (w, read, e, same))) = absurd (cc)
interrupted_of units next behind refusal calls after left s t i j
    (inr (inr (x, power, read, e, opened))) = (x, power, read, opened)

pub ends_of : {W T V F G H : Type 0} (units : List T → ℕ) (next : Runs W T (Next G H))
    (behind : G → Input T → V → Answer V → Input T → Type 0) (refusal : Kind)
    (calls after : Calls V F H) (left v : V) (s t : W) (i j : Input T)
    → TurnStep units next behind refusal calls left s i (Ok (Ends v)) after t j
    → TurnEnds F units next behind refusal calls.present left s i (Ok (v, false)) t j
    × (after ≡ calls)
ends_of units next behind refusal calls after left v s t i j
    (inl (Ok (w, true), ends, e, same)) = absurd (cc)
ends_of {F = F} units next behind refusal calls after left v s t i j
    (inl (Ok (w, false), ends, e, same)) =
    let P : _ → Type 0 =
    λ x. TurnEnds F units next behind refusal calls.present left s i (Ok (x, false)) t j in
    let is : v ≡ w = cc in
    (subst P (sym is) ends, same)
ends_of units next behind refusal calls after left v s t i j (inl (Err kind, ends, e, same)) =
    absurd (cc)
ends_of units next behind refusal calls after left v s t i j (inr (inl (w, read, e, same))) =
    absurd (cc)
ends_of units next behind refusal calls after left v s t i j
    (inr (inr (x, power, read, e, opened))) = absurd (cc)

pub all_of : {W T V F G H : Type 0} (units : List T → ℕ) (next : Runs W T (Next G H))
    (behind : G → Input T → V → Answer V → Input T → Type 0) (refusal : Kind)
    (calls after : Calls V F H) (left v : V) (s t : W) (i j : Input T)
    → TurnStep units next behind refusal calls left s i (Ok (EndsAll v)) after t j
    → TurnEnds F units next behind refusal calls.present left s i (Ok (v, true)) t j
    × (after ≡ calls)
all_of {F = F} units next behind refusal calls after left v s t i j
    (inl (Ok (w, true), ends, e, same)) =
    let P : _ → Type 0 =
    λ x. TurnEnds F units next behind refusal calls.present left s i (Ok (x, true)) t j in
    let is : v ≡ w = cc in
    (subst P (sym is) ends, same)
all_of units next behind refusal calls after left v s t i j
    (inl (Ok (w, false), ends, e, same)) = absurd (cc)
all_of units next behind refusal calls after left v s t i j (inl (Err kind, ends, e, same)) =
    absurd (cc)
all_of units next behind refusal calls after left v s t i j (inr (inl (w, read, e, same))) =
    absurd (cc)
all_of units next behind refusal calls after left v s t i j
    (inr (inr (x, power, read, e, opened))) = absurd (cc)

pub failure_of : {W T V F G H : Type 0} (units : List T → ℕ) (next : Runs W T (Next G H))
    (behind : G → Input T → V → Answer V → Input T → Type 0) (refusal kind : Kind)
    (calls after : Calls V F H) (left : V) (s t : W) (i j : Input T)
    → TurnStep units next behind refusal calls left s i (Err kind) after t j
    → TurnEnds F units next behind refusal calls.present left s i (Err kind) t j
failure_of units next behind refusal kind calls after left s t i j
    (inl (Ok (w, true), ends, e, same)) = absurd (cc)
failure_of units next behind refusal kind calls after left s t i j
    (inl (Ok (w, false), ends, e, same)) = absurd (cc)
failure_of {F = F} units next behind refusal kind calls after left s t i j
    (inl (Err other, ends, e, same)) =
    let P : _ → Type 0 =
    λ k. TurnEnds F units next behind refusal calls.present left s i (Err k) t j in
    let is : kind ≡ other = cc in
    subst P (sym is) ends
failure_of units next behind refusal kind calls after left s t i j
    (inr (inl (w, read, e, same))) = absurd (cc)
failure_of units next behind refusal kind calls after left s t i j
    (inr (inr (x, power, read, e, opened))) = absurd (cc)
