-- The invariant of the loop.
use Rattle.std.specs.Prelude.{◌≡◌, ◌+◌, ◌-◌, ◌*◌, ◌≤◌, ◌<◌, ℕ, min, Option, Some, None, Bool, List}
use Rattle.std.specs.Prelude.{[], ◌∷◌, length, reverse}
use Rattle.stream_errors.specs.Form.{Answer}
use Rattle.streams.specs.Input.{Input}
use Rattle.winnow_expression.specs.Units.{units_left}
use Rattle.winnow_expression.specs.Covers.Trees.{TreeRuns, TailRuns, JoinedRuns}
use Rattle.winnow_expression.specs.Calls.{Calls, Open}
use Rattle.parser_definitions.specs.Expression.{Call}
use Rattle.winnow_expression.specs.declared.combinator.calls.Operator.{Operator}
use Rattle.winnow_expression.specs.declared.combinator.calls.Operator.TheVariants.{Prefix, Infix}
use Rattle.winnow_expression.specs.Covers.Trees.{Made, steps}

-- The result of the outermost call, by the result of the call below the open operators. The last
-- operator that was opened comes first.
abbrev pub Resumed : {S W T L V F G H : Type 0} → Made S W T L V F G H → List (Open V F H)
    → Answer (V × Bool) → S × W → Input T → Answer (V × Bool) → S × W → Input T → Type 0
Resumed g [] b s i a t j = (a ≡ b) × (t ≡ s) × (j ≡ i)
Resumed {S} {W} {T} {L} {V} {F} {G} {H} g (x ∷ xs) b s i a t j =
    (c : Answer (V × Bool)) × (u : S × W) × (m : Input T) × JoinedRuns g x b s i c u m
    × Resumed g xs c u m a t j

-- The result of the current call: from its start, or after a value.
abbrev pub PresentRuns : {S W T L V F G H : Type 0} → Made S W T L V F G H → Call → Option V
    → S × W → Input T → Answer (V × Bool) → S × W → Input T → Type 0
PresentRuns g call None s i a t j = TreeRuns g call s i a t j
PresentRuns g call (Some v) s i a t j = TailRuns g call v s i a t j

-- Whatever the present call and the calls above it do from here on is what the whole does.
pub record Continues {S W T L V F G H : Type 0} (g : Made S W T L V F G H) (whole : Call) (s : S
    × W)
    (i : Input T) (call : Call) (left : Option V) (open_ : List (Open V F H)) (t : S × W)
    (j : Input T) : Type 0 where
  pub leads : (b a : Answer (V × Bool)) (u w : S × W) (m n : Input T)
      → PresentRuns g call left t j b u m → Resumed g open_ b u m a w n → TreeRuns g whole s i a w n

-- A right operand begins after its operator: that of a prefix after the turn's beginning.
abbrev pub RightOperandStarts : {V F H : Type 0} → Operator V F H → ℕ → ℕ → Type 0
RightOperandStarts (Prefix fold) began turn = began < turn
RightOperandStarts (Infix left fold) began turn = began ≤ turn

-- Calls begin and take their turns in sequence. The list has the last operator first.
abbrev pub Nested : {V F H : Type 0} → List (Open V F H) → ℕ → Type 0
Nested [] began = Unit {0}
Nested (x ∷ xs) began =
    RightOperandStarts x.operator began x.call.turn × (x.call.turn ≤ x.call.began) × Nested xs
    x.call.began

-- Where a call begins, its turn begins.
abbrev pub StartsCall : {V : Type 0} → Option V → Call → Type 0
StartsCall None call = call.turn ≡ call.began
StartsCall (Some v) call = Unit {0}

-- The invariant of the loop.
abbrev pub Invariant : {S W T L V F G H : Type 0} → Made S W T L V F G H → Call → S × W → Input T
    → Calls V F H → Option V → S × W → Input T → Type 0
Invariant g whole s i calls left t j =
    Continues g whole s i calls.present left (reverse calls.opened) t j
    × Nested (reverse calls.opened) calls.present.began
    × (units_left (steps g).folding.units j ≤ calls.present.began) × StartsCall left calls.present

-- whether one number is above another, as a number
abbrev pub above : ℕ → ℕ → ℕ
above a b = min 1 (a - b)

-- the open operators, less one whose turn has consumed nothing
abbrev pub live : {V F H : Type 0} → ℕ → List (Open V F H) → ℕ
live units [] = 0
live units (x ∷ xs) = length xs + above x.call.turn units

abbrev pub operand_due : {V : Type 0} → Option V → ℕ
operand_due None = 1
operand_due (Some v) = 0

-- what falls with each turn of the loop
abbrev pub rank : {V F H : Type 0} → ℕ → Call → List (Open V F H) → Option V → ℕ
rank units call open_ left =
    16 * units + 4 * live units open_ + 2 * above call.began units + operand_due left
