-- The parts of an expression, and the steps of a call.
use Rattle.std.specs.Prelude.{◌≡◌, ◌<◌, ℕ, ℤ, ◌≤ℤ◌, ◌<ℤ◌, Some, Ok, Err, ◌⊎◌, Bool, true, false}
use Rattle.std.specs.Prelude.{List}
use Rattle.stream_errors.specs.Form.{Answer}
use Rattle.streams.specs.Input.{Input, back_at}
use Rattle.streams.specs.Kind.{Kind, memory}
use Rattle.winnow_core.specs.Runs.{Runs}
use Rattle.winnow_expression.specs.Units.{units_left}
use Rattle.winnow_expression.specs.Operators.{fold_of, left_power, neither_power, right_power}
use Rattle.winnow_expression.specs.declared.combinator.places.First.{First}
use Rattle.winnow_expression.specs.declared.combinator.places.First.TheVariants.{
  Prefix as prefix_read,
}
use Rattle.winnow_expression.specs.declared.combinator.places.Next.{Next}
use Rattle.winnow_expression.specs.declared.combinator.places.Next.TheVariants.{Nothing, Postfix}
use Rattle.winnow_expression.specs.declared.combinator.places.Next.TheVariants.{Infix as infix_read}
use Rattle.winnow_expression.specs.declared.combinator.operators.Infix.{Infix}
use Rattle.winnow_expression.specs.Calls.{Open}
use Rattle.parser_definitions.specs.Expression.{Call}
use Rattle.winnow_expression.specs.declared.combinator.calls.Operator.{Operator}
use Rattle.winnow_expression.specs.declared.combinator.calls.Operator.TheVariants.{
  Prefix as prefix_open,
}
use Rattle.winnow_expression.specs.declared.combinator.calls.Operator.TheVariants.{
  Infix as infix_open,
}

-- The effects of the folds of prefixes and infixes, the number of units of tokens, and the kind of
-- the error if nothing is consumed.
pub record Folding (T V F H : Type 0) : Type 1 where
  pub before : F → Input T → V → Answer V → Input T → Type 0
  pub between : H → Input T → V → V → Answer V → Input T → Type 0
  pub units : List T → ℕ
  pub refusal : Kind

-- The parts of an expression: parsers of operands and of operators, and the effects of the folds.
pub record Grammar (S W T V F G H : Type 0) : Type 1 where
  pub first : Runs S T (First V F)
  pub next : Runs W T (Next G H)
  pub behind : G → Input T → V → Answer V → Input T → Type 0
  pub folding : Folding T V F H

abbrev pub folding : {T V F H : Type 0} → (F → Input T → V → Answer V → Input T → Type 0)
    → (H → Input T → V → V → Answer V → Input T → Type 0) → (List T → ℕ) → Kind → Folding T V F H
folding before between units refusal = record {
  before = before;
  between = between;
  units = units;
  refusal = refusal;
}

abbrev pub grammar : {S W T V F G H : Type 0} → Runs S T (First V F) → Runs W T (Next G H)
    → (G → Input T → V → Answer V → Input T → Type 0) → Folding T V F H → Grammar S W T V F G H
grammar first next behind folding = record {
  first = first;
  next = next;
  behind = behind;
  folding = folding;
}

-- A prefix is accepted, where a call is at its beginning: its right operand begins, with its power.
abbrev pub Prefixes : {S T V F H : Type 0} → (List T → ℕ) → Runs S T (First V F) → Call → S
    → Input T
    → Open V F H → ℤ → S → Input T → Type 0
Prefixes {F = F} units first call s i x power t j =
    (fold : F) × first s i (Ok (prefix_read power fold)) t j
    × (units_left units j < units_left units i)
    × (x ≡ record { operator = prefix_open fold; call = call })

-- A call ends at its beginning.
abbrev pub CallEnds : {S T V F : Type 0} → (H : Type 0) → (List T → ℕ) → Runs S T (First V F)
    → Kind → Call → S → Input T
    → Kind → S → Input T → Type 0
CallEnds {V = V} {F = F} H units first refusal call s i kind t j =
    -- the operand fails but by backtracking, or then the prefix
    first s i (Err kind) t j
    -- the prefix consumes nothing
    ⊎ (((power : ℤ) × (fold : F) × first s i (Ok (prefix_read power fold)) t j
    × (units_left units j < units_left units i → ⊥) × (kind ≡ refusal))
    -- there is no memory for it
    ⊎ ((x : Open V F H) × (power : ℤ) × Prefixes units first call s i x power t j
    × (kind ≡ memory)))

-- An infix is accepted after a left operand: its right operand begins, with its right power. The
-- call has consumed something, and remembers a neither.
abbrev pub Infixes : {W T V F G H : Type 0} → (List T → ℕ) → Runs W T (Next G H) → Call → V → W
    → Input T
    → Open V F H → ℤ → W → Input T → Type 0
Infixes {H = H} units next call left s i x power t j =
    (infix_ : Infix H) × next s i (Ok (infix_read infix_)) t j
    × (call.least ≤ℤ left_power infix_) × (call.neither ≡ Some (left_power infix_) → ⊥)
    × (units_left units j ≡ call.began → ⊥) × (power ≡ right_power infix_)
    × (x ≡ record {
      operator = infix_open left (fold_of infix_);
      call = record call { turn = units_left units i; neither = neither_power infix_ };
    })

-- A postfix is accepted and folded, and the turn has consumed something.
abbrev pub Postfixes : {W T V G H : Type 0} → (List T → ℕ) → Runs W T (Next G H)
    → (G → Input T → V → Answer V → Input T → Type 0) → Call → V → W
    → Input T → V → W → Input T → Type 0
Postfixes {T = T} {G = G} units next behind call left s i value t j =
    (power : ℤ) × (fold : G) × (m : Input T) × next s i (Ok (Postfix power fold)) t m
    × (call.least ≤ℤ power) × behind fold m left (Ok value) j
    × (units_left units j ≡ units_left units i → ⊥)

-- A call ends after a value: with it, or with a failure. The flag says that every open call ends.
abbrev pub TurnEnds : {W T V G H : Type 0} → (F : Type 0) → (List T → ℕ) → Runs W T (Next G H)
    → (G → Input T → V → Answer V → Input T → Type 0) → Kind → Call → V → W → Input T
    → Answer (V × Bool) → W → Input T → Type 0
TurnEnds {T = T} {V = V} {G = G} {H = H} F units next behind refusal call left s i answer t j =
    -- neither a postfix nor an infix is read
    (next s i (Ok Nothing) t j × (answer ≡ Ok (left, false)))
    -- one of them fails but by backtracking
    ⊎ (((kind : Kind) × next s i (Err kind) t j × (answer ≡ Err kind))
    -- a postfix is below the least power: put back
    ⊎ (((power : ℤ) × (fold : G) × (m : Input T) × next s i (Ok (Postfix power fold)) t m
    × (power <ℤ call.least) × (j ≡ back_at i.left m) × (answer ≡ Ok (left, false)))
    -- its fold fails
    ⊎ (((power : ℤ) × (fold : G) × (m : Input T) × (kind : Kind)
    × next s i (Ok (Postfix power fold)) t m × (call.least ≤ℤ power)
    × behind fold m left (Err kind) j × (answer ≡ Err kind))
    -- it is folded, and the turn has consumed nothing
    ⊎ (((power : ℤ) × (fold : G) × (m : Input T) × (value : V)
    × next s i (Ok (Postfix power fold)) t m × (call.least ≤ℤ power)
    × behind fold m left (Ok value) j × (units_left units j ≡ units_left units i)
    × (answer ≡ Err refusal))
    -- an infix is below the least power: put back
    ⊎ (((infix_ : Infix H) × (m : Input T) × next s i (Ok (infix_read infix_)) t m
    × (left_power infix_ <ℤ call.least) × (j ≡ back_at i.left m) × (answer ≡ Ok (left, false)))
    -- it meets a neither of its power: put back, and every open call ends
    ⊎ (((infix_ : Infix H) × (m : Input T) × next s i (Ok (infix_read infix_)) t m
    × (call.least ≤ℤ left_power infix_) × (call.neither ≡ Some (left_power infix_))
    × (j ≡ back_at i.left m) × (answer ≡ Ok (left, true)))
    -- its right operand would begin where the call began
    ⊎ (((infix_ : Infix H) × next s i (Ok (infix_read infix_)) t j
    × (call.least ≤ℤ left_power infix_) × (call.neither ≡ Some (left_power infix_) → ⊥)
    × (units_left units j ≡ call.began) × (answer ≡ Err refusal))
    -- there is no memory for it
    ⊎ ((x : Open V F H) × (power : ℤ) × Infixes units next call left s i x power t j
    × (answer ≡ Err memory)))))))))

-- An open operator is folded. The turn of an infix has then consumed something.
abbrev pub Closes : {T V F H : Type 0} → Folding T V F H → Operator V F H → ℕ
    → Input T → V → Answer V → Input T → Type 0
Closes g (prefix_open fold) turn i right answer j = g.before fold i right answer j
Closes {V = V} g (infix_open left fold) turn i right answer j =
    ((kind : Kind) × g.between fold i left right (Err kind) j × (answer ≡ Err kind))
    ⊎ (((value : V) × g.between fold i left right (Ok value) j × (units_left g.units j ≡ turn)
    × (answer ≡ Err g.refusal))
    ⊎ ((value : V) × g.between fold i left right (Ok value) j × (units_left g.units j ≡ turn → ⊥)
    × (answer ≡ Ok value)))

-- The call that an open operator interrupts ends, by the result of its right operand.
abbrev pub ResumeEnds : {S W T V F G H : Type 0} → Grammar S W T V F G H → Open V F H
    → Answer (V × Bool) → Input T → Answer (V × Bool) → Input T → Type 0
ResumeEnds {V = V} g x inner i answer j =
    -- the right operand fails
    ((kind : Kind) × (inner ≡ Err kind) × (answer ≡ Err kind) × (j ≡ i))
    -- the fold fails, or the turn has consumed nothing
    ⊎ (((right : V) × (all : Bool) × (kind : Kind) × (inner ≡ Ok (right, all))
    × Closes g.folding x.operator x.call.turn i right (Err kind) j × (answer ≡ Err kind))
    -- every open call ends
    ⊎ ((right : V) × (value : V) × (inner ≡ Ok (right, true))
    × Closes g.folding x.operator x.call.turn i right (Ok value) j × (answer ≡ Ok (value, true))))

-- ... or continues, with the folded value.
abbrev pub ResumeGoes : {S W T V F G H : Type 0} → Grammar S W T V F G H → Open V F H
    → Answer (V × Bool) → Input T → V → Input T → Type 0
ResumeGoes {V = V} g x inner i value j =
    (right : V) × (inner ≡ Ok (right, false))
    × Closes g.folding x.operator x.call.turn i right (Ok value) j
