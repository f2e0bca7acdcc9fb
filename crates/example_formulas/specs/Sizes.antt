-- Sizes: what their units and signs compute, and the states of their parsers.
use Rattle.std.specs.Prelude.{◌≡◌, ◌+◌, ◌*◌, ◌^◌, ◌<◌, ℕ, ℤ, pos, ⊤, Bool}
use Rattle.winnow.specs.Alt.{alt_alternatives}
use Rattle.winnow.specs.{AltParser, Value, Infix, Postfix}
use Rattle.winnow.specs.Value.{value_kept, value_parser}
use Rattle.winnow.specs.InfixCases.{Left}
use Rattle.winnow.specs.Input.{Input}
use Rattle.winnow.specs.OneTree.{KeepsOver}
use Rattle.winnow.specs.OperatorGrammar.{Grammar}
use Rattle.winnow.specs.Tree.{Tree}
use Rattle.example_formulas.specs.declared.sizes.Sign.{Sign}
use Rattle.example_formulas.specs.declared.sizes.Sign.TheVariants.{Plus, Times}
use Rattle.example_formulas.specs.declared.sizes.Scale.{Scale}
use Rattle.example_formulas.specs.declared.sizes.Scale.TheVariants.{Kilo, Mega}

-- how many bytes a unit has
abbrev pub bytes_of : Scale → ℕ
bytes_of Kilo = 1024
bytes_of Mega = 1048576

-- `unit_value unit v x`: `x` is the size `v` in `unit`, and fits in 32 bits.
abbrev pub unit_value : Scale → ℕ → ℕ → Type 0
unit_value unit v x = (x ≡ v * bytes_of unit) × (x < 2 ^ 32)

-- `sign_value sign v w x`: `x` is the result of `sign` for `v` and `w`, and fits in 32 bits.
abbrev pub sign_value : Sign → ℕ → ℕ → ℕ → Type 0
sign_value Plus v w x = (x ≡ v + w) × (x < 2 ^ 32)
sign_value Times v w x = (x ≡ v * w) × (x < 2 ^ 32)

-- Two operators that are each one byte: their bytes and their values.
abbrev pub Marks : Type 0 → Type 0
Marks O = (ℕ × O) × (ℕ × O)

abbrev pub marks_of : {I O E : Type 0} → AltParser (Value ℕ I ℕ O E × Value ℕ I ℕ O E) I O E
    → Marks O
marks_of p = (
  (value_parser (alt_alternatives p).0, value_kept (alt_alternatives p).0),
  (value_parser (alt_alternatives p).1, value_kept (alt_alternatives p).1),
)

-- `k` and `m`, of power 5
abbrev pub unit_marks : Marks (Postfix Scale)
unit_marks = ((107, (pos 5, Kilo)), (109, (pos 5, Mega)))

-- `+` of power 1 and `*` of power 3, joined from the left
abbrev pub sign_marks : Marks (Infix Sign)
sign_marks = ((43, Left (pos 1) Plus), (42, Left (pos 3) Times))

-- the states of the operand, of no prefix, of the units and of the signs
abbrev pub SizeStates : Type 0
SizeStates = (⊤ × ⊤) × (Marks (Postfix Scale) × Marks (Infix Sign))

abbrev pub size_states : SizeStates
size_states = ((tt, tt), (unit_marks, sign_marks))

-- At each input and level, at most one tree respects precedence, and it has one end.
abbrev pub HasOneTree : {S W T V F G H : Type 0} → Grammar S W T V F G H → S × W → Type 0
HasOneTree {T = T} {V} {F} {G} {H} g s =
    (level : ℤ) (i : Input T) (r u : Tree V F G H) (m n : Input T) (b c : Bool)
    → KeepsOver g s level i r m b → KeepsOver g s level i u n c → (r ≡ u) × (m ≡ n)
