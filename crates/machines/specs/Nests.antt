-- Brackets in brackets, with words of a machine between them.
use Rattle.std.specs.Prelude.{◌≡◌, ◌≤◌, ◌<◌, ◌⊎◌, ◌-◌, ◌%◌, ◌/◌, ℕ, zero, suc, List, []}
use Rattle.std.specs.Prelude.{◌∷◌, length, Bool, true, false, Option, Some, None, ◌||◌, ◌==◌}
use Rattle.machines.specs.Grammar.{AreDisjoint, Grammar}
use Rattle.machines.specs.Languages.{Concat, Language, Repeated}
use Rattle.machines.specs.declared.nested.Nest.{Nest}
use Rattle.machines.specs.declared.nested.Pair.{Pair}

-- Brackets of two kinds.
pub record Brackets : Type 0 where
  pub opener : Bool → ℕ
  pub closer : Bool → ℕ

-- The word of one byte.
abbrev pub OneByte : ℕ → Language
OneByte x bytes = bytes ≡ x ∷ []

-- A word of `L`; or, up to `depth` times nested, an opening bracket, items, and the closing bracket
-- of the same kind.
abbrev pub Item : Brackets → Language → ℕ → Language
Item b L zero bytes = L bytes
Item b L (suc depth) bytes = L bytes ⊎ ((k : Bool)
    × Concat (OneByte (b.opener k)) (Concat (Repeated (Item b L depth)) (OneByte (b.closer k)))
    bytes)

-- Items, zero or more, with brackets nested at most `depth` times.
abbrev pub Balanced : Brackets → Language → ℕ → Language
Balanced b L depth = Repeated (Item b L depth)

-- The number of brackets that may still be opened inside of the open ones `ks`.
abbrev pub room : ℕ → List Bool → ℕ
room limit [] = limit
room limit (k ∷ ks) = limit - suc (length ks)

-- `Enclosed b L limit ks K`: a word of `K`, and then the closing brackets of the open ones `ks`,
-- each with items after it.
abbrev pub Enclosed : Brackets → Language → ℕ → List Bool → Language → Language
Enclosed b L limit [] K = K
Enclosed b L limit (k ∷ ks) K = Concat K
    (Concat (OneByte (b.closer k)) (Enclosed b L limit ks (Balanced b L (room limit ks))))

-- The kinds of `depth` open brackets, the innermost first: the low bits of `kinds`.
abbrev pub stack : ℕ → ℕ → List Bool
stack zero kinds = []
stack (suc depth) kinds = (kinds % 2 == 1) ∷ stack depth (kinds / 2)

-- The words that complete a level: after a bracket, or in a word.
abbrev pub LevelResidual : {A : Type 0} → Brackets → Grammar A → ℕ → Option A → Language
LevelResidual b a depth None = Balanced b (a.residual a.start) depth
LevelResidual b a depth (Some s) = Concat (a.residual s) (Balanced b (a.residual a.start) depth)

abbrev pub NestAt : {A : Type 0} → Brackets → Grammar A → ℕ → List Bool → Option A → Language
NestAt b a limit ks inner = Enclosed b (a.residual a.start) limit ks
    (LevelResidual b a (room limit ks) inner)

abbrev pub NestResidual : {A : Type 0} → Brackets → Grammar A → ℕ → Nest A → Language
NestResidual b a limit at = NestAt b a limit (stack at.depth at.kinds) at.inner

abbrev pub is_open : Brackets → ℕ → Bool
is_open b x = (x == b.opener false) || (x == b.opener true)

abbrev pub is_close : Brackets → ℕ → Bool
is_close b x = (x == b.closer false) || (x == b.closer true)

abbrev pub is_bracket : Brackets → ℕ → Bool
is_bracket b x = is_open b x || is_close b x

abbrev pub nested_grammar : {A : Type 0} → Brackets → Grammar A → ℕ → Grammar (Nest A)
nested_grammar b a limit = record {
  start = record { depth = 0; kinds = 0; inner = None };
  residual = NestResidual b a limit;
  firsts = λ x. a.firsts x || is_open b x;
  nexts = λ x. a.nexts x || (a.firsts x || is_open b x);
  nullable = true;
}

-- `AreApart b a`: the next byte decides each choice. No word is empty. Bytes that start words are
-- not brackets, and do not continue words. Bytes that continue words are not brackets. Opening
-- brackets differ from each other and from closing ones.
pub record AreApart {A : Type 0} (b : Brackets) (a : Grammar A) : Type 0 where
  pub filled : a.nullable ≡ false
  pub words : AreDisjoint a.nexts a.firsts
  pub first : AreDisjoint a.firsts (is_bracket b)
  pub next : AreDisjoint a.nexts (is_bracket b)
  pub brackets : AreDisjoint (is_open b) (is_close b)
  pub kinds : (b.opener false == b.opener true) ≡ false

-- a bracket leads from one stack to another, if it may come next
abbrev pub IsTurn : Brackets → ℕ → ℕ → ℕ → ℕ → Option (ℕ × ℕ) → Type 0
IsTurn b limit depth kinds x None = ((j : Bool) → x ≡ b.opener j → limit ≤ depth)
    × ((k : Bool) (ks : List Bool) → stack depth kinds ≡ k ∷ ks → x ≡ b.closer k → ⊥)
IsTurn b limit depth kinds x (Some to) =
    ((j : Bool) × (x ≡ b.opener j) × (depth < limit)
    × (stack to.0 to.1 ≡ j ∷ stack depth kinds))
    ⊎ ((k : Bool) × (x ≡ b.closer k) × (stack depth kinds ≡ k ∷ stack to.0 to.1))

-- The brackets of two pairs. If the second is missing, its brackets are 256, which is not a byte.
abbrev pub opener_of : Pair → Option Pair → Bool → ℕ
opener_of one other false = one.opener
opener_of one None true = 256
opener_of one (Some other) true = other.opener

abbrev pub closer_of : Pair → Option Pair → Bool → ℕ
closer_of one other false = one.closer
closer_of one None true = 256
closer_of one (Some other) true = other.closer

abbrev pub brackets_of : Pair → Option Pair → Brackets
brackets_of one other = record { opener = opener_of one other; closer = closer_of one other }

abbrev pub bit_of : Bool → ℕ
bit_of false = 0
bit_of true = 1

-- the kind of the byte, if it is an opening bracket
abbrev pub IsOpening : Brackets → ℕ → Option Bool → Type 0
IsOpening b x None = (j : Bool) → x ≡ b.opener j → ⊥
IsOpening b x (Some j) = x ≡ b.opener j

-- the stack after a closing bracket, if it may come next
abbrev pub IsClosing : Brackets → ℕ → ℕ → ℕ → Option (ℕ × ℕ) → Type 0
IsClosing b depth kinds x None =
    (k : Bool) (ks : List Bool) → stack depth kinds ≡ k ∷ ks → x ≡ b.closer k → ⊥
IsClosing b depth kinds x (Some to) =
    (k : Bool) × (x ≡ b.closer k) × (stack depth kinds ≡ k ∷ stack to.0 to.1)

-- the bit `kind` below the 63 low bits of `kinds`
abbrev pub IsPushed : ℕ → Bool → ℕ → Type 0
IsPushed kinds kind result = ((result % 2 == 1) ≡ kind)
    × ((result / 2 ≡ kinds) ⊎ ((9223372036854775808 ≤ kinds)
    × (result / 2 ≡ kinds - 9223372036854775808)))
