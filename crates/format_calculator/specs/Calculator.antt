-- The calculator's formulas.
use Rattle.std.specs.Prelude.{◌≡◌, ◌≢◌, ◌+◌, ◌-◌, ◌*◌, ◌<◌, ◌≤◌, ℕ, ℤ, pos, neg_ℤ}
use Rattle.std.specs.Prelude.{◌+ℤ◌, ◌-ℤ◌, ◌*ℤ◌}
use Rattle.std.specs.Prelude.{◌^◌, ◌%◌}
use Rattle.std.specs.Prelude.{Bool, true, false, List, [], ◌∷◌, Option, Some, None, ◌⊎◌}
use Rattle.std.specs.Prelude.{nat_eq, nat_le, if◌then◌else◌, FitsSigned, int_div, int_rem}
use Rattle.std.proofs.Common.{suc, zero}
use Rattle.std.specs.Prelude.{Ok, Err}
use Rattle.std.specs.Int.{w64, CanDivide, int_pow}
use Rattle.stream_errors.specs.Form.{Answer}
use Rattle.streams.specs.Kind.{backtrack}
use Rattle.std.specs.Str.{chars}
use Rattle.streams.specs.Stream.{IsBoundary}
use Rattle.streams.specs.Text.{width}
use Rattle.format_calculator.specs.declared.fault.ReadError.{ReadError}
use Rattle.format_calculator.specs.declared.fault.ReadError.TheVariants.{NoMemory, Invalid}
use Rattle.format_calculator.specs.declared.calc.operators.Mark.{Mark}
use Rattle.format_calculator.specs.declared.calc.operators.Mark.TheVariants.{Factorial}
use Rattle.format_calculator.specs.declared.calc.operators.Pair.{Pair}
use Rattle.format_calculator.specs.declared.calc.operators.Pair.TheVariants.{Plus, Minus, Times}
use Rattle.format_calculator.specs.declared.calc.operators.Pair.TheVariants.{Over}
use Rattle.format_calculator.specs.declared.calc.operators.Pair.TheVariants.{Rest, Power, Equals}
use Rattle.format_calculator.specs.declared.calc.operators.Sign.{Sign}
use Rattle.format_calculator.specs.declared.calc.operators.Sign.TheVariants.{Positive, Negative}
use Rattle.winnow_expression.specs.declared.combinator.operators.Infix.{Infix}
use Rattle.winnow_expression.specs.declared.combinator.operators.Infix.TheVariants.{Left, Neither}
use Rattle.winnow_expression.specs.declared.combinator.operators.Infix.TheVariants.{Right}
use Rattle.winnow_expression.specs.declared.combinator.operators.Postfix.{Postfix}
use Rattle.winnow_expression.specs.declared.combinator.operators.Prefix.{Prefix}
use Rattle.winnow_expression_trees.specs.Items.{HasValue, Items, ItemsTree, NoItem}
use Rattle.winnow_expression_trees.specs.Tree.{Tree}
pub mod Laws

-- ---- items

abbrev pub is_digit : ℕ → Bool
is_digit c = if nat_le 48 c then nat_le c 57 else false

-- a space, a tab, a line feed or a carriage return
abbrev pub is_white : ℕ → Bool
is_white c = if nat_eq c 32 then true
    else (if nat_eq c 9 then true else (if nat_eq c 10 then true else nat_eq c 13))

-- the characters after those of a kind that come first
abbrev pub behind : (ℕ → Bool) → List ℕ → List ℕ
behind test [] = []
behind test (c ∷ cs) = if test c then behind test cs else c ∷ cs

-- the number that the digits which come first stand for, after a number already read
abbrev pub number_from : ℕ → List ℕ → ℕ
number_from n [] = n
number_from n (c ∷ cs) = if is_digit c then number_from (10 * n + (c - 48)) cs else n

-- `TakesOne test tokens rest`: `tokens` starts with a character for which `test` is true, followed
-- by `rest`.
abbrev pub TakesOne : (ℕ → Bool) → List ℕ → List ℕ → Type 0
TakesOne test tokens rest = (c : ℕ) × (tokens ≡ c ∷ rest) × (test c ≡ true)

-- No first character is one of a kind.
abbrev pub StopsAt : (ℕ → Bool) → List ℕ → Type 0
StopsAt test [] = Unit {0}
StopsAt test (c ∷ cs) = test c ≡ false

-- A number: one or more digits, and whitespace after them. It fits 64 bits.
abbrev pub NumberItem : Items ℕ ℤ
NumberItem tokens v rest =
    ((more : List ℕ) × TakesOne is_digit tokens more) × (v ≡ pos (number_from 0 tokens))
    × FitsSigned w64 v × (rest ≡ behind is_white (behind is_digit tokens))

-- An operator of one character, and whitespace after it.
abbrev pub CharItem : {O : Type 0} → (ℕ → Option O) → Items ℕ O
CharItem meant tokens o rest =
    (c : ℕ) × (more : List ℕ) × (tokens ≡ c ∷ more) × (meant c ≡ Some o)
    × (rest ≡ behind is_white more)

-- `AnswersItem item tokens result rest`: parsing `item` at `tokens` gives `result` and leaves
-- `rest`.
abbrev pub AnswersItem : {O : Type 0} → Items ℕ O → List ℕ → Option O → List ℕ → Type 0
AnswersItem item tokens None rest = NoItem item tokens × (rest ≡ tokens)
AnswersItem item tokens (Some o) rest = item tokens o rest

-- `+` and `-` before an operand, of power 12
abbrev pub sign_at : ℕ → Option (Prefix Sign)
sign_at c = if nat_eq c 43 then Some (pos 12, Positive)
    else (if nat_eq c 45 then Some (pos 12, Negative) else None)

-- `!` after an operand, of power 13
abbrev pub mark_at : ℕ → Option (Postfix Mark)
mark_at c = if nat_eq c 33 then Some (pos 13, Factorial) else None

-- `=` of power 3, not joined with another; `+ -` of power 5 and `* / %` of power 7, joined from the
-- left; `^` of power 9, joined from the right
abbrev pub pair_at : ℕ → Option (Infix Pair)
pair_at c = if nat_eq c 43 then Some (Left (pos 5) Plus)
    else (if nat_eq c 45 then Some (Left (pos 5) Minus)
    else (if nat_eq c 42 then Some (Left (pos 7) Times)
    else (if nat_eq c 47 then Some (Left (pos 7) Over)
    else (if nat_eq c 37 then Some (Left (pos 7) Rest)
    else (if nat_eq c 94 then Some (Right (pos 9) Power)
    else (if nat_eq c 61 then Some (Neither (pos 3) Equals) else None))))))

-- ---- values

abbrev pub factorial : ℕ → ℕ
factorial zero = 1
factorial (suc n) = factorial n * suc n

abbrev pub sign_value : Sign → ℤ → ℤ → Type 0
sign_value Positive v x = x ≡ v
sign_value Negative v x = FitsSigned w64 (neg_ℤ v) × (x ≡ neg_ℤ v)

-- of numbers that are not negative, where it fits
abbrev pub mark_value : Mark → ℤ → ℤ → Type 0
mark_value Factorial v x =
    (n : ℕ) × (v ≡ pos n) × FitsSigned w64 (pos (factorial n)) × (x ≡ pos (factorial n))

-- The powers of 0, 1 and -1 with an exponent that is not 0.
abbrev pub IsUnitPower : ℤ → ℕ → ℤ → Type 0
IsUnitPower v n x =
    ((v ≡ pos 0) × (x ≡ pos 0))
    ⊎ (((v ≡ pos 1) × (x ≡ pos 1))
    ⊎ ((v ≡ neg_ℤ (pos 1)) × (x ≡ (if nat_eq (n % 2) 0 then pos 1 else neg_ℤ (pos 1)))))

-- A power, of exponents that are not negative, where it fits. Of exponents from 2 ^ 32 on only the
-- powers of 0, 1 and -1 do.
abbrev pub IsPower : ℤ → ℤ → ℤ → Type 0
IsPower v w x =
    (n : ℕ) × (w ≡ pos n)
    × (((n < 2 ^ 32) × FitsSigned w64 (int_pow v n) × (x ≡ int_pow v n))
    ⊎ ((2 ^ 32 ≤ n) × IsUnitPower v n x))

abbrev pub pair_value : Pair → ℤ → ℤ → ℤ → Type 0
pair_value Plus v w x = FitsSigned w64 (v +ℤ w) × (x ≡ v +ℤ w)
pair_value Minus v w x = FitsSigned w64 (v -ℤ w) × (x ≡ v -ℤ w)
pair_value Times v w x = FitsSigned w64 (v *ℤ w) × (x ≡ v *ℤ w)
pair_value Over v w x = CanDivide w64 v w × (x ≡ int_div v w)
pair_value Rest v w x = CanDivide w64 v w × (x ≡ int_rem v w)
pair_value Power v w x = IsPower v w x
pair_value Equals v w x = ((v ≡ w) × (x ≡ pos 1)) ⊎ ((v ≢ w) × (x ≡ pos 0))

-- `GivesOption given result`: `result` holds a given value, or is `None` if no value is given.
abbrev pub GivesOption : (ℤ → Type 0) → Option ℤ → Type 0
GivesOption given None = (x : ℤ) → given x → ⊥
GivesOption given (Some x) = given x

-- The result with this output, or a backtrack for `None`.
abbrev pub IsAnswerOf : Option ℤ → Answer ℤ → Type 0
IsAnswerOf None answer = answer ≡ Err backtrack
IsAnswerOf (Some x) answer = answer ≡ Ok x

-- a digit is taken, whose number is d
abbrev pub IsDigitTaken : List ℕ → ℤ → List ℕ → Type 0
IsDigitTaken tokens d rest =
    (c : ℕ) × (tokens ≡ c ∷ rest) × (is_digit c ≡ true) × (d ≡ pos (c - 48))

-- `StandsFor value n`: `value` holds the number `n`, or is `None` if `n` does not fit.
abbrev pub StandsFor : Option ℤ → ℕ → Type 0
StandsFor None n = 2 ^ 63 ≤ n
StandsFor (Some v) n = (v ≡ pos n) × (n < 2 ^ 63)

-- ---- formulas

-- `HasFormula text v`: `text` is whitespace followed by a formula of the value `v`, which is that
-- of the tree of its items that respects precedence.
abbrev pub HasFormula : List ℕ → ℤ → Type 0
HasFormula text v =
    (tree : Tree ℤ Sign Mark Pair) × (all : Bool)
    × ItemsTree NumberItem (CharItem sign_at) (CharItem mark_at) (CharItem pair_at) (pos 0)
    (behind is_white (chars text)) tree [] all
    × HasValue sign_value mark_value pair_value tree v

-- The value of the formula, which is one.
abbrev pub IsValue : List ℕ → ℤ → Type 0
IsValue text v = HasFormula text v × ((w : ℤ) → HasFormula text w → w ≡ v)

-- `IsFormulaFault text fault`: either `text` is not a formula that has a value, and the offset in
-- bytes is a character boundary of it, or memory allocation failed.
abbrev pub IsFormulaFault : List ℕ → ReadError → Type 0
IsFormulaFault text (Invalid n) =
    ((v : ℤ) → HasFormula text v → ⊥) × IsBoundary width (chars text) n
IsFormulaFault text NoMemory = Unit {0}
