-- Requirements on the parts and the folds of an expression.
use Rattle.std.specs.Prelude.{◌≡◌, ◌<◌, ℤ, Some, Ok, Err}
use Rattle.streams.specs.Input.{Input}
use Rattle.streams.specs.Kind.{memory}
use Rattle.stream_errors.specs.Form.{Answer}
use Rattle.winnow_core.specs.Decided.{EqualResults}
use Rattle.winnow_core.specs.Runs.{Runs}
use Rattle.winnow_expression.specs.Grammar.{Folding}
use Rattle.winnow_expression.specs.Operators.{neither_power}
use Rattle.winnow_expression.specs.Units.{units_left}
use Rattle.winnow_expression.specs.declared.combinator.operators.Infix.{Infix}
use Rattle.winnow_expression.specs.declared.combinator.operators.Postfix.{Postfix}
use Rattle.winnow_expression.specs.declared.combinator.operators.Prefix.{Prefix}
use Rattle.winnow_expression_trees.specs.Alike.{AlikeInfix}
pub mod Decided
pub mod Laws
pub mod Numbers

-- The result is not out of memory.
abbrev pub NotMemory : {O : Type 0} → Answer O → Type 0
NotMemory (Ok v) = Unit {0}
NotMemory (Err k) = k ≡ memory → ⊥

-- Unless memory runs out, two folds give the same result for equivalent operands, and the first
-- leaves its input unchanged.
pub record FoldAlike {F T V : Type 0} (alike : V → V → Type 0)
    (folds : F → Input T → V → Answer V → Input T → Type 0) (f g : F) : Type 0 where
  pub same : (v w : V) (i j k n : Input T) (a b : Answer V) → alike v w → folds f i v a j
      → folds g k w b n → NotMemory a → NotMemory b → EqualResults alike a b
  pub leaves : (v : V) (i j : Input T) (a : Answer V) → folds f i v a j → NotMemory a → j ≡ i

pub record FoldsAlike {H T V : Type 0} (alike : V → V → Type 0)
    (folds : H → Input T → V → V → Answer V → Input T → Type 0) (f g : H) : Type 0 where
  pub same : (v x w y : V) (i j k n : Input T) (a b : Answer V) → alike v w → alike x y
      → folds f i v x a j → folds g k w y b n → NotMemory a → NotMemory b
      → EqualResults alike a b
  pub leaves : (v x : V) (i j : Input T) (a : Answer V) → folds f i v x a j → NotMemory a → j ≡ i

-- Unless memory runs out, the input determines the result of a part in the state `s`, up to
-- equivalent outputs, and the rest.
abbrev pub Decides : {S T O : Type 0} → (O → O → Type 0) → Runs S T O → S → Type 0
Decides {S} {T} {O} alike run s =
    (i j k : Input T) (a b : Answer O) (t u : S) → run s i a t j → run s i b u k → NotMemory a
    → NotMemory b → EqualResults alike a b × (j ≡ k)

-- Unless memory runs out, a part in the state `s` keeps it and changes only the position. The input
-- determines its result, up to equivalent outputs, and the rest.
pub record IsStateless {S T O : Type 0} (alike : O → O → Type 0) (run : Runs S T O) (s : S)
    : Type 0 where
  pub keeps : (i j : Input T) (a : Answer O) (t : S) → run s i a t j → NotMemory a
      → (t ≡ s) × (j.status ≡ i.status)
  pub decided : (i j k : Input T) (a b : Answer O) (t u : S) → run s i a t j → run s i b u k
      → NotMemory a → NotMemory b → EqualResults alike a b × (j ≡ k)

-- prefixes of one power with equivalent folds
abbrev pub AlikePrefix : {F : Type 0} → (F → F → Type 0) → Prefix F → Prefix F → Type 0
AlikePrefix af p q = (p.0 ≡ q.0) × af p.1 q.1

-- postfixes of one power with equivalent folds
abbrev pub AlikePostfix : {G : Type 0} → (G → G → Type 0) → Postfix G → Postfix G → Type 0
AlikePostfix ag p q = (p.0 ≡ q.0) × ag p.1 q.1

-- Requirements on the parts in their states, and on the folds. The operand, the prefix, the postfix
-- and the infix are functions of the input only, and an operator that is read as a neither consumes
-- input.
pub record Premises {S1 S2 S3 S4 T V F G H : Type 0} (alike : V → V → Type 0)
    (operand : Runs S1 T V) (prefix : Runs S2 T (Prefix F)) (postfix : Runs S3 T (Postfix G))
    (infix_ : Runs S4 T (Infix H)) (behind : G → Input T → V → Answer V → Input T → Type 0)
    (folds : Folding T V F H) (s1 : S1) (s2 : S2) (s3 : S3) (s4 : S4) : Type 0 where
  pub operands : IsStateless alike operand s1
  pub prefixes : IsStateless (AlikePrefix (FoldAlike alike folds.before)) prefix s2
  pub postfixes : IsStateless (AlikePostfix (FoldAlike alike behind)) postfix s3
  pub infixes : IsStateless (AlikeInfix (FoldsAlike alike folds.between)) infix_ s4
  pub neither_moves : (i j : Input T) (o : Infix H) (p : ℤ) (t : S4) → infix_ s4 i (Ok o) t j
      → neither_power o ≡ Some p → units_left folds.units j < units_left folds.units i
