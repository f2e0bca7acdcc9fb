-- The operators of an expression, as its definition has them.
use Rattle.std.specs.Prelude.{◌≡◌, ◌⊎◌, ℕ, ℤ, List, Option, Some, None}
use Rattle.std.proofs.Common.{inl, inr}
use Rattle.streams.specs.Input.{Input}
use Rattle.stream_errors.specs.Form.{Answer}
use Rattle.parser_definitions.specs.Expression as tree
use Rattle.parser_definitions.specs.Left.{Left, left_of}
use Rattle.parser_definitions.specs.Outcome.{Does, Outcome, Setting, asks, backs, cuts, outcome_of}
use Rattle.parser_definitions.specs.Outcome.{took, wants}
use Rattle.parser_definitions.specs.Then.Steps.{In}
use Rattle.winnow_core.specs.Settings.{At}
use Rattle.winnow_expression.specs.Folds.{DoesBinary, DoesUnary}
use Rattle.winnow_expression.specs.Operators.{fold_of, left_power, neither_power, right_power}
use Rattle.winnow_expression.specs.declared.combinator.operators.Infix.{Infix}
use Rattle.winnow_expression.specs.declared.combinator.operators.Postfix.{Postfix}
use Rattle.winnow_expression.specs.declared.combinator.operators.Prefix.{Prefix}
use Rattle.winnow_expression.specs.declared.combinator.places.First.{First}
use Rattle.winnow_expression.specs.declared.combinator.places.First.TheVariants.{Operand}
use Rattle.winnow_expression.specs.declared.combinator.places.First.TheVariants.{
  Prefix as prefix_read,
}
use Rattle.winnow_expression.specs.declared.combinator.places.Next.{Next}
use Rattle.winnow_expression.specs.declared.combinator.places.Next.TheVariants.{Nothing}
use Rattle.winnow_expression.specs.declared.combinator.places.Next.TheVariants.{
  Postfix as postfix_read,
}
use Rattle.winnow_expression.specs.declared.combinator.places.Next.TheVariants.{Infix as infix_read}

-- ---- folds

-- The outcome of a fold where this remains: that of a call on such an input.
abbrev pub Folded : {T V : Type 0} → Setting → Left T → (Input T → Answer V → Input T → Type 0)
    → Outcome (Left T) V → Type 0
Folded {T} {V} at m runs y =
    (i : Input T) × (a : Answer V) × (j : Input T) × At at i × (left_of i ≡ m) × runs i a j
    × (y ≡ outcome_of a (left_of j))

-- The operators of parsers with these folds. `units` gives the number of units of tokens.
abbrev pub operators : {T V F G H : Type 0} → (List T → ℕ) → DoesUnary F T V → DoesUnary G T V
    → DoesBinary H T V → tree.Operators T V (Prefix F) (Postfix G) (Infix H)
operators units before behind between = record {
  prefix_power = λ p. p.0;
  postfix_power = λ p. p.0;
  left_power = λ o. left_power o;
  right_power = λ o. right_power o;
  neither_power = λ o. neither_power o;
  before = λ at p m v y. Folded at m (λ i a j. before at.form p.1 i v a j) y;
  behind = λ at p m v y. Folded at m (λ i a j. behind at.form p.1 i v a j) y;
  between = λ at o m v r y. Folded at m (λ i a j. between at.form (fold_of o) i v r a j) y;
  units = units;
}

-- ---- what is read

-- an operand, or a prefix
abbrev pub first_side : {V F : Type 0} → First V F → V ⊎ Prefix F
first_side (Operand v) = inl v
first_side (prefix_read p f) = inr (p, f)

-- nothing, a postfix, or an infix
abbrev pub next_side : {G H : Type 0} → Next G H → Option (Postfix G ⊎ Infix H)
next_side Nothing = None
next_side (postfix_read p f) = Some (inl (p, f))
next_side (infix_read o) = Some (inr o)

-- the same outcome with another output
abbrev pub made_as : {L O U : Type 0} → (O → U) → Outcome L O → Outcome L U
made_as to (took o l) = took (to o) l
made_as to (backs l) = backs l
made_as to (cuts l) = cuts l
made_as to (asks need l) = asks need l
made_as to wants = wants

-- The definition of a parser whose outputs, written in another way, are those of `does`.
abbrev pub OutputAs : {S T O U : Type 0} → (O → U) → Does S T U → Does S T O
OutputAs to does at s w y = does at s w (made_as to y)

-- An expression of two parts; its level is a part of the state.
abbrev pub LeveledDo : {S W T V X Y Z : Type 0} → tree.Operators T V X Y Z → Does S T (V ⊎ X)
    → Does W T (Option (Y ⊎ Z)) → Does (S × W × ℤ) T V
LeveledDo g one two at q w y =
    tree.TreesDo g (In (λ q. q.0) (λ q u. (u, q.1, q.2)) one)
    (In (λ q. q.1) (λ q u. (q.0, u, q.2)) two) q.2 at q w y
