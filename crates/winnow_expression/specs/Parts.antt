-- The expression that four parts and their folds make.
use Rattle.std.specs.Prelude.{ℕ, ℤ, List}
use Rattle.parser_definitions.specs.Does.{Ran}
use Rattle.parser_definitions.specs.Expression.{ExpressionDoes}
use Rattle.parser_definitions.specs.Outcome.{Does}
use Rattle.stream_errors.specs.Form.{Answer, ErrorForm, assert_kind}
use Rattle.streams.specs.Input.{Input}
use Rattle.streams.specs.Kind.{Kind}
use Rattle.streams.specs.Reading.{Reading}
use Rattle.winnow_core.specs.Runs.{Runs}
use Rattle.winnow_expression.specs.Definition.{operators}
use Rattle.winnow_expression.specs.Ending.{Ending}
use Rattle.winnow_expression.specs.Folds.{DoesBinary, DoesUnary}
use Rattle.winnow_expression.specs.Grammar.{Grammar, folding, grammar}
use Rattle.winnow_expression.specs.Places.{FirstRuns, NextRuns}
use Rattle.winnow_expression.specs.declared.combinator.operators.Infix.{Infix}
use Rattle.winnow_expression.specs.declared.combinator.operators.Postfix.{Postfix}
use Rattle.winnow_expression.specs.declared.combinator.operators.Prefix.{Prefix}

-- Operands, prefixes, postfixes and infixes, and the effects of the folds of prefixes, postfixes
-- and infixes. `units` gives the number of units of a list of tokens, and `refusal` is the kind of
-- the error if nothing is consumed.
abbrev pub parts_grammar : {S1 S2 S3 S4 T V F G H : Type 0} → (List T → ℕ) → Kind → Runs S1 T V
    → Runs S2 T (Prefix F) → Runs S3 T (Postfix G) → Runs S4 T (Infix H)
    → (F → Input T → V → Answer V → Input T → Type 0)
    → (G → Input T → V → Answer V → Input T → Type 0)
    → (H → Input T → V → V → Answer V → Input T → Type 0)
    → Grammar (S1 × S2) (S3 × S4) T V F G H
parts_grammar units refusal operand prefix postfix infix_ before behind between =
    grammar (FirstRuns operand prefix) (NextRuns units postfix infix_) behind
    (folding before between units refusal)

-- ... where the parts are called as their definitions say, with errors of a form.
abbrev pub did_grammar : {S1 S2 S3 S4 T L V F G H : Type 0} → Reading T L → ErrorForm → Does S1 T V
    → Does S2 T (Prefix F) → Does S3 T (Postfix G) → Does S4 T (Infix H) → DoesUnary F T V
    → DoesUnary G T V → DoesBinary H T V → Grammar (S1 × S2) (S3 × S4) T V F G H
did_grammar reading form d1 d2 d3 d4 before behind between =
    parts_grammar reading.units (assert_kind form) (Ran reading d1 form) (Ran reading d2 form)
    (Ran reading d3 form) (Ran reading d4 form) (before form) (behind form) (between form)

-- The definition of the expression that they make. Each part leaves a suffix of its input.
abbrev pub PartsDo : {S1 S2 S3 S4 T L V F G H : Type 0} → Reading T L → Does S1 T V
    → Does S2 T (Prefix F) → Does S3 T (Postfix G) → Does S4 T (Infix H) → DoesUnary F T V
    → DoesUnary G T V → DoesBinary H T V → Does ((S1 × S2) × (S3 × S4) × ℤ) T V
PartsDo reading d1 d2 d3 d4 before behind between =
    ExpressionDoes (operators reading.units before behind between) (Ending reading d1)
    (Ending reading d2) (Ending reading d3) (Ending reading d4)
