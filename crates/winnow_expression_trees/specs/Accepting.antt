-- Calls in which no fold fails.
use Rattle.std.specs.Prelude.{◌≡◌, ◌⊎◌, ⊤, ℤ, Err, IsOk}
use Rattle.parser_definitions.specs.Outcome.{Does, Outcome, asks, backs, cuts, took, wants}
use Rattle.parser_definitions.specs.Places.{FirstDoes, NextDoes}
use Rattle.stream_errors.specs.Form.{Answer}
use Rattle.streams.specs.Input.{Input}
use Rattle.streams.specs.Kind.{Kind}
use Rattle.streams.specs.Reading.{Reading}
use Rattle.winnow_expression.specs.Definition.{LeveledDo, operators}
use Rattle.winnow_expression.specs.Ending.{Ending}
use Rattle.winnow_expression.specs.Folds.{DoesBinary, DoesUnary}
use Rattle.winnow_expression.specs.Grammar.{Grammar}
use Rattle.winnow_expression.specs.Parts.{PartsDo}
use Rattle.winnow_expression.specs.declared.combinator.operators.Infix.{Infix}
use Rattle.winnow_expression.specs.declared.combinator.operators.Postfix.{Postfix}
use Rattle.winnow_expression.specs.declared.combinator.operators.Prefix.{Prefix}

-- the results of folds, restricted to outputs
abbrev pub accepted : {F T V : Type 0} → DoesUnary F T V → DoesUnary F T V
accepted folds form f i v a j = folds form f i v a j × IsOk a

abbrev pub both_accepted : {F T V : Type 0} → DoesBinary F T V → DoesBinary F T V
both_accepted folds form f i v w a j = folds form f i v w a j × IsOk a

-- The definition of the expression of the same parts with these folds. A call of it is one in which
-- no fold fails. If it fails, a part has failed, or an assert rule, or memory allocation.
abbrev pub AcceptingDo : {S1 S2 S3 S4 T L V F G H : Type 0} → Reading T L → Does S1 T V
    → Does S2 T (Prefix F) → Does S3 T (Postfix G) → Does S4 T (Infix H) → DoesUnary F T V
    → DoesUnary G T V → DoesBinary H T V → Does ((S1 × S2) × (S3 × S4) × ℤ) T V
AcceptingDo reading d1 d2 d3 d4 before behind between =
    PartsDo reading d1 d2 d3 d4 (accepted before) (accepted behind) (both_accepted between)

-- a definition restricted to its outputs
abbrev pub IsTook : {L O : Type 0} → Outcome L O → Type 0
IsTook (took o l) = ⊤
IsTook (backs l) = ⊥
IsTook (cuts l) = ⊥
IsTook (asks need l) = ⊥
IsTook wants = ⊥

abbrev pub Sure : {S T O : Type 0} → Does S T O → Does S T O
Sure does at s w y = does at s w y × IsTook y

-- The outcomes of parts are restricted to outputs too: neither a part nor a fold fails. A call of
-- these that fails ends by an assert rule, or with out of memory.
abbrev pub AssertingDo : {S1 S2 S3 S4 T L V F G H : Type 0} → Reading T L → Does S1 T V
    → Does S2 T (Prefix F) → Does S3 T (Postfix G) → Does S4 T (Infix H) → DoesUnary F T V
    → DoesUnary G T V → DoesBinary H T V → Does ((S1 × S2) × (S3 × S4) × ℤ) T V
AssertingDo reading d1 d2 d3 d4 before behind between =
    LeveledDo
    (operators reading.units (accepted before) (accepted behind) (both_accepted between))
    (Sure (FirstDoes (Ending reading d1) (Ending reading d2)))
    (Sure (NextDoes reading.units (Ending reading d3) (Ending reading d4)))

-- A fold fails with this kind, and leaves `j`.
abbrev pub FoldFails : {S W T V F G H : Type 0} → Grammar S W T V F G H → Kind → Input T → Type 0
FoldFails {T = T} {V = V} {F = F} {G = G} {H = H} g kind j =
    ((f : F) × (i : Input T) × (v : V) × g.folding.before f i v (Err kind) j)
    ⊎ (((f : G) × (i : Input T) × (v : V) × g.behind f i v (Err kind) j)
    ⊎ ((f : H) × (i : Input T) × (v : V) × (w : V) × g.folding.between f i v w (Err kind) j))

-- The result is that of a fold that fails, and leaves `j`.
abbrev pub FoldAnswers : {S W T V F G H O : Type 0} → Grammar S W T V F G H → Answer O → Input T
    → Type 0
FoldAnswers g answer j = (kind : Kind) × (answer ≡ Err kind) × FoldFails g kind j
