-- Parsing where operands and operators are expected, by four parsers.
use Rattle.std.specs.Prelude.{◌≡◌, ◌<◌, ◌⊎◌, Ok, Err, List, ℕ}
use Rattle.streams.specs.Input.{Input, back_at}
use Rattle.streams.specs.Kind.{Kind, backtrack}
use Rattle.winnow_core.specs.Runs.{Runs}
use Rattle.winnow_expression.specs.Units.{units_left}
use Rattle.winnow_expression.specs.declared.combinator.operators.Prefix.{Prefix}
use Rattle.winnow_expression.specs.declared.combinator.operators.Postfix.{Postfix}
use Rattle.winnow_expression.specs.declared.combinator.operators.Infix.{Infix}
use Rattle.winnow_expression.specs.declared.combinator.places.First.{First}
use Rattle.winnow_expression.specs.declared.combinator.places.First.TheVariants.{Operand}
use Rattle.winnow_expression.specs.declared.combinator.places.First.TheVariants.{
  Prefix as prefix_read,
}
use Rattle.winnow_expression.specs.declared.combinator.places.Next.{Next}
use Rattle.winnow_expression.specs.declared.combinator.places.Next.TheVariants.{Nothing}
use Rattle.winnow_expression.specs.declared.combinator.places.Next.TheVariants.{
  Postfix as postfix_read,
}
use Rattle.winnow_expression.specs.declared.combinator.places.Next.TheVariants.{Infix as infix_read}

-- An operand, and where that backtracks, back at its beginning, a prefix.
abbrev pub FirstRuns : {S W T V F : Type 0} → Runs S T V → Runs W T (Prefix F)
    → Runs (S × W) T (First V F)
FirstRuns {S} {W} {T} {V} {F} operand prefix s i answer t j =
    ((v : V) × operand s.0 i (Ok v) t.0 j × (t.1 ≡ s.1) × (answer ≡ Ok (Operand v)))
    ⊎ (((kind : Kind) × operand s.0 i (Err kind) t.0 j × (kind ≡ backtrack → ⊥) × (t.1 ≡ s.1)
    × (answer ≡ Err kind))
    ⊎ (((m : Input T) × (p : Prefix F) × operand s.0 i (Err backtrack) t.0 m
    × prefix s.1 (back_at i.left m) (Ok p) t.1 j × (answer ≡ Ok (prefix_read p.0 p.1)))
    ⊎ ((m : Input T) × (kind : Kind) × operand s.0 i (Err backtrack) t.0 m
    × prefix s.1 (back_at i.left m) (Err kind) t.1 j × (answer ≡ Err kind))))

-- A postfix, or, if that backtracks, an infix from the same offset. No operator if both backtrack.
abbrev pub SomeRuns : {S W T G H : Type 0} → Runs S T (Postfix G) → Runs W T (Infix H)
    → Runs (S × W) T (Next G H)
SomeRuns {S} {W} {T} {G} {H} postfix infix_ s i answer t j =
    ((p : Postfix G) × postfix s.0 i (Ok p) t.0 j × (t.1 ≡ s.1)
    × (answer ≡ Ok (postfix_read p.0 p.1)))
    ⊎ (((kind : Kind) × postfix s.0 i (Err kind) t.0 j × (kind ≡ backtrack → ⊥) × (t.1 ≡ s.1)
    × (answer ≡ Err kind))
    ⊎ ((m : Input T) × postfix s.0 i (Err backtrack) t.0 m
    × (((o : Infix H) × infix_ s.1 (back_at i.left m) (Ok o) t.1 j × (answer ≡ Ok (infix_read o)))
    ⊎ (((kind : Kind) × infix_ s.1 (back_at i.left m) (Err kind) t.1 j × (kind ≡ backtrack → ⊥)
    × (answer ≡ Err kind))
    ⊎ ((n : Input T) × infix_ s.1 (back_at i.left m) (Err backtrack) t.1 n
    × (j ≡ back_at i.left n) × (answer ≡ Ok Nothing))))))

-- No operator if no unit remains.
abbrev pub NextRuns : {S W T G H : Type 0} → (List T → ℕ) → Runs S T (Postfix G)
    → Runs W T (Infix H) → Runs (S × W) T (Next G H)
NextRuns units postfix infix_ s i answer t j =
    ((units_left units i ≡ 0) × (answer ≡ Ok Nothing) × (t ≡ s) × (j ≡ i))
    ⊎ ((0 < units_left units i) × SomeRuns postfix infix_ s i answer t j)
