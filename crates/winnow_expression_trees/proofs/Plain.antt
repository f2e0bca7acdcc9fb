-- Parts that are functions of the input only.
use Rattle.std.specs.Prelude.{◌≡◌, ◌≤◌, ◌<◌, ℤ, Ok, Err}
use Rattle.std.proofs.Common.{ap, subst, arith, refl}
use Rattle.stream_errors.specs.Form.{Answer}
use Rattle.stream_errors.specs.Form.Inversion.{ok_is_err}
use Rattle.streams.specs.Input.{Input, back_at}
use Rattle.streams.specs.Kind.{Kind, memory}
use Rattle.winnow_core.specs.Decided.{EqualResults}
use Rattle.winnow_expression.specs.Units.{units_left}
use Rattle.winnow_expression.specs.Grammar.{Grammar}
use Rattle.winnow_expression.specs.declared.combinator.places.First.{First}
use Rattle.winnow_expression.specs.declared.combinator.places.First.TheVariants.{Operand}
use Rattle.winnow_expression.specs.declared.combinator.places.First.TheVariants.{
  Prefix as prefix_read,
}
use Rattle.winnow_expression.specs.declared.combinator.places.Next.{Next}
use Rattle.winnow_expression.specs.declared.combinator.places.Next.TheVariants.{Nothing}
use Rattle.winnow_expression_trees.specs.OneTree.Alike.{Decided}
use Rattle.winnow_expression_trees.specs.Alike.{AlikeFirst, AlikeNext}
use Rattle.winnow_expression_trees.proofs.Over.{Moves}
use Rattle.winnow_expression_trees.specs.Premises.{FoldAlike, FoldsAlike}
use Rattle.winnow_expression_trees.specs.Premises.{NotMemory}
use Rattle.winnow_expression_trees.specs.Reading.{OperandStep, OperatorStep}

-- Unless memory runs out, parts in the states `s` keep them and change only the position. The input
-- determines their results, up to equivalent outputs and folds, and the rest. Equivalent folds give
-- equivalent results. A neither consumes input.
pub record Plain {S W T V F G H : Type 0} (g : Grammar S W T V F G H) (alike : V → V → Type 0)
    (af : F → F → Type 0) (ag : G → G → Type 0) (ah : H → H → Type 0) (s : S × W) : Type 0 where
  pub first_keeps : (i j : Input T) (a : Answer (First V F)) (t : S) → g.first s.0 i a t j
      → NotMemory a → t ≡ s.0
  pub first_decided : (i j k : Input T) (a b : Answer (First V F)) (t u : S) → g.first s.0 i a t j
      → g.first s.0 i b u k → NotMemory a → NotMemory b
      → EqualResults (AlikeFirst alike af) a b × (j ≡ k)
  pub next_keeps : (i j : Input T) (a : Answer (Next G H)) (t : W) → g.next s.1 i a t j
      → NotMemory a → t ≡ s.1
  pub next_decided : (i j k : Input T) (a b : Answer (Next G H)) (t u : W) → g.next s.1 i a t j
      → g.next s.1 i b u k → NotMemory a → NotMemory b
      → EqualResults (AlikeNext ag ah) a b × (j ≡ k)
  pub nothing : (i j : Input T) → OperatorStep g s i Nothing j → j ≡ i
  pub back : (i j : Input T) (x : Next G H) → OperatorStep g s i x j → back_at i.left j ≡ i
  pub prefix_falls : (i j : Input T) (p : ℤ) (f : F) → g.first s.0 i (Ok (prefix_read p f)) s.0 j
      → units_left g.folding.units j ≤ units_left g.folding.units i
  pub moves : Moves (units_left g.folding.units) (OperandStep g s) (OperatorStep g s)
  pub befores : (f h : F) → af f h → FoldAlike alike g.folding.before f h
  pub behinds : (f h : G) → ag f h → FoldAlike alike g.behind f h
  pub betweens : (f h : H) → ah f h → FoldsAlike alike g.folding.between f h

pub not_memory : {O : Type 0} (a : Answer O) → NotMemory a → a ≡ Err memory → ⊥
not_memory (Ok v) other e = ok_is_err refl e
not_memory (Err k) other e = other (cc)

pub first_run : {S W T V F G H : Type 0} (g : Grammar S W T V F G H) (s : S × W) (i j : Input T)
    (x : First V F) → OperandStep g s i x j → g.first s.0 i (Ok x) s.0 j
first_run g s i j (Operand v) r = r
first_run g s i j (prefix_read p f) r = r.0

module _ {S W T V F G H : Type 0} {g : Grammar S W T V F G H} {alike : V → V → Type 0}
    {af : F → F → Type 0} {ag : G → G → Type 0} {ah : H → H → Type 0} {s : S × W}
    (pr : Plain g alike af ag ah s) where
  pub decided : Decided alike af ag ah (OperandStep g s) (OperatorStep g s)
  decided = record {
    firsts = λ i j k x y a b. pr.first_decided i j k (Ok x) (Ok y) s.0 s.0
        (first_run g s i j x a) (first_run g s i k y b) tt tt;
    nexts = λ i j k x y a b. pr.next_decided i j k (Ok x) (Ok y) s.1 s.1 a b tt tt;
  }

  pub operand_step_of_run : (z t : S) (i j : Input T) (x : First V F) → z ≡ s.0
      → g.first z i (Ok x) t j
      → (t ≡ s.0) × g.first s.0 i (Ok x) s.0 j
  operand_step_of_run z t i j x e run =
      let r = subst (λ y. g.first y i (Ok x) t j) e run in
      let k = pr.first_keeps i j (Ok x) t r tt in (k, subst (λ y. g.first s.0 i (Ok x) y j) k r)

  pub operator_step_of_run : (z t : W) (i j : Input T) (x : Next G H) → z ≡ s.1
      → g.next z i (Ok x) t j
      → (t ≡ s.1) × OperatorStep g s i x j
  operator_step_of_run z t i j x e run =
      let r = subst (λ y. g.next y i (Ok x) t j) e run in
      let k = pr.next_keeps i j (Ok x) t r tt in (k, subst (λ y. g.next s.1 i (Ok x) y j) k r)

  -- where a part fails, nothing is read
  pub failed_has_no_operand_step : (t : S) (i j k : Input T) (a : Kind) (x : First V F)
      → g.first s.0 i (Err a) t j
      → (a ≡ memory → ⊥) → OperandStep g s i x k → ⊥
  failed_has_no_operand_step t i j k a x run other step =
      (pr.first_decided i j k (Err a) (Ok x) t s.0 run (first_run g s i k x step) other tt).0

  pub failed_has_no_operator_step : (t : W) (i j k : Input T) (a : Kind) (x : Next G H)
      → g.next s.1 i (Err a) t j
      → (a ≡ memory → ⊥) → OperatorStep g s i x k → ⊥
  failed_has_no_operator_step t i j k a x run other step =
      (pr.next_decided i j k (Err a) (Ok x) t s.1 run step other tt).0

  -- a prefix that consumes nothing leaves as many units
  pub still_prefix : (i j : Input T) (p : ℤ) (f : F)
      → g.first s.0 i (Ok (prefix_read p f)) s.0 j
      → (units_left g.folding.units j < units_left g.folding.units i → ⊥)
      → units_left g.folding.units j ≡ units_left g.folding.units i
  still_prefix i j p f run still = omega (arith, pr.prefix_falls i j p f run, still)

  -- nor where a prefix consumes nothing
  pub no_prefix : (i j k : Input T) (p : ℤ) (f : F) (x : First V F)
      → g.first s.0 i (Ok (prefix_read p f)) s.0 j
      → units_left g.folding.units j ≡ units_left g.folding.units i → OperandStep g s i x k → ⊥
  no_prefix i j k p f x run still step =
      moved x (pr.first_decided i j k (Ok (prefix_read p f)) (Ok x) s.0 s.0 run
      (first_run g s i k x step) tt tt) step
    where
      moved : (x : First V F) → AlikeFirst alike af (prefix_read p f) x × (j ≡ k)
          → OperandStep g s i x k → ⊥
      moved (Operand v) (same, place) step = absurd same
      moved (prefix_read q h) (same, place) (read, less) =
          absurd (omega (arith, less, still, ap (units_left g.folding.units) place))
