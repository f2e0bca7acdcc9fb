-- The value of a formula from the result of the parser of its items.
use Rattle.std.specs.Prelude.{◌≡◌, ◌-◌, ℕ, ℤ, pos, Bool, List, [], ◌++◌, Ok, Err}
use Rattle.std.specs.Str.{chars}
use Rattle.std.proofs.Common.{append_assoc, sym, ◌∙◌, ap, subst, arith}
use Rattle.streams.specs.Input.{Input, IsEndOf}
use Rattle.streams.specs.Reading.{units-zero}
use Rattle.streams.specs.Stream.{IsBoundary}
use Rattle.streams.specs.Text.{text_reading, width}
use Rattle.streams.specs.Kind.{Kind}
use Rattle.stream_errors.specs.Form.{Answer}
use Rattle.winnow_expression_trees.specs.Items.{ItemsTree, ReadsItems}
use Rattle.winnow_expression_trees.specs.Premises.{NotMemory}
use Rattle.winnow_expression_trees.specs.Tree.{Tree}
use Rattle.format_calculator.specs.Calculator.{CharItem, HasFormula, IsValue, NumberItem, behind}
use Rattle.format_calculator.specs.Calculator.{is_white, mark_at, mark_value, pair_at, pair_value}
use Rattle.format_calculator.specs.Calculator.{sign_at, sign_value}
use Rattle.format_calculator.specs.declared.calc.operators.Mark.{Mark}
use Rattle.format_calculator.specs.declared.calc.operators.Pair.{Pair}
use Rattle.format_calculator.specs.declared.calc.operators.Sign.{Sign}
use Rattle.format_calculator.specs.Calculator.Laws.{behind_splits}

abbrev Read : Input ℕ → Answer ℤ → Input ℕ → Type 0
Read i answer j = ReadsItems NumberItem (CharItem sign_at) (CharItem mark_at) (CharItem pair_at)
    sign_value mark_value pair_value (pos 0) i answer j

abbrev TreeAt : List ℕ → Tree ℤ Sign Mark Pair → List ℕ → Bool → Type 0
TreeAt tokens tree rest all =
    ItemsTree NumberItem (CharItem sign_at) (CharItem mark_at) (CharItem pair_at) (pos 0) tokens
    tree rest all

same_output : {v w : ℤ} → ◌≡◌ {A = Answer ℤ} (Ok v) (Ok w) → w ≡ v
same_output e = cc

-- where all is read, the output is the value
pub value_ok : (text : List ℕ) (i j : Input ℕ) (v : ℤ) (answer : Answer ℤ) → answer ≡ Ok v
    → i.left.tokens ≡ behind is_white (chars text) → width j.left.tokens ≡ 0 → Read i answer j
    → IsValue text v
value_ok text i j v answer is at none read =
    let end = units-zero text_reading j.left.tokens none in
    let (tree, all, items, value) = read.finds v is in (
      (
        tree,
        all,
        subst (λ z. TreeAt z tree [] all) at
            (subst (λ z. TreeAt i.left.tokens tree z all) end items),
        value,
      ),
      λ w (other, flag, items2, value2).
          let (e, rest) = read.agrees other [] flag w
          (subst (λ z. TreeAt z other [] flag) (sym at) items2) value2
          (subst (λ a. NotMemory a) (sym is) tt) in
          same_output (sym is ∙ e),
    )

-- where it is not, there is none
pub value_none : (text : List ℕ) (i j : Input ℕ) (answer : Answer ℤ) → NotMemory answer
    → ((v : ℤ) → answer ≡ Ok v → width j.left.tokens ≡ 0 → ⊥)
    → i.left.tokens ≡ behind is_white (chars text) → Read i answer j
    → (w : ℤ) → HasFormula text w → ⊥
value_none text i j answer not fails at read w (tree, all, items, value) =
    let (e, rest) = read.agrees tree [] all w (subst (λ z. TreeAt z tree [] all) (sym at) items)
    value not in
    fails w e (ap width rest)

pub left_boundary : (text : List ℕ) (i j : Input ℕ) (n : ℕ)
    → i.left.tokens ≡ behind is_white (chars text) → IsEndOf text_reading j i
    → n ≡ width (chars text) - width j.left.tokens → IsBoundary width (chars text) n
left_boundary text i j n at ends e =
    let (white, split) = behind_splits is_white (chars text) in
    let front : List ℕ = white ++ ends.ends.dropped in
    let rest : List ℕ = j.left.tokens in
    let whole : chars text ≡ front ++ rest =
    split ∙ ap (λ l. white ++ l) (sym at ∙ ends.ends.tokens)
    ∙ sym (append_assoc white ends.ends.dropped rest) in
    (front, rest, whole, omega (arith, e, ap width whole, text_reading.units_add front rest))

pub no_output : {X : Type 0} (k : Kind) (v : ℤ) → ◌≡◌ {A = Answer ℤ} (Err k) (Ok v) → X
no_output k v e = absurd (cc)

pub value_as : (text : List ℕ) (v given : ℤ) → given ≡ v → IsValue text v → IsValue text given
value_as text v given e is = subst (λ z. IsValue text z) (sym e) is
