use Rattle.std.proofs.Common.{◌≡◌, ◌∙◌, ℤ, pos, refl, subst}
use Rattle.std.specs.Prelude.{⊤}
use Rattle.streams.specs.Text.{text_input, text_reading}
use Rattle.streams.specs.Kind.{backtrack}
use Rattle.stream_errors.specs.Form.{answer_by, marked_kind, plain}
use Rattle.winnow_expression_trees.specs.Items.{ReadsItems}
use Rattle.winnow_expression_trees.specs.Items.Laws.{items_exact, items_premises}
use Rattle.format_calculator.specs.Calculator.{CharItem, NumberItem, mark_at, mark_value, pair_at}
use Rattle.format_calculator.specs.Calculator.{pair_value, sign_at, sign_value}
use Rattle.format_calculator.proofs.Items.{char_items, number_items}
use Rattle.format_calculator.proofs.Values.{one_mark, one_pair, one_sign}
use Rattle.format_calculator.proofs.calc.formula.Goals as goal

pub returns-clause-reads : goal.returns-clause-reads
returns-clause-reads g c =
    let level : ℤ = c.infix-parser.result.level in
    let states : (⊤ × ⊤) × (⊤ × ⊤) = ((tt, tt), (tt, tt)) in
    let state : (⊤ × ⊤) × (⊤ × ⊤) × ℤ = ((tt, tt), (tt, tt), level) in
    let later : (⊤ × ⊤) × (⊤ × ⊤) × ℤ = ((tt, tt), (tt, tt), c.parse_next.new.self.level) in
    let zero : level ≡ pos 0 = c.infix-parser.ensures.level ∙ c.postfix.ensures.level
    ∙ c.prefix.ensures.level ∙ c.expression.ensures.level in
    subst (λ l. ReadsItems NumberItem (CharItem sign_at) (CharItem mark_at) (CharItem pair_at)
    sign_value mark_value pair_value l (text_input c.args.input.now.now)
    (answer_by (λ e. marked_kind e.is_memory) c.parse_next.result)
    (text_input c.parse_next.new.input.now)) zero
    (items_exact text_reading plain backtrack (λ p n. refl) NumberItem (CharItem sign_at)
    (CharItem mark_at)
    (CharItem pair_at) sign_value mark_value pair_value tt tt tt tt number_items
    (char_items sign_at) (char_items mark_at) (char_items pair_at) level
    (text_input c.args.input.now.now) _ _ states
    (c.expression_is_unambiguous.ensures.exact state
    (items_premises text_reading plain backtrack (λ p n. refl) NumberItem (CharItem sign_at)
    (CharItem mark_at)
    (CharItem pair_at) sign_value mark_value pair_value tt tt tt tt number_items
    (char_items sign_at) (char_items mark_at) (char_items pair_at) one_sign one_mark one_pair)
    _ _ later _ c.parse_next.ensures.ran))
