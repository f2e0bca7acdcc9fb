use Rattle.std.proofs.Common.{inl, refl, rules}
use Rattle.std.specs.Str.{chars}
use Rattle.streams.specs.Text.{text_input, text_reading}
use Rattle.winnow_expression_trees.specs.Items.Premises.{item_end}
use Rattle.format_calculator.specs.Calculator.{NumberItem}
use Rattle.format_calculator.proofs.Items.{number_items}
use Rattle.format_calculator.proofs.calc.parts.NumberParserRefStrI64EmptyError.parse_next.Goals as goal

pub returns-in-Some-clause-ran : goal.returns-in-Some-clause-ran
returns-in-Some-clause-ran c = (
  item_end text_reading NumberItem (λ p n. refl) number_items
      (text_input c.args.input.now.now) c.in-Some.item (chars c.read_number.new.input.now)
      c.in-Some.ensures,
  refl,
  refl,
  inl (c.in-Some.item, chars c.read_number.new.input.now, c.in-Some.ensures, search rules depth 1),
)
