use Rattle.std.proofs.Common.{inl, refl}
use Rattle.std.specs.Str.{chars}
use Rattle.streams.specs.Text.{text_input, text_reading}
use Rattle.winnow_expression_trees.specs.Items.Premises.{item_end}
use Rattle.format_calculator.specs.Calculator.{CharItem, pair_at}
use Rattle.format_calculator.proofs.Items.{char_items}
use Rattle.format_calculator.proofs.calc.parts.BetweenThemParserRefStrInfixPairEmptyError.parse_next.Goals as goal

pub returns-in-Some-clause-ran : goal.returns-in-Some-clause-ran
returns-in-Some-clause-ran c = (
  item_end text_reading (CharItem pair_at) (λ p n. refl) (char_items pair_at)
      (text_input c.args.input.now.now) c.in-Some.item (chars c.read_pair.new.input.now)
      c.in-Some.ensures,
  refl,
  refl,
  inl (c.in-Some.item, chars c.read_pair.new.input.now, c.in-Some.ensures, refl),
)
