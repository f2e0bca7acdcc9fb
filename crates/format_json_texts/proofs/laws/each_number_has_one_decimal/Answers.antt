use Rattle.format_json_texts.proofs.EqualDecimals.{equal_self, one_decimal}
use Rattle.format_json_texts.proofs.laws.each_number_has_one_decimal.Goals as goal

pub returns : goal.returns
returns c = λ n negative sign digits others exponent power is has.
    one_decimal n n negative sign digits others exponent power is has (equal_self _ _)
