use Rattle.std.proofs.Common.{rules}
use Rattle.winnow.specs.InfixCases.{Left, Right, Neither}
use Rattle.example_formulas.proofs.sizes.sign_clones_are_equal.Goals as goal

pub returns : goal.returns
returns c (Left p f) (Left q g) is = search rules
returns c (Left p f) (Right q g) is = absurd is
returns c (Left p f) (Neither q g) is = absurd is
returns c (Right p f) (Left q g) is = absurd is
returns c (Right p f) (Right q g) is = search rules
returns c (Right p f) (Neither q g) is = absurd is
returns c (Neither p f) (Left q g) is = absurd is
returns c (Neither p f) (Right q g) is = absurd is
returns c (Neither p f) (Neither q g) is = search rules
