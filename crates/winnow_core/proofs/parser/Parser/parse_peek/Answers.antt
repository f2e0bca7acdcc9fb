use Rattle.std.proofs.Common.{rules}
use Rattle.winnow_core.proofs.parser.Parser.parse_peek.Goals as goal

pub returns-in-Ok-clause-ran : goal.returns-in-Ok-clause-ran
returns-in-Ok-clause-ran g c = search rules depth 1
