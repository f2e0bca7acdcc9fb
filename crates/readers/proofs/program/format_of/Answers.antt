use Rattle.readers.specs.declared.program.Format.TheVariants.{Pair}
use Rattle.readers.proofs.Owed.{asks_for_one}
use Rattle.readers.proofs.program.format_of.Goals as goal

pub returns-then-is_word : goal.returns-then-is_word
returns-then-is_word c = asks_for_one c.args.words.now Pair (c.is_word.ensures.0 c.if-is_word.true)
