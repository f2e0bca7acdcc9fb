use Rattle.grammars.proofs.PrefixesPartsLemmas.{grammar_prefix}
use Rattle.grammars.proofs.laws.prefixes_of_grammars.Goals as goal

pub returns : goal.returns
returns g c = grammar_prefix
