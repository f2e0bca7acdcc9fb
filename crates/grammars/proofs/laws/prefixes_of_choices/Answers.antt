use Rattle.grammars.specs.Prefixes.Parts.{either_prefix}
use Rattle.grammars.proofs.PrefixesPartsLemmas.{optional_prefix}
use Rattle.grammars.proofs.laws.prefixes_of_choices.Goals as goal

pub returns : goal.returns
returns g c = record {
  choice = either_prefix g.A.Format.text g.B.Format.text;
  option = optional_prefix g.A.Format.text;
}
