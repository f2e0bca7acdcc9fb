use Rattle.grammars.specs.Prefixes.Parts.{both_prefix, three_prefix}
use Rattle.grammars.proofs.laws.prefixes_of_sequences.Goals as goal

pub returns : goal.returns
returns g c = record {
  two = λ output front. both_prefix output g.A.Format.text g.B.Format.text front;
  three = λ outer inner front. three_prefix outer inner g.A.Format.text g.B.Format.text
      g.C.Format.text front;
}
