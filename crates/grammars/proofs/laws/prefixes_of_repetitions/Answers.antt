use Rattle.grammars.specs.Prefixes.Rows.{NextText}
use Rattle.grammars.proofs.PrefixesRowsLemmas.{any_prefix, each_prefix, each_row, each_some}
use Rattle.grammars.proofs.PrefixesRowsLemmas.{parted_row, some_prefix}
use Rattle.grammars.proofs.laws.prefixes_of_repetitions.Goals as goal

pub returns : goal.returns
returns g c =
    let element = g.A.Format.text in
    let separator = g.S.Format.text in record {
      any = each_prefix element;
      some = some_prefix (each_row element) (each_some element);
      separated = any_prefix (parted_row separator element);
      some_separated =
          some_prefix (parted_row separator element) (each_some (NextText separator element));
    }
