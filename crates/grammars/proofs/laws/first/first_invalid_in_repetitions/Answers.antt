use Rattle.grammars.specs.Prefixes.Rows.{NextText}
use Rattle.grammars.proofs.PrefixesFirstLemmas.{any_stops, each_delimits, none_invalid}
use Rattle.grammars.proofs.PrefixesFirstLemmas.{stops_after_one, stops_in_one}
use Rattle.grammars.proofs.PrefixesRowsLemmas.{each_row, each_some, parted_row}
use Rattle.grammars.proofs.laws.first.first_invalid_in_repetitions.Goals as goal

pub returns : goal.returns
returns g c =
    let element = g.A.Format.text in
    let next = NextText g.S.Format.text element in
    let row = each_row element in
    let parted = parted_row g.S.Format.text element in record {
      first = λ by tokens front rest it none.
          stops_in_one row (each_delimits by) it (each_some element) none;
      others = λ by tokens front mid more rest o a it next.
          stops_after_one row (each_delimits by) it o a next;
      any = λ tokens front rest it. any_stops row it;
      none = none_invalid (each_some element);
      separated = λ by tokens front rest it none.
          stops_in_one parted (each_delimits by) it (each_some next) none;
      others_separated = λ by tokens front mid more rest o a it next.
          stops_after_one parted (each_delimits by) it o a next;
      any_separated = λ tokens front rest it. any_stops parted it;
    }
