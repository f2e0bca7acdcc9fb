use Rattle.format_csv.specs.Csv.{IsRecord}
use Rattle.format_csv.proofs.dialects.a_record_is_one_of_commas.Goals as goal

pub returns : goal.returns
unfolding IsRecord
returns g c = λ bytes fields rest. (λ it. it, λ it. it)
