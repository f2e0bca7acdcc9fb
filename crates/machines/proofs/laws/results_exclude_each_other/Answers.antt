use Rattle.machines.proofs.Results.{one_result}
use Rattle.machines.proofs.laws.results_exclude_each_other.Goals as goal

pub returns : goal.returns
returns g c = λ m bytes one other.
    let it = g.M.Machine.grammar m in one_result (it.residual it.start) bytes one other
