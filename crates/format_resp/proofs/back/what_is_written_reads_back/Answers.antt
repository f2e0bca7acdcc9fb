use Rattle.format_resp.proofs.ReadBack.{written_back}
use Rattle.format_resp.proofs.back.what_is_written_reads_back.Goals as goal

pub returns : goal.returns
returns g c = written_back
