use Rattle.format_json_writer.proofs.Back.{written_alike}
use Rattle.format_json_writer.proofs.laws.what_is_written_reads_back_alike.Goals as goal

pub returns : goal.returns
returns g c = written_alike
