use Rattle.exported.proofs.JsonWrite.{content_means}
use Rattle.exported.proofs.json.write.strings_read_back.Goals as goal

pub returns : goal.returns
returns c = content_means
