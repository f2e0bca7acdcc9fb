use Rattle.format_ini.proofs.One.{document_one}
use Rattle.format_ini.proofs.laws.a_text_is_one_document.Goals as goal

pub returns : goal.returns
returns c = document_one c.args.dialect
