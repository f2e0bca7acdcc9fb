use Rattle.format_toml_document.proofs.AlikeLines.{texts_alike}
use Rattle.format_toml_document.proofs.laws.a_text_is_one_list_of_lines.Goals as goal

pub returns : goal.returns
returns g c = λ level lines other text is has. texts_alike level lines other text is has
