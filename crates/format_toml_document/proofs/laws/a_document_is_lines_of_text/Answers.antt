use Rattle.format_toml_document.proofs.ErrorResults.{document_faults}
use Rattle.format_toml_document.proofs.laws.a_document_is_lines_of_text.Goals as goal

pub returns : goal.returns
returns g c = λ level bytes tree fault utf8 is told.
    document_faults _ level bytes tree fault utf8 is told
