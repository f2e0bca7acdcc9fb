use Rattle.format_toml_document.proofs.Documents.{document_accepted}
use Rattle.format_toml_document.proofs.laws.the_walk_accepts_documents.Goals as goal

pub returns : goal.returns
returns g c = λ level lines text is. document_accepted level lines text is
