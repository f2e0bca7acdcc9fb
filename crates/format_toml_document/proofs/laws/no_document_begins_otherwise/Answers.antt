use Rattle.format_toml_document.proofs.Documents.{none_begins}
use Rattle.format_toml_document.proofs.laws.no_document_begins_otherwise.Goals as goal

pub returns : goal.returns
returns g c = λ level front more not lines is.
    none_begins level front more not lines is
