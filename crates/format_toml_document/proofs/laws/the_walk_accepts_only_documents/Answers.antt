use Rattle.format_toml_document.proofs.Whole.{only_documents}
use Rattle.format_toml_document.proofs.laws.the_walk_accepts_only_documents.Goals as goal

pub returns : goal.returns
returns g c = λ level alloc text scalars few is. only_documents alloc level text scalars few is
