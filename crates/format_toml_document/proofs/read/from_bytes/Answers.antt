use Rattle.format_toml_document.specs.contracts.read.from_bytes.{A-type}
use Rattle.format_toml_document.proofs.ErrorResults.{document_told}
use Rattle.format_toml_document.proofs.read.from_bytes.Goals as goal

pub returns-in-Ok-clause-tree : goal.returns-in-Ok-clause-tree
returns-in-Ok-clause-tree g c =
    document_told (A-type g.row.A) c.args.level c.in-Ok.text.now c.args.bytes.now
    c.from_text.result c.in-Ok.ensures.cases.1 c.in-Ok.ensures.cases.0 c.from_text.ensures.tree

pub returns-in-Ok-clause-broken : goal.returns-in-Ok-clause-broken
returns-in-Ok-clause-broken g c none = absurd (none c.in-Ok.ensures.cases.1)
