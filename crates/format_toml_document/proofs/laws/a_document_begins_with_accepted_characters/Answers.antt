use Rattle.format_toml_document.proofs.ErrorResults.{one_told}
use Rattle.format_toml_document.proofs.laws.a_document_begins_with_accepted_characters.Goals as goal

pub returns : goal.returns
returns g c = λ level alloc front scalars few may.
    one_told alloc level front scalars few (c.each_prefix_is_completable.ensures level front may)
