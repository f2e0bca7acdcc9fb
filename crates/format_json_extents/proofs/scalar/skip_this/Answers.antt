use Rattle.std.proofs.lemmas.Bool.Decides.{Decides-eqb}
use Rattle.std.proofs.lemmas.Slice.Eq.{strip_prefix_is}
use Rattle.format_json_extents.proofs.Scalars.{only_leaves, only_none}
use Rattle.format_json_extents.proofs.Scanning.{match_on}
use Rattle.format_json_extents.proofs.scalar.skip_this.Goals as goal

pub returns : goal.returns
returns c =
    match_on _ _ _ _ c.strip_prefix.result only_none (λ rest e. only_leaves e)
    (strip_prefix_is Decides-eqb c.args.bytes.now c.args.word.now c.strip_prefix.result
    c.strip_prefix.ensures.cases)
