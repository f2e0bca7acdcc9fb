use Rattle.std.specs.Prelude.{◌≡◌}
use Rattle.std.proofs.Common.{refl}
use Rattle.winnow.specs.Read.{reads_meaning, reads_no_meaning}
use Rattle.examples.specs.declared.nested.Tree as trees
use Rattle.examples.proofs.nested.read_leaf.Goals as goal

pub returns-in-Ok : goal.returns-in-Ok
returns-in-Ok g c = reads_meaning (λ n tree. tree ≡ trees.Leaf n) c.in-Ok.ensures.reads refl

pub returns-in-Err : goal.returns-in-Err
returns-in-Err g c = reads_no_meaning (λ n tree. tree ≡ trees.Leaf n) c.in-Err.ensures.reads
