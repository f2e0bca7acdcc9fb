use Rattle.std.proofs.Common.{rules}
use Rattle.format_json_extents.proofs.value.skip_closing.Goals as goal

pub returns-then-keyed : goal.returns-then-keyed
returns-then-keyed c = search rules depth 1

pub returns-else-keyed : goal.returns-else-keyed
returns-else-keyed c = search rules depth 1
