use Rattle.std.proofs.Common.{refl}
use Rattle.format_toml.specs.Toml.{IsTables}
use Rattle.winnow_grammar.specs.Read.{reads_meaning, reads_no_meaning}
use Rattle.format_toml.proofs.lines.read_double_item.Goals as goal

pub returns-in-Ok : goal.returns-in-Ok
returns-in-Ok g c = reads_meaning IsTables c.in-Ok.ensures refl

pub returns-in-Err : goal.returns-in-Err
returns-in-Err g c = reads_no_meaning IsTables c.in-Err.ensures
