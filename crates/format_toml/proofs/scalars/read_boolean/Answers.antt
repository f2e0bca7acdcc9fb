use Rattle.std.proofs.Common.{refl}
use Rattle.format_parts.specs.Words.{spelled, spelled_none}
use Rattle.format_toml.specs.Toml.{IsBoolean}
use Rattle.winnow_grammar.specs.Read.{reads_meaning, reads_no_meaning}
use Rattle.format_toml.proofs.scalars.read_boolean.Goals as goal

pub returns-in-Ok : goal.returns-in-Ok
returns-in-Ok g c = reads_meaning IsBoolean
    (spelled c.args.word c.args.is (rw c.literal.ensures at c.in-Ok.ensures.reads)) refl

pub returns-in-Err : goal.returns-in-Err
returns-in-Err g c = reads_no_meaning IsBoolean
    (spelled_none c.args.word c.args.is (rw c.literal.ensures at c.in-Err.ensures.reads))
