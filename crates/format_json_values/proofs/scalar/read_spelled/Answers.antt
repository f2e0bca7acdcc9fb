use Rattle.format_parts.specs.Words.{spelled, spelled_none}
use Rattle.format_json_values.proofs.scalar.read_spelled.Goals as goal

pub returns-in-Ok : goal.returns-in-Ok
returns-in-Ok c = spelled c.args.word c.args.is (rw c.literal.ensures at c.in-Ok.ensures.reads)

pub returns-in-Err : goal.returns-in-Err
returns-in-Err c = spelled_none c.args.word c.args.is
    (rw c.literal.ensures at c.in-Err.ensures.reads)
