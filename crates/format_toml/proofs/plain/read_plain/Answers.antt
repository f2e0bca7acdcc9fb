use Rattle.format_toml.specs.Grammars.{IsPlain}
use Rattle.winnow_grammar.specs.Read.{reads_no_meaning}
use Rattle.format_toml.proofs.PlainLemmas.{plain_reads}
use Rattle.format_toml.proofs.plain.read_plain.Goals as goal

pub returns-in-Ok : goal.returns-in-Ok
returns-in-Ok g c =
    plain_reads c.plain_value.result c.in-Ok.ensures
    (rw c.as_bytes.ensures.value at c.plain_value.ensures)

pub returns-in-Err : goal.returns-in-Err
returns-in-Err g c = reads_no_meaning IsPlain c.in-Err.ensures
