use Rattle.std.proofs.Common.{rules}
use Rattle.format_toml.proofs.LedLemmas.{reads_led, reads_other}
use Rattle.format_toml.proofs.lines.read_item.Goals as goal

pub returns-then-begins_with : goal.returns-then-begins_with
returns-then-begins_with g c =
    reads_led _ _ _ (c.begins_with.ensures.yes (search rules)) c.read_table_item.ensures

pub returns : goal.returns
returns g c =
    reads_other _ _ _ (c.begins_with.ensures.no (search rules)) c.read_entry_item.ensures
