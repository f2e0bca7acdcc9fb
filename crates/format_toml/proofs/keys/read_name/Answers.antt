use Rattle.std.proofs.Common.{rules}
use Rattle.format_toml.proofs.LedLemmas.{reads_led, reads_other}
use Rattle.format_toml.proofs.keys.read_name.Goals as goal

pub returns-then-begins_with : goal.returns-then-begins_with
returns-then-begins_with g c =
    reads_led _ _ _ (c.begins_with.ensures.yes (search rules)) c.read_basic.ensures

pub returns-then-begins_with-2 : goal.returns-then-begins_with-2
returns-then-begins_with-2 g c =
    reads_other _ _ _ (c.begins_with.ensures.no (search rules))
    (reads_led _ _ _ (c.begins_with-2.ensures.yes (search rules)) c.read_literal.ensures)

pub returns : goal.returns
returns g c =
    reads_other _ _ _ (c.begins_with.ensures.no (search rules))
    (reads_other _ _ _ (c.begins_with-2.ensures.no (search rules)) c.read_bare.ensures)
