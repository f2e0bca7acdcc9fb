use Rattle.std.proofs.Common.{rules}
use Rattle.format_toml.proofs.LedLemmas.{reads_led, reads_other}
use Rattle.format_toml.proofs.escapes.read_escape.Goals as goal

pub returns-then-begins_with : goal.returns-then-begins_with
returns-then-begins_with c =
    reads_led _ _ _ (c.begins_with.ensures.yes (search rules)) c.read_short_code.ensures

pub returns-then-begins_with-2 : goal.returns-then-begins_with-2
returns-then-begins_with-2 c =
    reads_other _ _ _ (c.begins_with.ensures.no (search rules))
    (reads_led _ _ _ (c.begins_with-2.ensures.yes (search rules)) c.read_long_code.ensures)

pub returns : goal.returns
returns c =
    reads_other _ _ _ (c.begins_with.ensures.no (search rules))
    (reads_other _ _ _ (c.begins_with-2.ensures.no (search rules)) c.read_short.ensures)
