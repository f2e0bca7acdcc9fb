use Rattle.std.proofs.Common.{rules}
use Rattle.std.specs.Str.{chars}
use Rattle.format_toml.proofs.LedLemmas.{reads_led, reads_other}
use Rattle.format_toml.proofs.scalars.read_scalar.Goals as goal

pub returns-then-begins_with : goal.returns-then-begins_with
returns-then-begins_with g c =
    reads_led _ _ _ (c.begins_with.ensures.yes (search rules)) c.read_basic_value.ensures

pub returns-then-begins_with-2 : goal.returns-then-begins_with-2
returns-then-begins_with-2 g c =
    reads_other _ _ _ (c.begins_with.ensures.no (search rules))
    (reads_led _ _ _ (c.begins_with-2.ensures.yes (search rules)) c.read_literal_value.ensures)

pub returns-then-begins_with-3 : goal.returns-then-begins_with-3
unfolding chars
returns-then-begins_with-3 g c =
    reads_other _ _ _ (c.begins_with.ensures.no (search rules))
    (reads_other _ _ _ (c.begins_with-2.ensures.no (search rules))
    (reads_led _ _ _ (c.begins_with-3.ensures.yes (search rules)) c.read_boolean.ensures))

pub returns-then-begins_with-4 : goal.returns-then-begins_with-4
unfolding chars
returns-then-begins_with-4 g c =
    reads_other _ _ _ (c.begins_with.ensures.no (search rules))
    (reads_other _ _ _ (c.begins_with-2.ensures.no (search rules))
    (reads_other _ _ _ (c.begins_with-3.ensures.no (search rules))
    (reads_led _ _ _ (c.begins_with-4.ensures.yes (search rules))
    c.read_boolean-then-begins_with-4.ensures)))

pub returns : goal.returns
returns g c =
    reads_other _ _ _ (c.begins_with.ensures.no (search rules))
    (reads_other _ _ _ (c.begins_with-2.ensures.no (search rules))
    (reads_other _ _ _ (c.begins_with-3.ensures.no (search rules))
    (reads_other _ _ _ (c.begins_with-4.ensures.no (search rules)) c.read_plain.ensures)))
