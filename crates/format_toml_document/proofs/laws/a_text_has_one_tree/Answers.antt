use Rattle.std.specs.Str.{chars}
use Rattle.format_toml_document.proofs.AlikeLines.{texts_alike}
use Rattle.format_toml_document.proofs.AlikeRuns.{held_alike}
use Rattle.format_toml_document.proofs.laws.a_text_has_one_tree.Goals as goal

pub returns : goal.returns
returns g c = λ level bytes tree other given also (lines, stands, (one, f, held, within))
    (others, has, (two, h, holds, inside)) is at.
    held_alike level tree.slots.items other.slots.items f h
    (texts_alike level lines others (chars bytes) stands has) held holds is at
