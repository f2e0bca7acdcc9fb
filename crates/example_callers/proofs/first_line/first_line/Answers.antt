use Rattle.winnow.specs.Counted.{counted_reading}
use Rattle.winnow.specs.Crlf.Inversion.{bytes_spell}
use Rattle.winnow.specs.Exact.Same.{reads_as}
use Rattle.winnow.specs.Grammar.Alike.{both_same}
use Rattle.winnow.specs.LineEnding.Grammar.{same_end, same_line}
use Rattle.winnow.specs.TillLineEnding.Inversion.{bytes_seek}
use Rattle.example_callers.proofs.first_line.first_line.Goals as goal

pub returns : goal.returns
returns c = reads_as (both_same (λ line end. line)
    (same_line counted_reading _ bytes_spell _ bytes_seek)
    (same_end counted_reading _ bytes_spell)) c.read.ensures.reads
