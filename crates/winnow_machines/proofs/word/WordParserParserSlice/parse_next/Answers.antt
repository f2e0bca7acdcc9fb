use Rattle.winnow_machines.proofs.WordLemmas.{word_ran}
use Rattle.winnow_machines.specs.Word.{words}
use Rattle.winnow_machines.proofs.word.WordParserParserSlice.parse_next.Goals as goal

pub returns-in-Word-clause-ran : goal.returns-in-Word-clause-ran
returns-in-Word-clause-ran g c =
    word_ran g.I.Stream.reading g.met.I.ByteStream.counts_bytes
    (λ m. words (g.M.Machine.grammar m)) _ _ _ c.in-Word.ensures.found _ _ _ _
    c.scan_input.ensures.same c.next_slice.ensures.cuts
