use Rattle.winnow.specs.Grammar.{Longest, TokenOf}
use Rattle.winnow.specs.Read.{reads_by}
use Rattle.example_callers.proofs.lexed.signed_numbers.Goals as goal

pub returns-clause-reads : goal.returns-clause-reads
unfolding Longest TokenOf
returns-clause-reads c =
    reads_by c.read.ensures.reads (rw (c.take_while.ensures.occurrences))
