use Rattle.std.specs.Int.{w16}
use Rattle.std.specs.Prelude.{FitsSigned}
use Rattle.std.proofs.Common.{arith}
use Rattle.winnow.specs.Exact.Same.{reads_as}
use Rattle.winnow.specs.Numeral.Signed.{fits_short, same_signed}
use Rattle.example_callers.proofs.numerals.offset.Goals as goal

pub returns : goal.returns
returns c = reads_as
    (same_signed (λ n. n) (FitsSigned w16) (λ z fits. fits_short w16 z (omega arith) fits))
    c.read.ensures.reads
