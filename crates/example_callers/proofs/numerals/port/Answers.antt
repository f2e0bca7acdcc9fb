use Rattle.std.specs.Prelude.{◌^◌}
use Rattle.std.proofs.Common.{arith}
use Rattle.winnow.specs.Exact.Same.{reads_as}
use Rattle.winnow.specs.Numeral.Written.{same_written}
use Rattle.example_callers.proofs.numerals.port.Goals as goal

pub returns : goal.returns
returns c = reads_as (same_written (λ n. n) (2 ^ 16) (omega arith)) c.read.ensures.reads
