use Rattle.std.proofs.Common.{◌∙◌}
use Rattle.exported.specs.Csv.{IsDialect}
use Rattle.exported.proofs.Records.{no_dialect, only}
use Rattle.exported.proofs.csv.dialect.dialect_of.Goals as goal

pub returns-in-Ok-clause-only : goal.returns-in-Ok-clause-only
returns-in-Ok-clause-only c =
    let is : IsDialect c.args.given c.in-Ok.dialect = (
      c.in-Some.ensures.0,
      c.in-Ok.ensures.0,
      c.in-Ok.ensures.1,
      c.in-Ok.ensures.2 ∙ c.in-Some.ensures.1,
    ) in
    (is, λ d it. only c.args.given c.in-Ok.dialect d is it)

pub returns-in-Err-clause-only : goal.returns-in-Err-clause-only
returns-in-Err-clause-only c (d, is) = no_dialect _ d is _ c.in-Err.ensures

pub returns-in-None-clause-only : goal.returns-in-None-clause-only
returns-in-None-clause-only c (d, is) = c.in-None.ensures is.0
