use Rattle.std.proofs.Common.{List, arith, drop, subst, ℕ}
use Rattle.format_ini.specs.Lines.{IsInvalidFor, Step, said_of}
use Rattle.format_ini.specs.Places.{SaidAt}
use Rattle.format_ini.proofs.places.read_at.Goals as goal

pub returns-in-Err : goal.returns-in-Err
returns-in-Err c =
    let (first, more, within, fits) = c.in-Some.ensures in (
      omega (arith, more, within),
      (c.in-Some.line.now, drop c.in-Some.offset c.args.bytes.now, first, c.in-Err.ensures.cases.0),
    )

pub returns-in-Err-read_line : goal.returns-in-Err-read_line
returns-in-Err-read_line c =
    let (first, more, within, fits) = c.in-Some.ensures in
    let P : List ℕ → Type 0 = λ l. IsInvalidFor c.args.dialect c.args.reading.state l
    c.in-Err-read_line.why in (
      omega (arith, more, within),
      (
        c.in-Some.line.now,
        drop c.in-Some.offset c.args.bytes.now,
        first,
        subst P c.in-Ok.ensures.cases.0 c.in-Err-read_line.ensures.said,
      ),
    )

pub returns-in-Ok-read_line : goal.returns-in-Ok-read_line
returns-in-Ok-read_line c =
    let (first, more, within, fits) = c.in-Some.ensures in
    let it = c.in-Ok-read_line.line in
    let P : List ℕ → Type 0 = λ l. Step c.args.dialect c.args.reading.state l (said_of it.entry)
    it.next in
    let Q : List ℕ → Type 0 = λ l. SaidAt c.args.dialect c.args.reading.offset l it.entry it.at in (
      c.in-Some.line.now,
      first,
      c.in-Ok.ensures.cases.1,
      subst P c.in-Ok.ensures.cases.0 c.in-Ok-read_line.ensures.said,
      subst Q c.in-Ok.ensures.cases.0 c.in-Ok-read_line.ensures.at,
      more,
      within,
    )
