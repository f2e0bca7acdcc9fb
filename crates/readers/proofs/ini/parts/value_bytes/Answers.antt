use Rattle.std.proofs.Common.{ap, refl}
use Rattle.winnow.specs.Form.{plain}
use Rattle.winnow.specs.Inversion.Outcomes.{fails_at}
use Rattle.winnow.specs.Inversion.Searches.{nothing_before, took_before}
use Rattle.readers.specs.Document.{IsValueByte}
use Rattle.readers.proofs.Calls.{bytes_in}
use Rattle.readers.proofs.PartRuns.{ends_value, front_before, front_of_all, is_value}
use Rattle.readers.proofs.ini.parts.value_bytes.Goals as goal

pub returns-in-Ok-clause-front : goal.returns-in-Ok-clause-front
returns-in-Ok-clause-front c =
    let mark = c.take_until.ensures.literal in
    let (taken, before, shown, passed) = took_before (bytes_in plain) c.in-Ok.ensures.ran.3 in
    front_before IsValueByte before shown (is_value _ mark) (ends_value _ mark)

pub returns-in-Err-clause-front : goal.returns-in-Err-clause-front
returns-in-Err-clause-front c =
    let (kind, kept, nowhere) =
    nothing_before (bytes_in plain) c.take_until.ensures.occurrences refl
    (_, c.in-Err.ensures.ran.3, fails_at _ _) in
    front_of_all IsValueByte _ _ nowhere (ap (λ l. l.tokens) kept) c.finish.ensures.takes
    c.finish.ensures.nothing (is_value _ c.take_until.ensures.literal)

pub returns-in-Ok-clause-ends : goal.returns-in-Ok-clause-ends
returns-in-Ok-clause-ends c = c.in-Ok.ensures.ran.0
