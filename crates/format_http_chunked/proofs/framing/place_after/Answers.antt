use Rattle.std.proofs.Common.{refl, subst, sym}
use Rattle.std.specs.Prelude.{IfErr, ℕ}
use Rattle.format_http_chunked.proofs.Calls.{fault_at, framing_at}
use Rattle.format_http_chunked.proofs.Digits.{size_begins, size_never}
use Rattle.format_http_chunked.specs.Steps.{IsFault}
use Rattle.format_http_chunked.specs.declared.decoder.ChunkError.TheVariants as fault
use Rattle.format_http_chunked.specs.declared.places.Framing.{Framing}
use Rattle.format_http_chunked.specs.declared.places.Framing.TheVariants as framing
use Rattle.format_http_chunked.specs.declared.places.Place.TheVariants as place
use Rattle.format_http_chunked.proofs.framing.place_after.Goals as goal

pub returns-in-Some-clause-ok : goal.returns-in-Some-clause-ok
returns-in-Some-clause-ok c = framing_at c.args.at framing.Start
    (place.Framing (framing.Digits c.in-Some.digit)) c.args.byte c.in-Start.is
    (size_begins c.in-Some.digit c.args.byte c.in-Some.ensures.some.1 c.in-Some.ensures.some.0)

pub returns-in-None-clause-err : goal.returns-in-None-clause-err
returns-in-None-clause-err c = fault_at c.args.at framing.Start c.args.byte fault.Size
    c.in-Start.is (λ room left. (refl, size_never c.args.byte (c.in-None.ensures.none refl)))

pub returns-in-Digits-clause-err : goal.returns-in-Digits-clause-err
returns-in-Digits-clause-err c =
    let P : Framing → Type 0 = λ a. IfErr c.after_digit.result
    (λ why. (room left : ℕ) → IsFault (place.Framing a) room left c.args.byte why) in
    subst P (sym c.in-Digits.is) c.after_digit.ensures.err

pub returns-in-None-after_in_line-clause-err : goal.returns-in-None-after_in_line-clause-err
returns-in-None-after_in_line-clause-err c =
    fault_at c.args.at (framing.Line c.in-Line.line c.in-Line.size) c.args.byte fault.SizeLine
    c.in-Line.is (λ room left. (tt, c.in-None-after_in_line.ensures.none refl))
