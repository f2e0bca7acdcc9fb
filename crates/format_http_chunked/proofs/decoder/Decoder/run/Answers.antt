use Rattle.std.proofs.Common.{subst}
use Rattle.std.specs.Prelude.{[], Ok, Err, Option}
use Rattle.format_http_chunked.proofs.Calls.{said_then, spends_then, spent_then}
use Rattle.format_http_chunked.proofs.Taking.{taken_in_turn}
use Rattle.format_http_chunked.specs.Room.{PartSpends}
use Rattle.format_http_chunked.specs.Steps.{IsPartResult}
use Rattle.format_http_chunked.specs.declared.decoder.Step.{Step}
use Rattle.format_http_chunked.proofs.Standing.{stands_then}
use Rattle.format_http_chunked.specs.Outputs.{PartBeforeRest}
use Rattle.format_http_chunked.proofs.decoder.Decoder.run.Goals as goal

pub returns-in-Err-clause-told : goal.returns-in-Err-clause-told
returns-in-Err-clause-told c = said_then c.args.self.now c.bytes.self c.part.new.self _ _
    c.part.new.input.now (Err c.in-Err.fault) c.bytes.invariant.0 c.in-Err.ensures.told

pub returns-in-Err-clause-spent : goal.returns-in-Err-clause-spent
returns-in-Err-clause-spent c = spends_then c.args.self.now c.bytes.self c.part.new.self _ _
    c.part.new.input.now (Err c.in-Err.fault) c.bytes.invariant.1 c.in-Err.ensures.spent

pub returns-in-Some-clause-told : goal.returns-in-Some-clause-told
returns-in-Some-clause-told c =
    let P : Option Step → Type 0 = λ o. IsPartResult c.bytes.self c.part.new.self c.bytes.input.now
    c.part.new.input.now (Ok o) in
    said_then c.args.self.now c.bytes.self c.part.new.self _ _ c.part.new.input.now (Ok
    c.in-Some.step) c.bytes.invariant.0 (subst P c.in-Some.is c.in-Ok.ensures.told)

pub returns-in-Some-clause-spent : goal.returns-in-Some-clause-spent
returns-in-Some-clause-spent c =
    let P : Option Step → Type 0 = λ o. PartSpends c.bytes.self c.part.new.self
    c.bytes.input.now c.part.new.input.now (Ok o) in
    spends_then c.args.self.now c.bytes.self c.part.new.self _ _ c.part.new.input.now (Ok
    c.in-Some.step) c.bytes.invariant.1 (subst P c.in-Some.is c.in-Ok.ensures.spent)

pub bytes-preserved : goal.bytes-preserved
bytes-preserved c =
    let P : Option Step → Type 0 = λ o. IsPartResult c.bytes.self c.part.new.self c.bytes.input.now
    c.part.new.input.now (Ok o) in
    let Q : Option Step → Type 0 = λ o. PartSpends c.bytes.self c.part.new.self
    c.bytes.input.now c.part.new.input.now (Ok o) in (
      taken_in_turn _ _ _ _ _ _ [] [] c.bytes.invariant.0 (subst P c.in-None.is
          c.in-Ok.ensures.told).0,
      spent_then c.args.self.now c.bytes.self c.part.new.self _ _ _ _ c.bytes.invariant.1 (subst Q
          c.in-None.is c.in-Ok.ensures.spent),
    )

pub returns-in-Err-clause-stands : goal.returns-in-Err-clause-stands
returns-in-Err-clause-stands c = stands_then _ _ _ c.part.new.input.now (Err c.in-Err.fault)
    c.bytes.invariant.0.1 c.in-Err.ensures.stands

pub returns-in-Some-clause-stands : goal.returns-in-Some-clause-stands
returns-in-Some-clause-stands c =
    let P : Option Step → Type 0 =
    λ o. PartBeforeRest c.bytes.input.now c.part.new.input.now (Ok o) in
    stands_then _ _ _ c.part.new.input.now (Ok c.in-Some.step) c.bytes.invariant.0.1 (subst P
    c.in-Some.is c.in-Ok.ensures.stands)
