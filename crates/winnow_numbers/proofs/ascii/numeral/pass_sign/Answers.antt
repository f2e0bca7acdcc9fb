use Rattle.std.proofs.Common.{ap, subst, sym}
use Rattle.std.specs.Prelude.{Bool}
use Rattle.parser_definitions.specs.Left.{left_of}
use Rattle.parser_definitions.specs.Numeral.{HasSign, is_none}
use Rattle.winnow_numbers.specs.Numeral.{sign_of}
use Rattle.winnow_numbers.proofs.ascii.numeral.pass_sign.Goals as goal

pub returns-in-None-clause-ran : goal.returns-in-None-clause-ran
returns-in-None-clause-ran g c =
    let P : Bool → Type 0 =
    λ signed. HasSign g.I.Stream.seen_as g.I.Token.AsChar.code g.I.Stream.reading signed
    (left_of (g.I.Stream.view c.args.input.now)) (sign_of c.first_sign.result)
    (left_of (g.I.Stream.view c.first_sign.new.input)) in (
      sign_of c.first_sign.result,
      subst P (sym c.if-not-signed.false) c.first_sign.ensures.ran,
      sym (ap (λ sign. is_none (sign_of sign)) c.in-None.is),
    )

pub returns-in-Some-clause-ran : goal.returns-in-Some-clause-ran
returns-in-Some-clause-ran g c =
    let P : Bool → Type 0 =
    λ signed. HasSign g.I.Stream.seen_as g.I.Token.AsChar.code g.I.Stream.reading signed
    (left_of (g.I.Stream.view c.args.input.now)) (sign_of c.first_sign.result)
    (left_of (g.I.Stream.view c.first_sign.new.input)) in (
      sign_of c.first_sign.result,
      subst P (sym c.if-not-signed.false) c.first_sign.ensures.ran,
      sym (ap (λ sign. is_none (sign_of sign)) c.in-Some.is),
    )
