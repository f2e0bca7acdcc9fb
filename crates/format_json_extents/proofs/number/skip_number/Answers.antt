use Rattle.std.proofs.Common.{rules}
use Rattle.format_json_extents.proofs.Matching.{no_match_of_first, no_match_of_second}
use Rattle.format_json_extents.proofs.Scalars.{minus_bars, number_is}
use Rattle.format_json_extents.specs.Number.{IsNumber}
use Rattle.format_json_extents.specs.Texts.{NoMatchAtStart}
use Rattle.format_json_extents.proofs.number.skip_number.Goals as goal

pub returns-in_err-rest : goal.returns-in_err-rest
returns-in_err-rest c =
    let none : NoMatchAtStart IsNumber c.args.bytes.now =
    no_match_of_second minus_bars c.skip_minus.ensures (no_match_of_first c.in_err-rest.ensures) in
    search rules

pub returns : goal.returns
returns c =
    number_is c.skip_minus.ensures c.in_ok-rest.ensures c.skip_any_fraction.ensures
    c.skip_any_exponent.ensures
