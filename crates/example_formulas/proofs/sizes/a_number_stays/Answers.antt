use Rattle.winnow.specs.Bytes.{bytes_reading}
use Rattle.winnow.specs.Form.{plain}
use Rattle.winnow.specs.Number.{NumberDoes, unsigned_numbers}
use Rattle.winnow.specs.Premises.Decided.{did_stays}
use Rattle.winnow.specs.Premises.Numbers.{number_stays}
use Rattle.example_formulas.proofs.sizes.a_number_stays.Goals as goal

pub returns : goal.returns
returns g c =
    let numbers = unsigned_numbers g.O.Uint.number g.O.Uint.bound in
    did_stays bytes_reading (NumberDoes numbers (λ x. x) (λ x. x) bytes_reading) plain tt
    (number_stays (λ x. x) (λ x. x) bytes_reading numbers tt)
