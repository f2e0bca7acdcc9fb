use Rattle.std.specs.Prelude.{Some}
use Rattle.std.specs.Str.{chars}
use Rattle.std.proofs.Common.{rules}
use Rattle.format_toml_errors.specs.Stop.{IsStopIn}
use Rattle.format_toml_document.proofs.ErrorResults.{unexpected_told}
use Rattle.format_toml_document.proofs.fault.fault_of_text.Goals as goal

pub returns : goal.returns
returns g c =
    let stop = c.in-Ok-Some.stop in
    let first : IsStopIn c.args.level (chars c.args.text.now) (Some stop) = search rules in
    unexpected_told c.args.alloc c.args.level c.args.text.now stop c.located.result _ c.utf8.text
    first c.located.ensures c.opening.ensures
