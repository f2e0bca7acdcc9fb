use Rattle.std.specs.Prelude.{Some}
use Rattle.std.specs.Str.{chars}
use Rattle.std.proofs.Common.{rules, subst, sym}
use Rattle.format_toml.specs.Starts.{IsStart}
use Rattle.format_toml_document.specs.Fault.{IsRefusal}
use Rattle.format_toml_document.specs.contracts.fault.fault_of_build.{A-type}
use Rattle.format_toml_document.specs.declared.fault.TomlError.TheVariants.{Invalid}
use Rattle.format_toml_document.proofs.ErrorResults.{refusal_told}
use Rattle.format_toml_document.proofs.fault.fault_of_build.Goals as goal
use Rattle.format_toml_tree.specs.declared.build.TreeError.{TreeError}

pub returns-in-Ok-Some : goal.returns-in-Ok-Some
returns-in-Ok-Some g c =
    let rest = c.in-Ok-Some.rest in
    let start : IsStart (A-type g.row.A) c.args.level (chars c.args.text.now) c.in-Invalid.statement
    (Some rest) =
    search rules in
    let P : TreeError → Type 0 = λ fault.
    IsRefusal (A-type g.row.A) c.args.level c.args.text.now fault
    (Invalid c.located.result c.in-Invalid.why) in
    subst P (sym c.in-Invalid.is)
    (refusal_told (A-type g.row.A) c.args.level c.args.text.now c.in-Invalid.statement
    c.in-Invalid.why rest c.located.result start c.located.ensures)
