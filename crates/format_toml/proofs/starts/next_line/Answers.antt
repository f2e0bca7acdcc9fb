use Rattle.std.proofs.Common.{Bool, subst, sym}
use Rattle.std.specs.Str.{chars}
use Rattle.format_toml.proofs.StartsLemmas.{line_told}
use Rattle.format_toml.specs.Starts.{IsLine}
use Rattle.format_toml.specs.contracts.starts.next_line.{A-type}
use Rattle.format_toml.proofs.starts.next_line.Goals as goal

pub returns-in-Ok : goal.returns-in-Ok
returns-in-Ok g c =
    let text = chars c.args.text.now in
    let end = chars c.in-Ok.end.now in
    let P : Bool → Type 0 = λ b. IsLine (A-type g.row.A) c.args.level text b end in
    subst P (sym c.is_some.ensures) (line_told (A-type g.row.A) c.args.level text end
    c.in-Ok.statement (rw c.by-line.ensures.rule at c.in-Ok.ensures))
