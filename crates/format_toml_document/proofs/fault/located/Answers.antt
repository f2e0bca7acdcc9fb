use Rattle.std.specs.Prelude.{ℕ, List}
use Rattle.std.proofs.Common.{rules, subst}
use Rattle.format_parts.specs.Location.{IsLocation}
use Rattle.format_toml_document.proofs.ErrorResults.{after_of}
use Rattle.format_toml_document.proofs.fault.located.Goals as goal

pub returns : goal.returns
returns c front split =
    let P : List ℕ → Type 0 = λ l. IsLocation l c.saturating_sub.result c.new.result in
    after_of c.args.text.now c.args.rest.now front c.saturating_sub.result c.new.result
    c.utf8.text c.utf8.rest split (search rules)
    (subst P c.as_bytes.ensures.value c.new.ensures)
