use Rattle.format_toml_document.proofs.ErrorResults.{opening_told}
use Rattle.format_toml_document.proofs.fault.opening.Goals as goal

pub returns-in-Some : goal.returns-in-Some
returns-in-Some c unclosed =
    opening_told c.args.text.now c.args.stop c.in-Some.start c.located.result c.in-Some.is
    c.located.ensures unclosed
