use Rattle.std.proofs.Common.{◌≢◌, get_or, rules}
use Rattle.std.proofs.lemmas.Bool.Decides.{nat_tests}
use Rattle.readers.proofs.TrailLemmas.{trailing_from, not_trailing, is_trailing}
use Rattle.readers.proofs.ini.parts.without_trailing.Goals as goal

pub returns-in-Some : goal.returns-in-Some
returns-in-Some c =
    let no_space : get_or c.args.bytes.now c.in-Some.last 0 ≢ 32 = search (rules, nat_tests) in
    let no_tab : get_or c.args.bytes.now c.in-Some.last 0 ≢ 9 = search (rules, nat_tests) in
    let no_return : get_or c.args.bytes.now c.in-Some.last 0 ≢ 13 = search (rules, nat_tests) in
    trailing_from _ _ (search rules) (not_trailing _ no_space no_tab no_return)
    (λ k after inside. is_trailing _
    (λ no_space no_tab no_return. search (rules, nat_tests)))
