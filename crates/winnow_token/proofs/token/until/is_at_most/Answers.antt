use Rattle.winnow_token.proofs.UntilLemmas.{says_at_most}
use Rattle.winnow_token.proofs.token.until.is_at_most.Goals as goal

pub returns-in-Ok : goal.returns-in-Ok
returns-in-Ok g c = says_at_most g.I.Stream.reading
    (g.I.Stream.view c.args.input.now).left.tokens c.args.count c.in-Ok.end c.args.offset
    c.in-Ok.ensures.0 c.in-Ok.ensures.1
