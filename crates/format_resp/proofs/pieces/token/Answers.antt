use Rattle.grammars.specs.Grammar.{Token}
use Rattle.parser_definitions.specs.Inversion.Tokens.{any_ok}
use Rattle.parser_definitions.specs.Outcome.{setting_of}
use Rattle.format_resp.proofs.Found.{token_found}
use Rattle.format_resp.proofs.PieceResults.{must_ask}
use Rattle.format_resp.proofs.pieces.token.Goals as goal
use Rattle.std.proofs.Common.{refl}

pub returns : goal.returns
unfolding Token
returns g c =
    must_ask refl c.read_cut.ensures.reads c.read_cut.ensures.tells
    (λ o e.
    let at = setting_of g.E.HasKind.form (g.I.Stream.view c.args.input.now) in
    (any_ok at (rw e at c.read_cut.ensures.ran).3).tokens)
    (token_found g.I.Stream.seen_as g.I.Stream.reading _ tt _)
