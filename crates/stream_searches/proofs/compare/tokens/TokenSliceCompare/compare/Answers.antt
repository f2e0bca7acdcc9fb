use Rattle.std.proofs.Common.{sym, ◌∙◌}
use Rattle.std.proofs.lemmas.Bool.{false≢true}
use Rattle.streams.specs.TokenSlice.{tokens_of}
use Rattle.stream_searches.specs.TokenCompare.{one_none, one_same, one_other}
use Rattle.stream_searches.proofs.compare.tokens.TokenSliceCompare.compare.Goals as goal

pub returns-in-None : goal.returns-in-None
returns-in-None g c =
    one_none g.T.PartialEq.eq c.args.literal g.met.T.Eq.laws (tokens_of c.args.self.now)
    c.in-None.ensures.passes.0

pub returns-then-eq : goal.returns-then-eq
returns-then-eq g c =
    one_same g.T.PartialEq.eq c.args.literal (tokens_of c.args.self.now) c.in-Some.first.now
    (tokens_of c.next_token.new.self) c.in-Some.ensures.passes.tokens
    (sym c.eq.ensures ∙ c.if-eq.true)

pub returns : goal.returns
returns g c = one_other g.T.PartialEq.eq c.args.literal (tokens_of c.args.self.now)
    c.in-Some.first.now (tokens_of c.next_token.new.self) c.in-Some.ensures.passes.tokens
    (λ same. false≢true (sym c.if-eq.false ∙ c.eq.ensures ∙ same))
