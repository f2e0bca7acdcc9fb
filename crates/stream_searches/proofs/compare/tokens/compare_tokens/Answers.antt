use Rattle.std.proofs.Common.{sym, ◌∙◌}
use Rattle.stream_searches.specs.TokenCompare.{stands, differs, begins, strays}
use Rattle.stream_searches.proofs.compare.tokens.compare_tokens.Goals as goal

pub returns-then-starts_with : goal.returns-then-starts_with
returns-then-starts_with g c =
    stands g.T.PartialEq.eq c.args.tokens.now c.args.literal.now c.if-literal-tokens.true
    (sym c.starts_with.ensures.value ∙ c.if-starts_with.true)

pub returns-else-starts_with : goal.returns-else-starts_with
returns-else-starts_with g c =
    differs g.T.PartialEq.eq c.args.tokens.now c.args.literal.now c.if-literal-tokens.true
    (sym c.starts_with.ensures.value ∙ c.if-starts_with.false)

pub returns-then-starts_with-2 : goal.returns-then-starts_with-2
returns-then-starts_with-2 g c =
    begins g.T.PartialEq.eq g.met.T.Eq.laws c.args.tokens.now c.args.literal.now
    c.if-literal-tokens.false
    (sym c.starts_with-else-literal-tokens.ensures.value ∙ c.if-starts_with-2.true)

pub returns-else-starts_with-2 : goal.returns-else-starts_with-2
returns-else-starts_with-2 g c =
    strays g.T.PartialEq.eq g.met.T.Eq.laws c.args.tokens.now c.args.literal.now
    c.if-literal-tokens.false
    (sym c.starts_with-else-literal-tokens.ensures.value ∙ c.if-starts_with-2.false)
