use Rattle.std.proofs.Common.{◌∙◌}
use Rattle.std.specs.Str.{chars}
use Rattle.stream_searches.proofs.TextCompareLemmas.{none_compares, same_compares, other_compares}
use Rattle.stream_searches.proofs.compare.text.RefStrCompareChar.compare.Goals as goal

pub returns-in-None : goal.returns-in-None
returns-in-None c = none_compares c.args.literal (chars c.args.self.now.now)
    c.in-None.ensures.passes.0

pub returns-then-first-literal : goal.returns-then-first-literal
returns-then-first-literal c =
    let found = same_compares c.args.literal c.in-Some.first (chars c.args.self.now.now)
    (chars c.next_token.new.self.now) c.in-Some.ensures.passes.tokens
    c.if-first-literal.true in
    (found.0, found.1, found.2, found.3, c.len_utf8.ensures.value ∙ found.4)

pub returns-else-first-literal : goal.returns-else-first-literal
returns-else-first-literal c =
    other_compares c.args.literal c.in-Some.first (chars c.args.self.now.now)
    (chars c.next_token.new.self.now) c.in-Some.ensures.passes.tokens
    c.if-first-literal.false
