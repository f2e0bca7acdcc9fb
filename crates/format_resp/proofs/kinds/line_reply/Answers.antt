use Rattle.std.specs.List.{AllByRecursion}
use Rattle.std.proofs.Common.{arith, rules, refl}
use Rattle.std.proofs.lemmas.Bool.Decides.{nat_tests}
use Rattle.std.proofs.lemmas.List.{nil_from_length}
use Rattle.format_resp.proofs.Encodings.{shown_are, shown_is}
use Rattle.format_resp.proofs.Made.{shape_of_equal}
use Rattle.format_resp.specs.Numbers.{IsBigNumber, IsDouble}
use Rattle.format_resp.specs.Resp.{IsLineByte}
use Rattle.format_resp.specs.declared.reply.Reply.TheViews.{rolls-BigNumber, rolls-Boolean}
use Rattle.format_resp.specs.declared.reply.Reply.TheViews.{rolls-Double, rolls-Error}
use Rattle.format_resp.specs.declared.reply.Reply.TheViews.{rolls-Integer, rolls-Null, rolls-Simple}
use Rattle.format_resp.proofs.kinds.line_reply.Goals as goal

pub returns-in-Plus-clause-some : goal.returns-in-Plus-clause-some
returns-in-Plus-clause-some g c = rw c.in-Plus.is
    (λ all. (
      c.args.line,
      shape_of_equal _ refl (rolls-Simple _),
      shown_is (AllByRecursion IsLineByte) _ all,
    ))

pub returns-in-Minus-clause-some : goal.returns-in-Minus-clause-some
returns-in-Minus-clause-some g c = rw c.in-Minus.is
    (λ all. (
      c.args.line,
      shape_of_equal _ refl (rolls-Error _),
      shown_is (AllByRecursion IsLineByte) _ all,
    ))

pub returns-in-Some-clause-some : goal.returns-in-Some-clause-some
returns-in-Some-clause-some g c = rw c.in-Colon.is
    (λ all. (_, shape_of_equal _ refl (rolls-Integer _), search (rules, c.in-Some.ensures.some)))

pub returns-then-is_empty-clause-some : goal.returns-then-is_empty-clause-some
returns-then-is_empty-clause-some g c =
    rw c.in-Underscore.is (λ all. (
      shape_of_equal _ refl rolls-Null,
      nil_from_length c.args.line.now
          (grind (arith, nat_tests, c.if-is_empty.true, c.is_empty.ensures)),
    ))

pub returns-in-Some-boolean_of-clause-some : goal.returns-in-Some-boolean_of-clause-some
returns-in-Some-boolean_of-clause-some g c = rw c.in-Hash.is
    (λ all. (_, shape_of_equal _ refl (rolls-Boolean _), c.in-Some-boolean_of.ensures.some))

pub returns-then-is_double-clause-some : goal.returns-then-is_double-clause-some
returns-then-is_double-clause-some g c = rw c.in-Comma.is
    (λ all. (
      c.args.line,
      shape_of_equal _ refl (rolls-Double _),
      shown_is IsDouble _ c.if-is_double.ensures,
    ))

pub returns-else-is_double-clause-none : goal.returns-else-is_double-clause-none
returns-else-is_double-clause-none g c =
    rw c.in-Comma.is (λ e reply (text, is, shown).
    c.if-is_double.ensures (shown_are IsDouble text c.args.line.now shown))

pub returns-then-is_big_number-clause-some : goal.returns-then-is_big_number-clause-some
returns-then-is_big_number-clause-some g c =
    let is = c.if-is_big_number.ensures in rw c.in-Parenthesis.is
    (λ all. (c.args.line, shape_of_equal _ refl (rolls-BigNumber _), shown_is IsBigNumber _ is))

pub returns-else-is_big_number-clause-none : goal.returns-else-is_big_number-clause-none
returns-else-is_big_number-clause-none g c =
    rw c.in-Parenthesis.is (λ e reply (text, is, shown).
    c.if-is_big_number.ensures (shown_are IsBigNumber text c.args.line.now shown))
