use Rattle.std.proofs.Common.{arith}
use Rattle.format_resp.proofs.LineEnds.{ended_never, ended_open, ended_whole, found_line, open_all}
use Rattle.format_resp.proofs.LineEnds.{open_past, open_rest}
use Rattle.format_resp.proofs.lines.line_of.Goals as goal

pub returns-in-None-clause-told : goal.returns-in-None-clause-told
returns-in-None-clause-told c all = open_all _ (open_past _ _ c.in-None.ensures.lookup.0 all)

pub returns-in-None-memchr2-clause-told : goal.returns-in-None-memchr2-clause-told
returns-in-None-memchr2-clause-told c all =
    let (low, high, is, size) = c.in-Some.ensures.lookup.0 in
    open_all _ (open_rest _ _ _ is all c.in-None-memchr2.ensures)

pub returns-in-Ok-Some-clause-told : goal.returns-in-Ok-Some-clause-told
returns-in-Ok-Some-clause-told c all =
    let (low, high, is, size) = c.in-Some.ensures.lookup.0 in
    let (none, passes) = c.in-Some-memchr2.ensures in
    let (split, plain, test) = found_line _ _ _ _ c.args.sought c.in-Some-memchr2.at is all
    (λ j less. none.before j (omega arith) less) passes c.split_at.ensures.front
    c.split_at.ensures.back in
    ended_whole _ _ _ split plain _ (rw c.in-Ok-Some.field-0-is at c.in-Ok-Some.ensures.told)

pub returns-in-Ok-None-clause-told : goal.returns-in-Ok-None-clause-told
returns-in-Ok-None-clause-told c all =
    let (low, high, is, size) = c.in-Some.ensures.lookup.0 in
    let (none, passes) = c.in-Some-memchr2.ensures in
    let (split, plain, test) = found_line _ _ _ _ c.args.sought c.in-Some-memchr2.at is all
    (λ j less. none.before j (omega arith) less) passes c.split_at.ensures.front
    c.split_at.ensures.back in
    let (x, more, e) = rw c.in-Ok-None.field-0-is at c.in-Ok-None.ensures.told in
    ended_open _ _ _ split plain x more e

pub returns-in-Err-clause-told : goal.returns-in-Err-clause-told
returns-in-Err-clause-told c all =
    let (low, high, is, size) = c.in-Some.ensures.lookup.0 in
    let (none, passes) = c.in-Some-memchr2.ensures in
    let (split, plain, test) = found_line _ _ _ _ c.args.sought c.in-Some-memchr2.at is all
    (λ j less. none.before j (omega arith) less) passes c.split_at.ensures.front
    c.split_at.ensures.back in
    ended_never _ _ _ split plain test c.in-Err.ensures.told.1

pub returns-in-Ok-Some-clause-less : goal.returns-in-Ok-Some-clause-less
returns-in-Ok-Some-clause-less c = omega (
  arith,
  rw c.in-Ok-Some.field-0-is at c.in-Ok-Some.ensures.less,
  c.split_at.ensures.back_len,
)
