use Rattle.std.proofs.Common.{◌<◌, ◌∙◌, ap, arith, length, refl, rules, sym}
use Rattle.format_ini.specs.Front.{trimmed}
use Rattle.format_ini.proofs.Lined.{more_line, own_line}
use Rattle.format_ini.proofs.Placing.{line_indent, line_ok_at, more_at, text_within}
use Rattle.format_ini.proofs.lines.read_line.Goals as goal

pub overflow_add-place : goal.overflow_add-place
overflow_add-place c =
    omega (
      arith,
      c.requires,
      c.trim-indent.ensures.indent,
      text_within _ _ _ c.without_comment-kept.ensures,
    )

pub overflow_add-place-2 : goal.overflow_add-place-2
overflow_add-place-2 c =
    omega (
      arith,
      c.requires,
      c.trim-indent.ensures.indent,
      text_within _ _ _ c.without_comment-kept.ensures,
    )

pub read_own-requires-clause-within : goal.read_own-requires-clause-within
read_own-requires-clause-within c =
    omega (
      arith,
      c.requires,
      c.trim-indent.ensures.indent,
      ap (λ l. length l) c.trim-indent.ensures.text,
      text_within _ _ _ c.without_comment-kept.ensures,
    )

pub returns-then-goes_on-clause-said : goal.returns-then-goes_on-clause-said
returns-then-goes_on-clause-said c =
    let line = c.args.line.now in
    let kept = c.without_comment-kept.result.now in
    let text = c.trim-indent.result.1.now in
    let is = c.without_comment-kept.ensures in
    let t = c.trim-indent.ensures.text in
    let some : 0 < length text = first_of (search rules, omega arith) in
    let inside : 0 < length (trimmed kept) = omega (arith, some, ap (λ l. length l) t) in
    more_line _ _ _ _ _ _ _ is t (c.trim-indent.ensures.indent ∙ line_indent _ _ _ is inside)
    c.goes_on.ensures c.if-goes_on.true some c.if-is_comment.ensures

pub returns-then-goes_on-clause-at : goal.returns-then-goes_on-clause-at
returns-then-goes_on-clause-at c = (
  more_at c.args.dialect _ _ _ _ _ _ c.without_comment-kept.ensures c.trim-indent.ensures.text
      c.trim-indent.ensures.indent _ c.both_at.result refl c.both_at.ensures.0,
  λ none. absurd (first_of (search rules, cc)),
  c.both_at.ensures.1 ∙ sym c.both_at.ensures.0,
)

pub returns-clause-said : goal.returns-clause-said
returns-clause-said c =
    let line = c.args.line.now in
    let kept = c.without_comment-kept.result.now in
    let text = c.trim-indent.result.1.now in
    let is = c.without_comment-kept.ensures in
    let t = c.trim-indent.ensures.text in
    let some : 0 < length text = first_of (search rules, omega arith) in
    let inside : 0 < length (trimmed kept) = omega (arith, some, ap (λ l. length l) t) in
    own_line _ _ _ _ _ _ _ is t (c.trim-indent.ensures.indent ∙ line_indent _ _ _ is inside)
    c.goes_on.ensures c.if-goes_on.false some c.if-is_comment.ensures _ c.read_own.ensures.said

pub returns-clause-at : goal.returns-clause-at
returns-clause-at c =
    line_ok_at c.args.dialect _ _ _ _ _ _ c.without_comment-kept.ensures
    c.trim-indent.ensures.text c.trim-indent.ensures.indent c.args.state _ _ _
    c.read_own.ensures.said c.read_own.ensures.at
