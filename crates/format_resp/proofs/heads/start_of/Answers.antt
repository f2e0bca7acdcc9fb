use Rattle.std.proofs.Common.{arith, refl}
use Rattle.std.proofs.lemmas.List.{nil_from_length}
use Rattle.format_resp.proofs.FirstLines.{none_begun, sought_text, start_never, start_silent}
use Rattle.format_resp.proofs.FirstLines.{start_stands, start_unmarked, text_sought}
use Rattle.format_resp.proofs.heads.start_of.Goals as goal

pub returns-in-None-clause-told : goal.returns-in-None-clause-told
returns-in-None-clause-told c all = (
  omega arith,
  tt,
  none_begun c.args.protocol c.args.bytes.now (nil_from_length _ c.in-None.ensures.cases),
)

pub returns-in-None-mark_of-clause-told : goal.returns-in-None-mark_of-clause-told
returns-in-None-mark_of-clause-told c all =
    start_unmarked c.args.protocol _ _ _ c.in-Some.ensures.cases.0
    (c.in-None-mark_of.ensures.none refl)

pub returns-in-Open-clause-told : goal.returns-in-Open-clause-told
returns-in-Open-clause-told c all =
    text_sought c.args.protocol _ _ _ c.in-Some.ensures.cases.0 c.in-Open.behind
    c.in-Some-mark_of.mark c.in-Some-mark_of.ensures.some.0 c.in-Some-mark_of.ensures.some.1
    (c.in-Open.ensures.told
    (sought_text c.args.protocol _ _ _ c.in-Some.ensures.cases.0 c.args.sought all))

pub returns-in-Never-clause-told : goal.returns-in-Never-clause-told
returns-in-Never-clause-told c all =
    start_never c.args.protocol _ _ _ c.in-Some.ensures.cases.0 (c.in-Never.ensures.told
    (sought_text c.args.protocol _ _ _ c.in-Some.ensures.cases.0 c.args.sought all))

pub returns-in-Ok-clause-told : goal.returns-in-Ok-clause-told
returns-in-Ok-clause-told c all =
    let ends = c.in-Whole.ensures.told
    (sought_text c.args.protocol _ _ _ c.in-Some.ensures.cases.0 c.args.sought all) in
    start_stands c.args.protocol c.in-Some-mark_of.mark c.in-Ok.head c.in-Some.byte.now
    c.args.bytes.now c.in-Some.text.now c.in-Whole.line.now c.in-Whole.left.now
    c.in-Some-mark_of.ensures.some.0 c.in-Some-mark_of.ensures.some.1 c.in-Some.ensures.cases.0
    ends (c.in-Ok.ensures.head ends.0)

pub returns-in-Err-clause-told : goal.returns-in-Err-clause-told
returns-in-Err-clause-told c all =
    start_silent c.args.protocol c.args.bytes.now c.in-Some.text.now c.in-Some.byte.now
    c.in-Some.ensures.cases.0 c.in-Whole.line.now c.in-Whole.left.now c.in-Some-mark_of.mark
    c.in-Some-mark_of.ensures.some.0 c.in-Some-mark_of.ensures.some.1 (c.in-Whole.ensures.told
    (sought_text c.args.protocol _ _ _ c.in-Some.ensures.cases.0 c.args.sought all))
    c.in-Err.reason c.in-Err.ensures.rejected
