use Rattle.std.specs.Prelude.{Option, ℕ}
use Rattle.std.proofs.Common.{ap, arith, refl}
use Rattle.format_resp.proofs.FirstLines.{begun_none}
use Rattle.format_resp.proofs.Passing.{line_never, line_open, line_part, never_more}
use Rattle.format_resp.specs.declared.extent.Bulk.{Bulk}
use Rattle.format_resp.proofs.extent.Extent.pass_line.Goals as goal

pub returns-in-Never-clause-told : goal.returns-in-Never-clause-told
returns-in-Never-clause-told c p =
    line_never c.args.protocol _ _ _ p c.args.others _ c.requires.due c.requires.one refl
    (c.in-Never.ensures.told p.plain)

pub returns-in-Open-clause-told : goal.returns-in-Open-clause-told
returns-in-Open-clause-told c p =
    let (enough, all, begun) = c.in-Open.ensures.told p.plain in (
      record {
        front = p.front;
        split = p.split;
        count = p.count;
        leads = p.leads;
        few = p.few;
        within = enough;
        plain = all;
      },
      line_open c.args.protocol _ _ _ p c.args.others c.requires.due c.requires.one
          (begun_none c.args.protocol c.args.rest.now begun),
      rw c.requires.due begun,
    )

pub returns-in-None-clause-told : goal.returns-in-None-clause-told
returns-in-None-clause-told c p =
    absurd (never_more c.args.protocol _ _ _ p c.args.others c.in-Whole.head c.in-Whole.left.now
    c.requires.one (c.in-Whole.ensures.told p.plain) (omega arith) (c.in-None.ensures.none refl))

pub returns-in-Some-clause-told : goal.returns-in-Some-clause-told
returns-in-Some-clause-told c p =
    line_part c.args.protocol _ _ _ p _ c.args.others c.in-Whole.head c.in-Whole.left.now
    c.requires.due c.requires.one (c.in-Whole.ensures.told p.plain) refl refl
    (ap (λ (x : Option Bulk × ℕ). x.0) c.in-Some.ensures.some)
    (ap (λ (x : Option Bulk × ℕ). x.1) c.in-Some.ensures.some)
