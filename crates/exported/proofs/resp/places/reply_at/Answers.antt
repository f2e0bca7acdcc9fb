use Rattle.std.proofs.Common.{arith, refl, rules}
use Rattle.format_resp.specs.declared.reply.Reply.TheOpen.{Reply-F}
use Rattle.format_resp.specs.declared.reply.Reply.TheViews.{rolls-Array, rolls-Attributed}
use Rattle.format_resp.specs.declared.reply.Reply.TheViews.{rolls-BigNumber}
use Rattle.format_resp.specs.declared.reply.Reply.TheViews.{rolls-Boolean, rolls-Bulk}
use Rattle.format_resp.specs.declared.reply.Reply.TheViews.{rolls-BulkError, rolls-Double}
use Rattle.format_resp.specs.declared.reply.Reply.TheViews.{rolls-Error, rolls-Integer, rolls-Map}
use Rattle.format_resp.specs.declared.reply.Reply.TheViews.{rolls-Null, rolls-NullArray}
use Rattle.format_resp.specs.declared.reply.Reply.TheViews.{rolls-NullBulk, rolls-Push, rolls-Set}
use Rattle.format_resp.specs.declared.reply.Reply.TheViews.{rolls-Simple, rolls-Verbatim}
use Rattle.exported.proofs.Replies.{list_shown, opened, shown_by}
use Rattle.exported.proofs.resp.places.reply_at.Goals as goal

pub returns-in-Simple-clause-shown : goal.returns-in-Simple-clause-shown
returns-in-Simple-clause-shown c protocol level rest is left =
    shown_by protocol level c.args.bytes.now (Reply-F.Simple c.in-Simple.text) c.args.found.now
    rest _
    (opened _ c.in-Simple.is (rolls-Simple c.in-Simple.text))
    (λ at. c.line_at.ensures.text c.args.bytes.now c.in-Simple.text.now rest at refl) is

pub returns-in-Simple-clause-length : goal.returns-in-Simple-clause-length
returns-in-Simple-clause-length c within = (
  omega (arith, c.line_at.ensures.length.0, c.saturating_sub-length.ensures, within),
  c.line_at.ensures.length.1,
)

pub returns-in-Error-clause-shown : goal.returns-in-Error-clause-shown
returns-in-Error-clause-shown c protocol level rest is left =
    shown_by protocol level c.args.bytes.now (Reply-F.Error c.in-Error.text) c.args.found.now rest _
    (opened _ c.in-Error.is (rolls-Error c.in-Error.text))
    (λ at. c.line_at-in-Error.ensures.text c.args.bytes.now c.in-Error.text.now rest at refl) is

pub returns-in-Error-clause-length : goal.returns-in-Error-clause-length
returns-in-Error-clause-length c within = (
  omega (arith, c.line_at-in-Error.ensures.length.0, c.saturating_sub-length.ensures, within),
  c.line_at-in-Error.ensures.length.1,
)

pub returns-in-Integer-clause-shown : goal.returns-in-Integer-clause-shown
returns-in-Integer-clause-shown c protocol level rest is left =
    shown_by protocol level c.args.bytes.now (Reply-F.Integer c.in-Integer.number)
    c.args.found.now rest _
    (opened _ c.in-Integer.is (rolls-Integer c.in-Integer.number))
    (λ at. (
      record {
        is_kind = c.number_at.ensures.number.0.is_kind;
        is_number = search rules;
        count = c.number_at.ensures.number.0.count;
      },
      c.number_at.ensures.number.1,
    )) is

pub returns-in-Integer-clause-length : goal.returns-in-Integer-clause-length
returns-in-Integer-clause-length c within = (
  omega (arith, c.number_at.ensures.length.0, c.saturating_sub-length.ensures, within),
  c.number_at.ensures.length.1,
)

pub returns-in-Bulk-clause-shown : goal.returns-in-Bulk-clause-shown
returns-in-Bulk-clause-shown c protocol level rest is left =
    shown_by protocol level c.args.bytes.now (Reply-F.Bulk c.in-Bulk.text) c.args.found.now rest _
    (opened _ c.in-Bulk.is (rolls-Bulk c.in-Bulk.text))
    (λ at. c.string_at.ensures.text c.in-Bulk.text.now rest at refl) is

pub returns-in-Bulk-clause-length : goal.returns-in-Bulk-clause-length
returns-in-Bulk-clause-length c within = (
  omega (arith, c.string_at.ensures.length.0, c.saturating_sub-length.ensures, within),
  c.string_at.ensures.length.1,
)

pub returns-in-NullBulk-clause-shown : goal.returns-in-NullBulk-clause-shown
returns-in-NullBulk-clause-shown c protocol level rest is left =
    shown_by protocol level c.args.bytes.now Reply-F.NullBulk c.args.found.now rest _
    (opened _ c.in-NullBulk.is rolls-NullBulk)
    (λ at. c.number_at-in-NullBulk.ensures.number) is

pub returns-in-NullBulk-clause-length : goal.returns-in-NullBulk-clause-length
returns-in-NullBulk-clause-length c within = (
  omega (arith, c.number_at-in-NullBulk.ensures.length.0, c.saturating_sub-length.ensures, within),
  c.number_at-in-NullBulk.ensures.length.1,
)

pub returns-in-Array-clause-shown : goal.returns-in-Array-clause-shown
returns-in-Array-clause-shown c protocol level rest is left =
    shown_by protocol level c.args.bytes.now (Reply-F.Array c.in-Array.list) c.args.found.now rest _
    (opened _ c.in-Array.is (rolls-Array c.in-Array.list))
    (list_shown protocol level c.args.bytes.now 5 c.args.left _ c.in-Array.list.items rest _
    c.list_at.ensures.list (omega (arith, c.len.ensures, c.in-Array.list.ok)) left) is

pub returns-in-Array-clause-length : goal.returns-in-Array-clause-length
returns-in-Array-clause-length c = c.list_at.ensures.length

pub returns-in-NullArray-clause-shown : goal.returns-in-NullArray-clause-shown
returns-in-NullArray-clause-shown c protocol level rest is left =
    shown_by protocol level c.args.bytes.now Reply-F.NullArray c.args.found.now rest _
    (opened _ c.in-NullArray.is rolls-NullArray)
    (λ at. c.number_at-in-NullArray.ensures.number) is

pub returns-in-NullArray-clause-length : goal.returns-in-NullArray-clause-length
returns-in-NullArray-clause-length c within = (
  omega (arith, c.number_at-in-NullArray.ensures.length.0, c.saturating_sub-length.ensures, within),
  c.number_at-in-NullArray.ensures.length.1,
)

pub returns-in-Null-clause-shown : goal.returns-in-Null-clause-shown
returns-in-Null-clause-shown c protocol level rest is left =
    shown_by protocol level c.args.bytes.now Reply-F.Null c.args.found.now rest _
    (opened _ c.in-Null.is rolls-Null)
    (λ at. c.number_at-in-Null.ensures.number) is

pub returns-in-Null-clause-length : goal.returns-in-Null-clause-length
returns-in-Null-clause-length c within = (
  omega (arith, c.number_at-in-Null.ensures.length.0, c.saturating_sub-length.ensures, within),
  c.number_at-in-Null.ensures.length.1,
)

pub returns-in-Boolean-clause-shown : goal.returns-in-Boolean-clause-shown
returns-in-Boolean-clause-shown c protocol level rest is left =
    shown_by protocol level c.args.bytes.now (Reply-F.Boolean c.in-Boolean.boolean)
    c.args.found.now rest _
    (opened _ c.in-Boolean.is (rolls-Boolean c.in-Boolean.boolean))
    (λ at. (
      record {
        is_kind = c.number_at-in-Boolean.ensures.number.0.is_kind;
        is_number = search rules;
        count = c.number_at-in-Boolean.ensures.number.0.count;
      },
      c.number_at-in-Boolean.ensures.number.1,
    )) is

pub returns-in-Boolean-clause-length : goal.returns-in-Boolean-clause-length
returns-in-Boolean-clause-length c within = (
  omega (arith, c.number_at-in-Boolean.ensures.length.0, c.saturating_sub-length.ensures, within),
  c.number_at-in-Boolean.ensures.length.1,
)

pub returns-in-Double-clause-shown : goal.returns-in-Double-clause-shown
returns-in-Double-clause-shown c protocol level rest is left =
    shown_by protocol level c.args.bytes.now (Reply-F.Double c.in-Double.text) c.args.found.now
    rest _
    (opened _ c.in-Double.is (rolls-Double c.in-Double.text))
    (λ at. c.line_at-in-Double.ensures.text c.args.bytes.now c.in-Double.text.now rest at refl) is

pub returns-in-Double-clause-length : goal.returns-in-Double-clause-length
returns-in-Double-clause-length c within = (
  omega (arith, c.line_at-in-Double.ensures.length.0, c.saturating_sub-length.ensures, within),
  c.line_at-in-Double.ensures.length.1,
)

pub returns-in-BigNumber-clause-shown : goal.returns-in-BigNumber-clause-shown
returns-in-BigNumber-clause-shown c protocol level rest is left =
    shown_by protocol level c.args.bytes.now (Reply-F.BigNumber c.in-BigNumber.text)
    c.args.found.now rest _
    (opened _ c.in-BigNumber.is (rolls-BigNumber c.in-BigNumber.text))
    (λ at. c.line_at-in-BigNumber.ensures.text c.args.bytes.now c.in-BigNumber.text.now rest at
    refl) is

pub returns-in-BigNumber-clause-length : goal.returns-in-BigNumber-clause-length
returns-in-BigNumber-clause-length c within = (
  omega (arith, c.line_at-in-BigNumber.ensures.length.0, c.saturating_sub-length.ensures, within),
  c.line_at-in-BigNumber.ensures.length.1,
)

pub returns-in-BulkError-clause-shown : goal.returns-in-BulkError-clause-shown
returns-in-BulkError-clause-shown c protocol level rest is left =
    shown_by protocol level c.args.bytes.now (Reply-F.BulkError c.in-BulkError.text)
    c.args.found.now rest _
    (opened _ c.in-BulkError.is (rolls-BulkError c.in-BulkError.text))
    (λ at. c.string_at-in-BulkError.ensures.text c.in-BulkError.text.now rest at refl) is

pub returns-in-BulkError-clause-length : goal.returns-in-BulkError-clause-length
returns-in-BulkError-clause-length c within = (
  omega (arith, c.string_at-in-BulkError.ensures.length.0, c.saturating_sub-length.ensures, within),
  c.string_at-in-BulkError.ensures.length.1,
)

pub returns-in-Verbatim-clause-shown : goal.returns-in-Verbatim-clause-shown
returns-in-Verbatim-clause-shown c protocol level rest is left =
    shown_by protocol level c.args.bytes.now (Reply-F.Verbatim c.in-Verbatim.text)
    c.args.found.now rest _
    (opened _ c.in-Verbatim.is (rolls-Verbatim c.in-Verbatim.text))
    (λ at. c.string_at-in-Verbatim.ensures.text c.in-Verbatim.text.now rest at refl) is

pub returns-in-Verbatim-clause-length : goal.returns-in-Verbatim-clause-length
returns-in-Verbatim-clause-length c within = (
  omega (arith, c.string_at-in-Verbatim.ensures.length.0, c.saturating_sub-length.ensures, within),
  c.string_at-in-Verbatim.ensures.length.1,
)

pub returns-in-Map-clause-shown : goal.returns-in-Map-clause-shown
returns-in-Map-clause-shown c protocol level rest is left =
    shown_by protocol level c.args.bytes.now (Reply-F.Map c.in-Map.list) c.args.found.now rest _
    (opened _ c.in-Map.is (rolls-Map c.in-Map.list))
    (list_shown protocol level c.args.bytes.now 13 c.args.left _ c.in-Map.list.items rest _
    c.list_at-in-Map.ensures.list (omega (arith, c.len-in-Map.ensures, c.in-Map.list.ok)) left) is

pub returns-in-Map-clause-length : goal.returns-in-Map-clause-length
returns-in-Map-clause-length c = c.list_at-in-Map.ensures.length

pub returns-in-Set-clause-shown : goal.returns-in-Set-clause-shown
returns-in-Set-clause-shown c protocol level rest is left =
    shown_by protocol level c.args.bytes.now (Reply-F.Set c.in-Set.list) c.args.found.now rest _
    (opened _ c.in-Set.is (rolls-Set c.in-Set.list))
    (list_shown protocol level c.args.bytes.now 14 c.args.left _ c.in-Set.list.items rest _
    c.list_at-in-Set.ensures.list (omega (arith, c.len-in-Set.ensures, c.in-Set.list.ok)) left) is

pub returns-in-Set-clause-length : goal.returns-in-Set-clause-length
returns-in-Set-clause-length c = c.list_at-in-Set.ensures.length

pub returns-in-Push-clause-shown : goal.returns-in-Push-clause-shown
returns-in-Push-clause-shown c protocol level rest is left =
    shown_by protocol level c.args.bytes.now (Reply-F.Push c.in-Push.list) c.args.found.now rest _
    (opened _ c.in-Push.is (rolls-Push c.in-Push.list))
    (list_shown protocol level c.args.bytes.now 15 c.args.left _ c.in-Push.list.items rest _
    c.list_at-in-Push.ensures.list (omega (arith, c.len-in-Push.ensures, c.in-Push.list.ok))
    left) is

pub returns-in-Push-clause-length : goal.returns-in-Push-clause-length
returns-in-Push-clause-length c = c.list_at-in-Push.ensures.length

pub returns-in-Attributed-clause-shown : goal.returns-in-Attributed-clause-shown
returns-in-Attributed-clause-shown c protocol level rest is left =
    shown_by protocol level c.args.bytes.now (Reply-F.Attributed c.in-Attributed.list)
    c.args.found.now rest _
    (opened _ c.in-Attributed.is (rolls-Attributed c.in-Attributed.list))
    (list_shown protocol level c.args.bytes.now 16 c.args.left _ c.in-Attributed.list.items rest _
    c.list_at-in-Attributed.ensures.list
    (omega (arith, c.len-in-Attributed.ensures, c.in-Attributed.list.ok)) left) is

pub returns-in-Attributed-clause-length : goal.returns-in-Attributed-clause-length
returns-in-Attributed-clause-length c = c.list_at-in-Attributed.ensures.length
