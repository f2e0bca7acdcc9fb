use Rattle.std.proofs.Common.{refl}
use Rattle.format_resp.proofs.Made.{shape_of_equal}
use Rattle.format_resp.specs.declared.reply.Reply.TheViews.{rolls-Bulk, rolls-BulkError}
use Rattle.format_resp.specs.declared.reply.Reply.TheViews.{rolls-Verbatim}
use Rattle.format_resp.proofs.kinds.data_reply.Goals as goal

pub returns-in-Dollar-clause-some : goal.returns-in-Dollar-clause-some
returns-in-Dollar-clause-some g c =
    rw c.in-Dollar.is (shape_of_equal _ refl (rolls-Bulk c.args.bytes), tt)

pub returns-in-Exclamation-clause-some : goal.returns-in-Exclamation-clause-some
returns-in-Exclamation-clause-some g c =
    rw c.in-Exclamation.is (shape_of_equal _ refl (rolls-BulkError c.args.bytes), tt)

pub returns-then-is_verbatim-clause-some : goal.returns-then-is_verbatim-clause-some
returns-then-is_verbatim-clause-some g c =
    rw c.in-Equals.is
    (shape_of_equal _ refl (rolls-Verbatim c.args.bytes), c.if-is_verbatim.ensures)

pub returns-else-is_verbatim-clause-none : goal.returns-else-is_verbatim-clause-none
returns-else-is_verbatim-clause-none g c = rw c.in-Equals.is (λ e. c.if-is_verbatim.ensures)
