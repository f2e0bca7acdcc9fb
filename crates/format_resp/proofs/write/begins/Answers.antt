use Rattle.std.proofs.Common.{sym}
use Rattle.format_resp.proofs.Made.{first_mark_of_shape, shape_of_equal}
use Rattle.format_resp.specs.declared.reply.Reply.TheViews.{rolls-Array, rolls-Attributed}
use Rattle.format_resp.specs.declared.reply.Reply.TheViews.{rolls-BigNumber, rolls-Boolean}
use Rattle.format_resp.specs.declared.reply.Reply.TheViews.{rolls-Bulk, rolls-BulkError}
use Rattle.format_resp.specs.declared.reply.Reply.TheViews.{rolls-Double, rolls-Error}
use Rattle.format_resp.specs.declared.reply.Reply.TheViews.{rolls-Integer, rolls-Map, rolls-Null}
use Rattle.format_resp.specs.declared.reply.Reply.TheViews.{rolls-NullArray, rolls-NullBulk}
use Rattle.format_resp.specs.declared.reply.Reply.TheViews.{rolls-Push, rolls-Set, rolls-Simple}
use Rattle.format_resp.specs.declared.reply.Reply.TheViews.{rolls-Verbatim}
use Rattle.format_resp.proofs.write.begins.Goals as goal

pub returns-in-Simple : goal.returns-in-Simple
returns-in-Simple g c =
    sym (first_mark_of_shape _ (shape_of_equal _ c.in-Simple.is (rolls-Simple _)))

pub returns-in-Error : goal.returns-in-Error
returns-in-Error g c = sym (first_mark_of_shape _ (shape_of_equal _ c.in-Error.is (rolls-Error _)))

pub returns-in-Integer : goal.returns-in-Integer
returns-in-Integer g c =
    sym (first_mark_of_shape _ (shape_of_equal _ c.in-Integer.is (rolls-Integer _)))

pub returns-in-Bulk : goal.returns-in-Bulk
returns-in-Bulk g c = sym (first_mark_of_shape _ (shape_of_equal _ c.in-Bulk.is (rolls-Bulk _)))

pub returns-in-NullBulk : goal.returns-in-NullBulk
returns-in-NullBulk g c =
    sym (first_mark_of_shape _ (shape_of_equal _ c.in-NullBulk.is rolls-NullBulk))

pub returns-in-Array : goal.returns-in-Array
returns-in-Array g c = sym (first_mark_of_shape _ (shape_of_equal _ c.in-Array.is (rolls-Array _)))

pub returns-in-NullArray : goal.returns-in-NullArray
returns-in-NullArray g c =
    sym (first_mark_of_shape _ (shape_of_equal _ c.in-NullArray.is rolls-NullArray))

pub returns-in-Null : goal.returns-in-Null
returns-in-Null g c = sym (first_mark_of_shape _ (shape_of_equal _ c.in-Null.is rolls-Null))

pub returns-in-Boolean : goal.returns-in-Boolean
returns-in-Boolean g c =
    sym (first_mark_of_shape _ (shape_of_equal _ c.in-Boolean.is (rolls-Boolean _)))

pub returns-in-Double : goal.returns-in-Double
returns-in-Double g c =
    sym (first_mark_of_shape _ (shape_of_equal _ c.in-Double.is (rolls-Double _)))

pub returns-in-BigNumber : goal.returns-in-BigNumber
returns-in-BigNumber g c =
    sym (first_mark_of_shape _ (shape_of_equal _ c.in-BigNumber.is (rolls-BigNumber _)))

pub returns-in-BulkError : goal.returns-in-BulkError
returns-in-BulkError g c =
    sym (first_mark_of_shape _ (shape_of_equal _ c.in-BulkError.is (rolls-BulkError _)))

pub returns-in-Verbatim : goal.returns-in-Verbatim
returns-in-Verbatim g c =
    sym (first_mark_of_shape _ (shape_of_equal _ c.in-Verbatim.is (rolls-Verbatim _)))

pub returns-in-Map : goal.returns-in-Map
returns-in-Map g c = sym (first_mark_of_shape _ (shape_of_equal _ c.in-Map.is (rolls-Map _)))

pub returns-in-Set : goal.returns-in-Set
returns-in-Set g c = sym (first_mark_of_shape _ (shape_of_equal _ c.in-Set.is (rolls-Set _)))

pub returns-in-Push : goal.returns-in-Push
returns-in-Push g c = sym (first_mark_of_shape _ (shape_of_equal _ c.in-Push.is (rolls-Push _)))

pub returns-in-Attributed : goal.returns-in-Attributed
returns-in-Attributed g c =
    sym (first_mark_of_shape _ (shape_of_equal _ c.in-Attributed.is (rolls-Attributed _)))
