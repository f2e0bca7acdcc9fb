-- The kinds and the shapes of constructed replies.
use Rattle.std.specs.Prelude.{◌≡◌, ℕ, List}
use Rattle.std.specs.Borrow.{Bor}
use Rattle.std.specs.declared.vec.Vec.{Vec}
use Rattle.std.proofs.Common.{ap, sym, ◌∙◌, refl}
use Rattle.format_resp.specs.Resp.{Bytes, Content, Form, Items, LineContents, UnrolledReply}
use Rattle.format_resp.specs.Resp.{Replies, first_mark, gathered, shape, shape_of, MayBeNull}
use Rattle.format_resp.specs.Resp.{Nothing}
use Rattle.format_resp.specs.declared.reply.Reply as made
use Rattle.format_resp.specs.declared.reply.Reply.{roll-Reply}
use Rattle.format_resp.specs.declared.reply.Reply.TheViews.{out-roll-Reply, rolls-Array}
use Rattle.format_resp.specs.declared.reply.Reply.TheViews.{rolls-Attributed, rolls-Bulk}
use Rattle.format_resp.specs.declared.reply.Reply.TheViews.{rolls-BulkError, rolls-Map}
use Rattle.format_resp.specs.declared.reply.Reply.TheViews.{rolls-NullArray, rolls-NullBulk}
use Rattle.format_resp.specs.declared.reply.Reply.TheViews.{rolls-Push, rolls-Set, rolls-Verbatim}
use Rattle.format_resp.specs.declared.marks.AggregateMark.{AggregateMark}
use Rattle.format_resp.specs.declared.marks.AggregateMark.TheVariants.{Bar, Greater, Percent, Star}
use Rattle.format_resp.specs.declared.marks.AggregateMark.TheVariants.{Tilde}
use Rattle.format_resp.specs.declared.marks.DataMark.{DataMark}
use Rattle.format_resp.specs.declared.marks.DataMark.TheVariants.{Dollar, Equals, Exclamation}
use Rattle.format_resp.specs.declared.marks.LineMark.{LineMark}
use Rattle.format_resp.specs.declared.marks.LineMark.TheVariants.{Colon, Hash, Underscore}
use Rattle.format_resp.specs.declared.marks.Mark.{Mark}
use Rattle.format_resp.specs.declared.marks.Mark.TheVariants.{Aggregate, Data, Line}

module _ {A : Type 0} where
  -- the shape of a reply that is equal to a constructed one
  pub shape_of_equal : (kind : UnrolledReply A) {reply form : Replies A} → reply ≡ form
      → roll-Reply (Bor (List ℕ)) A kind ≡ form → shape_of reply ≡ shape kind
  shape_of_equal kind is rolls =
      ap shape_of (is ∙ sym rolls) ∙ ap shape (out-roll-Reply (Bor (List ℕ)) A kind)

  pub shape_of_gathered : (mark : AggregateMark) (list : Vec (Replies A) A) {reply : Replies A}
      → reply ≡ gathered mark list → shape_of reply ≡ (Aggregate mark, Items list)
  shape_of_gathered Star list is = shape_of_equal _ is (rolls-Array list)
  shape_of_gathered Percent list is = shape_of_equal _ is (rolls-Map list)
  shape_of_gathered Tilde list is = shape_of_equal _ is (rolls-Set list)
  shape_of_gathered Greater list is = shape_of_equal _ is (rolls-Push list)
  shape_of_gathered Bar list is = shape_of_equal _ is (rolls-Attributed list)

  pub reply_of_string : (mark : DataMark) (bytes : Bor (List ℕ))
      → (reply : Replies A) × (shape_of reply ≡ (Data mark, Bytes bytes))
  reply_of_string Dollar bytes = (made.Bulk bytes, shape_of_equal _ refl (rolls-Bulk bytes))
  reply_of_string Exclamation bytes =
      (made.BulkError bytes, shape_of_equal _ refl (rolls-BulkError bytes))
  reply_of_string Equals bytes = (made.Verbatim bytes, shape_of_equal _ refl (rolls-Verbatim bytes))

  pub reply_of_null : (mark : Mark) → MayBeNull mark
      → (reply : Replies A) × (shape_of reply ≡ (mark, Nothing))
  reply_of_null (Data Dollar) is = (made.NullBulk, shape_of_equal _ refl rolls-NullBulk)
  reply_of_null (Aggregate Star) is = (made.NullArray, shape_of_equal _ refl rolls-NullArray)
  reply_of_null mark never = absurd never

  -- what encodings begin with
  pub first_mark_of_shape : {mark : Mark} {content : Content A} (reply : Replies A)
      → shape_of reply ≡ (mark, content) → first_mark reply ≡ mark
  first_mark_of_shape reply is = ap (λ (s : Mark × Content A). s.0) is

  pub line_mark : (form : Form) (mark : LineMark) (reply : Replies A) (line : List ℕ)
      → LineContents form mark reply line → first_mark reply ≡ Line mark
  line_mark form Colon reply line (n, is, a) = first_mark_of_shape reply is
  line_mark form Underscore reply line (is, a) = first_mark_of_shape reply is
  line_mark form Hash reply line (b, is, a) = first_mark_of_shape reply is
  line_mark form mark reply line says = let (text, is, a) = says in first_mark_of_shape reply is
