-- Lemmas about the nodes of a reply, by its first line.
use Rattle.std.specs.Prelude.{◌≡◌, ◌≤◌, ◌+◌, ◌-◌, ◌∷◌, ◌++◌, [], ⊤, ℕ, ℤ, List, length, pos}
use Rattle.std.specs.Prelude.{None, Option, Some}
use Rattle.std.specs.Borrow.{Bor}
use Rattle.std.proofs.Common.{◌∙◌, ap, append_assoc, arith, length-append, refl, subst, sym}
use Rattle.std.proofs.lemmas.List.{append-nil}
use Rattle.streams.specs.Equal.{same_first, same_others}
use Rattle.winnow_grammar.specs.InTurn.{First, Led}
use Rattle.format_resp.proofs.FirstBytes.{byte_of_injective}
use Rattle.format_resp.proofs.FirstLines.{LineAt, line_at}
use Rattle.format_resp.proofs.Made.{shape_of_equal, reply_of_null}
use Rattle.format_resp.specs.Heads.{HeadText, HeadLineText, IsHeadAfterSize}
use Rattle.format_resp.specs.Nodes.{IsNode, bytes_node, kind_by, number_node, null_kind}
use Rattle.format_resp.specs.Numbers.{SignedText, SizeLine}
use Rattle.format_resp.specs.Resp.{Any, Body, Bytes, Content, Elements, WithLineEnd, IsInProtocol}
use Rattle.format_resp.specs.Resp.{LineContents, MarkText, Nothing, Number, Replies, ReplyText}
use Rattle.format_resp.specs.Resp.{Shown, SizeText, byte_of, line_end, shape_of, AfterSize}
use Rattle.format_resp.specs.Resp.{MayBeNull}
use Rattle.format_resp.specs.Writing.{IsLineNode, IsSingleNode}
use Rattle.format_resp.specs.declared.heads.Head.{Head}
use Rattle.format_resp.specs.declared.heads.Head.TheVariants as heads
use Rattle.format_resp.specs.declared.marks.AggregateMark.{AggregateMark}
use Rattle.format_resp.specs.declared.marks.AggregateMark.TheVariants.{Star}
use Rattle.format_resp.specs.declared.marks.DataMark.{DataMark}
use Rattle.format_resp.specs.declared.marks.DataMark.TheVariants.{Dollar}
use Rattle.format_resp.specs.declared.marks.LineMark.{LineMark}
use Rattle.format_resp.specs.declared.marks.LineMark.TheVariants.{Colon, Hash, Underscore}
use Rattle.format_resp.specs.declared.marks.Mark.{Mark}
use Rattle.format_resp.specs.declared.marks.Mark.TheVariants.{Aggregate, Data, Line}
use Rattle.format_resp.specs.declared.node.RespNode.{RespNode}
use Rattle.format_resp.specs.declared.reply.Protocol.{Protocol}
use Rattle.format_resp.specs.declared.reply.Reply as made
use Rattle.format_resp.specs.declared.reply.Reply.TheViews.{rolls-Integer}

pub bulk_kind : (mark : DataMark) → MayBeNull (Data mark) → 4 ≡ null_kind (Data mark)
bulk_kind Dollar null = refl
bulk_kind mark never = absurd never

pub array_kind : (mark : AggregateMark) → MayBeNull (Aggregate mark)
    → 6 ≡ null_kind (Aggregate mark)
array_kind Star null = refl
array_kind mark never = absurd never

-- a node of a reply of such contents
shaped_node : (mark : Mark) (content : Content ⊤) (reply : Replies ⊤) (from index : ℕ)
    (text : List ℕ) (node : RespNode) → shape_of reply ≡ (mark, content)
    → IsNode mark content from index text node
    → IsNode (shape_of reply).0 (shape_of reply).1 from index text node
shaped_node mark content reply from index text node is =
    subst (λ (s : Mark × Content ⊤). IsNode s.0 s.1 from index text node) (sym is)

module _ (protocol : Protocol) where
  -- a reply, by what follows its mark
  text_by : {A : Type 0} (level : ℕ) (mark : Mark) (reply : Replies A) (body : List ℕ)
      → IsInProtocol protocol mark → Body Any (Elements protocol level) mark reply body
      → ReplyText protocol level reply (byte_of mark ∷ body)
  unfolding Led MarkText
  text_by level mark reply body within is =
      (mark, byte_of mark ∷ [], body, (within, refl), is, refl)

  -- the same for a size, and what follows it
  pub sized_text : {A : Type 0} (level : ℕ) (mark : Mark) (size : Option ℕ) (reply : Replies A)
      (line behind : List ℕ) → IsInProtocol protocol mark → SizeLine size line
      → AfterSize (Elements protocol level) mark size reply behind
      → ReplyText protocol level reply (byte_of mark ∷ ((line ++ line_end) ++ behind))
  unfolding Led SizeText WithLineEnd
  sized_text level (Line mark) None reply line behind within is (never, nothing) = absurd never
  sized_text level (Line mark) (Some n) reply line behind within is never = absurd never
  sized_text level mark size reply line behind within is follows =
      text_by level mark reply ((line ++ line_end) ++ behind) within
      (size, line ++ line_end, behind, (line, is, refl), follows, refl)

  line_text : {A : Type 0} (level : ℕ) (mark : LineMark) (reply : Replies A) (line : List ℕ)
      → IsInProtocol protocol (Line mark) → LineContents Any mark reply line
      → ReplyText protocol level reply (byte_of (Line mark) ∷ (line ++ line_end))
  unfolding WithLineEnd
  line_text level mark reply line within says =
      text_by level (Line mark) reply (line ++ line_end) within (line, says, refl)

  -- a reply with a size that ends with its first line is null
  null_reply : (mark : Mark) (size : Option ℕ) (line : List ℕ) → IsInProtocol protocol mark
      → SizeLine size line → IsHeadAfterSize mark size heads.Ends
      → MayBeNull mark × ((reply : Replies ⊤) × (shape_of reply ≡ (mark, Nothing))
      × ((level : ℕ) → ReplyText protocol level reply (byte_of mark ∷ (line ++ line_end))))
  null_reply mark None line within is (null, e) =
      let (reply, shape_is) = reply_of_null mark null in (
        null,
        (
          reply,
          shape_is,
          λ level. subst (λ l. ReplyText {A = ⊤} protocol level reply (byte_of mark ∷ l))
              (append-nil (line ++ line_end))
              (sized_text level mark None reply line [] within is (null, (shape_is, refl))),
        ),
      )
  null_reply (Line mark) (Some n) line within is never = absurd never
  null_reply (Data mark) (Some n) line within is e = absurd cc
  null_reply (Aggregate mark) (Some n) line within is e = absurd cc

  module _ (size index : ℕ) (bytes rest : List ℕ) (node : RespNode) where
    -- that of a reply of this text
    ended_by : (mark : Mark) (reply : Replies ⊤) (at : LineAt protocol bytes heads.Ends rest)
        → at.mark ≡ mark
        → ((level : ℕ)
        → ReplyText protocol level reply (byte_of mark ∷ (at.line ++ line_end)))
        → IsNode (shape_of reply).0 (shape_of reply).1 (size - length bytes) index
        (byte_of mark ∷ (at.line ++ line_end)) node
        → IsSingleNode protocol size index bytes rest node
    ended_by mark reply at is texts node_is =
        let Q : Mark → Type 0 = λ m. bytes ≡ byte_of m ∷ (at.line ++ (line_end ++ rest)) in record {
          reply = reply;
          text = byte_of mark ∷ (at.line ++ line_end);
          is_reply = texts;
          splits = subst Q is at.splits
              ∙ ap (λ l. byte_of mark ∷ l) (sym (append_assoc at.line line_end rest));
          is_node = node_is;
        }

    pub ended_null : (mark : Mark) → ((of : LineMark) → mark ≡ Line of → ⊥)
        → (MayBeNull mark → node ≡ number_node (null_kind mark) (pos 0) (index + 1))
        → (at : LineAt protocol bytes heads.Ends rest) → at.mark ≡ mark
        → IsSingleNode protocol size index bytes rest node
    ended_null (Line mark) sized node_is at is = absurd (sized mark refl)
    ended_null mark sized node_is at is =
        let P : Mark → Type 0 = λ m. HeadLineText m heads.Ends at.line in
        let (given, sizes, after, small) = subst P is at.says in
        let (null, (reply, shape_is, texts)) =
        null_reply mark given at.line (subst (IsInProtocol protocol) is at.within) sizes after in
        ended_by mark reply at is texts
        (shaped_node mark Nothing reply (size - length bytes) index
        (byte_of mark ∷ (at.line ++ line_end)) node shape_is (node_is null))

    pub ended_line : (mark : LineMark) (start : ℕ) → start + length bytes ≡ size + 1
        → length bytes ≤ size → (at : LineAt protocol bytes heads.Ends rest) → at.mark ≡ Line mark
        → ((reply : Replies ⊤) → LineContents Any mark reply at.line
        → IsLineNode mark at.line start index node)
        → IsSingleNode protocol size index bytes rest node
    ended_line mark start begins room at is node_of =
        let P : Mark → Type 0 = λ m. HeadLineText m heads.Ends at.line in
        let (same, (other, says_other)) = subst P is at.says in
        let (reply, says, node_is) = node_of other says_other in
        ended_by (Line mark) reply at is (λ level. line_text level mark reply at.line
        (subst (IsInProtocol protocol) is at.within) says)
        (node_is (size - length bytes) (byte_of (Line mark) ∷ (at.line ++ line_end))
        (omega (arith, begins, room, length-append at.line line_end)))

-- ---- replies of one line

module _ (line : List ℕ) (start index : ℕ) (node : RespNode) where
  pub number_line : (n m : ℤ) → SignedText n line → m ≡ n → node ≡ number_node 2 m (index + 1)
      → IsLineNode Colon line start index node
  number_line n m is same e =
      let shape_is = shape_of_equal _ refl (rolls-Integer n) in (
        made.Integer n,
        (n, shape_is, is),
        λ from text long.
            shaped_node (Line Colon) (Number n) (made.Integer n) from index text node shape_is
            (e ∙ ap (λ k. number_node 2 k (index + 1)) same),
      )

  text_node : (mark : LineMark) (text : Bor (List ℕ)) (reply : Replies ⊤)
      → shape_of reply ≡ (Line mark, Bytes text) → text.now ≡ line
      → node ≡ bytes_node (kind_by (Line mark)) 0 start (start + length line) (index + 1)
      → (from : ℕ) (whole : List ℕ) → start + (length line + 2) ≡ from + length whole
      → IsNode (shape_of reply).0 (shape_of reply).1 from index whole node
  text_node mark text reply is shows e from whole long =
      let same : length line ≡ length text.now = ap (λ l. length l) (sym shows) in
      shaped_node (Line mark) (Bytes text) reply from index whole node is (
        start,
        ap (λ n. start + (n + 2)) (sym same) ∙ long,
        e ∙ ap (λ n. bytes_node (kind_by (Line mark)) 0 start (start + n) (index + 1)) same,
      )

  -- a line that is the text of the reply
  pub text_line : (mark : LineMark) (reply : Replies ⊤) → (mark ≡ Colon → ⊥)
      → (mark ≡ Underscore → ⊥) → (mark ≡ Hash → ⊥) → LineContents Any mark reply line
      → node ≡ bytes_node (kind_by (Line mark)) 0 start (start + length line) (index + 1)
      → IsLineNode mark line start index node
  unfolding Shown
  text_line Colon reply a b c says e = absurd (a refl)
  text_line Underscore reply a b c says e = absurd (b refl)
  text_line Hash reply a b c says e = absurd (c refl)
  text_line mark reply a b c says e =
      let (text, is, (all, shows)) = says in (reply, says, text_node mark text reply is shows e)

-- ---- bytes that do not start with a first line

module _ (protocol : Protocol) (head : Head) (bytes rest : List ℕ) where
  pub no_bytes : {P : Type 0} → bytes ≡ [] → First (HeadText protocol) bytes head rest → P
  no_bytes e found =
      let at = line_at protocol bytes rest found in
      absurd (omega (arith, ap (λ l. length l) e, ap (λ l. length l) at.splits))

  pub no_mark : {P : Type 0} (byte : ℕ) (text : List ℕ) → bytes ≡ byte ∷ text
      → ((mark : Mark) → byte ≡ byte_of mark → ⊥) → First (HeadText protocol) bytes head rest → P
  no_mark byte text e none found =
      let at = line_at protocol bytes rest found in
      absurd (none at.mark (same_first (sym e ∙ at.splits)))

  -- the mark of the first byte
  pub mark_found : (mark : Mark) (byte : ℕ) (text : List ℕ) → bytes ≡ byte ∷ text
      → byte ≡ byte_of mark → (at : LineAt protocol bytes head rest) → at.mark ≡ mark
  mark_found mark byte text e is at =
      byte_of_injective at.mark mark (same_first (sym at.splits ∙ e) ∙ is)

  -- the line after it
  pub line_found : (byte : ℕ) (text : List ℕ) → bytes ≡ byte ∷ text
      → (at : LineAt protocol bytes head rest) → text ≡ at.line ++ (line_end ++ rest)
  line_found byte text e at = same_others (sym e ∙ at.splits)
