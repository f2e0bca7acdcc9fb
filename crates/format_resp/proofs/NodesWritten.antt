-- Lemmas about the nodes of strings and aggregates, and about nodes in the buffer.
use Rattle.std.specs.Prelude.{◌≡◌, ◌≤◌, ◌<◌, ◌+◌, ◌-◌, ◌^◌, ◌∷◌, ◌++◌, [], ⊤, ℕ, List}
use Rattle.std.specs.Prelude.{length, None, Some, drop, set, suc, take, zero}
use Rattle.std.specs.Borrow.{Bor}
use Rattle.std.proofs.Common.{◌∙◌, ap, append_assoc, arith, length-append, refl, subst, sym}
use Rattle.winnow_grammar.specs.InTurn.{First, Led}
use Rattle.grammars.specs.Texts.{CountedText, EachText}
use Rattle.format_resp.proofs.FirstLines.{line_at, says_all, start_stands}
use Rattle.format_resp.proofs.Made.{reply_of_string, shape_of_gathered}
use Rattle.format_resp.proofs.NodeRows.{same_at}
use Rattle.format_resp.proofs.NodeTexts.{sized_text}
use Rattle.format_resp.proofs.WrittenTexts.{list_exists}
use Rattle.format_resp.specs.Heads.{HeadLineText, HeadText}
use Rattle.format_resp.specs.Nodes.{ContentNodes, EachNodes, HasNodes, IsNode, NodesOf, bytes_node}
use Rattle.format_resp.specs.Nodes.{kind_by, NodesAt}
use Rattle.format_resp.specs.Numbers.{SizeLine}
use Rattle.format_resp.specs.Resp.{Bytes, Content, DataText, ElementsIn, FitsFormat, IsInProtocol}
use Rattle.format_resp.specs.Resp.{Items, MarkText, Nothing, Number, Replies, ReplyText, StringText}
use Rattle.format_resp.specs.Resp.{Truth, WithLineEnd, byte_of, element_count, gathered, has_format}
use Rattle.format_resp.specs.Resp.{line_end, shape_of}
use Rattle.format_resp.specs.Writing.{IsSingleNode, ReplyNodes, RowNodes, WritesNodes, overlay}
use Rattle.format_resp.specs.declared.extent.Bulk.{Bulk}
use Rattle.format_resp.specs.declared.heads.Head.TheVariants as heads
use Rattle.format_resp.specs.declared.marks.AggregateMark.{AggregateMark}
use Rattle.format_resp.specs.declared.marks.DataMark.{DataMark}
use Rattle.format_resp.specs.declared.marks.Mark.{Mark}
use Rattle.format_resp.specs.declared.marks.Mark.TheVariants.{Aggregate, Data, Line}
use Rattle.format_resp.specs.declared.node.RespNode.{RespNode}
use Rattle.format_resp.specs.declared.reply.Protocol.{Protocol}
use Rattle.format_resp.proofs.Overlay.{overlay_all, overlay_before, set_overlay}

-- the kind of the reply that such bytes start with
abbrev pub IsKind : ℕ → List ℕ → Type 0
IsKind kind bytes = (mark : Mark) (text : List ℕ) → bytes ≡ byte_of mark ∷ text
    → kind ≡ kind_by mark

same_node : {kind k elements e end f next g : ℕ} (start : ℕ) → kind ≡ k → elements ≡ e → end ≡ f
    → next ≡ g → bytes_node kind elements start end next ≡ bytes_node k e start f g
same_node start a b c d = cc

-- ---- the marks of strings and of aggregates

-- a first line that a string follows
pub record StringLine (mark : Mark) (line : List ℕ) (bulk : Bulk) : Type 0 where
  pub kind : DataMark
  pub is : mark ≡ Data kind
  pub sizes : SizeLine (Some bulk.size) line
  pub format : has_format kind ≡ bulk.verbatim

string_line : (mark : Mark) (line : List ℕ) (bulk : Bulk) → HeadLineText mark (heads.Data bulk) line
    → StringLine mark line bulk
string_line (Line mark) line bulk (same, other) = absurd cc
string_line (Data mark) line bulk (Some n, a, is, small) =
    let string : Bulk = record { size = n; verbatim = has_format mark } in
    let same : string ≡ bulk = cc in record {
      kind = mark;
      is = refl;
      sizes = subst (λ (b : Bulk). SizeLine (Some b.size) line) same a;
      format = ap (λ (b : Bulk). b.verbatim) same;
    }
string_line (Data mark) line bulk (None, a, (null, is), small) = absurd cc
string_line (Aggregate mark) line bulk (Some n, a, is, small) = absurd cc
string_line (Aggregate mark) line bulk (None, a, (null, is), small) = absurd cc

-- a first line that replies follow
pub record ListLine (mark : Mark) (line : List ℕ) (count : ℕ) : Type 0 where
  pub kind : AggregateMark
  pub size : ℕ
  pub is : mark ≡ Aggregate kind
  pub sizes : SizeLine (Some size) line
  pub counts : element_count kind size ≡ count

list_line : (mark : Mark) (line : List ℕ) (count : ℕ) → HeadLineText mark (heads.Replies count) line
    → ListLine mark line count
list_line (Line mark) line count (same, other) = absurd cc
list_line (Data mark) line count (Some n, a, is, small) = absurd cc
list_line (Data mark) line count (None, a, (null, is), small) = absurd cc
list_line (Aggregate mark) line count (Some n, a, is, small) =
    record { kind = mark; size = n; is = refl; sizes = a; counts = cc }
list_line (Aggregate mark) line count (None, a, (null, is), small) = absurd cc

-- ---- replies without elements

string_size : (bulk : Bulk) (bytes : Bor (List ℕ)) (text : List ℕ) → StringText bulk bytes text
    → (length bytes.now ≡ bulk.size) × (length text ≡ length bytes.now + 2)
unfolding DataText WithLineEnd CountedText
string_size bulk bytes text (fits, (xs, (counts, shows), e)) =
    let same = ap (λ l. length l) shows in (
      omega (arith, counts, same),
      omega (arith, ap (λ l. length l) e, length-append xs line_end, same),
    )

pub string_long : (bulk : Bulk) (string : Bor (List ℕ)) (tokens rest : List ℕ)
    → First (StringText bulk) tokens string rest → bulk.size ≤ length tokens
unfolding First
string_long bulk string tokens rest (text, is, e) =
    let (long, whole) = string_size bulk string text is in
    omega (arith, long, whole, ap (λ l. length l) e, length-append text rest)

module _ (protocol : Protocol) where
  -- its bytes, after the first line
  after_line : (byte : ℕ) (line more left rest : List ℕ) {bytes : List ℕ}
      → bytes ≡ byte ∷ (line ++ (line_end ++ left)) → left ≡ more ++ rest
      → bytes ≡ (byte ∷ ((line ++ line_end) ++ more)) ++ rest
  after_line byte line more left rest e f =
      e ∙ ap (λ l. byte ∷ l) (sym (append_assoc line line_end left)
      ∙ ap (λ l. (line ++ line_end) ++ l) f
      ∙ sym (append_assoc (line ++ line_end) more rest))

  pub string_node : (size index kind start : ℕ) (bulk : Bulk) (bytes left rest : List ℕ)
      (string : Bor (List ℕ)) → start + length left ≡ size → index + length bytes ≤ size
      → IsKind kind bytes → First (HeadText protocol) bytes (heads.Data bulk) left
      → First (StringText bulk) left string rest
      → IsSingleNode protocol size index bytes rest
      (bytes_node kind 0 start (start + bulk.size) (index + 1))
  unfolding First
  string_node size index kind start bulk bytes left rest string begins room kinds head
      (more, is, e) =
      let at = line_at protocol bytes left head in
      let by = string_line at.mark at.line bulk at.says in
      let mark = by.kind in
      let (reply, shape_is) = reply_of_string {A = ⊤} mark string in
      let (fits, text_is) = is in
      let (long, whole) = string_size bulk string more is in
      let P : Mark → Type 0 = λ m. bytes ≡ byte_of m ∷ (at.line ++ (line_end ++ left)) in
      let splits = subst P by.is at.splits in
      let text = byte_of (Data mark) ∷ ((at.line ++ line_end) ++ more) in
      let joins = after_line (byte_of (Data mark)) at.line more left rest splits e in
      let from = size - length bytes in
      let node = bytes_node kind 0 start (start + bulk.size) (index + 1) in
      let Q : Mark × Content ⊤ → Type 0 = λ s. IsNode s.0 s.1 from index text node in record {
        reply = reply;
        text = text;
        is_reply = λ level. sized_text protocol level (Data mark) (Some bulk.size) reply at.line
            more (subst (IsInProtocol protocol) by.is at.within) by.sizes (
              string,
              shape_is,
              (subst (λ b. FitsFormat b string.now) (sym by.format) fits, text_is),
            );
        splits = joins;
        is_node = subst Q (sym shape_is) (
          start,
          omega (
            arith,
            begins,
            room,
            whole,
            ap (λ l. length l) e,
            length-append more rest,
            ap (λ l. length l) joins,
            length-append text rest,
          ),
          same_node start (kinds (Data mark) _ splits) refl
              (ap (λ n. start + n) (sym long)) refl,
        );
      }

  -- a single node at any level
  content_nodes : (inside : List (Replies ⊤) → NodesAt) (mark : Mark) (content : Content ⊤)
      (from index : ℕ) (node : RespNode) (text : List ℕ)
      → IsNode mark content from index text node
      → ContentNodes protocol inside mark content from index (node ∷ []) text
  content_nodes inside mark (Items list) from index node text never = absurd never
  content_nodes inside mark (Bytes b) from index node text is = (node, is, refl)
  content_nodes inside mark (Number n) from index node text is = (node, is, refl)
  content_nodes inside mark (Truth b) from index node text is = (node, is, refl)
  content_nodes inside mark Nothing from index node text is = (node, is, refl)

  single_nodes : (level : ℕ) (reply : Replies ⊤) (from index : ℕ) (node : RespNode)
      (text : List ℕ) → ReplyText protocol level reply text
      → IsNode (shape_of reply).0 (shape_of reply).1 from index text node
      → NodesOf protocol level reply from index (node ∷ []) text
  unfolding NodesOf
  single_nodes zero reply from index node text is single = (
    is,
    content_nodes (λ replies from index nodes text. ⊥) (shape_of reply).0 (shape_of reply).1 from
        index node text single,
  )
  single_nodes (suc level) reply from index node text is single = (
    is,
    content_nodes (EachNodes (NodesOf protocol level)) (shape_of reply).0 (shape_of reply).1 from
        index node text single,
  )

  text_some : (level : ℕ) (reply : Replies ⊤) (text : List ℕ) → ReplyText protocol level reply text
      → 1 ≤ length text
  unfolding Led MarkText
  text_some level reply text (mark, ms, bs, (within, m), body, e) =
      omega (arith, ap (λ l. length l) e, ap (λ l. length l) m, length-append ms bs)

  pub single_writes : (level size index : ℕ) (node : RespNode) {bytes rest : List ℕ}
      {next : ℕ} {old new : List RespNode} → IsSingleNode protocol size index bytes rest node
      → next ≡ index + 1 → new ≡ set old index node
      → WritesNodes (ReplyNodes protocol level) size index bytes rest next old new
  single_writes level size index node {bytes} {old = old} it counts e = record {
    nodes = node ∷ [];
    text = it.text;
    are_nodes = (
      it.reply,
      single_nodes level it.reply (size - length bytes) index node it.text (it.is_reply level)
          it.is_node,
    );
    splits = it.splits;
    counts = omega (arith, counts);
    few = text_some level it.reply it.text (it.is_reply level);
    written = e ∙ set_overlay index node old;
  }

  -- ---- aggregates

  node_text : (level : ℕ) (reply : Replies ⊤) (from index : ℕ) (nodes : List RespNode)
      (text : List ℕ) → NodesOf protocol level reply from index nodes text
      → ReplyText protocol level reply text
  unfolding NodesOf
  node_text zero reply from index nodes text (is, others) = is
  node_text (suc level) reply from index nodes text (is, others) = is

  each_text : (level : ℕ) (replies : List (Replies ⊤)) (from index : ℕ) (nodes : List RespNode)
      (text : List ℕ) → EachNodes (NodesOf protocol level) replies from index nodes text
      → EachText (ReplyText protocol level) replies text
  unfolding EachNodes EachText
  each_text level [] from index nodes text (none, empty) = empty
  each_text level (reply ∷ replies) from index nodes text
      (one, others, first, more, is, row, e, f) = (
        first,
        more,
        node_text level reply from index one first is,
        each_text level replies (from + length first) (index + length one) others more row,
        f,
      )

  list_nodes : (inner from index start count : ℕ) (mark : AggregateMark) (line elements : List ℕ)
      (size : ℕ) (others : List RespNode) (replies : List (Replies ⊤))
      → IsInProtocol protocol (Aggregate mark) → SizeLine (Some size) line
      → element_count mark size ≡ count
      → HeadLineText (Aggregate mark) (heads.Replies count) line → count < 2 ^ 63
      → length replies ≡ count
      → EachNodes (NodesOf protocol inner) replies start (index + 1) others elements
      → (text : List ℕ) → text ≡ byte_of (Aggregate mark) ∷ ((line ++ line_end) ++ elements)
      → start + length elements ≡ from + length text
      → ReplyNodes protocol (suc inner) from index
      (bytes_node (kind_by (Aggregate mark)) count start (from + length text)
      (index + 1 + length others) ∷ others) text
  unfolding NodesOf ElementsIn
  list_nodes inner from index start count mark line elements size others replies within sizes
      counts says small long row text e ends =
      let (list, same) = list_exists {A = ⊤} tt replies (omega (arith, small, long)) in
      let reply = gathered mark list in
      let shape_is = shape_of_gathered mark list refl in
      let items : length list.items ≡ count = ap (λ l. length l) same ∙ long in
      let each = each_text inner replies start (index + 1) others elements row in
      let T : List ℕ → Type 0 = λ l. ReplyText protocol (suc inner) reply l in
      let P : List (Replies ⊤) → Type 0 = λ l. EachText (ReplyText protocol inner) l elements in
      let R : List (Replies ⊤) → Type 0 = λ l.
      EachNodes (NodesOf protocol inner) l start (index + 1) others elements in
      let N : ℕ → Type 0 = λ n. First (HeadText protocol) text (heads.Replies n) elements in
      let node = bytes_node (kind_by (Aggregate mark)) count start (from + length text)
      (index + 1 + length others) in
      let S : Mark × Content ⊤ → Type 0 = λ s.
      ContentNodes protocol (EachNodes (NodesOf protocol inner)) s.0 s.1 from index (node ∷ others)
      text in (
        reply,
        (
          subst T (sym e) (sized_text protocol (suc inner) (Aggregate mark) (Some size) reply line
              elements within sizes
              (list, shape_is, (items ∙ sym counts, subst P (sym same) each))),
          subst S (sym shape_is) (
            elements,
            others,
            start,
            subst N (sym items) (start_stands protocol (Aggregate mark) (heads.Replies count)
                (byte_of (Aggregate mark)) text ((line ++ line_end) ++ elements) line elements
                within refl e (
                  says_all (Aggregate mark) (heads.Replies count) line says,
                  append_assoc line line_end elements,
                ) says),
            ends,
            subst R (sym same) row,
            ap (λ n. bytes_node (kind_by (Aggregate mark)) n start (from + length text)
                (index + 1 + length others) ∷ others) (sym items),
          ),
        ),
      )

  pub list_writes : (inner size index count level kind start end next : ℕ) (bytes : List ℕ)
      {left rest : List ℕ} {old now new : List RespNode} → level ≡ suc inner
      → index + length bytes ≤ size → start + length left ≡ size → end + length rest ≡ size
      → IsKind kind bytes → First (HeadText protocol) bytes (heads.Replies count) left
      → WritesNodes (RowNodes protocol inner count) size (index + 1) left rest next old now
      → new ≡ set now index (bytes_node kind count start end next)
      → WritesNodes (ReplyNodes protocol level) size index bytes rest next old new
  list_writes inner size index count level kind start end next bytes {left} {rest} {old} {now}
      {new} above room begins stops kinds head row e =
      let at = line_at protocol bytes left head in
      let by = list_line at.mark at.line count at.says in
      let mark = by.kind in
      let (replies, long, are) = row.are_nodes in
      let P : Mark → Type 0 = λ m. bytes ≡ byte_of m ∷ (at.line ++ (line_end ++ left)) in
      let Q : Mark → Type 0 = λ m. HeadLineText m (heads.Replies count) at.line in
      let says = subst Q by.is at.says in
      let (given, sizes, counts, small) = says in
      let splits = subst P by.is at.splits in
      let text = byte_of (Aggregate mark) ∷ ((at.line ++ line_end) ++ row.text) in
      let joins = after_line (byte_of (Aggregate mark)) at.line row.text left rest splits
      row.splits in
      let from = size - length bytes in
      let whole = ap (λ l. length l) joins in
      let parts = length-append text rest in
      let split = ap (λ l. length l) row.splits in
      let tail = length-append row.text rest in
      let node = bytes_node (kind_by (Aggregate mark)) count start (from + length text)
      (index + 1 + length row.nodes) in
      let same : bytes_node kind count start end next ≡ node =
      same_node start (kinds (Aggregate mark) _ splits) refl
      (omega (arith, stops, room, whole, parts)) row.counts in
      let after : index + 1 ≡ suc index = omega arith in
      let W : ℕ → Type 0 =
      λ l. WritesNodes (ReplyNodes protocol l) size index bytes rest next old new in
      subst W (sym above) (record {
        nodes = node ∷ row.nodes;
        text = text;
        are_nodes = list_nodes inner from index start count mark at.line row.text by.size row.nodes
            replies (subst (IsInProtocol protocol) by.is at.within) by.sizes by.counts says
            small long
            (same_at (EachNodes (NodesOf protocol inner) replies) (size - length left) (index + 1)
            row.nodes row.text (omega (arith, begins)) refl are) text refl
            (omega (arith, begins, room, whole, parts, split, tail));
        splits = joins;
        counts = row.counts ∙ omega arith;
        few = omega (arith, row.few, length-append (at.line ++ line_end) row.text);
        written = e ∙ ap (λ n. set now index n) same ∙ set_overlay index node now
            ∙ ap (λ l. overlay index (node ∷ []) l) row.written
            ∙ ap (λ n. overlay index (node ∷ []) (overlay n row.nodes old)) after
            ∙ overlay_before index node row.nodes old;
      })

  -- ---- the whole

  pub whole_nodes : (level count size : ℕ) {bytes rest : List ℕ} {old new : List RespNode}
      → size + length rest ≡ length bytes
      → WritesNodes (ReplyNodes protocol level) (length bytes) 0 bytes rest count old new
      → HasNodes protocol level bytes (record { count = count; length = size }) old new
  whole_nodes level count size {bytes} {rest} {old} ends it =
      let (reply, are) = it.are_nodes in
      let split = ap (λ l. length l) it.splits in record {
        reply = reply;
        text = it.text;
        rest = rest;
        nodes = it.nodes;
        are_nodes = same_at (NodesOf protocol level reply) (length bytes - length bytes) 0 it.nodes
            it.text (omega arith) refl are;
        splits = it.splits;
        ends = omega (arith, ends, split, length-append it.text rest);
        counts = it.counts ∙ omega arith;
        written = it.written ∙ overlay_all it.nodes old
            ∙ ap (λ n. take (length old) it.nodes ++ drop n old) (sym (it.counts ∙ omega arith));
      }
