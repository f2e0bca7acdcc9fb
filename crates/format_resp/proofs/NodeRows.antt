-- Lemmas about the nodes of consecutive replies, which are written one after another.
use Rattle.std.specs.Prelude.{◌≡◌, ◌≤◌, ◌+◌, ◌-◌, ◌∷◌, ◌++◌, [], ℕ, List, length}
use Rattle.std.proofs.Common.{◌∙◌, ap, append_assoc, arith, length-append, refl, subst, sym}
use Rattle.std.proofs.lemmas.List.{append-nil}
use Rattle.format_resp.proofs.Overlay.{overlay_none, overlay_then}
use Rattle.format_resp.specs.Nodes.{EachNodes, NodesAt, NodesOf}
use Rattle.format_resp.specs.Resp.{Replies}
use Rattle.format_resp.specs.Writing.{ReplyNodes, RowNodes, WritesNodes, overlay}
use Rattle.format_resp.specs.declared.node.RespNode.{RespNode}
use Rattle.format_resp.specs.declared.reply.Protocol.{Protocol}

-- nodes at an equal offset and index
pub same_at : (P : NodesAt) (from index : ℕ) {to other : ℕ} (nodes : List RespNode)
    (text : List ℕ) → from ≡ to → index ≡ other → P from index nodes text → P to other nodes text
same_at P from index {to} {other} nodes text e f x =
    let Q : ℕ → Type 0 = λ n. P n index nodes text in
    let R : ℕ → Type 0 = λ n. P to n nodes text in
    subst R f (subst Q e x)

module _ {A : Type 0} (nodes_of : Replies A → NodesAt) where
  each_more : (replies : List (Replies A)) (reply : Replies A) (from index : ℕ)
      (nodes one : List RespNode) (text first : List ℕ)
      → EachNodes nodes_of replies from index nodes text
      → nodes_of reply (from + length text) (index + length nodes) one first
      → EachNodes nodes_of (replies ++ reply ∷ []) from index (nodes ++ one) (text ++ first)
  unfolding EachNodes
  each_more [] reply from index nodes one text first (none, empty) is = (
    one,
    [],
    first,
    [],
    same_at (nodes_of reply) (from + length text) (index + length nodes) one first
        (omega (arith, ap (λ l. length l) empty)) (omega (arith, ap (λ l. length l) none)) is,
    (refl, refl),
    ap (λ l. l ++ one) none ∙ sym (append-nil one),
    ap (λ l. l ++ first) empty ∙ sym (append-nil first),
  )
  each_more (next ∷ replies) reply from index nodes one text first
      (head, others, front, more, here, row, e, f) is =
      let at = from + length front in
      let i = index + length head in (
        head,
        others ++ one,
        front,
        more ++ first,
        here,
        each_more replies reply at i others one more first row
            (same_at (nodes_of reply) (from + length text) (index + length nodes) one first
            (omega (arith, ap (λ l. length l) f, length-append front more))
            (omega (arith, ap (λ l. length l) e, length-append head others)) is),
        ap (λ l. l ++ one) e ∙ append_assoc head others one,
        ap (λ l. l ++ first) f ∙ append_assoc front more first,
      )

module _ (protocol : Protocol) (level size index : ℕ) {bytes : List ℕ} {old : List RespNode} where
  pub row_none : WritesNodes (RowNodes protocol level 0) size index bytes bytes index old old
  unfolding EachNodes
  row_none = record {
    nodes = [];
    text = [];
    are_nodes = ([], refl, (refl, refl));
    splits = refl;
    counts = omega arith;
    few = omega arith;
    written = sym (overlay_none index old);
  }

  pub row_more : {k mid next : ℕ} {between rest : List ℕ} {now new : List RespNode}
      → index + length bytes ≤ size
      → WritesNodes (RowNodes protocol level k) size index bytes between mid old now
      → WritesNodes (ReplyNodes protocol level) size mid between rest next now new
      → WritesNodes (RowNodes protocol level (k + 1)) size index bytes rest next old new
  row_more {k} {mid} {next} {between} {rest} room row one =
      let (replies, count, are) = row.are_nodes in
      let (reply, is) = one.are_nodes in
      let split = ap (λ l. length l) row.splits in
      let long = length-append row.text between in
      record {
        nodes = row.nodes ++ one.nodes;
        text = row.text ++ one.text;
        are_nodes = (
          replies ++ reply ∷ [],
          length-append replies (reply ∷ []) ∙ omega (arith, count),
          each_more (NodesOf protocol level) replies reply (size - length bytes) index row.nodes
              one.nodes row.text one.text are
              (same_at (NodesOf protocol level reply) (size - length between) mid one.nodes one.text
              (omega (arith, split, long, room)) row.counts is),
        );
        splits = row.splits ∙ ap (λ l. row.text ++ l) one.splits
            ∙ sym (append_assoc row.text one.text rest);
        counts = omega (arith, row.counts, one.counts, length-append row.nodes one.nodes);
        few = omega (
          arith,
          row.few,
          one.few,
          length-append row.nodes one.nodes,
          length-append row.text one.text,
        );
        written = one.written ∙ ap (λ l. overlay mid one.nodes l) row.written
            ∙ overlay_then index mid row.nodes one.nodes old row.counts;
      }

-- a node for each byte of the rest would not exceed the size
pub writes_room : {P : NodesAt} (size index : ℕ) {bytes rest : List ℕ} {next : ℕ}
    {old new : List RespNode} → index + length bytes ≤ size
    → WritesNodes P size index bytes rest next old new → next + length rest ≤ size
writes_room size index {rest = rest} room it = omega (
  arith,
  room,
  it.counts,
  it.few,
  ap (λ l. length l) it.splits,
  length-append it.text rest,
)
