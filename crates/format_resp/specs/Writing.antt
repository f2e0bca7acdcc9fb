-- How nodes are written into a buffer, in the course of the input.
use Rattle.std.specs.Prelude.{◌++◌, ◌+◌, ◌-◌, ◌∷◌, ◌≡◌, ◌≤◌, [], ⊤, ℕ, List, length, suc, zero}
use Rattle.std.specs.Prelude.{Err, None, Ok, Option, Result, Some}
use Rattle.std.specs.Borrow.{Bor}
use Rattle.format_resp.specs.Nodes.{EachNodes, IsNode, NodesAt, NodesOf}
use Rattle.format_resp.specs.Resp.{Any, LineContents, Replies, ReplyText, shape_of}
use Rattle.format_resp.specs.declared.marks.LineMark.{LineMark}
use Rattle.format_resp.specs.declared.node.RespNode.{RespNode}
use Rattle.format_resp.specs.declared.reply.Protocol.{Protocol}

-- `overlay index nodes old`: `old` with `nodes` written from the index on, as far as they fit.
abbrev pub overlay : ℕ → List RespNode → List RespNode → List RespNode
overlay index nodes [] = []
overlay (suc index) nodes (x ∷ old) = x ∷ overlay index nodes old
overlay zero [] (x ∷ old) = x ∷ old
overlay zero (n ∷ nodes) (x ∷ old) = n ∷ overlay zero nodes old

-- `WritesNodes P size index bytes rest next old new`: `bytes` is the end of an input of `size`
-- bytes. It starts with a text that has nodes by `P`, followed by `rest`. The nodes are written
-- from the index on, and the index after them is `next`.
pub record WritesNodes (P : NodesAt) (size index : ℕ) (bytes rest : List ℕ) (next : ℕ)
    (old new : List RespNode) : Type 0 where
  pub nodes : List RespNode
  pub text : List ℕ
  pub are_nodes : P (size - length bytes) index nodes text
  pub splits : bytes ≡ text ++ rest
  pub counts : next ≡ index + length nodes
  pub few : length nodes ≤ length text
  pub written : new ≡ overlay index nodes old

-- the nodes of a reply
abbrev pub ReplyNodes : Protocol → ℕ → NodesAt
ReplyNodes protocol level from index nodes text =
    (reply : Replies ⊤) × NodesOf protocol level reply from index nodes text

-- the nodes of `n` consecutive replies
abbrev pub RowNodes : Protocol → ℕ → ℕ → NodesAt
RowNodes protocol level n from index nodes text =
    (replies : List (Replies ⊤)) × (length replies ≡ n)
    × EachNodes (NodesOf protocol level) replies from index nodes text

-- If there is a rest, nodes are written up to it.
abbrev pub WritesUpTo : {E : Type 0} → NodesAt → ℕ → ℕ → List ℕ
    → Result (Option (Bor (List ℕ))) E → ℕ → (old new : List RespNode) → Type 0
WritesUpTo P size index bytes (Ok (Some rest)) next old new =
    WritesNodes P size index bytes rest.now next old new
WritesUpTo P size index bytes (Ok None) next old new = ⊤
WritesUpTo P size index bytes (Err stop) next old new = ⊤

-- The node of a reply that consists of one line, whose contents are at `start`.
abbrev pub IsLineNode : LineMark → List ℕ → (start index : ℕ) → RespNode → Type 0
IsLineNode mark line start index node =
    (reply : Replies ⊤) × LineContents Any mark reply line
    × ((from : ℕ) (text : List ℕ) → start + (length line + 2) ≡ from + length text
    → IsNode (shape_of reply).0 (shape_of reply).1 from index text node)

-- The node of the reply at the start of `bytes`, which are the end of an input of `size` bytes. The
-- reply has no elements, and is followed by `rest`.
pub record IsSingleNode (protocol : Protocol) (size index : ℕ) (bytes rest : List ℕ)
    (node : RespNode) : Type 0 where
  pub reply : Replies ⊤
  pub text : List ℕ
  pub is_reply : (level : ℕ) → ReplyText protocol level reply text
  pub splits : bytes ≡ text ++ rest
  pub is_node : IsNode (shape_of reply).0 (shape_of reply).1 (size - length bytes) index text node
