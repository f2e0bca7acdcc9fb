-- The nodes of a reply: its own, then those of the replies in it, in the order of the bytes.
use Rattle.std.specs.Prelude.{◌≡◌, ◌+◌, ◌∷◌, ◌++◌, [], ⊤, ℕ, ℤ, pos, Bool, true, false, List}
use Rattle.std.specs.Prelude.{Option, Result, Err, None, Ok, Some, drop, length, suc, take, zero}
use Rattle.winnow_grammar.specs.InTurn.{First}
use Rattle.format_resp.specs.Heads.{HeadText}
use Rattle.format_resp.specs.Resp.{Bytes, Content, Items, Nothing, Number, Replies, ReplyText}
use Rattle.format_resp.specs.Resp.{Truth, shape_of}
use Rattle.format_resp.specs.declared.extent.Invalid.{Invalid}
use Rattle.format_resp.specs.declared.heads.Head.TheVariants as heads
use Rattle.format_resp.specs.declared.marks.AggregateMark.TheVariants.{Bar, Greater, Percent, Star}
use Rattle.format_resp.specs.declared.marks.AggregateMark.TheVariants.{Tilde}
use Rattle.format_resp.specs.declared.marks.DataMark.TheVariants.{Dollar, Equals, Exclamation}
use Rattle.format_resp.specs.declared.marks.LineMark.TheVariants.{Colon, Comma, Hash, Minus}
use Rattle.format_resp.specs.declared.marks.LineMark.TheVariants.{Parenthesis, Plus, Underscore}
use Rattle.format_resp.specs.declared.marks.Mark.{Mark}
use Rattle.format_resp.specs.declared.marks.Mark.TheVariants.{Aggregate, Data, Line}
use Rattle.format_resp.specs.declared.node.RespNode.{RespNode}
use Rattle.format_resp.specs.declared.nodes.NodesSize.{NodesSize}
use Rattle.format_resp.specs.declared.reply.Protocol.{Protocol}

-- the kind of replies that start with this byte, unless they are null
abbrev pub kind_by : Mark → ℕ
kind_by (Line Plus) = 0
kind_by (Line Minus) = 1
kind_by (Line Colon) = 2
kind_by (Data Dollar) = 3
kind_by (Aggregate Star) = 5
kind_by (Line Underscore) = 7
kind_by (Line Hash) = 8
kind_by (Line Comma) = 9
kind_by (Line Parenthesis) = 10
kind_by (Data Exclamation) = 11
kind_by (Data Equals) = 12
kind_by (Aggregate Percent) = 13
kind_by (Aggregate Tilde) = 14
kind_by (Aggregate Greater) = 15
kind_by (Aggregate Bar) = 16

-- the kind of a null that starts with this byte
abbrev pub null_kind : Mark → ℕ
null_kind (Data Dollar) = 4
null_kind (Aggregate Star) = 6
null_kind mark = kind_by mark

-- the number of a boolean
abbrev pub truth_number : Bool → ℤ
truth_number true = pos 1
truth_number false = pos 0

-- a node that has only a number
abbrev pub number_node : ℕ → ℤ → ℕ → RespNode
number_node kind number next =
    record { kind = kind; number = number; elements = 0; start = 0; end = 0; next = next }

-- a node of bytes, or of elements
abbrev pub bytes_node : ℕ → ℕ → ℕ → ℕ → ℕ → RespNode
bytes_node kind elements start end next = record {
  kind = kind;
  number = pos 0;
  elements = elements;
  start = start;
  end = end;
  next = next;
}

-- `NodesAt`: the nodes of a text that is at the offset `from` of the whole input. The first of them
-- has the index `index`.
abbrev pub NodesAt : Type 1
NodesAt = (from index : ℕ) → List RespNode → List ℕ → Type 0

module _ {A : Type 0} where
  -- the nodes of consecutive replies, by those of each
  unfoldable pub EachNodes : (Replies A → NodesAt) → List (Replies A) → NodesAt
  EachNodes nodes_of [] from index nodes text = (nodes ≡ []) × (text ≡ [])
  EachNodes nodes_of (reply ∷ replies) from index nodes text =
      (one : List RespNode) × (others : List RespNode) × (first : List ℕ) × (more : List ℕ)
      × nodes_of reply from index one first
      × EachNodes nodes_of replies (from + length first) (index + length one) others more
      × (nodes ≡ one ++ others) × (text ≡ first ++ more)

  -- The node of a reply without elements. The bytes of a string, an error, a double or a big number
  -- precede the line ending at the end of the reply.
  abbrev pub IsNode : Mark → Content A → (from index : ℕ) → List ℕ → RespNode → Type 0
  IsNode mark (Bytes bytes) from index text node =
      (start : ℕ) × (start + (length bytes.now + 2) ≡ from + length text)
      × (node ≡ bytes_node (kind_by mark) 0 start (start + length bytes.now) (index + 1))
  IsNode mark (Number n) from index text node = node ≡ number_node (kind_by mark) n (index + 1)
  IsNode mark (Truth b) from index text node =
      node ≡ number_node (kind_by mark) (truth_number b) (index + 1)
  IsNode mark Nothing from index text node = node ≡ number_node (null_kind mark) (pos 0) (index + 1)
  IsNode mark (Items list) from index text node = ⊥

  -- The node of a reply with such contents, and the nodes of its elements. The elements of an
  -- aggregate follow its first line.
  abbrev pub ContentNodes : Protocol → (List (Replies A) → NodesAt) → Mark → Content A → NodesAt
  ContentNodes protocol inside mark (Items list) from index nodes text =
      (elements : List ℕ) × (others : List RespNode) × (start : ℕ)
      × First (HeadText protocol) text (heads.Replies (length list.items)) elements
      × (start + length elements ≡ from + length text)
      × inside list.items start (index + 1) others elements
      × (nodes ≡ bytes_node (kind_by mark) (length list.items) start (from + length text)
      (index + 1 + length others) ∷ others)
  ContentNodes protocol inside mark content from index nodes text =
      (node : RespNode) × IsNode mark content from index text node × (nodes ≡ node ∷ [])

  -- The text is an encoding of the reply, whose aggregates are nested at most `level` deep, and
  -- these are its nodes.
  abbrev pub NodesBy : Protocol → ℕ → (List (Replies A) → NodesAt) → Replies A → NodesAt
  NodesBy protocol level inside reply from index nodes text =
      ReplyText protocol level reply text
      × ContentNodes protocol inside (shape_of reply).0 (shape_of reply).1 from index nodes text

  unfoldable pub NodesOf : Protocol → ℕ → Replies A → NodesAt
  NodesOf protocol zero reply from index nodes text =
      NodesBy protocol zero (λ replies from index nodes text. ⊥) reply from index nodes text
  NodesOf protocol (suc level) reply from index nodes text =
      NodesBy protocol (suc level) (EachNodes (NodesOf protocol level)) reply from index nodes text

-- `HasNodes protocol level input size old new`: `input` starts with a reply, whose aggregates are
-- nested at most `level` deep. It has `size.length` bytes and `size.count` nodes. The buffer `new`
-- is `old` with the nodes from its start on, as many as fit.
pub record HasNodes (protocol : Protocol) (level : ℕ) (input : List ℕ) (size : NodesSize)
    (old new : List RespNode) : Type 0 where
  pub reply : Replies ⊤
  pub text : List ℕ
  pub rest : List ℕ
  pub nodes : List RespNode
  pub are_nodes : NodesOf protocol level reply 0 0 nodes text
  pub splits : input ≡ text ++ rest
  pub ends : size.length ≡ length text
  pub counts : size.count ≡ length nodes
  pub written : new ≡ take (length old) nodes ++ drop size.count old

-- the length of the reply, without the number of its nodes
abbrev pub length_in : Result (Option NodesSize) Invalid → Result (Option ℕ) Invalid
length_in (Ok (Some size)) = Ok (Some size.length)
length_in (Ok None) = Ok None
length_in (Err invalid) = Err invalid
