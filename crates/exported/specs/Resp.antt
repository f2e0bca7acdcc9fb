-- Results for replies.
use Rattle.std.specs.Prelude.{◌≡◌, ◌<◌, ◌+◌, ◌⊎◌, ◌↔◌, Bool, true, false, ℕ, ℤ, pos, List, ◌++◌}
use Rattle.std.specs.Prelude.{length, zero, suc}
use Rattle.std.specs.Borrow.{Bor}
use Rattle.std.specs.declared.alloc.Global.{Global}
use Rattle.format_resp.specs.Bounded.{IsRejectedWithin, IsWantingWithin}
use Rattle.format_resp.specs.Parts.{IsBehindFeed}
use Rattle.format_resp.specs.Resp.{Replies, ReplyText, UnrolledReply, line_end}
use Rattle.format_resp.specs.declared.extent.Reason.{Reason}
use Rattle.format_resp.specs.declared.extent.Reason.TheVariants.{Malformed, TooDeep, TooLarge}
use Rattle.format_resp.specs.declared.nodes.NodesSize.{NodesSize}
use Rattle.format_resp.specs.declared.reply.Protocol.{Protocol}
use Rattle.format_resp.specs.declared.reply.Protocol.TheVariants.{Resp2, Resp3}
use Rattle.format_resp.specs.declared.reply.Reply.{out-Reply}
use Rattle.format_resp.specs.declared.reply.Reply.TheOpen.{Reply-F}
use Rattle.winnow.specs.InTurn.{First}
use Rattle.winnow.specs.Texts.{EachText}
use Rattle.exported.specs.Code.{done, incomplete, invalid, max_depth_too_large, no_memory}
use Rattle.exported.specs.Code.{out_of_range, supported_depth, too_deep}
use Rattle.exported.specs.Span.{StandsAt, nowhere}
use Rattle.exported.specs.declared.resp.RespValue.{RespValue}
use Rattle.exported.specs.declared.resp.nodes.RespNodesSize.{RespNodesSize}

-- A reply whose bytes are slices.
abbrev pub Found : Type 0
Found = Replies Global

-- the version of the protocol: 3 stands for RESP3, another number for RESP2
abbrev pub protocol_of : ℕ → Protocol
protocol_of (suc (suc (suc zero))) = Resp3
protocol_of number = Resp2

-- `IsReply protocol level input reply rest`: `input` starts with `reply`, whose aggregates are
-- nested at most `level` deep, followed by `rest`.
abbrev pub IsReply : Protocol → ℕ → List ℕ → Found → List ℕ → Type 0
IsReply protocol level input reply rest = First (ReplyText protocol level) input reply rest

-- The bytes begin with no reply.
abbrev pub NoReply : Protocol → ℕ → List ℕ → Type 0
NoReply protocol level input =
    (reply : Found) (rest : List ℕ) → IsReply protocol level input reply rest → ⊥

-- No continuation of the bytes begins with one. The part at the offset is rejected, for this
-- reason.
abbrev pub Rejects : Protocol → ℕ → List ℕ → Reason → ℕ → Type 0
Rejects protocol level input reason offset =
    ((more : List ℕ) → NoReply protocol level (input ++ more))
    × IsRejectedWithin protocol level input (record { reason = reason; offset = offset })

-- The bytes begin with none, but a part of one at their end is incomplete.
abbrev pub IsIncomplete : Protocol → ℕ → List ℕ → Type 0
IsIncomplete protocol level input =
    NoReply protocol level input × IsWantingWithin protocol level input

-- the reply of nothing, with the offset of an error
abbrev pub no_reply : ℕ → RespValue
no_reply offset = record {
  kind = 0;
  number = pos 0;
  elements = 0;
  span = nowhere;
  length = 0;
  error_offset = offset;
}

-- `HasFields it kind number elements`: `it` has this kind, this number, and this number of
-- elements.
pub record HasFields (it : RespValue) (kind : ℕ) (number : ℤ) (elements : ℕ) : Type 0 where
  pub is_kind : it.kind ≡ kind
  pub is_number : it.number ≡ number
  pub count : it.elements ≡ elements

-- It has only a number.
abbrev pub HasNumber : ℕ → ℤ → RespValue → Type 0
HasNumber kind number it = HasFields it kind number 0 × (it.span ≡ nowhere)

-- `HasText kind input rest text it`: `it` has the text `text`, followed by a line ending and
-- `rest`, and neither a number nor elements.
abbrev pub HasText : ℕ → List ℕ → List ℕ → List ℕ → RespValue → Type 0
HasText kind input rest text it =
    HasFields it kind (pos 0) 0 × StandsAt input it.span text (line_end ++ rest)

-- `HasList protocol level kind input rest elements it`: the span in `it` holds the encodings of
-- `elements`. It follows the first line of the reply, and is followed by `rest`.
pub record HasList (protocol : Protocol) (level kind : ℕ) (input rest : List ℕ)
    (elements : List Found) (it : RespValue) : Type 0 where
  pub fields : HasFields it kind (pos 0) (length elements)
  pub inner : ℕ
  pub deeper : level ≡ suc inner
  pub bytes : List ℕ
  pub are : EachText (ReplyText protocol inner) elements bytes
  pub behind_line : IsBehindFeed input (bytes ++ rest)
  pub stand : StandsAt input it.span bytes rest

-- the number of a boolean
abbrev pub number_of : Bool → ℤ
number_of true = pos 1
number_of false = pos 0

-- `IsShownBy protocol level input rest opened it`: `it` describes a reply of `input` that is
-- followed by `rest`, by the kind of the reply.
abbrev pub IsShownBy : Protocol → ℕ → List ℕ → List ℕ → UnrolledReply Global → RespValue → Type 0
IsShownBy p level input rest (Reply-F.Simple text) it = HasText 0 input rest text.now it
IsShownBy p level input rest (Reply-F.Error text) it = HasText 1 input rest text.now it
IsShownBy p level input rest (Reply-F.Integer number) it = HasNumber 2 number it
IsShownBy p level input rest (Reply-F.Bulk text) it = HasText 3 input rest text.now it
IsShownBy p level input rest Reply-F.NullBulk it = HasNumber 4 (pos 0) it
IsShownBy p level input rest (Reply-F.Array list) it = HasList p level 5 input rest list.items it
IsShownBy p level input rest Reply-F.NullArray it = HasNumber 6 (pos 0) it
IsShownBy p level input rest Reply-F.Null it = HasNumber 7 (pos 0) it
IsShownBy p level input rest (Reply-F.Boolean boolean) it = HasNumber 8 (number_of boolean) it
IsShownBy p level input rest (Reply-F.Double text) it = HasText 9 input rest text.now it
IsShownBy p level input rest (Reply-F.BigNumber text) it = HasText 10 input rest text.now it
IsShownBy p level input rest (Reply-F.BulkError text) it = HasText 11 input rest text.now it
IsShownBy p level input rest (Reply-F.Verbatim text) it = HasText 12 input rest text.now it
IsShownBy p level input rest (Reply-F.Map list) it = HasList p level 13 input rest list.items it
IsShownBy p level input rest (Reply-F.Set list) it = HasList p level 14 input rest list.items it
IsShownBy p level input rest (Reply-F.Push list) it = HasList p level 15 input rest list.items it
IsShownBy p level input rest (Reply-F.Attributed list) it =
    HasList p level 16 input rest list.items it

abbrev pub IsShown : Protocol → ℕ → List ℕ → List ℕ → Found → RespValue → Type 0
IsShown protocol level input rest reply it =
    IsShownBy protocol level input rest (out-Reply (Bor (List ℕ)) Global reply) it

-- `ShowsReply protocol level input it`: `input` begins with a reply that `it` describes, for any
-- continuation.
pub record ShowsReply (protocol : Protocol) (level : ℕ) (input : List ℕ) (it : RespValue)
    : Type 0 where
  pub reply : Found
  pub rest : List ℕ
  pub is_reply : (more : List ℕ) → IsReply protocol level (input ++ more) reply (rest ++ more)
  pub is_shown : IsShown protocol level input rest reply it
  pub ends : it.length + length rest ≡ length input
  pub no_error : it.error_offset ≡ 0

-- no nodes, and the offset of an error
abbrev pub no_nodes : ℕ → RespNodesSize
no_nodes offset = record { count = 0; length = 0; error_offset = offset }

-- the size of a reply as nodes
abbrev pub size_of : RespNodesSize → NodesSize
size_of it = record { count = it.count; length = it.length }

-- the codes of reasons
abbrev pub IsCodeOf : Reason → ℕ → Type 0
IsCodeOf Malformed code = code ≡ invalid
IsCodeOf TooLarge code = code ≡ out_of_range
IsCodeOf TooDeep code = code ≡ too_deep

-- `TellsReply protocol level input code it`: the result by `code`.
pub record TellsReply (protocol : Protocol) (level : ℕ) (input : List ℕ) (code : ℕ) (it : RespValue)
    : Type 0 where
  pub reply : code ≡ done → ShowsReply protocol level input it
  pub rejected : (reason : Reason) → IsCodeOf reason code
      → Rejects protocol level input reason it.error_offset
  pub waits : code ≡ incomplete → IsIncomplete protocol level input × (it ≡ no_reply 0)
  pub deep : (code ≡ max_depth_too_large) ↔ (supported_depth < level)
  pub none : (code ≡ done → ⊥) → it ≡ no_reply it.error_offset
  pub nowhere : (code ≡ max_depth_too_large) ⊎ (code ≡ no_memory) → it.error_offset ≡ 0
  pub codes : (code ≡ done) ⊎ ((code ≡ invalid) ⊎ ((code ≡ out_of_range) ⊎ ((code ≡ too_deep)
      ⊎ ((code ≡ max_depth_too_large) ⊎ ((code ≡ incomplete) ⊎ (code ≡ no_memory))))))
