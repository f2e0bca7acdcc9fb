-- Lemmas that reading a written reply returns an equivalent one.
use Rattle.std.specs.Prelude.{◌≡◌, ◌<◌, ◌≤◌, ◌^◌, ℕ, suc, List, [], ◌∷◌, ◌++◌, length}
use Rattle.std.specs.Borrow.{Bor}
use Rattle.std.specs.Fmt.{decimal}
use Rattle.std.specs.declared.vec.Vec.{Vec}
use Rattle.std.proofs.Common.{refl, sym, ap, subst, ◌∙◌, arith, length-append}
use Rattle.winnow_grammar.specs.InTurn.{First}
use Rattle.grammars.specs.Texts.{EachText, Text}
use Rattle.format_resp.proofs.AlikeReplies.{replies_alike}
use Rattle.format_resp.proofs.Made.{first_mark_of_shape, shape_of_equal}
use Rattle.format_resp.proofs.WrittenTexts.{aggregate_text, data_text, list_exists, written_text}
use Rattle.format_resp.specs.Alike.{AreAlike, AreAlikeBy, HoldAlike, IsCommand}
use Rattle.format_resp.specs.Resp.{Bytes, Content, ElementsIn, IsInProtocol, Items, Replies}
use Rattle.format_resp.specs.Resp.{ReplyText, WrittenText, first_mark, line_end, shape_of}
use Rattle.format_resp.specs.Written.{Appends, bulk_of, bulks_of, command_of, marked}
use Rattle.format_resp.specs.declared.marks.AggregateMark.TheVariants.{Star}
use Rattle.format_resp.specs.declared.marks.DataMark.TheVariants.{Dollar}
use Rattle.format_resp.specs.declared.marks.Mark.{Mark}
use Rattle.format_resp.specs.declared.marks.Mark.TheVariants.{Aggregate, Data}
use Rattle.format_resp.specs.declared.reply.Protocol.{Protocol}
use Rattle.format_resp.specs.declared.reply.Protocol.TheVariants.{Resp2}
use Rattle.format_resp.specs.declared.reply.Reply as made
use Rattle.format_resp.specs.declared.reply.Reply.TheViews.{rolls-Array, rolls-Bulk}
use Rattle.grammars.specs.Pairwise.{ArePairwise}

module _ {A : Type 0} (protocol : Protocol) (level : ℕ) where
  -- two replies at the start of the same tokens are equivalent, and their rests are equal
  pub one_reply : (written read : Replies A) (tokens more rest : List ℕ)
      → First (ReplyText protocol level) tokens written more
      → First (ReplyText protocol level) tokens read rest
      → AreAlike level written read × (rest ≡ more)
  one_reply written read tokens more rest a b =
      let (alike, left) = replies_alike protocol level written read tokens more rest a b in
      (alike, sym left)

  pub written_back : (written read : Replies A) (text more rest : List ℕ)
      → ReplyText protocol level written text
      → First (ReplyText protocol level) (text ++ more) read rest
      → AreAlike level written read × (rest ≡ more)
  unfolding First
  written_back written read text more rest a b =
      one_reply written read (text ++ more) more rest (text, a, refl) b

-- what is put after nothing, with more after it
pub put_first : {O : Type 0} (text : Text ℕ O) {o : O} {before between after bytes : List ℕ}
    (more : List ℕ) → before ≡ [] → Appends text o before between → after ≡ between ++ more
    → bytes ≡ after → First text bytes o more
unfolding First
put_first text more none added e same = (
  added.tokens,
  added.is,
  same ∙ e
      ∙ ap (λ l. l ++ more) (added.behind ∙ ap (λ l. l ++ added.tokens) none),
)

-- ---- commands

-- bulk strings of these bytes
abbrev bulk_replies : {A : Type 0} → List (Bor (List ℕ)) → List (Replies A)
bulk_replies [] = []
bulk_replies (part ∷ parts) = made.Bulk part ∷ bulk_replies parts

as_many : (A : Type 0) (parts : List (Bor (List ℕ)))
    → length (bulk_replies {A = A} parts) ≡ length parts
as_many A [] = refl
as_many A (part ∷ parts) = ap suc (as_many A parts)

-- a bulk string has more bytes than it holds
longer : (bytes : List ℕ) → length bytes < length (bulk_of bytes)
longer bytes =
    omega (
      arith,
      length-append (marked 36 (decimal (length bytes))) (bytes ++ line_end),
      length-append bytes line_end,
    )

few_parts : (parts : List (Bor (List ℕ))) → length parts ≤ length (bulks_of parts)
few_parts [] = omega arith
few_parts (part ∷ parts) =
    omega (
      arith,
      few_parts parts,
      longer part.now,
      length-append (bulk_of part.now) (bulks_of parts),
    )

bulks_row : (A : Type 0) (parts : List (Bor (List ℕ))) → length (bulks_of parts) < 2 ^ 63
    → EachText (WrittenText {A = A} Resp2 0) (bulk_replies parts) (bulks_of parts)
unfolding EachText
bulks_row A [] small = refl
bulks_row A (part ∷ parts) small =
    let long = length-append (bulk_of part.now) (bulks_of parts) in
    let bulk : Replies A = made.Bulk part in
    let is : shape_of bulk ≡ (Data Dollar, Bytes part) =
    shape_of_equal _ refl (rolls-Bulk part) in (
      bulk_of part.now,
      bulks_of parts,
      data_text Resp2 0 bulk Dollar part is tt (omega (arith, small, long, longer part.now))
          (subst (IsInProtocol Resp2) (sym (first_mark_of_shape _ is)) tt),
      bulks_row A parts (omega (arith, small, long)),
      refl,
    )

command_text : {A : Type 0} (parts : List (Bor (List ℕ))) (list : Vec (Replies A) A)
    → list.items ≡ bulk_replies parts → length (bulks_of parts) < 2 ^ 63
    → ReplyText Resp2 1 (made.Array list) (command_of parts)
unfolding ElementsIn
command_text {A} parts list are small =
    let many : length list.items ≡ length parts = ap (λ l. length l) are ∙ as_many A parts in
    let is : shape_of (made.Array list) ≡ (Aggregate Star, Items list) =
    shape_of_equal _ refl (rolls-Array list) in
    written_text Resp2 1 (made.Array list) (command_of parts)
    (aggregate_text Resp2 1 (made.Array list) Star (length parts) list (bulks_of parts) is many
    (rw are (bulks_row A parts small))
    (subst (IsInProtocol Resp2) (sym (first_mark_of_shape _ is)) tt))

-- an array is at the start of the bytes if a command was appended to an empty buffer
pub command_first : {A : Type 0} (alloc : A) (parts : List (Bor (List ℕ)))
    {before between after bytes : List ℕ} (more : List ℕ) → before ≡ []
    → between ≡ before ++ command_of parts → length between < 2 ^ 63
    → after ≡ between ++ more → bytes ≡ after
    → (list : Vec (Replies A) A) × (list.items ≡ bulk_replies parts)
    × First (ReplyText Resp2 1) bytes (made.Array list) more
unfolding First
command_first {A} alloc parts {before} {between} more none put small e same =
    let is : between ≡ command_of parts = put ∙ ap (λ l. l ++ command_of parts) none in
    let long : length (bulks_of parts) < 2 ^ 63 = omega (
      arith,
      small,
      ap (λ l. length l) is,
      length-append (marked 42 (decimal (length parts))) (bulks_of parts),
    ) in
    let (list, are) = list_exists {A = A} alloc (bulk_replies {A = A} parts)
    (omega (arith, as_many A parts, few_parts parts, long)) in (
      list,
      are,
      (
        command_of parts,
        command_text parts list are long,
        same ∙ e ∙ ap (λ l. l ++ more) is,
      ),
    )

module _ {A : Type 0} where
  shaped_alike : (alike : Replies A → Replies A → Type 0) (v w : Replies A) {s : Mark × Content A}
      → shape_of v ≡ s → AreAlikeBy alike v w
      → (s.0 ≡ first_mark w) × HoldAlike alike s.1 (shape_of w).1
  shaped_alike alike v w =
      subst (λ s. (s.0 ≡ first_mark w) × HoldAlike alike s.1 (shape_of w).1)

  -- a reply that is equivalent to a bulk string is one, and so of an array
  bulk_held : (alike : Replies A → Replies A → Type 0) (part : Bor (List ℕ)) (s : Mark × Content A)
      → Data Dollar ≡ s.0 → HoldAlike alike (Bytes part) s.1
      → (bulk : Bor (List ℕ)) × (s ≡ (Data Dollar, Bytes bulk)) × (part.now ≡ bulk.now)
  bulk_held alike part (mark, Bytes x) e a = (x, ap (λ m. (m, Bytes x)) (sym e), a)
  bulk_held alike part (mark, content) e never = absurd never

  list_held : (alike : Replies A → Replies A → Type 0) (list : Vec (Replies A) A)
      (s : Mark × Content A) → Aggregate Star ≡ s.0 → HoldAlike alike (Items list) s.1
      → (other : Vec (Replies A) A) × (s ≡ (Aggregate Star, Items other))
      × ArePairwise alike list.items other.items
  list_held alike list (mark, Items l) e a = (l, ap (λ m. (m, Items l)) (sym e), a)
  list_held alike list (mark, content) e never = absurd never

  abbrev IsBulk : Bor (List ℕ) → Replies A → Type 0
  IsBulk part reply =
      (bulk : Bor (List ℕ)) × (shape_of reply ≡ (Data Dollar, Bytes bulk))
      × (part.now ≡ bulk.now)

  bulks_back : (parts : List (Bor (List ℕ))) (replies : List (Replies A))
      → ArePairwise (AreAlike 0) (bulk_replies parts) replies
      → ArePairwise IsBulk parts replies
  unfolding AreAlike
  bulks_back [] [] are = tt
  bulks_back [] (r ∷ rs) never = never
  bulks_back (p ∷ ps) [] never = never
  bulks_back (p ∷ ps) (r ∷ rs) (one, more) =
      let is = shape_of_equal _ refl (rolls-Bulk p) in
      let (same, held) = shaped_alike (λ v w. ⊥) (made.Bulk p) r is one in
      (bulk_held (λ v w. ⊥) p (shape_of r) same held, bulks_back ps rs more)

  -- what is read of it is the command
  pub command_back : (parts : List (Bor (List ℕ))) (list : Vec (Replies A) A) (read : Replies A)
      (tokens more rest : List ℕ) → list.items ≡ bulk_replies parts
      → First (ReplyText Resp2 1) tokens (made.Array list) more
      → First (ReplyText Resp2 1) tokens read rest
      → IsCommand parts read × (rest ≡ more)
  unfolding AreAlike
  command_back parts list read tokens more rest are a b =
      let (alike, left) = one_reply Resp2 1 (made.Array list) read tokens more rest a b in
      let (same, held) =
      shaped_alike (AreAlike 0) (made.Array list) read
      (shape_of_equal _ refl (rolls-Array list)) alike in
      let (other, is, pairs) = list_held (AreAlike 0) list (shape_of read) same held in
      let P : List (Replies A) → Type 0 = λ l. ArePairwise (AreAlike 0) l other.items in
      ((other, is, bulks_back parts other.items (subst P are pairs)), left)
