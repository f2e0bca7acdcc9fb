-- Lemmas about the parts of replies and their offsets, and about rejected replies.
use Rattle.std.proofs.Common.{◌≡◌, ◌∙◌, ◌+◌, ◌-◌, ◌≤◌, ◌++◌, ◌∷◌, [], ℕ, List, Global, ap}
use Rattle.std.proofs.Common.{append_assoc, arith, inl, inr, length, pos, length-append, refl}
use Rattle.std.proofs.Common.{subst, sym}
use Rattle.std.specs.Prelude.{◌<◌, ◌⊎◌, Err, None, Ok, Some, ⊤}
use Rattle.std.specs.Borrow.{Bor}
use Rattle.winnow.specs.Equal.{same_first, same_others}
use Rattle.winnow.specs.InTurn.{First}
use Rattle.format_resp.proofs.AfterLines.{first_any}
use Rattle.format_resp.proofs.PartsStand.{stands_as}
use Rattle.format_resp.specs.Bounded.{BoundedResult}
use Rattle.format_resp.specs.Extents.{IsReplyWithin, MatchesAtStart}
use Rattle.format_resp.specs.Parts.{HasElements, IsBehindFeed, IsLine, NoFeed, StandsBy}
use Rattle.format_resp.specs.Resp.{UnrolledReply, line_end}
use Rattle.format_resp.specs.declared.extent.Invalid.{Invalid}
use Rattle.format_resp.specs.declared.extent.Reason.{Reason}
use Rattle.format_resp.specs.declared.extent.Reason.TheVariants.{Malformed, TooDeep, TooLarge}
use Rattle.format_resp.specs.declared.reply.Protocol.{Protocol}
use Rattle.format_resp.specs.declared.reply.Reply.{out-Reply, roll-Reply}
use Rattle.format_resp.specs.declared.reply.Reply.TheViews.{out-roll-Reply}
use Rattle.exported.specs.Resp.{Found, HasFields, HasList, IsIncomplete, IsReply, IsShown}
use Rattle.exported.specs.Resp.{IsCodeOf, IsShownBy, NoReply, Rejects, ShowsReply, TellsReply}
use Rattle.exported.specs.Resp.{no_reply}
use Rattle.exported.specs.Span.{EndsWith, StandsAt}
use Rattle.exported.specs.declared.resp.RespValue.{RespValue}
use Rattle.exported.specs.declared.span.Span.{Span}

-- a reply that is equal to a constructed one has its kind
pub opened : (kind : UnrolledReply Global) {reply form : Found} → reply ≡ form
    → roll-Reply (Bor (List ℕ)) Global kind ≡ form → out-Reply (Bor (List ℕ)) Global reply ≡ kind
opened kind is rolls =
    ap (out-Reply (Bor (List ℕ)) Global) (is ∙ sym rolls)
    ∙ out-roll-Reply (Bor (List ℕ)) Global kind

-- ---- the bytes after the first line feed

pub feed_more : (line rest behind more : List ℕ) (b : ℕ) → (b ≡ 10 → ⊥) → NoFeed line
    → rest ≡ b ∷ more → rest ≡ line ++ 10 ∷ behind
    → (left : List ℕ) × NoFeed left × (more ≡ left ++ 10 ∷ behind)
feed_more [] rest behind more b other none e f = absurd (other (same_first (sym e ∙ f)))
feed_more (x ∷ line) rest behind more b other none e f =
    (line, none.1, same_others (sym e ∙ f))

pub feed_first : (line rest behind more : List ℕ) (b : ℕ) → b ≡ 10 → NoFeed line
    → rest ≡ b ∷ more → rest ≡ line ++ 10 ∷ behind → more ≡ behind
feed_first [] rest behind more b is none e f = same_others (sym e ∙ f)
feed_first (x ∷ line) rest behind more b is none e f =
    absurd (none.0 (sym (same_first (sym e ∙ f)) ∙ is))

-- the rest after one byte more
pub ends_more : (input rest more : List ℕ) (b : ℕ) → rest ≡ b ∷ more → EndsWith input rest
    → EndsWith input more
ends_more input rest more b e ends = record {
  before = ends.before ++ b ∷ [];
  splits = ends.splits ∙ ap (λ l. ends.before ++ l) e
      ∙ sym (append_assoc ends.before (b ∷ []) more);
}

-- ---- as the code finds them

-- a line after its first byte
pub line_shown : (input text rest : List ℕ) (place : Span) → IsLine input text rest
    → place.offset ≡ 1 → place.length ≡ length text
    → StandsAt input place text (line_end ++ rest)
line_shown input text rest place (mark, e) begins ends = record {
  before = mark ∷ [];
  splits = e;
  begins = begins;
  ends = ends;
}

pub elements_count : (bytes rest left : List ℕ) (n : ℕ) → left ≡ bytes ++ rest → length rest ≡ n
    → length bytes ≡ length left - n
elements_count bytes rest left n e is =
    omega (arith, ap length e, length-append bytes rest, is)

module _ (protocol : Protocol) (level : ℕ) (input : List ℕ) where
  -- the description of a reply of a kind
  pub shown_by : (kind : UnrolledReply Global) (reply : Found) (rest : List ℕ) (it : RespValue)
      → out-Reply (Bor (List ℕ)) Global reply ≡ kind
      → (StandsBy protocol level input kind rest → IsShownBy protocol level input rest kind it)
      → IsReply protocol level input reply rest → IsShown protocol level input rest reply it
  shown_by kind reply rest it e shows is =
      let P : UnrolledReply Global → Type 0 = λ k. IsShownBy protocol level input rest k it in
      subst P (sym e) (shows (stands_as protocol level input rest reply kind is e))

  -- that of elements
  pub list_shown : (kind left count : ℕ) (elements : List Found) (rest : List ℕ) (it : RespValue)
      → ((bytes rest : List ℕ) → IsBehindFeed input (bytes ++ rest) → length rest ≡ left
      → HasFields it kind (pos 0) count × StandsAt input it.span bytes rest)
      → count ≡ length elements → length rest ≡ left
      → HasElements protocol level input elements rest
      → HasList protocol level kind input rest elements it
  list_shown kind left count elements rest it shows same long (inner, deeper, bytes, row, behind) =
      let (fields, stand) = shows bytes rest behind long in record {
        fields = record {
          is_kind = fields.is_kind;
          is_number = fields.is_number;
          count = fields.count ∙ same;
        };
        inner = inner;
        deeper = deeper;
        bytes = bytes;
        are = row;
        behind_line = behind;
        stand = stand;
      }

  reply_long : (reply : Found) (rest : List ℕ) → IsReply protocol level input reply rest
      → length rest ≤ length input
  unfolding First
  reply_long reply rest (front, is, e) =
      omega (arith, ap length e, length-append front rest)

  pub reply_told : (it : RespValue) (reply : Found) (rest : List ℕ) (left : ℕ)
      → IsReply protocol level input reply rest → length rest ≡ left
      → IsShown protocol level input rest reply it
      → (left ≤ length input → (it.length + left ≡ length input) × (it.error_offset ≡ 0))
      → ShowsReply protocol level input it
  unfolding First
  reply_told it reply rest left is long shown ends =
      let (whole, none) =
      ends (omega (arith, reply_long reply rest is, long)) in record {
        reply = reply;
        rest = rest;
        is_reply = λ more.
            let (front, text, e) = is in
            (front, text, ap (λ l. l ++ more) e ∙ append_assoc front rest more);
        is_shown = shown;
        ends = ap (λ n. it.length + n) long ∙ whole;
        no_error = none;
      }

  -- a reply of this allocator is one of any
  pub matches_from : (reply : Found) (rest : List ℕ) → IsReply protocol level input reply rest
      → MatchesAtStart (IsReplyWithin protocol level) input rest
  unfolding First
  matches_from reply rest is =
      let (other, (front, t, e)) = first_any {B = ⊤} tt protocol level reply input rest is in
      (front, (other, t), e)

  pub reply_there : Global → (n : ℕ) → BoundedResult protocol level input (Ok (Some n))
      → NoReply protocol level input → ⊥
  unfolding First
  reply_there alloc n (front, rest, e, many, (reply, t)) none =
      let (other, is) = first_any alloc protocol level reply input rest (front, t, e) in
      none other rest is

module _ (protocol : Protocol) (level : ℕ) (input : List ℕ) where
  pub rejects : (invalid : Invalid) → BoundedResult protocol level input (Err invalid)
      → Rejects protocol level input invalid.reason invalid.offset
  rejects invalid (never, there) = (
    λ more reply rest is.
        never more rest (matches_from protocol level (input ++ more) reply rest is),
    record {
      due = there.due;
      below = there.below;
      rest = there.rest;
      leads = there.leads;
      offset = there.offset;
      part = there.part;
    },
  )

  pub waits : BoundedResult protocol level input (Ok None) → IsIncomplete protocol level input
  waits (none, there) = (
    λ reply rest is. none rest (matches_from protocol level input reply rest is),
    there,
  )

-- ---- results by their codes

same_reason : (r s : Reason) (code : ℕ) → IsCodeOf r code → IsCodeOf s code → r ≡ s
same_reason Malformed Malformed code a b = refl
same_reason TooLarge TooLarge code a b = refl
same_reason TooDeep TooDeep code a b = refl
same_reason Malformed TooLarge code a b = absurd (omega (arith, a, b))
same_reason Malformed TooDeep code a b = absurd (omega (arith, a, b))
same_reason TooLarge Malformed code a b = absurd (omega (arith, a, b))
same_reason TooLarge TooDeep code a b = absurd (omega (arith, a, b))
same_reason TooDeep Malformed code a b = absurd (omega (arith, a, b))
same_reason TooDeep TooLarge code a b = absurd (omega (arith, a, b))

-- the code is one of three
one_of : (r : Reason) (code : ℕ) → IsCodeOf r code
    → (code ≡ 1) ⊎ ((code ≡ 12) ⊎ (code ≡ 11))
one_of Malformed code a = inl a
one_of TooLarge code a = inr (inl a)
one_of TooDeep code a = inr (inr a)

-- and so not another
not_of : {P : Type 0} (r : Reason) (code : ℕ) → IsCodeOf r code
    → (code ≡ 0) ⊎ ((code ≡ 2) ⊎ ((code ≡ 3) ⊎ (code ≡ 6))) → P
not_of r code a other = absurd (by (one_of r code a) other)
  where
    by : (code ≡ 1) ⊎ ((code ≡ 12) ⊎ (code ≡ 11))
        → (code ≡ 0) ⊎ ((code ≡ 2) ⊎ ((code ≡ 3) ⊎ (code ≡ 6))) → ⊥
    by a (inl b) = elim a [
      | inl x ↦ omega (arith, x, b)
      | inr (inl x) ↦ omega (arith, x, b)
      | inr (inr x) ↦ omega (arith, x, b)
    ]
    by a (inr (inl b)) = elim a [
      | inl x ↦ omega (arith, x, b)
      | inr (inl x) ↦ omega (arith, x, b)
      | inr (inr x) ↦ omega (arith, x, b)
    ]
    by a (inr (inr (inl b))) = elim a [
      | inl x ↦ omega (arith, x, b)
      | inr (inl x) ↦ omega (arith, x, b)
      | inr (inr x) ↦ omega (arith, x, b)
    ]
    by a (inr (inr (inr b))) = elim a [
      | inl x ↦ omega (arith, x, b)
      | inr (inl x) ↦ omega (arith, x, b)
      | inr (inr x) ↦ omega (arith, x, b)
    ]

module _ (protocol : Protocol) (level : ℕ) (input : List ℕ) where
  pub rejects_by : (reason : Reason) (code : ℕ) (invalid : Invalid)
      → IsCodeOf invalid.reason code → IsCodeOf reason code
      → BoundedResult protocol level input (Err invalid)
      → Rejects protocol level input reason invalid.offset
  rejects_by reason code invalid is also found =
      subst (λ r. Rejects protocol level input r invalid.offset)
      (same_reason invalid.reason reason code is also) (rejects protocol level input invalid found)

  pub tells_done : (it : RespValue) → level ≤ 512 → ShowsReply protocol level input it
      → TellsReply protocol level input 0 it
  tells_done it small shows = record {
    reply = λ _. shows;
    rejected = λ reason code. not_of reason 0 code (inl refl);
    waits = λ code. absurd (omega (arith, code));
    deep = (λ code. absurd (omega (arith, code)), λ large. absurd (omega (arith, large, small)));
    none = λ not. absurd (not refl);
    nowhere = λ code. elim code [
      | inl x ↦ absurd (omega (arith, x))
      | inr x ↦ absurd (omega (arith, x))
    ];
    codes = inl refl;
  }

  pub tells_rejected : (reason : Reason) (code offset : ℕ) → level ≤ 512 → IsCodeOf reason code
      → Rejects protocol level input reason offset
      → TellsReply protocol level input code (no_reply offset)
  tells_rejected reason code offset small is rejects = record {
    reply = λ e. not_of reason code is (inl e);
    rejected = λ other also.
        subst (λ r. Rejects protocol level input r offset) (same_reason reason other code is also)
        rejects;
    waits = λ e. not_of reason code is (inr (inl e));
    deep = (
      λ e. not_of reason code is (inr (inr (inr e))),
      λ large. absurd (omega (arith, large, small)),
    );
    none = λ not. refl;
    nowhere = λ e. elim e [
      | inl x ↦ not_of reason code is (inr (inr (inr x)))
      | inr x ↦ not_of reason code is (inr (inr (inl x)))
    ];
    codes = elim (one_of reason code is) [
      | inl x ↦ inr (inl x)
      | inr (inl x) ↦ inr (inr (inl x))
      | inr (inr x) ↦ inr (inr (inr (inl x)))
    ];
  }

  pub tells_waits : level ≤ 512 → IsIncomplete protocol level input
      → TellsReply protocol level input 2 (no_reply 0)
  tells_waits small is = record {
    reply = λ e. absurd (omega (arith, e));
    rejected = λ reason code. not_of reason 2 code (inr (inl refl));
    waits = λ e. (is, refl);
    deep = (λ code. absurd (omega (arith, code)), λ large. absurd (omega (arith, large, small)));
    none = λ not. refl;
    nowhere = λ code. refl;
    codes = inr (inr (inr (inr (inr (inl refl)))));
  }

  pub tells_memory : level ≤ 512 → TellsReply protocol level input 3 (no_reply 0)
  tells_memory small = record {
    reply = λ e. absurd (omega (arith, e));
    rejected = λ reason code. not_of reason 3 code (inr (inr (inl refl)));
    waits = λ e. absurd (omega (arith, e));
    deep = (λ code. absurd (omega (arith, code)), λ large. absurd (omega (arith, large, small)));
    none = λ not. refl;
    nowhere = λ code. refl;
    codes = inr (inr (inr (inr (inr (inr refl)))));
  }

  pub tells_deep : 512 < level → TellsReply protocol level input 6 (no_reply 0)
  tells_deep large = record {
    reply = λ e. absurd (omega (arith, e));
    rejected = λ reason code. not_of reason 6 code (inr (inr (inr refl)));
    waits = λ e. absurd (omega (arith, e));
    deep = (λ code. large, λ large. refl);
    none = λ not. refl;
    nowhere = λ code. refl;
    codes = inr (inr (inr (inr (inl refl))));
  }

-- the codes for complete input
pub without_wait : (code : ℕ) → (code ≡ 2 → ⊥)
    → (code ≡ 0) ⊎ ((code ≡ 1) ⊎ ((code ≡ 12) ⊎ ((code ≡ 11) ⊎ ((code ≡ 6)
    ⊎ ((code ≡ 2) ⊎ (code ≡ 3))))))
    → (code ≡ 0) ⊎ ((code ≡ 1) ⊎ ((code ≡ 12) ⊎ ((code ≡ 11) ⊎ ((code ≡ 6) ⊎ (code ≡ 3)))))
without_wait code not (inl a) = inl a
without_wait code not (inr (inl a)) = inr (inl a)
without_wait code not (inr (inr (inl a))) = inr (inr (inl a))
without_wait code not (inr (inr (inr (inl a)))) = inr (inr (inr (inl a)))
without_wait code not (inr (inr (inr (inr (inl a))))) = inr (inr (inr (inr (inl a))))
without_wait code not (inr (inr (inr (inr (inr (inl a)))))) = absurd (not a)
without_wait code not (inr (inr (inr (inr (inr (inr a)))))) = inr (inr (inr (inr (inr a))))
