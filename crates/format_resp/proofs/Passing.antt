-- Lemmas about passing one more part of some bytes: a first line, or the data of a string.
use Rattle.std.specs.Prelude.{◌≡◌, ◌<◌, ◌≤◌, ◌-◌, ◌⊎◌, ℕ, List, [], ◌∷◌, ◌++◌, length}
use Rattle.std.specs.Prelude.{take, drop}
use Rattle.std.specs.Prelude.{Err, None, Ok, Some, suc, ◌↔◌, ◌+◌, ◌*◌, ◌^◌, Option, OnOk}
use Rattle.std.specs.Prelude.{Result}
use Rattle.std.specs.Borrow.{Bor}
use Rattle.std.specs.List.{AllByRecursion}
use Rattle.std.proofs.Common.{refl, sym, ap, inl, inr, ◌∙◌, arith, append_assoc, length-append}
use Rattle.std.proofs.Common.{subst}
use Rattle.std.proofs.lemmas.List.{append-nil, drop_at, take-append-le}
use Rattle.winnow_grammar.specs.InTurn.{First, Led}
use Rattle.format_resp.proofs.LineEnds.{unseen_rest}
use Rattle.format_resp.proofs.Dues.{any_there, data_passed, line_passed, small_head}
use Rattle.format_resp.specs.Extents.{IsDue, IsExtentOf, IsNoString, IsReply, MatchesAtStart}
use Rattle.format_resp.specs.Extents.{Passed, ReplyResult, Times, count_after, data_after}
use Rattle.format_resp.specs.Heads.{HeadText, IsRejectedFirstLine}
use Rattle.format_resp.specs.Resp.{DataText, IsLineByte, MarkText, StringText, WithLineEnd}
use Rattle.format_resp.specs.declared.extent.Bulk.{Bulk}
use Rattle.format_resp.specs.declared.extent.Extent.{Extent}
use Rattle.format_resp.specs.declared.extent.Invalid.{Invalid}
use Rattle.format_resp.specs.declared.extent.Reason.TheVariants.{Malformed}
use Rattle.format_resp.specs.declared.heads.Head.{Head}
use Rattle.format_resp.specs.declared.reply.Protocol.{Protocol}

-- ---- parts

-- nothing was searched yet
pub all_none : (xs : List ℕ) → AllByRecursion IsLineByte (take 0 xs)
all_none [] = tt
all_none (x ∷ xs) = tt

pub head_some : (protocol : Protocol) (head : Head) (xs : List ℕ) → HeadText protocol head xs
    → 0 < length xs
unfolding Led MarkText
head_some protocol head xs (mark, ys, zs, (within, is), says, e) =
    omega (arith, ap (λ l. length l) e, ap (λ l. length l) is, length-append ys zs)

string_some : (bulk : Bulk) (bytes : Bor (List ℕ)) (xs : List ℕ) → StringText bulk bytes xs
    → 0 < length xs
unfolding DataText WithLineEnd
string_some bulk bytes xs (fits, (ys, many, e)) =
    omega (arith, ap (λ l. length l) e, length-append ys (13 ∷ 10 ∷ []))

module _ (protocol : Protocol) where
  -- if there is no first line, there are no replies
  no_line : (n : ℕ) (tokens : List ℕ)
      → ((head : Head) (rest : List ℕ) → First (HeadText protocol) tokens head rest → ⊥)
      → (left : List ℕ) → IsDue protocol None (suc n) tokens left → ⊥
  unfolding Times
  no_line n tokens none left (mid, reply, more) =
      let (head, behind, first, body) = any_there protocol tokens mid reply in
      none head behind first

module _ (protocol : Protocol) (e : Extent) (tokens rest : List ℕ)
    (p : Passed protocol e tokens rest) where
  -- if the expected continuation does not match, there is no reply
  none_due : ((left : List ℕ) → IsDue protocol e.bulk e.replies rest left → ⊥)
      → (left : List ℕ) → MatchesAtStart (IsReply protocol) tokens left → ⊥
  none_due none left x = none left ((p.leads rest left).0 (rw p.split at x))

  never_due : ((more left : List ℕ)
      → IsDue protocol e.bulk e.replies (rest ++ more) left → ⊥)
      → (more left : List ℕ) → MatchesAtStart (IsReply protocol) (tokens ++ more) left → ⊥
  never_due none more left x =
      none more left
      ((p.leads (rest ++ more) left).0
      (subst (λ l. MatchesAtStart (IsReply protocol) l left)
      (ap (λ l. l ++ more) p.split ∙ append_assoc p.front rest more) x))

  -- the part at the start of the rest is passed
  part_passed : (f : Extent) (part left : List ℕ) → rest ≡ part ++ left → 0 < length part
      → f.passed ≡ length tokens - length left → f.sought ≡ 0
      → ((xs r : List ℕ) → IsDue protocol e.bulk e.replies (part ++ xs) r
      ↔ IsDue protocol f.bulk f.replies xs r)
      → f.replies ≤ e.replies + 2 ^ 63 → Passed protocol f tokens left
  part_passed f part left split some count sought step few = record {
    front = p.front ++ part;
    split = all;
    count = omega (arith, count, ap (λ l. length l) all, length-append (p.front ++ part) left);
    leads = λ xs r.
        let P : List ℕ → Type 0 = λ l. MatchesAtStart (IsReply protocol) l r in
        let split = append_assoc p.front part xs in
        let (there, back) = p.leads (part ++ xs) r in (
          λ x. (step xs r).0 (there (subst P split x)),
          λ y. subst P (sym split) (back ((step xs r).1 y)),
        );
    few = fewer;
    within = omega (arith, sought);
    plain = rw sought (all_none (drop 1 left));
  }
    where
      all : tokens ≡ (p.front ++ part) ++ left
      all = p.split ∙ ap (λ l. p.front ++ l) split ∙ sym (append_assoc p.front part left)

      fewer : f.replies ≤ 2 ^ 64 * f.passed + 1
      fewer = omega (
        arith,
        few,
        p.few,
        count,
        some,
        p.count,
        ap (λ l. length l) all,
        length-append (p.front ++ part) left,
        length-append p.front part,
      )

  -- a first line is
  pub line_part : (f : Extent) (n : ℕ) (head : Head) (left : List ℕ) → e.bulk ≡ None
      → e.replies ≡ suc n → First (HeadText protocol) rest head left
      → f.passed ≡ length tokens - length left → f.sought ≡ 0
      → f.bulk ≡ data_after head → f.replies ≡ count_after head n → Passed protocol f tokens left
  unfolding First
  line_part f n head left none one (part, text, split) count sought bulk replies =
      part_passed f part left split (head_some protocol head part text) count sought
      (rw (none, one, bulk, replies)
      (λ xs r. line_passed protocol head n (part ++ xs) xs (part, text, refl) r))
      (omega (arith, replies, one, small_head protocol head n part text))

  -- and is none as yet
  pub line_open : (n : ℕ) → e.bulk ≡ None → e.replies ≡ suc n
      → ((head : Head) (left : List ℕ) → First (HeadText protocol) rest head left → ⊥)
      → (left : List ℕ) → MatchesAtStart (IsReply protocol) tokens left → ⊥
  line_open n none one never = none_due (rw (none, one) (no_line protocol n rest never))

  -- and never will be
  pub line_never : (n : ℕ) (invalid : Invalid) → e.bulk ≡ None → e.replies ≡ suc n
      → invalid.offset ≡ e.passed → IsRejectedFirstLine protocol rest invalid.reason
      → ReplyResult protocol tokens (Err invalid)
  line_never n invalid none one offset not = (
    never_due (rw (none, one) (λ more. no_line protocol n (rest ++ more) (not.never more))),
    record { extent = e; rest = rest; here = p; offset = offset; part = rw none not },
  )

  -- the data of a string are
  pub string_part : (f : Extent) (bulk : Bulk) (bytes : Bor (List ℕ)) (left : List ℕ)
      → e.bulk ≡ Some bulk → First (StringText bulk) rest bytes left
      → f.passed ≡ length tokens - length left → f.sought ≡ 0 → f.bulk ≡ None
      → f.replies ≡ e.replies → Passed protocol f tokens left
  unfolding First
  string_part f bulk bytes left some (part, text, split) count sought none replies =
      part_passed f part left split (string_some bulk bytes part text) count sought
      (rw (some, none, replies)
      (λ xs r. data_passed protocol bulk e.replies bytes (part ++ xs) xs (part, text, refl) r))
      (omega (arith, replies))

  pub string_open : (bulk : Bulk) → e.bulk ≡ Some bulk
      → ((bytes : Bor (List ℕ)) (left : List ℕ) → First (StringText bulk) rest bytes left → ⊥)
      → (left : List ℕ) → MatchesAtStart (IsReply protocol) tokens left → ⊥
  string_open bulk some never =
      none_due (rw some (λ left (bytes, mid, first, more). never bytes mid first))

  pub string_never : (bulk : Bulk) (invalid : Invalid) → e.bulk ≡ Some bulk
      → invalid.offset ≡ e.passed → invalid.reason ≡ Malformed → IsNoString bulk rest
      → ReplyResult protocol tokens (Err invalid)
  string_never bulk invalid some offset is not = (
    never_due (rw some (λ more left (bytes, mid, first, others). not more bytes mid first)),
    record { extent = e; rest = rest; here = p; offset = offset; part = rw some (is, not) },
  )

  -- there are never too many replies
  pub never_more : (n : ℕ) (head : Head) (left : List ℕ) → e.replies ≡ suc n
      → First (HeadText protocol) rest head left → length tokens < 2 ^ 63
      → 2 ^ 128 ≤ count_after head n → ⊥
  unfolding First
  never_more n head left one (part, text, split) small large = omega (
    arith,
    one,
    small_head protocol head n part text,
    small,
    large,
    p.few,
    p.count,
    ap (λ l. length l) p.split,
    length-append p.front rest,
  )

  -- if nothing more is expected, the reply is the passed bytes
  pub all_passed : e.bulk ≡ None → e.replies ≡ 0 → ReplyResult protocol tokens (Ok (Some e.passed))
  unfolding Times
  all_passed none zeros =
      let leads : (xs left : List ℕ)
      → MatchesAtStart (IsReply protocol) (p.front ++ xs) left ↔ IsDue protocol None 0 xs left =
      rw (none, zeros) at p.leads in
      let (whole, reply, same) = (leads [] []).1 refl in (
        p.front,
        rest,
        p.split,
        p.count,
        subst (IsReply protocol) (sym (sym (append-nil p.front) ∙ same ∙ append-nil whole)) reply,
        λ more left x. sym ((leads (rest ++ more) left).0
            (subst (λ l. MatchesAtStart (IsReply protocol) l left)
            (ap (λ l. l ++ more) p.split ∙ append_assoc p.front rest more) x)),
      )

  -- what is passed of bytes is passed of more
  pub more_passed : (more : List ℕ) → Passed protocol e (tokens ++ more) (rest ++ more)
  more_passed more = record {
    front = p.front;
    split = ap (λ l. l ++ more) p.split ∙ append_assoc p.front rest more;
    count = p.count;
    leads = p.leads;
    few = p.few;
    within = more_within rest p.within;
    plain = more_open rest p.within p.plain;
  }
    where
      more_within : (xs : List ℕ) → e.sought ≤ length (drop 1 xs)
          → e.sought ≤ length (drop 1 (xs ++ more))
      more_within [] w = omega (arith, w)
      more_within (x ∷ xs) w = omega (arith, w, length-append xs more)

      more_open : (xs : List ℕ) → e.sought ≤ length (drop 1 xs)
          → AllByRecursion IsLineByte (take e.sought (drop 1 xs))
          → AllByRecursion IsLineByte (take e.sought (drop 1 (xs ++ more)))
      more_open [] w a =
          let zeros : e.sought ≡ 0 = omega (arith, w) in rw zeros (all_none (drop 1 more))
      more_open (x ∷ xs) w a = subst (AllByRecursion IsLineByte)
          (sym (take-append-le e.sought xs more w)) a

  pub left_is : (left : List ℕ) → left ≡ take (length tokens - e.passed) (drop e.passed tokens)
      → Passed protocol e tokens left
  left_is left is =
      subst (Passed protocol e tokens) (sym (unseen_rest tokens left e.passed is
      ∙ ap (λ l. drop e.passed l) p.split ∙ drop_at p.front rest e.passed p.count)) p

  pub passed_within : (length tokens < e.passed) ⊎ (length tokens < length tokens) → ⊥
  passed_within (inl less) =
      omega (arith, less, p.count, ap (λ l. length l) p.split, length-append p.front rest)
  passed_within (inr less) = omega (arith, less)

-- before the first byte
pub none_passed : (protocol : Protocol) (e : Extent) (tokens : List ℕ) → e.passed ≡ 0
    → e.sought ≡ 0 → e.bulk ≡ None
    → e.replies ≡ 1 → IsExtentOf protocol e tokens
unfolding Times
none_passed protocol e tokens passed sought none one = (
  tokens,
  record {
    front = [];
    split = refl;
    count = sym passed;
    leads = rw (none, one) one_due;
    few = omega (arith, one);
    within = omega (arith, sought);
    plain = rw sought (all_none (drop 1 tokens));
  },
)
  where
    one_due : (xs left : List ℕ)
        → MatchesAtStart (IsReply protocol) xs left ↔ IsDue protocol None 1 xs left
    one_due xs left = (
      λ x. (left, x, refl),
      λ (mid, x, e). subst (MatchesAtStart (IsReply protocol) xs) e x,
    )

-- what is kept of bytes is kept of more
pub kept_more : (protocol : Protocol) (r : Result (Option ℕ) Invalid) (e f : Extent)
    (tokens left : List ℕ)
    → left ≡ take (length tokens - e.passed) (drop e.passed tokens)
    → OnOk r (Passed protocol e tokens left → (rest : List ℕ) × Passed protocol f tokens rest)
    → OnOk r (IsExtentOf protocol e tokens → (more : List ℕ)
    → IsExtentOf protocol f (tokens ++ more))
kept_more protocol (Ok o) e f tokens left is kept = λ (rest, p) more.
    let (after, q) = kept (left_is protocol e tokens rest p left is) in
    (after ++ more, more_passed protocol f tokens after q more)
kept_more protocol (Err y) e f tokens left is kept = tt
