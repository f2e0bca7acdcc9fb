-- Lemmas about the end of a reply whose depth is limited.
use Rattle.std.specs.Prelude.{◌≡◌, ◌<◌, ◌≤◌, ◌+◌, ⊤, ℕ, zero, suc, List, [], ◌++◌, length}
use Rattle.std.specs.Prelude.{Option, Some, None, Ok, Err}
use Rattle.std.specs.Borrow.{Bor}
use Rattle.std.proofs.Common.{refl, sym, ap, subst, inl, inr, arith}
use Rattle.std.proofs.Common.{length-append}
use Rattle.std.proofs.lemmas.List.{append-nil}
use Rattle.winnow_grammar.specs.InTurn.{First}
use Rattle.grammars.specs.Texts.{Text}
use Rattle.format_resp.proofs.AfterLines.{Behind, Inner, head_back, head_there}
use Rattle.format_resp.proofs.Dues.{Within, at_more, at_one, first_more, times_add}
use Rattle.format_resp.proofs.FirstLines.{begun_none, head_splits}
use Rattle.format_resp.proofs.Strings.{part_none}
use Rattle.format_resp.specs.Bounded.{AreAfter, IsPassed, IsPassedEach, IsRejectedHere}
use Rattle.format_resp.specs.Bounded.{IsStringPassed, LeadsHere, LeadsTo, Stopped}
use Rattle.format_resp.specs.Extents.{Times, Wants}
use Rattle.format_resp.specs.Heads.{HeadText}
use Rattle.format_resp.specs.Resp.{StringText}
use Rattle.format_resp.specs.declared.extent.Bulk.{Bulk}
use Rattle.format_resp.specs.declared.extent.Reason.{Reason}
use Rattle.format_resp.specs.declared.heads.Head.{Head}
use Rattle.format_resp.specs.declared.heads.Head.TheVariants as heads
use Rattle.format_resp.specs.declared.reply.Protocol.{Protocol}

module _ (protocol : Protocol) where
  -- ---- replies that are passed

  pub after_none : (level : ℕ) (tokens : List ℕ) → AreAfter protocol level 0 tokens tokens
  unfolding Times
  after_none level tokens = refl

  pub after_more : (level k : ℕ) (tokens between rest : List ℕ)
      → AreAfter protocol level k tokens between → Within protocol level between rest
      → AreAfter protocol level (k + 1) tokens rest
  unfolding Times
  after_more level k tokens between rest after found =
      times_add (Within protocol level) k 1 tokens between rest after (rest, found, refl)

  -- ---- the results

  pub leads_here : (level : ℕ) (tokens : List ℕ) (due : Option Bulk) (below : ℕ) (rest : List ℕ)
      → LeadsHere protocol level tokens due below rest
      → LeadsTo protocol level tokens due below rest
  unfolding LeadsTo
  leads_here zero tokens due below rest x = x
  leads_here (suc level) tokens due below rest x = inl x

  pub string_passed : (level : ℕ) (bulk : Bulk) (tokens left : List ℕ) (r : Stopped)
      → First (HeadText protocol) tokens (heads.Data bulk) left → IsStringPassed bulk left r
      → IsPassed protocol level tokens r
  string_passed level bulk tokens left (Ok (Some rest)) head string =
      head_back protocol level rest.now tt (heads.Data bulk) tokens left head string
  string_passed level bulk tokens left (Ok None) head part =
      (Some bulk, 0, left, leads_here level tokens (Some bulk) 0 left head, part)
  string_passed level bulk tokens left (Err stop) head (same, is, none) =
      let P : List ℕ → Type 0 = λ l. LeadsTo protocol level tokens (Some bulk) 0 l in
      let Q : List ℕ → Type 0 = λ l. IsRejectedHere protocol (Some bulk) 0 l stop.reason in (
        Some bulk,
        0,
        subst P (sym same) (leads_here level tokens (Some bulk) 0 left head),
        subst Q (sym same) (inl (is, none)),
      )

  pub replies_passed : (level inner count : ℕ) (tokens left : List ℕ) (r : Stopped)
      → level ≡ suc inner → First (HeadText protocol) tokens (heads.Replies count) left
      → IsPassedEach protocol inner count left r → IsPassed protocol level tokens r
  unfolding LeadsTo
  replies_passed level inner count tokens left (Ok (Some rest)) deeper head after =
      let P : ℕ → Type 0 = λ l. Within protocol l tokens rest.now in
      subst P (sym deeper)
      (head_back protocol (suc inner) rest.now tt (heads.Replies count) tokens left head after)
  replies_passed level inner count tokens left (Ok None) deeper head
      (k, between, less, after, (due, below, rest, leads, wants)) =
      let P : ℕ → Type 0 = λ l. LeadsTo protocol l tokens due below rest in (
        due,
        below,
        rest,
        subst P (sym deeper) (inr (count, k, left, between, less, head, after, leads)),
        wants,
      )
  replies_passed level inner count tokens left (Err stop) deeper head
      (k, between, less, after, (due, below, leads, part)) =
      let P : ℕ → Type 0 = λ l. LeadsTo protocol l tokens due below stop.rest.now in (
        due,
        below,
        subst P (sym deeper) (inr (count, k, left, between, less, head, after, leads)),
        part,
      )

  -- ---- lengths

  at_long : (level : ℕ) (tokens rest : List ℕ) → Within protocol level tokens rest
      → length rest ≤ length tokens
  at_long level tokens rest (front, is, e) =
      omega (arith, ap (λ l. length l) e, length-append front rest)

  first_long : {O : Type 0} (text : Text ℕ O) (tokens rest : List ℕ) (o : O)
      → First text tokens o rest → length rest ≤ length tokens
  unfolding First
  first_long text tokens rest o (front, t, e) =
      omega (arith, ap (λ l. length l) e, length-append front rest)

  after_long : (level k : ℕ) (tokens rest : List ℕ) → AreAfter protocol level k tokens rest
      → length rest ≤ length tokens
  unfolding Times
  after_long level zero tokens rest same = omega (arith, ap (λ l. length l) same)
  after_long level (suc k) tokens rest (between, found, after) =
      omega (arith, after_long level k between rest after, at_long level tokens between found)

  here_long : (level : ℕ) (tokens : List ℕ) (due : Option Bulk) (below : ℕ) (rest : List ℕ)
      → LeadsHere protocol level tokens due below rest → length rest ≤ length tokens
  here_long level tokens None below rest (is, same) = omega (arith, ap (λ l. length l) same)
  here_long level tokens (Some bulk) below rest head =
      first_long (HeadText protocol) tokens rest (heads.Data bulk) head

  pub leads_long : (level : ℕ) (tokens : List ℕ) (due : Option Bulk) (below : ℕ) (rest : List ℕ)
      → LeadsTo protocol level tokens due below rest → length rest ≤ length tokens
  unfolding LeadsTo
  leads_long zero tokens due below rest here = here_long zero tokens due below rest here
  leads_long (suc level) tokens due below rest (inl here) =
      here_long (suc level) tokens due below rest here
  leads_long (suc level) tokens due below rest
      (inr (count, k, left, between, less, head, after, leads)) = omega (
        arith,
        first_long (HeadText protocol) tokens left (heads.Replies count) head,
        after_long level k left between after,
        leads_long level between due below rest leads,
      )

  -- ---- a reply at the start has the part that is due

  abbrev IsDueAt : Option Bulk → ℕ → List ℕ → List ℕ → Type 0
  IsDueAt None below tokens rest = Within protocol below tokens rest
  IsDueAt (Some bulk) below tokens rest =
      (bytes : Bor (List ℕ)) × First (StringText bulk) tokens bytes rest

  -- what follows this first line
  head_behind : (level : ℕ) (head : Head) (tokens rest more left : List ℕ)
      → First (HeadText protocol) tokens head rest → Within protocol level (tokens ++ more) left
      → Behind (Inner ⊤ protocol level) head (rest ++ more) left
  head_behind level head tokens rest more left first found =
      let (other, mid, text, behind) = head_there protocol level left (tokens ++ more) found in
      let (same, lefts) = (head_splits protocol).one other head (tokens ++ more) mid (rest ++ more)
      text (first_more (HeadText protocol) tokens rest more head first) in
      let P : Head → Type 0 = λ h. Behind (Inner ⊤ protocol level) h mid left in
      let Q : List ℕ → Type 0 = λ l. Behind (Inner ⊤ protocol level) head l left in
      subst Q lefts (subst P same behind)

  here_due : (level : ℕ) (tokens : List ℕ) (due : Option Bulk) (below : ℕ)
      (rest more left : List ℕ) → LeadsHere protocol level tokens due below rest
      → Within protocol level (tokens ++ more) left → IsDueAt due below (rest ++ more) left
  here_due level tokens None below rest more left (is, same) found =
      let P : ℕ → Type 0 = λ l. Within protocol l (rest ++ more) left in
      let Q : List ℕ → Type 0 = λ l. Within protocol level (l ++ more) left in
      subst P (sym is) (subst Q same found)
  here_due level tokens (Some bulk) below rest more left head found =
      head_behind level (heads.Data bulk) tokens rest more left head found

  -- one of several replies, after those before it
  next : (level k count : ℕ) (left between more last : List ℕ) → k < count
      → AreAfter protocol level k left between → AreAfter protocol level count (left ++ more) last
      → (other : List ℕ) × Within protocol level (between ++ more) other
  unfolding Times
  next level k zero left between more last less after row = absurd (omega (arith, less))
  next level zero (suc count) left between more last less e (mid, one, row) =
      (mid, subst (λ l. Within protocol level (l ++ more) mid) e one)
  next level (suc k) (suc count) left between more last less (mid, one, after) (end, found, row) =
      let same = at_one protocol level (left ++ more) end (mid ++ more) found
      (at_more protocol level left mid more one) in
      next level k count mid between more last (omega (arith, less)) after
      (subst (λ l. AreAfter protocol level count l last) same row)

  pub only_due : (level : ℕ) (tokens : List ℕ) (due : Option Bulk) (below : ℕ)
      (rest more left : List ℕ) → LeadsTo protocol level tokens due below rest
      → Within protocol level (tokens ++ more) left
      → (other : List ℕ) × IsDueAt due below (rest ++ more) other
  unfolding LeadsTo
  only_due zero tokens due below rest more left here found =
      (left, here_due zero tokens due below rest more left here found)
  only_due (suc level) tokens due below rest more left (inl here) found =
      (left, here_due (suc level) tokens due below rest more left here found)
  only_due (suc level) tokens due below rest more left
      (inr (count, k, start, between, less, head, after, leads)) found =
      let (last, one) = next level k count start between more left less after
      (head_behind (suc level) (heads.Replies count) tokens start more left head found) in
      only_due level between due below rest more last leads one

  -- ---- no reply

  here_never : (due : Option Bulk) (below : ℕ) (rest more other : List ℕ) (reason : Reason)
      → IsRejectedHere protocol due below rest reason → IsDueAt due below (rest ++ more) other → ⊥
  here_never None below rest more other reason (inl none) found =
      let (head, mid, first, behind) = head_there protocol below other (rest ++ more) found in
      none.never more head mid first
  here_never (Some bulk) below rest more other reason (inl (is, none)) (bytes, first) =
      none more bytes other first
  here_never due below rest more other reason (inr (is, none, flat, count, left, head)) found =
      let P : Option Bulk → Type 0 = λ d. IsDueAt d below (rest ++ more) other in
      let Q : ℕ → Type 0 = λ l. Within protocol l (rest ++ more) other in
      head_behind 0 (heads.Replies count) rest left more other head
      (subst Q flat (subst P none found))

  pub never_within : (level : ℕ) (tokens : List ℕ) (due : Option Bulk) (below : ℕ)
      (rest : List ℕ) (reason : Reason) → LeadsTo protocol level tokens due below rest
      → IsRejectedHere protocol due below rest reason → (more left : List ℕ)
      → Within protocol level (tokens ++ more) left → ⊥
  never_within level tokens due below rest reason leads part more left found =
      let (other, found) = only_due level tokens due below rest more left leads found in
      here_never due below rest more other reason part found

  here_none : (due : Option Bulk) (below : ℕ) (rest other : List ℕ) → Wants protocol due rest
      → IsDueAt due below rest other → ⊥
  here_none None below rest other begun found =
      let (head, mid, first, behind) = head_there protocol below other rest found in
      begun_none protocol rest begun head mid first
  here_none (Some bulk) below rest other part (bytes, first) =
      part_none bulk rest part bytes other first

  pub none_within : (level : ℕ) (tokens : List ℕ) (due : Option Bulk) (below : ℕ)
      (rest : List ℕ) → LeadsTo protocol level tokens due below rest → Wants protocol due rest
      → (left : List ℕ) → Within protocol level tokens left → ⊥
  none_within level tokens due below rest leads wants left found =
      let P : List ℕ → Type 0 = λ l. Within protocol level l left in
      let (other, one) = only_due level tokens due below rest [] left leads
      (subst P (sym (append-nil tokens)) found) in
      let Q : List ℕ → Type 0 = λ l. IsDueAt due below l other in
      here_none due below rest other wants (subst Q (append-nil rest) one)
