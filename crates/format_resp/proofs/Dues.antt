-- Lemmas about replies one after another: what follows a first line, at a depth and at any.
use Rattle.std.specs.Prelude.{◌≡◌, ◌↔◌, ◌≤◌, ◌+◌, ◌^◌, ⊤, ℕ, zero, suc, List, ◌++◌}
use Rattle.std.specs.Prelude.{None, Some}
use Rattle.std.specs.Borrow.{Bor}
use Rattle.std.proofs.Common.{refl, sym, ap, subst, ◌∙◌, arith, append_assoc}
use Rattle.winnow_grammar.specs.InTurn.{First, Led}
use Rattle.grammars.specs.Texts.{Text}
use Rattle.format_resp.proofs.AfterLines.{At, Behind, Inner, Step, behind_as, first_any, head_back}
use Rattle.format_resp.proofs.AfterLines.{head_there, times_map}
use Rattle.format_resp.proofs.AlikeReplies.{replies_alike}
use Rattle.format_resp.proofs.Encodings.{data_determined}
use Rattle.format_resp.proofs.FirstLines.{head_splits}
use Rattle.format_resp.proofs.WrittenTexts.{deeper}
use Rattle.format_resp.specs.Extents.{IsDue, IsReply, MatchesAtStart, Times}
use Rattle.format_resp.specs.Extents.{count_after, data_after}
use Rattle.format_resp.specs.Heads.{HeadLineText, HeadText, IsCountInRange}
use Rattle.format_resp.specs.Resp.{Replies, ReplyText, StringText, WithLineEnd}
use Rattle.format_resp.specs.declared.extent.Bulk.{Bulk}
use Rattle.format_resp.specs.declared.heads.Head.{Head}
use Rattle.format_resp.specs.declared.heads.Head.TheVariants as heads
use Rattle.format_resp.specs.declared.marks.Mark.{Mark}
use Rattle.format_resp.specs.declared.marks.Mark.TheVariants.{Line}
use Rattle.format_resp.specs.declared.reply.Protocol.{Protocol}

-- ---- steps

pub times_add : (step : Step) (k n : ℕ) (from mid to : List ℕ) → Times step k from mid
    → Times step n mid to → Times step (k + n) from to
unfolding Times
times_add step zero n from mid to e more =
    let P : List ℕ → Type 0 = λ l. Times step n l to in
    let Q : ℕ → Type 0 = λ m. Times step m from to in
    let same : n ≡ 0 + n = omega arith in subst Q same (subst P (sym e) more)
times_add step (suc k) n from mid to (first, one, others) more =
    let Q : ℕ → Type 0 = λ m. Times step m from to in
    let same : suc (k + n) ≡ suc k + n = omega arith in
    subst Q same (first, one, times_add step k n first mid to others more)

times_split : (step : Step) (k n : ℕ) (from to : List ℕ) → Times step (k + n) from to
    → (mid : List ℕ) × Times step k from mid × Times step n mid to
unfolding Times
times_split step zero n from to more =
    let Q : ℕ → Type 0 = λ m. Times step m from to in
    let same : 0 + n ≡ n = omega arith in (from, refl, subst Q same more)
times_split step (suc k) n from to all =
    let Q : ℕ → Type 0 = λ m. Times step m from to in
    let same : suc k + n ≡ suc (k + n) = omega arith in
    let (first, one, more) = subst Q same all in
    let (mid, some, others) = times_split step k n first to more in
    (mid, (first, one, some), others)

pub first_more : {O : Type 0} (text : Text ℕ O) (tokens rest more : List ℕ) (o : O)
    → First text tokens o rest → First text (tokens ++ more) o (rest ++ more)
unfolding First
first_more text tokens rest more o (front, t, e) =
    (front, t, ap (λ l. l ++ more) e ∙ append_assoc front rest more)

module _ (protocol : Protocol) where
  -- a reply at a depth, and at any
  abbrev pub Within : ℕ → Step
  Within = At ⊤ protocol

  abbrev pub Any : Step
  Any = MatchesAtStart (IsReply protocol)

  -- ---- at a depth

  pub at_more : (level : ℕ) (tokens rest more : List ℕ) → Within level tokens rest
      → Within level (tokens ++ more) (rest ++ more)
  at_more level tokens rest more (front, is, e) =
      (front, is, ap (λ l. l ++ more) e ∙ append_assoc front rest more)

  pub at_one : (level : ℕ) (tokens rest other : List ℕ) → Within level tokens rest
      → Within level tokens other → rest ≡ other
  unfolding First
  at_one level tokens rest other (xs, (o, t), e) (ys, (p, u), f) =
      (replies_alike protocol level o p tokens rest other (xs, t, e) (ys, u, f)).1

  -- ---- at any depth

  at_deeper : (more level : ℕ) (tokens rest : List ℕ) → Within level tokens rest
      → Within (more + level) tokens rest
  at_deeper more level tokens rest (front, (o, t), e) =
      (front, (o, deeper protocol more level o front t), e)

  gather : (n : ℕ) (tokens rest : List ℕ) → Times Any n tokens rest
      → (level : ℕ) × Times (Within level) n tokens rest
  unfolding Times
  gather zero tokens rest e = (0, e)
  gather (suc n) tokens rest (mid, (front, (a, o), e), more) =
      let (b, row) = gather n mid rest more in
      let P : ℕ → Type 0 = λ k. Times (Within k) n mid rest in
      let same : a + b ≡ b + a = omega arith in (
        b + a,
        (
          mid,
          at_deeper b a tokens mid (front, o, e),
          subst P same (times_map (Within b) (Within (a + b)) (at_deeper a b) n mid rest row),
        ),
      )

  inner_any : (level n : ℕ) (tokens rest : List ℕ) → Inner ⊤ protocol level n tokens rest
      → Times Any n tokens rest
  inner_any zero n tokens rest never = absurd never
  inner_any (suc level) n tokens rest more =
      times_map (Within level) Any (λ from to (front, o, e). (front, (level, o), e)) n tokens rest
      more

  behind_level : (head : Head) (tokens rest : List ℕ) → Behind (Times Any) head tokens rest
      → (level : ℕ) × Behind (Inner ⊤ protocol level) head tokens rest
  behind_level heads.Ends tokens rest e = (0, e)
  behind_level (heads.Data bulk) tokens rest x = (0, x)
  behind_level (heads.Replies n) tokens rest more =
      let (level, row) = gather n tokens rest more in (suc level, row)

  pub any_there : (tokens rest : List ℕ) → Any tokens rest
      → (head : Head) × (mid : List ℕ) × First (HeadText protocol) tokens head mid
      × Behind (Times Any) head mid rest
  any_there tokens rest (front, (level, o), e) =
      let (head, mid, first, behind) = head_there protocol level rest tokens (front, o, e) in
      (head, mid, first, behind_as (inner_any level) head mid rest behind)

  any_back : (head : Head) (tokens mid rest : List ℕ) → First (HeadText protocol) tokens head mid
      → Behind (Times Any) head mid rest → Any tokens rest
  any_back head tokens mid rest first behind =
      let (level, body) = behind_level head mid rest behind in
      let (front, o, e) = head_back protocol level rest tt head tokens mid first body in
      (front, (level, o), e)

  -- a reply of any allocator is a reply
  pub stands_any : {A : Type 0} (level : ℕ) (reply : Replies A) (tokens rest : List ℕ)
      → First (ReplyText protocol level) tokens reply rest → Any tokens rest
  unfolding First
  stands_any level reply tokens rest found =
      let (other, (front, t, e)) = first_any {B = ⊤} tt protocol level reply tokens rest found in
      (front, (level, (other, t)), e)

  -- ---- what is due

  due_of : (head : Head) (n : ℕ) (tokens mid rest : List ℕ) → Behind (Times Any) head tokens mid
      → Times Any n mid rest → IsDue protocol (data_after head) (count_after head n) tokens rest
  due_of heads.Ends n tokens mid rest e more =
      let P : List ℕ → Type 0 = λ l. Times Any n l rest in subst P (sym e) more
  due_of (heads.Data bulk) n tokens mid rest (bytes, first) more = (bytes, mid, first, more)
  due_of (heads.Replies k) n tokens mid rest some more =
      let P : ℕ → Type 0 = λ m. Times Any m tokens rest in
      let same : k + n ≡ n + k = omega arith in
      subst P same (times_add Any k n tokens mid rest some more)

  of_due : (head : Head) (n : ℕ) (tokens rest : List ℕ)
      → IsDue protocol (data_after head) (count_after head n) tokens rest
      → (mid : List ℕ) × Behind (Times Any) head tokens mid × Times Any n mid rest
  of_due heads.Ends n tokens rest more = (tokens, refl, more)
  of_due (heads.Data bulk) n tokens rest (bytes, mid, first, more) = (mid, (bytes, first), more)
  of_due (heads.Replies k) n tokens rest more =
      let P : ℕ → Type 0 = λ m. Times Any m tokens rest in
      let same : n + k ≡ k + n = omega arith in
      times_split Any k n tokens rest (subst P same more)

  -- a first line is passed
  pub line_passed : (head : Head) (n : ℕ) (tokens left : List ℕ)
      → First (HeadText protocol) tokens head left → (rest : List ℕ)
      → Times Any (suc n) tokens rest
      ↔ IsDue protocol (data_after head) (count_after head n) left rest
  unfolding Times
  line_passed head n tokens left first rest = (
    λ (mid, reply, more).
        let (other, back, text, behind) = any_there tokens mid reply in
        let (same, lefts) = (head_splits protocol).one other head tokens back left text first in
        let P : Head → Type 0 = λ h. Behind (Times Any) h back mid in
        let Q : List ℕ → Type 0 = λ l. Behind (Times Any) head l mid in
        due_of head n left mid rest (subst Q lefts (subst P same behind)) more,
    λ due.
        let (mid, behind, more) = of_due head n left rest due in
        (mid, any_back head tokens left mid first behind, more),
  )

  -- the data of a string are passed
  pub data_passed : (bulk : Bulk) (n : ℕ) (bytes : Bor (List ℕ)) (tokens left : List ℕ)
      → First (StringText bulk) tokens bytes left → (rest : List ℕ)
      → IsDue protocol (Some bulk) n tokens rest ↔ IsDue protocol None n left rest
  unfolding First
  data_passed bulk n bytes tokens left (hs, text, f) rest = (
    λ (other, mid, (xs, t, e), more).
        let P : List ℕ → Type 0 = λ l. Times Any n l rest in
        subst P (data_determined bulk.size other bytes tokens mid left (xs, t.1, e)
        (hs, text.1, f)).1 more,
    λ more. (bytes, left, (hs, text, f), more),
  )

  -- ---- how many

  line_small : (mark : Mark) (head : Head) (line : List ℕ) → HeadLineText mark head line
      → IsCountInRange head
  line_small (Line mark) head line (is, a) = subst IsCountInRange (sym is) tt
  line_small mark head line says = let (size, a, is, small) = says in small

  -- the number of replies in a line fits in 64 bits
  pub small_head : (head : Head) (n : ℕ) (xs : List ℕ) → HeadText protocol head xs
      → count_after head n ≤ n + 2 ^ 63
  unfolding Led WithLineEnd
  small_head heads.Ends n xs text = omega arith
  small_head (heads.Data bulk) n xs text = omega arith
  small_head (heads.Replies k) n xs (mark, ys, zs, m, (line, says, d), e) =
      omega (arith, line_small mark (heads.Replies k) line says)
