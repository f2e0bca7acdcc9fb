-- A reply is its first line, by its meaning, and what follows it: nothing, the data of a string, or
-- as many replies. So the allocator of its elements does not matter.
use Rattle.std.specs.Prelude.{◌≡◌, ◌<◌, ◌^◌, ℕ, zero, suc, List, [], ◌∷◌, ◌++◌, None, Option, Some}
use Rattle.std.specs.Prelude.{length}
use Rattle.std.specs.Borrow.{Bor}
use Rattle.std.proofs.Common.{refl, sym, ap, subst, ◌∙◌, append_assoc}
use Rattle.winnow_grammar.specs.InTurn.{First, Led}
use Rattle.grammars.specs.Texts.{EachText}
use Rattle.format_resp.proofs.Made.{shape_of_gathered, reply_of_string, shape_of_equal}
use Rattle.format_resp.proofs.Made.{reply_of_null}
use Rattle.format_resp.proofs.WrittenTexts.{few, list_exists}
use Rattle.format_resp.specs.Extents.{IsReplyOf, MatchesAtStart, Times}
use Rattle.format_resp.specs.Heads.{HeadText, IsCountInRange, HeadLineText, IsHeadAfterSize}
use Rattle.format_resp.specs.Resp.{Any, Body, Elements, ElementsIn, WithLineEnd, LineContents}
use Rattle.format_resp.specs.Resp.{Replies, ReplyText, SizeText, StringText, has_format, gathered}
use Rattle.format_resp.specs.Resp.{element_count, AfterSize}
use Rattle.format_resp.specs.declared.heads.Head.{Head}
use Rattle.format_resp.specs.declared.heads.Head.TheVariants as heads
use Rattle.format_resp.specs.declared.marks.LineMark.{LineMark}
use Rattle.format_resp.specs.declared.marks.LineMark.TheVariants.{Colon, Comma, Hash, Minus}
use Rattle.format_resp.specs.declared.marks.LineMark.TheVariants.{Parenthesis, Plus, Underscore}
use Rattle.format_resp.specs.declared.marks.Mark.{Mark}
use Rattle.format_resp.specs.declared.marks.Mark.TheVariants.{Aggregate, Data, Line}
use Rattle.format_resp.specs.declared.reply.Protocol.{Protocol}
use Rattle.format_resp.specs.declared.reply.Reply as made
use Rattle.format_resp.specs.declared.reply.Reply.TheViews.{rolls-BigNumber, rolls-Boolean}
use Rattle.format_resp.specs.declared.reply.Reply.TheViews.{rolls-Double, rolls-Error}
use Rattle.format_resp.specs.declared.reply.Reply.TheViews.{rolls-Integer, rolls-Null, rolls-Simple}

pub line_any : {A B : Type 0} (mark : LineMark) (reply : Replies A) (line : List ℕ)
    → LineContents Any mark reply line → (other : Replies B) × LineContents Any mark other line
line_any Plus reply line (x, is, a) =
    (made.Simple x, (x, shape_of_equal _ refl (rolls-Simple x), a))
line_any Minus reply line (x, is, a) = (made.Error x, (x, shape_of_equal _ refl (rolls-Error x), a))
line_any Colon reply line (n, is, a) =
    (made.Integer n, (n, shape_of_equal _ refl (rolls-Integer n), a))
line_any Underscore reply line (is, e) = (made.Null, (shape_of_equal _ refl rolls-Null, e))
line_any Hash reply line (b, is, a) =
    (made.Boolean b, (b, shape_of_equal _ refl (rolls-Boolean b), a))
line_any Comma reply line (x, is, a) =
    (made.Double x, (x, shape_of_equal _ refl (rolls-Double x), a))
line_any Parenthesis reply line (x, is, a) =
    (made.BigNumber x, (x, shape_of_equal _ refl (rolls-BigNumber x), a))

-- a relation of what is before a step and what is after it
abbrev pub Step : Type 1
Step = List ℕ → List ℕ → Type 0

pub times_map : (these those : Step) → ((from to : List ℕ) → these from to → those from to)
    → (n : ℕ) (from to : List ℕ) → Times these n from to → Times those n from to
unfolding Times
times_map these those leads zero from to e = e
times_map these those leads (suc n) from to (mid, one, more) =
    (mid, leads from mid one, times_map these those leads n mid to more)

-- what follows a first line, by `n` replies
abbrev pub Behind : (ℕ → Step) → Head → Step
Behind these heads.Ends tokens rest = tokens ≡ rest
Behind these (heads.Data bulk) tokens rest =
    (bytes : Bor (List ℕ)) × First (StringText bulk) tokens bytes rest
Behind these (heads.Replies n) tokens rest = these n tokens rest

pub behind_as : {these those : ℕ → Step}
    → ((n : ℕ) (from to : List ℕ) → these n from to → those n from to) → (head : Head)
    (tokens rest : List ℕ) → Behind these head tokens rest → Behind those head tokens rest
behind_as leads heads.Ends tokens rest e = e
behind_as leads (heads.Data bulk) tokens rest x = x
behind_as leads (heads.Replies n) tokens rest x = leads n tokens rest x

as_head : (these : ℕ → Step) (tokens rest : List ℕ) {head other : Head} → other ≡ head
    → Behind these head tokens rest → Behind these other tokens rest
as_head these tokens rest is = subst (λ h. Behind these h tokens rest) (sym is)

-- a reply at a depth, with this allocator
abbrev pub At : Type 0 → Protocol → ℕ → Step
At A protocol level = MatchesAtStart (IsReplyOf A protocol level)

-- and its elements
abbrev pub Inner : Type 0 → Protocol → ℕ → ℕ → Step
Inner A protocol zero n tokens rest = ⊥
Inner A protocol (suc level) n tokens rest = Times (At A protocol level) n tokens rest

module _ {A : Type 0} (protocol : Protocol) where
  -- ---- elements, one after another

  row_times : (level : ℕ) (os : List (Replies A)) (xs rest : List ℕ)
      → EachText (ReplyText protocol level) os xs
      → Times (At A protocol level) (length os) (xs ++ rest) rest
  unfolding EachText Times
  row_times level [] xs rest e = ap (λ l. l ++ rest) e
  row_times level (o ∷ os) xs rest (ys, zs, t, row, e) = (
    zs ++ rest,
    (ys, (o, t), ap (λ l. l ++ rest) e ∙ append_assoc ys zs rest),
    row_times level os zs rest row,
  )

  times_row : (level n : ℕ) (tokens rest : List ℕ) → Times (At A protocol level) n tokens rest
      → (os : List (Replies A)) × (length os ≡ n)
      × ((xs : List ℕ) × EachText (ReplyText protocol level) os xs × (tokens ≡ xs ++ rest))
  unfolding EachText Times
  times_row level zero tokens rest e = ([], refl, ([], refl, e))
  times_row level (suc n) tokens rest (mid, (front, (o, t), e), more) =
      let (os, count, (xs, row, d)) = times_row level n mid rest more in (
        o ∷ os,
        ap (λ k. suc k) count,
        (
          front ++ xs,
          (front, xs, t, row, refl),
          e ∙ ap (λ l. front ++ l) d ∙ sym (append_assoc front xs rest),
        ),
      )

  elements_times : (level : ℕ) (os : List (Replies A)) (xs rest : List ℕ)
      → Elements protocol level os xs → Inner A protocol level (length os) (xs ++ rest) rest
  unfolding ElementsIn
  elements_times zero os xs rest never = never
  elements_times (suc level) os xs rest row = row_times level os xs rest row

  times_elements : (level n : ℕ) (tokens rest : List ℕ) → Inner A protocol level n tokens rest
      → (os : List (Replies A)) × (length os ≡ n)
      × ((xs : List ℕ) × Elements protocol level os xs × (tokens ≡ xs ++ rest))
  unfolding ElementsIn
  times_elements zero n tokens rest never = absurd never
  times_elements (suc level) n tokens rest more = times_row level n tokens rest more

module _ {A : Type 0} (protocol : Protocol) (level : ℕ) (rest : List ℕ) where
  -- ---- the first line, and what follows

  follows_there : (mark : Mark) (size : Option ℕ) (reply : Replies A) (xs : List ℕ)
      → AfterSize (Elements protocol level) mark size reply xs
      → (head : Head) × IsHeadAfterSize mark size head × IsCountInRange head
      × Behind (Inner A protocol level) head (xs ++ rest) rest
  unfolding First
  follows_there mark None reply xs (null, (is, empty)) =
      (heads.Ends, (null, refl), tt, ap (λ l. l ++ rest) empty)
  follows_there (Line mark) (Some n) reply xs never = absurd never
  follows_there (Data mark) (Some n) reply xs (bytes, is, t) = (
    heads.Data (record { size = n; verbatim = has_format mark }),
    refl,
    tt,
    (bytes, (xs, t, refl)),
  )
  follows_there (Aggregate mark) (Some n) reply xs (list, is, (count, row)) = (
    heads.Replies (element_count mark n),
    refl,
    subst (λ k. k < 2 ^ 63) count (few list),
    subst (λ k. Inner A protocol level k (xs ++ rest) rest) count
        (elements_times protocol level list.items xs rest row),
  )

  body_there : (mark : Mark) (reply : Replies A) (xs : List ℕ)
      → Body Any (Elements protocol level) mark reply xs
      → (head : Head) × (mid : List ℕ)
      × First (WithLineEnd (HeadLineText mark)) (xs ++ rest) head mid
      × Behind (Inner A protocol level) head mid rest
  unfolding First Led WithLineEnd SizeText
  body_there (Line mark) reply xs (line, says, e) =
      (heads.Ends, rest, (xs, (line, (refl, line_any mark reply line says), e), refl), refl)
  body_there mark reply xs body =
      let (size, us, vs, (line, a, f), b, e) = body in
      let (head, is, small, behind) = follows_there mark size reply vs b in (
        head,
        vs ++ rest,
        (us, (line, (size, a, is, small), f), ap (λ l. l ++ rest) e ∙ append_assoc us vs rest),
        behind,
      )

  pub head_there : (tokens : List ℕ) → At A protocol level tokens rest
      → (head : Head) × (mid : List ℕ) × First (HeadText protocol) tokens head mid
      × Behind (Inner A protocol level) head mid rest
  unfolding First Led
  head_there tokens (front, (reply, (mark, ms, bs, m, body, d)), e) =
      let (head, mid, (us, says, f), behind) = body_there mark reply bs body in (
        head,
        mid,
        (
          ms ++ us,
          (mark, ms, us, m, says, refl),
          e ∙ ap (λ l. l ++ rest) d ∙ append_assoc ms bs rest ∙ ap (λ l. ms ++ l) f
              ∙ sym (append_assoc ms us mid),
        ),
        behind,
      )

  -- ---- and back

  module _ (alloc : A) where
    follows_back : (mark : Mark) (size : Option ℕ) (head : Head) (tokens : List ℕ)
        → IsHeadAfterSize mark size head → IsCountInRange head
        → Behind (Inner A protocol level) head tokens rest
        → (reply : Replies A) × (vs : List ℕ)
        × AfterSize (Elements protocol level) mark size reply vs × (tokens ≡ vs ++ rest)
    unfolding First
    follows_back mark None head tokens (null, is) small behind =
        let (reply, shape_is) = reply_of_null mark null in (
          reply,
          [],
          (null, (shape_is, refl)),
          as_head (Inner A protocol level) tokens rest is behind,
        )
    follows_back (Line mark) (Some n) head tokens never small behind = absurd never
    follows_back (Data mark) (Some n) head tokens is small behind =
        let (bytes, (vs, t, e)) = as_head (Inner A protocol level) tokens rest is behind in
        let (reply, shape_is) = reply_of_string mark bytes in (reply, vs, (bytes, shape_is, t), e)
    follows_back (Aggregate mark) (Some n) head tokens is small behind =
        let (os, count, (vs, row, e)) =
        times_elements protocol level (element_count mark n) tokens rest
        (as_head (Inner A protocol level) tokens rest is behind) in
        let less : element_count mark n < 2 ^ 63 = subst IsCountInRange (sym is) small in
        let (list, same) = list_exists alloc os (subst (λ k. k < 2 ^ 63) (sym count) less) in
        let Q : List (Replies A) → Type 0 = λ l.
        (length l ≡ element_count mark n) × Elements protocol level l vs in
        let are = subst Q (sym same) (count, row) in
        (gathered mark list, vs, (list, shape_of_gathered mark list refl, are), e)

    body_back : (mark : Mark) (head : Head) (us mid : List ℕ)
        → WithLineEnd (HeadLineText mark) head us
        → Behind (Inner A protocol level) head mid rest
        → (reply : Replies A) × (vs : List ℕ) × Body Any (Elements protocol level) mark reply vs
        × (us ++ mid ≡ vs ++ rest)
    unfolding Led WithLineEnd SizeText
    body_back (Line mark) head us mid (line, (is, (reply, says)), e) behind =
        let (other, also) = line_any mark reply line says in
        let P : Head → Type 0 = λ h. Behind (Inner A protocol level) h mid rest in
        (other, us, (line, also, e), ap (λ l. us ++ l) (subst P is behind))
    body_back mark head us mid ended behind =
        let (line, (size, a, is, small), e) = ended in
        let (reply, vs, b, f) = follows_back mark size head mid is small behind in (
          reply,
          us ++ vs,
          (size, us, vs, (line, a, e), b, refl),
          ap (λ l. us ++ l) f ∙ sym (append_assoc us vs rest),
        )

    pub head_back : (head : Head) (tokens mid : List ℕ)
        → First (HeadText protocol) tokens head mid
        → Behind (Inner A protocol level) head mid rest → At A protocol level tokens rest
    unfolding First Led
    head_back head tokens mid (front, (mark, ms, us, m, says, d), e) behind =
        let (reply, vs, body, f) = body_back mark head us mid says behind in (
          ms ++ vs,
          (reply, (mark, ms, vs, m, body, refl)),
          e ∙ ap (λ l. l ++ mid) d ∙ append_assoc ms us mid ∙ ap (λ l. ms ++ l) f
              ∙ sym (append_assoc ms vs rest),
        )

-- ---- replies of another allocator

module _ {A B : Type 0} (alloc : B) (protocol : Protocol) where
  any_by : (level : ℕ)
      → ((n : ℕ) (from to : List ℕ) → Inner A protocol level n from to
      → Inner B protocol level n from to)
      → (tokens rest : List ℕ) → At A protocol level tokens rest → At B protocol level tokens rest
  any_by level leads tokens rest found =
      let (head, mid, first, behind) = head_there protocol level rest tokens found in
      head_back protocol level rest alloc head tokens mid first
      (behind_as leads head mid rest behind)

  at_any : (level : ℕ) (tokens rest : List ℕ) → At A protocol level tokens rest
      → At B protocol level tokens rest
  at_any zero = any_by zero (λ n from to never. never)
  at_any (suc level) =
      any_by (suc level) (times_map (At A protocol level) (At B protocol level) (at_any level))

  pub first_any : (level : ℕ) (reply : Replies A) (tokens rest : List ℕ)
      → First (ReplyText protocol level) tokens reply rest
      → (other : Replies B) × First (ReplyText protocol level) tokens other rest
  unfolding First
  first_any level reply tokens rest (front, t, e) =
      let (back, (other, u), f) = at_any level tokens rest (front, (reply, t), e) in
      (other, (back, u, f))
