-- Uniqueness of the first line of a reply, and its relation to lines.
use Rattle.std.specs.Prelude.{◌≡◌, ◌≤◌, ◌^◌, ℕ, List, [], ◌∷◌, ◌++◌, length, take, drop, None, Some}
use Rattle.std.specs.Prelude.{Option}
use Rattle.std.specs.List.{AllByRecursion}
use Rattle.std.proofs.Common.{refl, sym, inl, ap, arith, subst, ◌∙◌, append_assoc}
use Rattle.streams.specs.Equal.{none_is_some, same_first, same_others}
use Rattle.winnow_grammar.specs.InTurn.{First, Led, Splits}
use Rattle.grammars.specs.Texts.{Text}
use Rattle.format_resp.proofs.LineEnds.{IsPlain, ended_splits, open_endless, return_ends, until_end}
use Rattle.format_resp.proofs.Encodings.{led_determined}
use Rattle.format_resp.proofs.FirstBytes.{byte_of_injective, mark_splits}
use Rattle.format_resp.proofs.LineTexts.{line_plain, one_size, size_plain}
use Rattle.format_resp.specs.Heads.{HasNumber, HasNumberLine, HeadText, IsLinePrefix}
use Rattle.format_resp.specs.Heads.{IsRejectedFirstLine, IsReason, IsRejectedLine, IsCountInRange}
use Rattle.format_resp.specs.Heads.{IsWhy, HeadLineText, IsHeadAfterSize}
use Rattle.format_resp.specs.Lines.{EndsLine, IsOpen}
use Rattle.format_resp.specs.Numbers.{AreDigits, SizeLine}
use Rattle.format_resp.specs.Resp.{WithLineEnd, IsLineByte, IsInProtocol, MarkText, byte_of}
use Rattle.format_resp.specs.Resp.{line_end, element_count, MayBeNull}
use Rattle.format_resp.specs.declared.extent.Reason.{Reason}
use Rattle.format_resp.specs.declared.extent.Reason.TheVariants.{Malformed, TooDeep, TooLarge}
use Rattle.format_resp.specs.declared.heads.Head.{Head}
use Rattle.format_resp.specs.declared.marks.AggregateMark.{AggregateMark}
use Rattle.format_resp.specs.declared.marks.AggregateMark.TheVariants.{Star}
use Rattle.format_resp.specs.declared.marks.LineMark.{LineMark}
use Rattle.format_resp.specs.declared.marks.LineMark.TheVariants.{Colon}
use Rattle.format_resp.specs.declared.marks.Mark.{Mark}
use Rattle.format_resp.specs.declared.marks.Mark.TheVariants.{Aggregate, Data, Line}
use Rattle.format_resp.specs.declared.marks.DataMark.{DataMark}
use Rattle.format_resp.specs.declared.marks.DataMark.TheVariants.{Dollar}
use Rattle.format_resp.specs.declared.reply.Protocol.{Protocol}

-- ---- texts at the start of the same tokens

splits_led : {X O : Type 0} (first : Text ℕ X) (behind : X → Text ℕ O) → Splits first
    → ((x : X) → Splits (behind x)) → Splits (Led first behind)
splits_led first behind a b = record {
  one = led_determined first behind (λ o p. o ≡ p) a (λ x. (b x).one);
}

pub says_all : (mark : Mark) (head : Head) (line : List ℕ) → HeadLineText mark head line
    → AllByRecursion IsLineByte line
says_all (Line mark) head line (is, (reply, a)) = (line_plain mark).plain reply line a
says_all mark head line says =
    let (size, a, is, small) = says in size_plain.plain size line a

says_plain : (mark : Mark) → IsPlain (HeadLineText mark)
says_plain mark = record { plain = says_all mark }

after_one : (mark : Mark) (size : Option ℕ) (head other : Head) → IsHeadAfterSize mark size head
    → IsHeadAfterSize mark size other → head ≡ other
after_one mark None head other (null, is) (also, are) = sym is ∙ are
after_one (Line mark) (Some n) head other never are = absurd never
after_one (Data mark) (Some n) head other is are = sym is ∙ are
after_one (Aggregate mark) (Some n) head other is are = sym is ∙ are

says_one : (mark : Mark) (head other : Head) (line : List ℕ) → HeadLineText mark head line
    → HeadLineText mark other line → head ≡ other
says_one (Line mark) head other line (is, a) (are, b) = is ∙ sym are
says_one mark head other line says also =
    let (m, a, is, small) = says in
    let (n, b, are, less) = also in
    let P : Option ℕ → Type 0 = λ k. IsHeadAfterSize mark k other in
    after_one mark m head other is (subst P (sym (one_size m n line a b)) are)

-- ---- lines that are rejected

pub no_number : (mark : LineMark) (line : List ℕ) → (mark ≡ Colon → ⊥) → HasNumber (Line mark) line
    → ⊥
no_number Colon line other number = other refl
no_number mark line other number = number

-- the size of null
null_number : (line : List ℕ) → line ≡ 45 ∷ 49 ∷ [] → AreDigits line → ⊥
null_number line e (all, some) =
    let P : List ℕ → Type 0 = λ l. AreDigits l in
    let a = subst P e (all, some) in omega (arith, a.0.0.0)

pub only_dollar : (mark : DataMark) → (mark ≡ Dollar → ⊥) → MayBeNull (Data mark) → ⊥
only_dollar Dollar other null = other refl
only_dollar mark other never = never

pub only_star : (mark : AggregateMark) → (mark ≡ Star → ⊥) → MayBeNull (Aggregate mark) → ⊥
only_star Star other null = other refl
only_star mark other never = never

null_rejected : (mark : Mark) (size : Option ℕ) (line : List ℕ) (head : Head)
    → line ≡ 45 ∷ 49 ∷ [] → (MayBeNull mark → ⊥) → SizeLine size line
    → IsHeadAfterSize mark size head → ⊥
null_rejected mark None line head e other a (null, is) = other null
null_rejected mark (Some n) line head e other a is = none_is_some (one_size None (Some n) line e a)

-- it is that of a bulk string and of an array only
pub no_null : (mark : Mark) (line : List ℕ) → ((of : LineMark) → mark ≡ Line of → ⊥)
    → line ≡ 45 ∷ 49 ∷ [] → (MayBeNull mark → ⊥) → IsRejectedLine mark line Malformed
no_null (Line mark) line sized e other = absurd (sized mark refl)
no_null mark line sized e other = (
  λ head says.
      let (size, a, is, few) = says in null_rejected mark size line head e other a is,
  null_number line e,
)

-- an aggregate of too many replies
pub too_many : (mark : AggregateMark) (n : ℕ) (line : List ℕ) → SizeLine (Some n) line
    → 2 ^ 63 ≤ element_count mark n → IsRejectedLine (Aggregate mark) line TooLarge
too_many mark n line (digits, small) large = (
  λ head (size, a, is, few).
      let P : Option ℕ → Type 0 = λ k. IsHeadAfterSize (Aggregate mark) k head in
      let same = subst P (one_size size (Some n) line a (digits, small)) is in
      omega (arith, subst IsCountInRange (sym same) few, large),
  digits.0,
)

-- the first line of a reply, taken apart: its mark, the line, and the rest after the line's end
pub record LineAt (protocol : Protocol) (tokens : List ℕ) (head : Head) (rest : List ℕ) : Type 0
  where
    pub mark : Mark
    pub line : List ℕ
    pub within : IsInProtocol protocol mark
    pub says : HeadLineText mark head line
    pub splits : tokens ≡ byte_of mark ∷ (line ++ (line_end ++ rest))

module _ (protocol : Protocol) where
  pub head_splits : Splits (HeadText protocol)
  head_splits = splits_led (MarkText protocol) (λ mark. WithLineEnd (HeadLineText mark))
      (mark_splits protocol)
      (λ mark. ended_splits (HeadLineText mark) (says_plain mark) (says_one mark))

  -- ---- what a first line is

  pub start_stands : (mark : Mark) (head : Head) (byte : ℕ) (tokens text line left : List ℕ)
      → IsInProtocol protocol mark → byte ≡ byte_of mark → tokens ≡ byte ∷ text
      → EndsLine text line left
      → HeadLineText mark head line → First (HeadText protocol) tokens head left
  unfolding First Led MarkText WithLineEnd
  start_stands mark head byte tokens text line left within is split (all, e) says = (
    byte_of mark ∷ (line ++ line_end),
    (
      mark,
      byte_of mark ∷ [],
      line ++ line_end,
      (within, refl),
      (line, says, refl),
      refl,
    ),
    split ∙ ap (λ b. b ∷ text) is
        ∙ ap (λ l. byte_of mark ∷ l) (e ∙ sym (append_assoc line line_end left)),
  )

  pub line_at : {head : Head} (tokens rest : List ℕ) → First (HeadText protocol) tokens head rest
      → LineAt protocol tokens head rest
  unfolding First Led MarkText WithLineEnd
  line_at tokens rest (front, (mark, ms, us, (within, m), (line, says, e), d), f) = record {
    mark = mark;
    line = line;
    within = within;
    says = says;
    splits = f ∙ ap (λ l. l ++ rest) (d ∙ ap (λ l. l ++ us) m)
        ∙ ap (λ l. byte_of mark ∷ (l ++ rest)) e
        ∙ ap (λ l. byte_of mark ∷ l) (append_assoc line line_end rest);
  }

  start_line : (head : Head) (byte : ℕ) (text rest : List ℕ)
      → First (HeadText protocol) (byte ∷ text) head rest
      → (mark : Mark) × (line : List ℕ) × IsInProtocol protocol mark × (byte ≡ byte_of mark)
      × EndsLine text line rest × HeadLineText mark head line
  start_line head byte text rest x =
      let at = line_at (byte ∷ text) rest x in (
        at.mark,
        at.line,
        at.within,
        same_first at.splits,
        (says_all at.mark head at.line at.says, same_others at.splits),
        at.says,
      )

  -- none where it is not ended
  pub begun_none : (tokens : List ℕ) → IsLinePrefix protocol tokens → (head : Head)
      (rest : List ℕ) → First (HeadText protocol) tokens head rest → ⊥
  begun_none [] b head rest x = omega (arith, ap (λ l. length l) (line_at [] rest x).splits)
  begun_none (byte ∷ text) b head rest x =
      let (mark, line, within, is, ends, says) = start_line head byte text rest x in
      open_endless text b.begun line rest ends

  nil_cons : (b : ℕ) (t : List ℕ) → [] ≡ b ∷ t → ⊥
  nil_cons b t e = cc

  pub none_begun : (tokens : List ℕ) → tokens ≡ [] → IsLinePrefix protocol tokens
  none_begun tokens e = record {
    marked = λ b t d. absurd (nil_cons b t (sym e ∙ d));
    begun = ([], tt, inl (ap (λ l. drop 1 l) e));
  }

  module _ (tokens text : List ℕ) (byte : ℕ) (split : tokens ≡ byte ∷ text) where
    number_line : (more : List ℕ) → HasNumberLine protocol (tokens ++ more)
        → HasNumberLine protocol (byte ∷ (text ++ more))
    number_line more = subst (λ l. HasNumberLine protocol (l ++ more)) split

    -- none where no line follows a first byte
    no_line : ((more line rest : List ℕ) (mark : Mark) → IsInProtocol protocol mark
        → byte ≡ byte_of mark
        → EndsLine (text ++ more) line rest → ⊥) → IsRejectedFirstLine protocol tokens Malformed
    no_line none = record {
      never = λ more head rest x.
          let (mark, line, within, is, ends, says) =
          start_line head byte (text ++ more) rest (rw split at x) in
          none more line rest mark within is ends;
      why = λ more x.
          let (mark, line, rest, within, is, ends, number) = number_line more x in
          none more line rest mark within is ends;
    }

    -- none where no reply begins
    pub start_unmarked : ((mark : Mark) → IsInProtocol protocol mark → byte ≡ byte_of mark → ⊥)
        → IsRejectedFirstLine protocol tokens Malformed
    start_unmarked none = no_line (λ more line rest mark within is ends. none mark within is)

    -- none where none will be
    pub start_never : ((more line rest : List ℕ) → EndsLine (text ++ more) line rest → ⊥)
        → IsRejectedFirstLine protocol tokens Malformed
    start_never none = no_line (λ more line rest mark within is ends. none more line rest ends)

    module _ (line left : List ℕ) (mark : Mark) (within : IsInProtocol protocol mark)
        (is : byte ≡ byte_of mark) (ends : EndsLine text line left) where
      -- the same line with the same mark
      same_line : (other : Mark) (back more rest : List ℕ) → byte ≡ byte_of other
          → EndsLine (text ++ more) back rest → (other ≡ mark) × (back ≡ line)
      same_line other back more rest are (every, f) = (
        byte_of_injective other mark (sym are ∙ is),
        sym (until_end 13 13 line back (10 ∷ left ++ more) (10 ∷ rest) ends.0 every return_ends
            return_ends (sym (append_assoc line (13 ∷ 10 ∷ left) more)
            ∙ ap (λ l. l ++ more) (sym ends.1) ∙ f)).0,
      )

      why_silent : (reason : Reason) → IsReason (HasNumber mark line) reason
          → IsWhy protocol tokens reason
      why_silent Malformed none = λ more x.
          let (other, back, rest, inside, are, begins, number) = number_line more x in
          let (same, lines) = same_line other back more rest are begins in
          let P : Mark → Type 0 = λ m. HasNumber m back in
          let Q : List ℕ → Type 0 = λ l. HasNumber mark l in
          none (subst Q lines (subst P same number))
      why_silent TooLarge number = subst (λ l. HasNumberLine protocol l) (sym split)
          (mark, line, left, within, is, ends, number)
      why_silent TooDeep never = absurd never

      -- no head starts here if its line is invalid
      pub start_silent : (reason : Reason) → IsRejectedLine mark line reason
          → IsRejectedFirstLine protocol tokens reason
      start_silent reason (none, why) = record {
        never = λ more head rest x.
            let (other, back, inside, are, begins, says) =
            start_line head byte (text ++ more) rest (rw split at x) in
            let (same, lines) = same_line other back more rest are begins in
            let P : Mark → Type 0 = λ m. HeadLineText m head back in
            let Q : List ℕ → Type 0 = λ l. HeadLineText mark head l in
            none head (subst Q lines (subst P same says));
        why = why_silent reason why;
      }

    -- ---- what is sought after the first byte

    pub sought_text : (n : ℕ) → AllByRecursion IsLineByte (take n (drop 1 tokens))
        → AllByRecursion IsLineByte (take n text)
    sought_text n all = rw split at all

    pub text_sought : (n : ℕ) (mark : Mark) → IsInProtocol protocol mark → byte ≡ byte_of mark
        → (n ≤ length text) × AllByRecursion IsLineByte (take n text) × IsOpen text
        → (n ≤ length (drop 1 tokens)) × AllByRecursion IsLineByte (take n (drop 1 tokens))
        × IsLinePrefix protocol tokens
    text_sought n mark within is (enough, all, begun) = rw split (
      enough,
      all,
      record {
        marked = λ b t d. (mark, within, sym (same_first d) ∙ is);
        begun = begun;
      },
    )
