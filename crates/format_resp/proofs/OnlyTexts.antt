-- Lemmas that a reply is written in one way: `WrittenText` has one encoding of it.
use Rattle.std.specs.Prelude.{◌≡◌, ◌++◌, Bool, true, false, ℕ, ℤ, zero, suc, List, [], ◌∷◌, length}
use Rattle.std.specs.Prelude.{pos, Option, None, Some}
use Rattle.std.specs.Borrow.{Bor}
use Rattle.std.specs.Fmt.{signed_decimal}
use Rattle.std.proofs.Common.{ap, arith, refl, subst, sym, ◌∙◌}
use Rattle.winnow_grammar.specs.InTurn.{Led}
use Rattle.grammars.specs.Texts.{CountedText, EachText, Text}
use Rattle.format_resp.proofs.Refusals.{body_sound}
use Rattle.format_resp.specs.Resp.{Body, BooleanText, Bytes, Content, DataText, ElementsIn}
use Rattle.format_resp.specs.Resp.{WithLineEnd, Items, LineContents, MarkText, Nothing, Number}
use Rattle.format_resp.specs.Resp.{Replies, Shortest, Shown, SizeIn, Truth, WrittenText, byte_of}
use Rattle.format_resp.specs.Resp.{line_end, element_count, shape_of, AfterSize, SizedText}
use Rattle.format_resp.specs.declared.marks.AggregateMark.{AggregateMark}
use Rattle.format_resp.specs.declared.marks.AggregateMark.TheVariants.{Bar, Percent}
use Rattle.format_resp.specs.declared.marks.LineMark.{LineMark}
use Rattle.format_resp.specs.declared.marks.LineMark.TheVariants.{Colon, Hash, Underscore}
use Rattle.format_resp.specs.declared.marks.Mark.{Mark}
use Rattle.format_resp.specs.declared.marks.Mark.TheVariants.{Aggregate, Data, Line}
use Rattle.format_resp.specs.declared.reply.Protocol.{Protocol}

-- one encoding of a value
abbrev pub IsOnly : {O : Type 0} → Text ℕ O → Type 0
IsOnly {O} text = (o : O) (xs ys : List ℕ) → text o xs → text o ys → xs ≡ ys

-- ---- what a reply holds

module _ {A : Type 0} where
  abbrev number_in : Content A → ℤ
  number_in (Number n) = n
  number_in c = pos 0

  abbrev bytes_in : Content A → List ℕ
  bytes_in (Bytes x) = x.now
  bytes_in c = []

  abbrev truth_in : Content A → Bool
  truth_in (Truth b) = b
  truth_in c = false

  abbrev items_in : Content A → List (Replies A)
  items_in (Items l) = l.items
  items_in c = []

  abbrev is_nothing : Content A → Bool
  is_nothing Nothing = true
  is_nothing c = false

-- what two shapes of a reply hold
same_in : {A X : Type 0} (of : Content A → X) (reply : Replies A) {m n : Mark} {c d : Content A}
    → shape_of reply ≡ (m, c) → shape_of reply ≡ (n, d) → of c ≡ of d
same_in of reply e f = ap (λ s. of s.1) (sym e ∙ f)

-- ---- the parts

boolean_only : (b : Bool) (xs ys : List ℕ) → BooleanText b xs → BooleanText b ys → xs ≡ ys
boolean_only true xs ys a b = a ∙ sym b
boolean_only false xs ys a b = a ∙ sym b

ended_only : {O : Type 0} (text : Text ℕ O) → IsOnly text → IsOnly (WithLineEnd text)
unfolding WithLineEnd
ended_only text only o xs ys (v, a, e) (w, b, f) =
    e ∙ ap (λ l. l ++ line_end) (only o v w a b) ∙ sym f

size_only : (size : Option ℕ) (xs ys : List ℕ) → SizeIn Shortest size xs → SizeIn Shortest size ys
    → xs ≡ ys
unfolding WithLineEnd
size_only None xs ys (v, a, e) (w, b, f) = e ∙ ap (λ l. l ++ line_end) (a ∙ sym b) ∙ sym f
size_only (Some n) xs ys (v, (small, a), e) (w, (less, b), f) =
    e ∙ ap (λ l. l ++ line_end) (a ∙ sym b) ∙ sym f

data_only : (m n : ℕ) (x y : Bor (List ℕ)) (xs ys : List ℕ) → x.now ≡ y.now → DataText m x xs
    → DataText n y ys → (m ≡ n) × (xs ≡ ys)
unfolding DataText WithLineEnd CountedText
data_only m n x y xs ys same (v, (count, a), e) (w, (number, b), f) =
    let one : v ≡ w = sym a ∙ same ∙ b in (
      sym count ∙ ap (λ l. length l) one ∙ number,
      e ∙ ap (λ l. l ++ line_end) one ∙ sym f,
    )

many_only : (mark : AggregateMark) (m n : ℕ) → element_count mark m ≡ element_count mark n → m ≡ n
many_only Percent m n e = omega (arith, e)
many_only Bar m n e = omega (arith, e)
many_only mark m n e = e

-- the line of a size, which is the same, and what follows it
lines_only : (m n : Option ℕ) (a b xs ys : List ℕ) → m ≡ n → SizeIn Shortest m a
    → SizeIn Shortest n b → xs ≡ ys → a ++ xs ≡ b ++ ys
lines_only m n a b xs ys same s t e =
    let P : Option ℕ → Type 0 = λ k. SizeIn Shortest k b in
    let one : a ≡ b = size_only m a b s (subst P (sym same) t) in
    ap (λ l. l ++ xs) one ∙ ap (λ l. b ++ l) e

-- ---- replies

module _ {A : Type 0} (elements : Text ℕ (List (Replies A))) (only : IsOnly elements) where
  line_only : (mark : LineMark) → IsOnly (LineContents {A = A} Shortest mark)
  unfolding Shown
  line_only Colon reply xs ys (m, e, (small, a)) (n, f, (less, b)) =
      a ∙ ap (λ k. signed_decimal k) (same_in number_in reply e f) ∙ sym b
  line_only Underscore reply xs ys (e, a) (f, b) = a ∙ sym b
  line_only Hash reply xs ys (m, e, a) (n, f, b) =
      let P : Bool → Type 0 = λ k. BooleanText k ys in
      boolean_only m xs ys a (subst P (sym (same_in truth_in reply e f)) b)
  line_only mark reply xs ys here there =
      let (s, e, (these, a)) = here in
      let (t, f, (those, b)) = there in sym a ∙ same_in bytes_in reply e f ∙ b

  -- a size is not of null if something follows it
  some_only : (mark : Mark) (n : ℕ) (reply : Replies A) (xs : List ℕ)
      → SizedText elements mark n reply xs → shape_of reply ≡ (mark, Nothing) → ⊥
  some_only (Data mark) n reply xs (x, e, a) f = cc (same_in is_nothing reply e f)
  some_only (Aggregate mark) n reply xs (x, e, a) f = cc (same_in is_nothing reply e f)
  some_only (Line mark) n reply xs never f = never

  sized_only : (mark : Mark) (m n : ℕ) (reply : Replies A) (xs ys : List ℕ)
      → SizedText elements mark m reply xs → SizedText elements mark n reply ys
      → (m ≡ n) × (xs ≡ ys)
  sized_only (Data mark) m n reply xs ys (x, e, (fits, a)) (y, f, (also, b)) =
      data_only m n x y xs ys (same_in bytes_in reply e f) a b
  sized_only (Aggregate mark) m n reply xs ys (x, e, (count, a)) (y, f, (number, b)) =
      let same : x.items ≡ y.items = same_in items_in reply e f in
      let P : List (Replies A) → Type 0 = λ l. elements l ys in (
        many_only mark m n (sym count ∙ ap (λ l. length l) same ∙ number),
        only x.items xs ys a (subst P (sym same) b),
      )
  sized_only (Line mark) m n reply xs ys never b = absurd never

  after_only : (mark : Mark) (m n : Option ℕ) (reply : Replies A) (xs ys : List ℕ)
      → AfterSize elements mark m reply xs → AfterSize elements mark n reply ys
      → (m ≡ n) × (xs ≡ ys)
  after_only mark None None reply xs ys (null, (e, a)) (also, (f, b)) = (refl, a ∙ sym b)
  after_only mark None (Some n) reply xs ys (null, (e, a)) b =
      absurd (some_only mark n reply ys b e)
  after_only mark (Some m) None reply xs ys a (null, (f, b)) =
      absurd (some_only mark m reply xs a f)
  after_only mark (Some m) (Some n) reply xs ys a b =
      let (same, one) = sized_only mark m n reply xs ys a b in (ap (λ k. Some k) same, one)

  body_only : (mark : Mark) → IsOnly (Body Shortest elements mark)
  unfolding Led
  body_only (Line mark) reply xs ys here there =
      ended_only (LineContents Shortest mark) (line_only mark) reply xs ys here there
  body_only mark reply xs ys here there =
      let (m, a, x, s, after, e) = here in
      let (n, b, y, t, also, f) = there in
      let (same, one) = after_only mark m n reply x y after also in
      e ∙ lines_only m n a b x y same s t one ∙ sym f

  reply_only : (protocol : Protocol) → IsOnly (Led (MarkText protocol) (Body Shortest elements))
  unfolding Led MarkText
  reply_only protocol reply xs ys (m, a, x, (within, c), here, e) (n, b, y, (also, d), there, f) =
      let same : m ≡ n =
      sym (body_sound elements Shortest m reply x here).0
      ∙ (body_sound elements Shortest n reply y there).0 in
      let P : Mark → Type 0 = λ k. Body Shortest elements k reply y in
      let one : x ≡ y = body_only m reply x y here (subst P (sym same) there) in
      e ∙ ap (λ l. l ++ x) c ∙ ap (λ k. byte_of k ∷ x) same ∙ ap (λ l. byte_of n ∷ l) one
      ∙ ap (λ l. l ++ y) (sym d) ∙ sym f

pub rows_only : {O : Type 0} (text : Text ℕ O) → IsOnly text → IsOnly (EachText text)
unfolding EachText
rows_only text only [] xs ys a b = a ∙ sym b
rows_only text only (o ∷ os) xs ys (v, w, a, row, e) (p, q, b, more, f) =
    e ∙ ap (λ l. l ++ w) (only o v p a b) ∙ ap (λ l. p ++ l) (rows_only text only os w q row more)
    ∙ sym f

module _ {A : Type 0} (protocol : Protocol) where
  elements_only : (level : ℕ) → IsOnly (ElementsIn Shortest protocol {A = A} level)
  unfolding ElementsIn
  elements_only zero os xs ys never b = absurd never
  elements_only (suc level) os xs ys here there =
      rows_only (WrittenText protocol level)
      (reply_only (ElementsIn Shortest protocol level) (elements_only level) protocol) os xs ys
      here there

  pub written_only : (level : ℕ) (reply : Replies A) (xs ys : List ℕ)
      → WrittenText protocol level reply xs → WrittenText protocol level reply ys → xs ≡ ys
  written_only level =
      reply_only (ElementsIn Shortest protocol level) (elements_only level) protocol
