-- Lemmas that replies whose encodings start the same tokens are equivalent.
use Rattle.std.specs.Prelude.{◌≡◌, Bool, true, false, ℕ, zero, suc, List, [], ◌∷◌, Option, Some}
use Rattle.std.specs.Prelude.{None}
use Rattle.std.proofs.Common.{refl, sym, subst, subst₂, ◌∙◌, arith}
use Rattle.streams.specs.Equal.{same_first}
use Rattle.winnow_grammar.specs.InTurn.{First, Led}
use Rattle.grammars.specs.Texts.{Text}
use Rattle.format_resp.proofs.LineTexts.{one_number, size_splits, line_plain}
use Rattle.format_resp.proofs.LineEnds.{one_line}
use Rattle.format_resp.proofs.Encodings.{Determined, Pairs, data_determined, led_determined}
use Rattle.format_resp.proofs.Encodings.{nothing_left, rows_determined}
use Rattle.grammars.specs.Grammar.{IsUnique}
use Rattle.format_resp.proofs.FirstBytes.{mark_splits}
use Rattle.format_resp.specs.Alike.{AreAlike, AreAlikeBy, HoldAlike}
use Rattle.format_resp.specs.Resp.{Any, Body, BooleanText, Content, Elements, ElementsIn}
use Rattle.format_resp.specs.Resp.{WithLineEnd, LineContents, MarkText, Replies, ReplyText, Shown}
use Rattle.format_resp.specs.Resp.{SizeText, shape_of, AfterSize}
use Rattle.format_resp.specs.declared.marks.LineMark.{LineMark}
use Rattle.format_resp.specs.declared.marks.LineMark.TheVariants.{Colon, Hash, Underscore}
use Rattle.format_resp.specs.declared.marks.Mark.{Mark}
use Rattle.format_resp.specs.declared.marks.Mark.TheVariants.{Aggregate, Data, Line}
use Rattle.format_resp.specs.declared.reply.Protocol.{Protocol}

-- ---- booleans

t_is_no_f : {P : Type 0} {line : List ℕ} → line ≡ 116 ∷ [] → line ≡ 102 ∷ [] → P
t_is_no_f e f = absurd (omega (arith, same_first (sym e ∙ f)))

one_boolean : (m n : Bool) (line : List ℕ) → BooleanText m line → BooleanText n line → m ≡ n
one_boolean true true line a b = refl
one_boolean true false line a b = t_is_no_f a b
one_boolean false true line a b = t_is_no_f b a
one_boolean false false line a b = refl

-- ---- by what the replies are

module _ {A : Type 0} (alike : Replies A → Replies A → Type 0) where
  alike_as : (v w : Replies A) {mark : Mark} {c d : Content A} → shape_of v ≡ (mark, c)
      → shape_of w ≡ (mark, d) → HoldAlike alike c d → AreAlikeBy alike v w
  alike_as v w e f a =
      subst₂ (λ (s t : Mark × Content A). (s.0 ≡ t.0) × HoldAlike alike s.1 t.1) (sym e) (sym f)
      (refl, a)

  -- of lines that say the same
  line_alike : (mark : LineMark) (v w : Replies A) (line : List ℕ) → LineContents Any mark v line
      → LineContents Any mark w line → AreAlikeBy alike v w
  unfolding Shown
  line_alike Colon v w line (m, e, a) (n, f, b) = alike_as v w e f (one_number m n line a b)
  line_alike Underscore v w line (e, a) (f, b) = alike_as v w e f tt
  line_alike Hash v w line (m, e, a) (n, f, b) = alike_as v w e f (one_boolean m n line a b)
  line_alike mark v w line a b =
      let (x, e, (s, shown)) = a in
      let (y, f, (t, seen)) = b in alike_as v w e f (shown ∙ sym seen)

  -- ---- equivalence, by the kind of reply

  ended_alike : (mark : LineMark)
      → Determined (AreAlikeBy alike) (WithLineEnd (LineContents Any mark))
  unfolding First WithLineEnd
  ended_alike mark v w tokens rest other (front, (xs, a, e), d) (back, (ys, b, f), h) =
      let plain = line_plain {A = A} mark in
      let (same, left) = one_line tokens front back xs ys rest other (plain.plain v xs a)
      (plain.plain w ys b) e d f h in
      (line_alike mark v w xs a (subst (LineContents Any mark w) (sym same) b), left)

module _ {A : Type 0} (alike : Replies A → Replies A → Type 0)
    (elements : Text ℕ (List (Replies A))) (pairs : Pairs alike elements) where
  after_alike : (mark : Mark) (size : Option ℕ)
      → Determined (AreAlikeBy alike) (AfterSize elements mark size)
  unfolding First
  after_alike mark None v w tokens rest other (front, (null, (e, a)), d)
      (back, (also, (f, b)), h) = (alike_as alike v w e f tt, nothing_left a b d h)
  after_alike (Line mark) (Some n) v w tokens rest other (front, never, d) b = absurd never
  after_alike (Data mark) (Some n) v w tokens rest other (front, (x, e, (fits, a)), d)
      (back, (y, f, (also, b)), h) =
      let (same, left) = data_determined n x y tokens rest other (front, a, d) (back, b, h) in
      (alike_as alike v w e f same, left)
  after_alike (Aggregate mark) (Some n) v w tokens rest other (front, (l, e, (many, a)), d)
      (back, (m, f, (also, b)), h) =
      let (are, left) =
      pairs l.items m.items front back rest other a b (sym d ∙ h) (many ∙ sym also) in
      (alike_as alike v w e f are, left)

  body_alike : (mark : Mark) → Determined (AreAlikeBy alike) (Body Any elements mark)
  body_alike (Line mark) = ended_alike alike mark
  body_alike mark = led_determined SizeText (AfterSize elements mark) (AreAlikeBy alike) size_splits
      (after_alike mark)

  marked_alike : (protocol : Protocol)
      → Determined (AreAlikeBy alike) (Led (MarkText protocol) (Body Any elements))
  marked_alike protocol = led_determined (MarkText protocol) (Body Any elements) (AreAlikeBy alike)
      (mark_splits protocol) body_alike

-- replies
pub replies_alike : {A : Type 0} (protocol : Protocol) (level : ℕ)
    → Determined (AreAlike level) (ReplyText {A = A} protocol level)
unfolding AreAlike ElementsIn
replies_alike {A} protocol zero = marked_alike (λ v w. ⊥) (Elements protocol zero)
    (λ os ps xs ys rest other never. absurd never) protocol
replies_alike {A} protocol (suc level) =
    marked_alike (AreAlike level) (Elements protocol (suc level))
    (rows_determined (ReplyText protocol level) (AreAlike level) (replies_alike protocol level))
    protocol

pub reply_unique : {A : Type 0} (protocol : Protocol) (level : ℕ)
    → IsUnique (First (ReplyText {A = A} protocol level))
unfolding First
reply_unique protocol level = record {
  ends = λ tokens o rest (front, a, e). (front, e);
  one = λ tokens o p rest other a b. (replies_alike protocol level o p tokens rest other a b).1;
}
