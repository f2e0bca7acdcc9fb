-- Proofs that a reply that cannot be written has no encoding.
use Rattle.std.specs.Prelude.{◌≡◌, ◌⊎◌, ◌<◌, ⊤, ℕ, zero, suc, List, [], ◌∷◌, length, Contains}
use Rattle.std.specs.Prelude.{Option, Some, None}
use Rattle.std.specs.List.{All}
use Rattle.std.specs.declared.vec.Vec.{Vec}
use Rattle.std.proofs.Common.{refl, sym, subst, inl, inr, arith}
use Rattle.std.proofs.lemmas.List.Elements.{All-cons, All-nil}
use Rattle.winnow_grammar.specs.InTurn.{Led}
use Rattle.grammars.specs.Texts.{EachText, Text}
use Rattle.format_resp.proofs.Made.{first_mark_of_shape, line_mark}
use Rattle.format_resp.specs.Numbers.{IsBigNumber, IsDouble}
use Rattle.format_resp.specs.Resp.{Any, Body, Bytes, Content, Elements, ElementsIn, WithLineEnd}
use Rattle.format_resp.specs.Resp.{FitsFormat, Form, IsInProtocol, IsLineOf, IsVerbatim, Items}
use Rattle.format_resp.specs.Resp.{LineContents, MarkText, Replies, ReplyText, Shown, first_mark}
use Rattle.format_resp.specs.Resp.{has_format, element_count, shape_of, AfterSize}
use Rattle.format_resp.specs.Written.{IsBroken, IsDeeper, IsForeign, IsInvalid, IsOf, IsOrHas}
use Rattle.format_resp.specs.Written.{IsRefused, IsUnpaired}
use Rattle.format_resp.specs.declared.marks.AggregateMark.{AggregateMark}
use Rattle.format_resp.specs.declared.marks.DataMark.TheVariants.{Equals}
use Rattle.format_resp.specs.declared.marks.LineMark.{LineMark}
use Rattle.format_resp.specs.declared.marks.LineMark.TheVariants.{Colon, Comma, Hash, Parenthesis}
use Rattle.format_resp.specs.declared.marks.LineMark.TheVariants.{Underscore}
use Rattle.format_resp.specs.declared.marks.Mark.{Mark}
use Rattle.format_resp.specs.declared.marks.Mark.TheVariants.{Aggregate, Data, Line}
use Rattle.format_resp.specs.declared.reply.Protocol.{Protocol}
use Rattle.format_resp.specs.declared.write.WriteError.{WriteError}
use Rattle.format_resp.specs.declared.write.WriteError.TheVariants.{BigNumber, Double, Foreign}
use Rattle.format_resp.specs.declared.write.WriteError.TheVariants.{Format, Level, LineBreak}
use Rattle.format_resp.specs.declared.write.WriteError.TheVariants.{NoParts, OutOfMemory, Pairs}

module _ {A : Type 0} (elements : Text ℕ (List (Replies A))) where
  -- an aggregate has a size, and its elements have encodings
  abbrev pub Built : AggregateMark → Vec (Replies A) A → Type 0
  Built mark list =
      ((n : ℕ) × (length list.items ≡ element_count mark n))
      × ((xs : List ℕ) × elements list.items xs)

  -- what holds for each reply that has an encoding
  abbrev pub Sound : Mark × Content A → Type 0
  Sound (Line mark, Bytes x) = IsLineOf mark x.now
  Sound (Data mark, Bytes x) = FitsFormat (has_format mark) x.now
  Sound (Aggregate mark, Items list) = Built mark list
  Sound s = ⊤

  sound : {s : Mark × Content A} (reply : Replies A) → shape_of reply ≡ s → Sound s
      → Sound (shape_of reply)
  sound reply is = subst (λ s. Sound s) (sym is)

  unsound : {s : Mark × Content A} (reply : Replies A) → shape_of reply ≡ s → (Sound s → ⊥)
      → Sound (shape_of reply) → ⊥
  unsound reply is not a = not (subst (λ s. Sound s) is a)

  line_sound : (form : Form) (mark : LineMark) (reply : Replies A) (line : List ℕ)
      → LineContents form mark reply line → Sound (shape_of reply)
  unfolding Shown
  line_sound form Colon reply line (n, is, a) = sound reply is tt
  line_sound form Underscore reply line (is, a) = sound reply is tt
  line_sound form Hash reply line (b, is, a) = sound reply is tt
  line_sound form mark reply line says =
      let (x, is, (a, s)) = says in sound reply is (subst (IsLineOf mark) (sym s) a)

  after_sound : (mark : Mark) (size : Option ℕ) (reply : Replies A) (tokens : List ℕ)
      → AfterSize elements mark size reply tokens
      → (first_mark reply ≡ mark) × Sound (shape_of reply)
  after_sound (Line mark) None reply tokens (never, (is, a)) = absurd never
  after_sound (Line mark) (Some n) reply tokens never = absurd never
  after_sound (Data mark) None reply tokens (null, (is, a)) =
      (first_mark_of_shape reply is, sound reply is tt)
  after_sound (Data mark) (Some n) reply tokens (bytes, is, (fits, a)) =
      (first_mark_of_shape reply is, sound reply is fits)
  after_sound (Aggregate mark) None reply tokens (null, (is, a)) =
      (first_mark_of_shape reply is, sound reply is tt)
  after_sound (Aggregate mark) (Some n) reply tokens (list, is, (count, a)) =
      (first_mark_of_shape reply is, sound reply is ((n, count), (tokens, a)))

  pub body_sound : (form : Form) (mark : Mark) (reply : Replies A) (tokens : List ℕ)
      → Body form elements mark reply tokens
      → (first_mark reply ≡ mark) × Sound (shape_of reply)
  unfolding WithLineEnd Led
  body_sound form (Line mark) reply tokens (line, says, e) =
      (line_mark form mark reply line says, line_sound form mark reply line says)
  body_sound form mark reply tokens body =
      let (size, xs, ys, s, a, e) = body in after_sound mark size reply ys a

  -- a reply that has an encoding is of the version
  pub led_sound : (form : Form) (protocol : Protocol) (reply : Replies A) (tokens : List ℕ)
      → Led (MarkText protocol) (Body form elements) reply tokens
      → IsInProtocol protocol (first_mark reply) × Sound (shape_of reply)
  unfolding Led MarkText
  led_sound form protocol reply tokens (mark, xs, ys, (within, m), a, e) =
      let (is, holds) = body_sound form mark reply ys a in
      (subst (IsInProtocol protocol) (sym is) within, holds)

  broken : (reply : Replies A) → IsBroken reply → Sound (shape_of reply) → ⊥
  broken reply (inl (text, is, not)) = unsound reply is not
  broken reply (inr (text, is, not)) = unsound reply is not

  unpaired : (reply : Replies A) → IsUnpaired reply → Sound (shape_of reply) → ⊥
  unpaired reply (mark, list, is, not) = unsound reply is (λ ((n, count), has). not n count)

-- ---- replies

module _ {A : Type 0} (protocol : Protocol) where
  -- the reply has an encoding at this depth
  abbrev HasText : ℕ → Replies A → Type 0
  HasText level reply = (tokens : List ℕ) × ReplyText protocol level reply tokens

  text_sound : (level : ℕ) (reply : Replies A) → HasText level reply
      → Sound (Elements protocol level) (shape_of reply)
  text_sound level reply (tokens, text) =
      (led_sound (Elements protocol level) Any protocol reply tokens text).1

  row_has : (level : ℕ) (replies : List (Replies A)) (tokens : List ℕ)
      → EachText (ReplyText protocol level) replies tokens → All (HasText level) replies
  unfolding EachText
  row_has level [] tokens e = All-nil (HasText level)
  row_has level (o ∷ os) tokens (xs, ys, a, more, e) =
      All-cons (HasText level) o os (xs, a) (row_has level os ys more)

  elements_have : (level : ℕ) (items : List (Replies A)) (tokens : List ℕ)
      → Elements protocol level items tokens
      → (inner : ℕ) × (level ≡ suc inner) × All (HasText inner) items
  unfolding ElementsIn
  elements_have zero items tokens never = absurd never
  elements_have (suc inner) items tokens row = (inner, refl, row_has inner items tokens row)

  -- an element of an aggregate that has a text has one, of a level that is one less
  element_has : (level : ℕ) (mark : AggregateMark) (list : Vec (Replies A) A) (reply : Replies A)
      → IsOf mark list reply → HasText level reply
      → (inner : ℕ) × (level ≡ suc inner) × All (HasText inner) list.items
  element_has level mark list reply is text =
      let (size, (zs, are)) =
      subst (λ s. Sound (Elements protocol level) s) is (text_sound level reply text) in
      elements_have level list.items zs are

  at : (P : Replies A → Type 0) (os : List (Replies A)) (o : Replies A) → All P os
      → Contains os o → P o
  at P os o all (k, below, is) = subst P is (all k o below)

  -- ---- what has no text

  -- a reply without an encoding makes the aggregates that contain it have none
  none_within : (such : Replies A → Type 0)
      → ((reply : Replies A) → such reply → (level : ℕ) → HasText level reply → ⊥)
      → (level above : ℕ) (reply : Replies A) → IsOrHas such level reply → HasText above reply → ⊥
  unfolding IsOrHas
  none_within such none zero above reply is text = none reply is above text
  none_within such none (suc level) above reply (inl is) text = none reply is above text
  none_within such none (suc level) above reply (inr (mark, list, e, element, among, is)) text =
      let (inner, deeper, all) = element_has above mark list reply e text in
      none_within such none level inner element is
      (at (HasText inner) list.items element all among)

  deeper_above : (level above : ℕ) (reply : Replies A) → IsDeeper level reply
      → HasText above reply → level < above
  unfolding IsDeeper
  deeper_above zero above reply (mark, list, e) text =
      let (inner, deeper, all) = element_has above mark list reply e text in
      omega (arith, deeper)
  deeper_above (suc level) above reply (mark, list, e, element, among, is) text =
      let (inner, deeper, all) = element_has above mark list reply e text in
      let more = deeper_above level inner element is
      (at (HasText inner) list.items element all among) in omega (arith, deeper, more)

  -- a reply without what holds for each reply that has an encoding
  unsound_none : (such : Replies A → Type 0)
      → ((level : ℕ) (reply : Replies A) → such reply
      → Sound (Elements protocol level) (shape_of reply) → ⊥)
      → (level above : ℕ) (reply : Replies A) → IsOrHas such level reply → HasText above reply → ⊥
  unsound_none such none = none_within such (λ reply is level text.
      none level reply is (text_sound level reply text))

  foreign : (reply : Replies A) → IsForeign protocol reply → (level : ℕ) → HasText level reply → ⊥
  foreign reply not level (tokens, text) =
      not (led_sound (Elements protocol level) Any protocol reply tokens text).0

  -- a reply with an error other than out of memory has no encoding, or one of a greater depth
  pub refused_textless : (level above : ℕ) (reply : Replies A) (e : WriteError) (tokens : List ℕ)
      → IsRefused protocol level reply e → ReplyText protocol above reply tokens
      → (e ≡ OutOfMemory) ⊎ ((e ≡ Level) × (level < above))
  refused_textless level above reply LineBreak tokens is text =
      absurd (unsound_none IsBroken (λ k. broken (Elements protocol k)) level above reply is
      (tokens, text))
  refused_textless level above reply Double tokens is text =
      absurd (unsound_none (IsInvalid (Line Comma) IsDouble) (λ k reply (text, is, not).
      unsound (Elements protocol k) reply is not) level above reply is (tokens, text))
  refused_textless level above reply BigNumber tokens is text =
      absurd (unsound_none (IsInvalid (Line Parenthesis) IsBigNumber) (λ k reply (text, is, not).
      unsound (Elements protocol k) reply is not) level above reply is (tokens, text))
  refused_textless level above reply Format tokens is text =
      absurd (unsound_none (IsInvalid (Data Equals) IsVerbatim) (λ k reply (text, is, not).
      unsound (Elements protocol k) reply is not) level above reply is (tokens, text))
  refused_textless level above reply Pairs tokens is text =
      absurd (unsound_none IsUnpaired (λ k. unpaired (Elements protocol k)) level above reply is
      (tokens, text))
  refused_textless level above reply Foreign tokens is text =
      absurd (none_within (IsForeign protocol) foreign level above reply is (tokens, text))
  refused_textless level above reply NoParts tokens is text = absurd is
  refused_textless level above reply Level tokens is text =
      inr (refl, deeper_above level above reply is (tokens, text))
  refused_textless level above reply OutOfMemory tokens is text = inl refl
