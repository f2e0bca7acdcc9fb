-- Proofs that the bytes written for a reply are an encoding of it, and that an encoding at a depth
-- is one at each greater depth.
use Rattle.std.specs.Prelude.{◌≡◌, ◌+◌, ◌<◌, ◌^◌, ℕ, ℤ, zero, suc, List, [], ◌∷◌, length, Option}
use Rattle.std.specs.Prelude.{None, Some, ◌++◌, FitsSigned}
use Rattle.std.specs.Borrow.{Bor}
use Rattle.std.specs.Fmt.{decimal, signed_decimal}
use Rattle.std.specs.Int.{w64}
use Rattle.std.specs.declared.vec.Vec.{Vec}
use denote.RawPtr.{null_ptr}
use Rattle.std.proofs.Common.{refl, subst, arith}
use Rattle.winnow_grammar.specs.InTurn.{Led}
use Rattle.grammars.specs.Texts.{CountedText, EachText, Text}
use Rattle.format_resp.proofs.LineTexts.{integer_read, size_read}
use Rattle.format_resp.proofs.Made.{first_mark_of_shape, line_mark, shape_of_equal}
use Rattle.format_resp.specs.Resp.{Any, Body, Bytes, DataText, Elements, ElementsIn, WithLineEnd}
use Rattle.format_resp.specs.Resp.{FitsFormat, Form, IntegerText, IsInProtocol, Items, LineContents}
use Rattle.format_resp.specs.Resp.{MarkText, Nothing, Replies, ReplyText, Shortest, SizeIn}
use Rattle.format_resp.specs.Resp.{WrittenText, byte_of, first_mark, has_format, line_end}
use Rattle.format_resp.specs.Resp.{element_count, shape_of, AfterSize, MayBeNull}
use Rattle.format_resp.specs.Written.{data_of, marked}
use Rattle.format_resp.specs.declared.marks.AggregateMark.{AggregateMark}
use Rattle.format_resp.specs.declared.marks.AggregateMark.TheVariants.{Star}
use Rattle.format_resp.specs.declared.marks.DataMark.{DataMark}
use Rattle.format_resp.specs.declared.marks.LineMark.{LineMark}
use Rattle.format_resp.specs.declared.marks.LineMark.TheVariants.{Colon, Hash, Underscore}
use Rattle.format_resp.specs.declared.marks.Mark.{Mark}
use Rattle.format_resp.specs.declared.marks.Mark.TheVariants.{Aggregate, Data, Line}
use Rattle.format_resp.specs.declared.reply.Protocol.{Protocol}
use Rattle.format_resp.specs.declared.reply.Reply as made
use Rattle.format_resp.specs.declared.reply.Reply.TheViews.{rolls-Integer}

pub row_as : {O : Type 0} (these those : Text ℕ O)
    → ((o : O) (xs : List ℕ) → these o xs → those o xs) → (os : List O) (xs : List ℕ)
    → EachText these os xs → EachText those os xs
unfolding EachText
row_as these those leads [] xs e = e
row_as these those leads (o ∷ os) xs (ys, zs, a, row, e) =
    (ys, zs, leads o ys a, row_as these those leads os zs row, e)

-- ---- encodings with other numbers, or of other elements

module _ (f g : Form) {A : Type 0} (protocol : Protocol)
    (integers : (n : ℤ) (xs : List ℕ) → IntegerText f n xs → IntegerText g n xs)
    (sizes : (size : Option ℕ) (xs : List ℕ) → SizeIn f size xs → SizeIn g size xs)
    (these those : Text ℕ (List (Replies A)))
    (leads : (os : List (Replies A)) (xs : List ℕ) → these os xs → those os xs) where
  line_as : (mark : LineMark) (reply : Replies A) (xs : List ℕ) → LineContents f mark reply xs
      → LineContents g mark reply xs
  line_as Colon reply xs (n, is, a) = (n, is, integers n xs a)
  line_as Underscore reply xs x = x
  line_as Hash reply xs x = x
  line_as mark reply xs x = x

  after_as : (mark : Mark) (size : Option ℕ) (reply : Replies A) (xs : List ℕ)
      → AfterSize these mark size reply xs → AfterSize those mark size reply xs
  after_as mark None reply xs x = x
  after_as (Line mark) (Some n) reply xs never = never
  after_as (Data mark) (Some n) reply xs x = x
  after_as (Aggregate mark) (Some n) reply xs (list, is, (element_count, a)) =
      (list, is, (element_count, leads list.items xs a))

  body_as : (mark : Mark) (reply : Replies A) (xs : List ℕ) → Body f these mark reply xs
      → Body g those mark reply xs
  unfolding Led WithLineEnd
  body_as (Line mark) reply xs (line, a, e) = (line, line_as mark reply line a, e)
  body_as mark reply xs body =
      let (size, ys, zs, s, b, e) = body in
      (size, ys, zs, sizes size ys s, after_as mark size reply zs b, e)

  reply_as : (reply : Replies A) (xs : List ℕ) → Led (MarkText protocol) (Body f these) reply xs
      → Led (MarkText protocol) (Body g those) reply xs
  unfolding Led
  reply_as reply xs (mark, ys, zs, m, b, e) = (mark, ys, zs, m, body_as mark reply zs b, e)

module _ {A : Type 0} (protocol : Protocol) where
  reply_deeper : (these those : Text ℕ (List (Replies A)))
      → ((os : List (Replies A)) (xs : List ℕ) → these os xs → those os xs)
      → (reply : Replies A) (xs : List ℕ) → Led (MarkText protocol) (Body Any these) reply xs
      → Led (MarkText protocol) (Body Any those) reply xs
  reply_deeper = reply_as Any Any protocol (λ n xs x. x) (λ size xs x. x)

  elements_deeper : (level : ℕ) (os : List (Replies A)) (xs : List ℕ)
      → Elements protocol level os xs → Elements protocol (suc level) os xs
  unfolding ElementsIn
  elements_deeper zero os xs never = absurd never
  elements_deeper (suc level) os xs row =
      row_as (ReplyText protocol level) (ReplyText protocol (suc level))
      (reply_deeper (Elements protocol level) (Elements protocol (suc level))
      (elements_deeper level)) os xs row

  pub deeper : (more level : ℕ) (reply : Replies A) (xs : List ℕ)
      → ReplyText protocol level reply xs → ReplyText protocol (more + level) reply xs
  deeper zero level reply xs x =
      let P : ℕ → Type 0 = λ k. ReplyText {A = A} protocol k reply xs in
      let same : level ≡ 0 + level = omega arith in subst P same x
  deeper (suc more) level reply xs x =
      let P : ℕ → Type 0 = λ k. ReplyText {A = A} protocol k reply xs in
      let same : suc (more + level) ≡ suc more + level = omega arith in
      subst P same (reply_deeper (Elements protocol (more + level))
      (Elements protocol (suc (more + level))) (elements_deeper (more + level)) reply xs
      (deeper more level reply xs x))

  elements_text : (level : ℕ) (os : List (Replies A)) (xs : List ℕ)
      → ElementsIn Shortest protocol level os xs → Elements protocol level os xs
  unfolding ElementsIn
  elements_text zero os xs never = never
  elements_text (suc level) os xs row =
      row_as (WrittenText protocol level) (ReplyText protocol level)
      (reply_as Shortest Any protocol integer_read size_read (ElementsIn Shortest protocol level)
      (Elements protocol level) (elements_text level)) os xs row

  pub written_text : (level : ℕ) (reply : Replies A) (xs : List ℕ)
      → WrittenText protocol level reply xs → ReplyText protocol level reply xs
  written_text level =
      reply_as Shortest Any protocol integer_read size_read (ElementsIn Shortest protocol level)
      (Elements protocol level) (elements_text level)

-- in the logic there is a list of each few elements
pub list_exists : {T A : Type 0} (alloc : A) (xs : List T) → length xs < 2 ^ 63
    → (list : Vec T A) × (list.items ≡ xs)
list_exists alloc xs few = (
  record {
    ptr = null_ptr;
    len = length xs;
    cap = length xs;
    alloc = alloc;
    items = xs;
    ok = (refl, omega arith);
    small = omega (arith, few);
  },
  refl,
)

pub few : {T A : Type 0} (list : Vec T A) → length list.items < 2 ^ 63
few list = omega (arith, list.ok.0, list.ok.1, list.small)

-- an aggregate is of fewer replies than 2 ^ 63, and its size is no more
small_of : (mark : AggregateMark) (size count : ℕ) → count ≡ element_count mark size
    → count < 2 ^ 63
    → size < 2 ^ 63
small_of Star size count e small = omega (arith, e, small)
small_of mark size count e small = omega (arith, e, small)

-- ---- what is written is such an encoding

-- if the reply is of the version, this is an encoding of it
abbrev pub Encodes : {A : Type 0} → Protocol → ℕ → Replies A → List ℕ → Type 0
Encodes protocol level reply xs =
    IsInProtocol protocol (first_mark reply) → WrittenText protocol level reply xs

module _ {A : Type 0} (protocol : Protocol) (level : ℕ) (reply : Replies A) where
  led_text : (mark : Mark) (tokens : List ℕ) → first_mark reply ≡ mark
      → Body Shortest (ElementsIn Shortest protocol level) mark reply tokens
      → Encodes protocol level reply (byte_of mark ∷ tokens)
  unfolding Led MarkText
  led_text mark tokens is body = λ within. (
    mark,
    byte_of mark ∷ [],
    tokens,
    (subst (IsInProtocol protocol) is within, refl),
    body,
    refl,
  )

  pub line_text : (mark : LineMark) (line : List ℕ) → LineContents Shortest mark reply line
      → Encodes protocol level reply (marked (byte_of (Line mark)) line)
  unfolding WithLineEnd
  line_text mark line says = led_text (Line mark) (line ++ line_end)
      (line_mark Shortest mark reply line says) (line, says, refl)

  pub integer_text : (n : ℤ) → reply ≡ made.Integer n → FitsSigned w64 n
      → Encodes protocol level reply (marked 58 (signed_decimal n))
  integer_text n is fits =
      line_text Colon (signed_decimal n) (n, shape_of_equal _ is (rolls-Integer n), (fits, refl))

  pub data_text : (mark : DataMark) (bytes : Bor (List ℕ))
      → shape_of reply ≡ (Data mark, Bytes bytes) → FitsFormat (has_format mark) bytes.now
      → length bytes.now < 2 ^ 63
      → Encodes protocol level reply (data_of (byte_of (Data mark)) bytes.now)
  unfolding Led WithLineEnd DataText CountedText
  data_text mark bytes is fits small =
      let size = decimal (length bytes.now) in
      led_text (Data mark) ((size ++ line_end) ++ (bytes.now ++ line_end))
      (first_mark_of_shape reply is) (
        Some (length bytes.now),
        size ++ line_end,
        bytes.now ++ line_end,
        (size, (small, refl), refl),
        (bytes, is, (fits, (bytes.now, (refl, refl), refl))),
        refl,
      )

  pub aggregate_text : (mark : AggregateMark) (size : ℕ) (list : Vec (Replies A) A)
      (xs : List ℕ) → shape_of reply ≡ (Aggregate mark, Items list)
      → length list.items ≡ element_count mark size
      → ElementsIn Shortest protocol level list.items xs
      → Encodes protocol level reply (marked (byte_of (Aggregate mark)) (decimal size) ++ xs)
  unfolding Led WithLineEnd
  aggregate_text mark size list xs is count are =
      led_text (Aggregate mark) ((decimal size ++ line_end) ++ xs) (first_mark_of_shape reply is) (
        Some size,
        decimal size ++ line_end,
        xs,
        (decimal size, (small_of mark size (length list.items) count (few list), refl), refl),
        (list, is, (count, are)),
        refl,
      )

  pub null_text : (mark : Mark) → MayBeNull mark → shape_of reply ≡ (mark, Nothing)
      → Encodes protocol level reply (marked (byte_of mark) (45 ∷ 49 ∷ []))
  unfolding Led WithLineEnd
  null_text (Line mark) never is = absurd never
  null_text mark null is = led_text mark (45 ∷ 49 ∷ line_end) (first_mark_of_shape reply is)
      (None, 45 ∷ 49 ∷ line_end, [], (45 ∷ 49 ∷ [], refl, refl), (null, (is, refl)), refl)
