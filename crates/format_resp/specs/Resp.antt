-- RESP2 and RESP3: which bytes are encodings of a reply.
use Rattle.std.specs.Prelude.{◌≡◌, ◌+◌, ◌*◌, Bool, true, false, ⊤, ℕ, List, [], ◌∷◌, ◌++◌, length}
use Rattle.std.specs.Prelude.{Option, Some, None, zero, suc, ℤ}
use Rattle.std.specs.Borrow.{Bor}
use Rattle.std.specs.List.{AllByRecursion}
use Rattle.std.specs.declared.vec.Vec.{Vec}
use Rattle.streams.specs.Bytes.{bytes_reading}
use Rattle.grammars.specs.Texts.{CountedText, EachText, Members, Text}
use Rattle.winnow_grammar.specs.InTurn.{Led}
use Rattle.format_resp.specs.Numbers.{IsBigNumber, IsDouble, ShortInteger, ShortSize, SignedText}
use Rattle.format_resp.specs.Numbers.{SizeLine}
use Rattle.format_resp.specs.declared.extent.Bulk.{Bulk}
use Rattle.format_resp.specs.declared.marks.AggregateMark.{AggregateMark}
use Rattle.format_resp.specs.declared.marks.AggregateMark.TheVariants.{Bar, Greater, Percent, Star}
use Rattle.format_resp.specs.declared.marks.AggregateMark.TheVariants.{Tilde}
use Rattle.format_resp.specs.declared.marks.DataMark.{DataMark}
use Rattle.format_resp.specs.declared.marks.DataMark.TheVariants.{Dollar, Equals, Exclamation}
use Rattle.format_resp.specs.declared.marks.LineMark.{LineMark}
use Rattle.format_resp.specs.declared.marks.LineMark.TheVariants.{Colon, Comma, Hash, Minus}
use Rattle.format_resp.specs.declared.marks.LineMark.TheVariants.{Parenthesis, Plus, Underscore}
use Rattle.format_resp.specs.declared.marks.Mark.{Mark}
use Rattle.format_resp.specs.declared.marks.Mark.TheVariants.{Aggregate, Data, Line}
use Rattle.format_resp.specs.declared.reply.Protocol.{Protocol}
use Rattle.format_resp.specs.declared.reply.Protocol.TheVariants.{Resp3}
use Rattle.format_resp.specs.declared.reply.Reply.{Reply, out-Reply}
use Rattle.format_resp.specs.declared.reply.Reply as made
use Rattle.format_resp.specs.declared.reply.Reply.TheOpen.{Reply-F}

-- a carriage return and a line feed
abbrev pub line_end : List ℕ
line_end = 13 ∷ 10 ∷ []

-- a text, and the end of its line
unfoldable pub WithLineEnd : {O : Type 0} → Text ℕ O → Text ℕ O
WithLineEnd text o tokens = (xs : List ℕ) × text o xs × (tokens ≡ xs ++ line_end)

-- a byte of a line: no carriage return and no line feed
abbrev pub IsLineByte : ℕ → Type 0
IsLineByte b = (b ≡ 13 → ⊥) × (b ≡ 10 → ⊥)

-- a line
unfoldable pub LineText : Text ℕ (Bor (List ℕ))
LineText = WithLineEnd (Members bytes_reading IsLineByte 0)

-- a size on a line of its own
unfoldable pub SizeText : Text ℕ (Option ℕ)
SizeText = WithLineEnd SizeLine

-- `n` bytes, and a line ending
unfoldable pub DataText : ℕ → Text ℕ (Bor (List ℕ))
DataText n = WithLineEnd (CountedText bytes_reading n)

-- the bytes that replies begin with
abbrev pub byte_of : Mark → ℕ
byte_of (Line Plus) = 43
byte_of (Line Minus) = 45
byte_of (Line Colon) = 58
byte_of (Line Underscore) = 95
byte_of (Line Hash) = 35
byte_of (Line Comma) = 44
byte_of (Line Parenthesis) = 40
byte_of (Data Dollar) = 36
byte_of (Data Exclamation) = 33
byte_of (Data Equals) = 61
byte_of (Aggregate Star) = 42
byte_of (Aggregate Percent) = 37
byte_of (Aggregate Tilde) = 126
byte_of (Aggregate Greater) = 62
byte_of (Aggregate Bar) = 124

-- which of them are of a version of the protocol: + - : $ * of both, the others of RESP3
abbrev pub IsInProtocol : Protocol → Mark → Type 0
IsInProtocol protocol (Line Plus) = ⊤
IsInProtocol protocol (Line Minus) = ⊤
IsInProtocol protocol (Line Colon) = ⊤
IsInProtocol protocol (Data Dollar) = ⊤
IsInProtocol protocol (Aggregate Star) = ⊤
IsInProtocol protocol mark = protocol ≡ Resp3

unfoldable pub MarkText : Protocol → Text ℕ Mark
MarkText protocol mark tokens = IsInProtocol protocol mark × (tokens ≡ byte_of mark ∷ [])

-- bytes that are so, for a slice of them
unfoldable pub Shown : (List ℕ → Type 0) → Text ℕ (Bor (List ℕ))
Shown these slice tokens = these tokens × (slice.now ≡ tokens)

-- a format of three bytes, a colon, and a text
abbrev pub IsVerbatim : List ℕ → Type 0
IsVerbatim tokens =
    (format : List ℕ) × (text : List ℕ) × (length format ≡ 3) × (tokens ≡ format ++ 58 ∷ text)

-- t for true, f for false
abbrev pub BooleanText : Text ℕ Bool
BooleanText true tokens = tokens ≡ 116 ∷ []
BooleanText false tokens = tokens ≡ 102 ∷ []

-- whether the data start with a format: those of a verbatim string
abbrev pub has_format : DataMark → Bool
has_format Equals = true
has_format mark = false

-- bytes of a string: those of a verbatim string have a format
abbrev pub FitsFormat : Bool → List ℕ → Type 0
FitsFormat true bytes = IsVerbatim bytes
FitsFormat false bytes = ⊤

-- the data of a string and a line ending
abbrev pub StringText : Bulk → Text ℕ (Bor (List ℕ))
StringText bulk bytes tokens = FitsFormat bulk.verbatim bytes.now × DataText bulk.size bytes tokens

-- The size of a bulk string or of an array may be that of null.
abbrev pub MayBeNull : Mark → Type 0
MayBeNull (Data Dollar) = ⊤
MayBeNull (Aggregate Star) = ⊤
MayBeNull mark = ⊥

-- how many replies are in an aggregate: keys and values are counted in twos, and after attributes
-- the reply is that they are of
abbrev pub element_count : AggregateMark → ℕ → ℕ
element_count Percent n = n * 2
element_count Bar n = n * 2 + 1
element_count mark n = n

-- ---- what a reply is

-- replies whose bytes are slices
abbrev pub Replies : Type 0 → Type 0
Replies A = Reply (Bor (List ℕ)) A

-- what one is, with replies in it
abbrev pub UnrolledReply : Type 0 → Type 0
UnrolledReply A = Reply-F (Bor (List ℕ)) A (Replies A)

-- what one holds, besides its kind
pub data Content (A : Type 0) : Type 0 where
  Bytes : Bor (List ℕ) → Content A
  Number : ℤ → Content A
  Truth : Bool → Content A
  Items : Vec (Replies A) A → Content A
  Nothing : Content A

module _ {A : Type 0} where
  -- by its kind: what its encodings begin with, and what it holds
  abbrev pub shape : UnrolledReply A → Mark × Content A
  shape (Reply-F.Simple x) = (Line Plus, Bytes x)
  shape (Reply-F.Error x) = (Line Minus, Bytes x)
  shape (Reply-F.Integer n) = (Line Colon, Number n)
  shape (Reply-F.Bulk x) = (Data Dollar, Bytes x)
  shape Reply-F.NullBulk = (Data Dollar, Nothing)
  shape (Reply-F.Array l) = (Aggregate Star, Items l)
  shape Reply-F.NullArray = (Aggregate Star, Nothing)
  shape Reply-F.Null = (Line Underscore, Nothing)
  shape (Reply-F.Boolean b) = (Line Hash, Truth b)
  shape (Reply-F.Double x) = (Line Comma, Bytes x)
  shape (Reply-F.BigNumber x) = (Line Parenthesis, Bytes x)
  shape (Reply-F.BulkError x) = (Data Exclamation, Bytes x)
  shape (Reply-F.Verbatim x) = (Data Equals, Bytes x)
  shape (Reply-F.Map l) = (Aggregate Percent, Items l)
  shape (Reply-F.Set l) = (Aggregate Tilde, Items l)
  shape (Reply-F.Push l) = (Aggregate Greater, Items l)
  shape (Reply-F.Attributed l) = (Aggregate Bar, Items l)

  abbrev pub shape_of : Replies A → Mark × Content A
  shape_of reply = shape (out-Reply (Bor (List ℕ)) A reply)

  abbrev pub first_mark : Replies A → Mark
  first_mark reply = (shape_of reply).0

  -- the aggregate of these replies
  abbrev pub gathered : AggregateMark → Vec (Replies A) A → Replies A
  gathered Star list = made.Array list
  gathered Percent list = made.Map list
  gathered Tilde list = made.Set list
  gathered Greater list = made.Push list
  gathered Bar list = made.Attributed list

  -- a reply of this shape, by the value in it
  abbrev pub For : {O : Type 0} → (O → Mark × Content A) → Text ℕ O → Text ℕ (Replies A)
  For {O} of text reply tokens = (o : O) × (shape_of reply ≡ of o) × text o tokens

  -- one that holds nothing
  abbrev pub Empty : Mark → Text ℕ (Replies A)
  Empty mark reply tokens = (shape_of reply ≡ (mark, Nothing)) × (tokens ≡ [])

-- ---- encodings

-- Which numbers are written: with any zeros before them and any sign, as they are read, or in the
-- shortest form.
pub data Form : Type 0 where
  Any : Form
  Shortest : Form

abbrev pub IntegerText : Form → Text ℕ ℤ
IntegerText Any = SignedText
IntegerText Shortest = ShortInteger

abbrev pub SizeIn : Form → Text ℕ (Option ℕ)
SizeIn Any = SizeText
SizeIn Shortest = WithLineEnd ShortSize

-- the bytes of a reply that is a line
abbrev pub IsLineOf : LineMark → List ℕ → Type 0
IsLineOf Comma = IsDouble
IsLineOf Parenthesis = IsBigNumber
IsLineOf mark = AllByRecursion IsLineByte

module _ {A : Type 0} where
  -- the contents of the line of a reply that consists of one line
  abbrev pub LineContents : Form → LineMark → Text ℕ (Replies A)
  LineContents form Colon = For (λ n. (Line Colon, Number n)) (IntegerText form)
  LineContents form Underscore = Empty (Line Underscore)
  LineContents form Hash = For (λ b. (Line Hash, Truth b)) BooleanText
  LineContents form mark = For (λ text. (Line mark, Bytes text)) (Shown (IsLineOf mark))

  -- a list of `n` replies
  abbrev pub ListText : Text ℕ (List (Replies A)) → ℕ → Text ℕ (Vec (Replies A) A)
  ListText elements n list tokens = (length list.items ≡ n) × elements list.items tokens

  -- after a size: the bytes of a string and a line ending, or the elements of an aggregate
  abbrev pub SizedText : Text ℕ (List (Replies A)) → Mark → ℕ → Text ℕ (Replies A)
  SizedText elements (Line mark) n = λ reply tokens. ⊥
  SizedText elements (Data mark) n = For (λ bytes. (Data mark, Bytes bytes))
      (StringText (record { size = n; verbatim = has_format mark }))
  SizedText elements (Aggregate mark) n =
      For (λ list. (Aggregate mark, Items list)) (ListText elements (element_count mark n))

  -- after the line of a size, which may be that of null
  abbrev pub AfterSize : Text ℕ (List (Replies A)) → Mark → Option ℕ → Text ℕ (Replies A)
  AfterSize elements mark None = λ reply tokens. MayBeNull mark × Empty mark reply tokens
  AfterSize elements mark (Some n) = SizedText elements mark n

  -- after the first byte
  abbrev pub Body : Form → Text ℕ (List (Replies A)) → Mark → Text ℕ (Replies A)
  Body form elements (Line mark) = WithLineEnd (LineContents form mark)
  Body form elements mark = Led (SizeIn form) (AfterSize elements mark)

module _ (form : Form) (protocol : Protocol) {A : Type 0} where
  -- the elements of an aggregate nested at most this deep, counting the aggregate itself
  unfoldable pub ElementsIn : ℕ → Text ℕ (List (Replies A))
  ElementsIn zero replies tokens = ⊥
  ElementsIn (suc level) replies tokens =
      EachText (Led (MarkText protocol) (Body form (ElementsIn level))) replies tokens

  -- a reply whose aggregates are nested at most `level` deep
  abbrev pub Encoding : ℕ → Text ℕ (Replies A)
  Encoding level = Led (MarkText protocol) (Body form (ElementsIn level))

module _ {A : Type 0} (protocol : Protocol) where
  -- as it may be read
  abbrev pub Elements : ℕ → Text ℕ (List (Replies A))
  Elements = ElementsIn Any protocol

  abbrev pub ReplyText : ℕ → Text ℕ (Replies A)
  ReplyText = Encoding Any protocol

  -- as it is written
  abbrev pub WrittenText : ℕ → Text ℕ (Replies A)
  WrittenText = Encoding Shortest protocol
