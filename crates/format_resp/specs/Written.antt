-- What is written for a command, and which replies are not written.
use Rattle.std.specs.Prelude.{◌≡◌, ◌⊎◌, ◌<◌, ◌+◌, ⊤, ℕ, zero, suc, List, [], ◌∷◌, ◌++◌, length}
use Rattle.std.specs.Prelude.{Contains, vec_capacity, vec_len}
use Rattle.std.specs.Borrow.{Bor}
use Rattle.std.specs.Fmt.{decimal}
use Rattle.std.specs.List.{AllByRecursion}
use Rattle.std.specs.declared.vec.Vec.{Vec}
use Rattle.grammars.specs.Texts.{Text}
use Rattle.format_resp.specs.Numbers.{IsBigNumber, IsDouble}
use Rattle.format_resp.specs.Resp.{Bytes, IsInProtocol, IsLineByte, IsVerbatim, Items, Replies}
use Rattle.format_resp.specs.Resp.{element_count, first_mark, line_end, shape_of}
use Rattle.format_resp.specs.declared.marks.AggregateMark.{AggregateMark}
use Rattle.format_resp.specs.declared.marks.DataMark.TheVariants.{Equals}
use Rattle.format_resp.specs.declared.marks.LineMark.TheVariants.{Comma, Minus, Parenthesis, Plus}
use Rattle.format_resp.specs.declared.marks.Mark.{Mark}
use Rattle.format_resp.specs.declared.marks.Mark.TheVariants.{Aggregate, Data, Line}
use Rattle.format_resp.specs.declared.reply.Protocol.{Protocol}
use Rattle.format_resp.specs.declared.write.WriteError.{WriteError}
use Rattle.format_resp.specs.declared.write.WriteError.TheVariants.{BigNumber, Double, Foreign}
use Rattle.format_resp.specs.declared.write.WriteError.TheVariants.{Format, Level, LineBreak}
use Rattle.format_resp.specs.declared.write.WriteError.TheVariants.{NoParts, OutOfMemory, Pairs}

-- `IsPrefixOf before after`: `after` is `before`, possibly followed by more.
pub record IsPrefixOf (before after : List ℕ) : Type 0 where
  pub more : List ℕ
  pub behind : after ≡ before ++ more

-- The old bytes are kept, and an encoding of the value is appended.
pub record Appends {O : Type 0} (text : Text ℕ O) (o : O) (before after : List ℕ) : Type 0 where
  pub tokens : List ℕ
  pub is : text o tokens
  pub behind : after ≡ before ++ tokens

-- a first byte, the contents of its line, and the line ending
abbrev pub marked : ℕ → List ℕ → List ℕ
marked mark text = mark ∷ (text ++ line_end)

-- a first byte, the number of bytes, the bytes, and a line ending
abbrev pub data_of : ℕ → List ℕ → List ℕ
data_of mark bytes = marked mark (decimal (length bytes)) ++ (bytes ++ line_end)

-- a bulk string
abbrev pub bulk_of : List ℕ → List ℕ
bulk_of bytes = data_of 36 bytes

-- consecutive bulk strings
abbrev pub bulks_of : List (Bor (List ℕ)) → List ℕ
bulks_of [] = []
bulks_of (part ∷ parts) = bulk_of part.now ++ bulks_of parts

-- a command: an array of bulk strings
abbrev pub command_of : List (Bor (List ℕ)) → List ℕ
command_of parts = marked 42 (decimal (length parts)) ++ bulks_of parts

module _ {A : Type 0} where
  -- ---- what is not written

  -- an aggregate of these replies
  abbrev pub IsOf : AggregateMark → Vec (Replies A) A → Replies A → Type 0
  IsOf mark list reply = shape_of reply ≡ (Aggregate mark, Items list)

  -- an aggregate in which such a reply is
  abbrev pub HasElement : (Replies A → Type 0) → Replies A → Type 0
  HasElement such reply =
      (mark : AggregateMark) × (list : Vec (Replies A) A) × IsOf mark list reply
      × (element : Replies A) × Contains list.items element × such element

  -- such a reply, or one in which such a one is, within no more than that many aggregates
  unfoldable pub IsOrHas : (Replies A → Type 0) → ℕ → Replies A → Type 0
  IsOrHas such zero reply = such reply
  IsOrHas such (suc level) reply = such reply ⊎ HasElement (IsOrHas such level) reply

  -- the aggregates of the reply are nested deeper than this number
  unfoldable pub IsDeeper : ℕ → Replies A → Type 0
  IsDeeper zero reply = (mark : AggregateMark) × (list : Vec (Replies A) A) × IsOf mark list reply
  IsDeeper (suc level) reply = HasElement (IsDeeper level) reply

  -- a reply of this mark whose bytes are not such
  abbrev pub IsInvalid : Mark → (List ℕ → Type 0) → Replies A → Type 0
  IsInvalid mark valid reply =
      (text : Bor (List ℕ)) × (shape_of reply ≡ (mark, Bytes text)) × (valid text.now → ⊥)

  -- a simple string or an error with a byte of a line ending
  abbrev pub IsBroken : Replies A → Type 0
  IsBroken reply =
      IsInvalid (Line Plus) (AllByRecursion IsLineByte) reply
      ⊎ IsInvalid (Line Minus) (AllByRecursion IsLineByte) reply

  -- an aggregate of as many replies as none of any size has: a map with a key that has no value, or
  -- attributes of no reply
  abbrev pub IsUnpaired : Replies A → Type 0
  IsUnpaired reply =
      (mark : AggregateMark) × (list : Vec (Replies A) A) × IsOf mark list reply
      × ((size : ℕ) → length list.items ≡ element_count mark size → ⊥)

  -- a reply of a kind that the version of the protocol does not have
  abbrev pub IsForeign : Protocol → Replies A → Type 0
  IsForeign protocol reply = IsInProtocol protocol (first_mark reply) → ⊥

module _ {A : Type 0} (protocol : Protocol) where
  -- the reason why a reply is not written: an invalid part; aggregates nested deeper than `level`;
  -- or out of memory
  abbrev pub IsRefused : ℕ → Replies A → WriteError → Type 0
  IsRefused level reply LineBreak = IsOrHas IsBroken level reply
  IsRefused level reply Double = IsOrHas (IsInvalid (Line Comma) IsDouble) level reply
  IsRefused level reply BigNumber =
      IsOrHas (IsInvalid (Line Parenthesis) IsBigNumber) level reply
  IsRefused level reply Format = IsOrHas (IsInvalid (Data Equals) IsVerbatim) level reply
  IsRefused level reply Pairs = IsOrHas IsUnpaired level reply
  IsRefused level reply Foreign = IsOrHas (IsForeign protocol) level reply
  IsRefused level reply Level = IsDeeper level reply
  IsRefused level reply NoParts = ⊥
  IsRefused level reply OutOfMemory = ⊤

  -- out of memory, or the error of one of these replies
  abbrev pub IsRefusedAmong : ℕ → List (Replies A) → WriteError → Type 0
  IsRefusedAmong level replies e =
      (e ≡ OutOfMemory)
      ⊎ ((reply : Replies A) × Contains replies reply × IsRefused level reply e)

-- out of memory, or this error, if `P` does not hold
abbrev pub IsRefusedAs : WriteError → Type 0 → WriteError → Type 0
IsRefusedAs error P e = (e ≡ OutOfMemory) ⊎ ((e ≡ error) × (P → ⊥))

-- ---- when writing is out of memory

-- `LacksRoom into more`: `into` must grow before these bytes are appended.
abbrev pub LacksRoom : {B : Type 0} → Vec ℕ B → List ℕ → Type 0
LacksRoom into more = vec_capacity into < vec_len into + length more

-- out of memory only if there is no room for these bytes
abbrev pub OutOfMemoryOnlyIfFull : {B : Type 0} → Vec ℕ B → List ℕ → WriteError → Type 0
OutOfMemoryOnlyIfFull into more e = e ≡ OutOfMemory → LacksRoom into more

-- out of memory only if `P` holds, and there is no room for these bytes
abbrev pub OutOfMemoryOnlyWith : {B : Type 0} → Type 0 → Vec ℕ B → List ℕ → WriteError → Type 0
OutOfMemoryOnlyWith P into more e = e ≡ OutOfMemory → P × LacksRoom into more

-- out of memory only if there is no room for an encoding of the value
abbrev pub OutOfMemoryOnlyIfFullForEach : {O B : Type 0} → Text ℕ O → O → Vec ℕ B → WriteError
    → Type 0
OutOfMemoryOnlyIfFullForEach text o into e =
    e ≡ OutOfMemory → (tokens : List ℕ) → text o tokens → LacksRoom into tokens
