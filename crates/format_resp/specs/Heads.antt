-- The first lines of replies, and their information about the bytes after them.
use Rattle.std.specs.Prelude.{◌≡◌, ◌≤◌, ◌<◌, ◌^◌, ⊤, ℕ, List, [], ◌∷◌, ◌++◌, length, take, drop}
use Rattle.std.specs.Prelude.{Option, None, Some}
use Rattle.std.specs.List.{AllByRecursion}
use Rattle.winnow_grammar.specs.InTurn.{First, Led}
use Rattle.grammars.specs.Texts.{Text}
use Rattle.format_resp.specs.Lines.{EndsLine, IsOpen}
use Rattle.format_resp.specs.Numbers.{AreDigits, IsBigNumber, SizeLine}
use Rattle.format_resp.specs.Resp.{Any, IsInProtocol, IsLineByte, LineContents, MarkText, MayBeNull}
use Rattle.format_resp.specs.Resp.{WithLineEnd, byte_of, element_count, has_format}
use Rattle.format_resp.specs.Resp as resp
use Rattle.format_resp.specs.declared.extent.Reason.{Reason}
use Rattle.format_resp.specs.declared.extent.Reason.TheVariants.{Malformed, TooDeep, TooLarge}
use Rattle.format_resp.specs.declared.heads.Head.{Head}
use Rattle.format_resp.specs.declared.heads.Head.TheVariants.{Data, Ends, Replies}
use Rattle.format_resp.specs.declared.heads.Start.{Start}
use Rattle.format_resp.specs.declared.heads.Start.TheVariants.{Never, Open, Whole}
use Rattle.format_resp.specs.declared.marks.LineMark.TheVariants.{Colon}
use Rattle.format_resp.specs.declared.marks.Mark.{Mark}
use Rattle.format_resp.specs.declared.marks.Mark.TheVariants as marks
use Rattle.format_resp.specs.declared.reply.Protocol.{Protocol}

-- what is after a size: the bytes of a string, or replies
abbrev pub IsSized : Mark → ℕ → Head → Type 0
IsSized (marks.Line mark) n head = ⊥
IsSized (marks.Data mark) n head = Data (record { size = n; verbatim = has_format mark }) ≡ head
IsSized (marks.Aggregate mark) n head = Replies (element_count mark n) ≡ head

-- what is after the line of a size, which may be that of null
abbrev pub IsHeadAfterSize : Mark → Option ℕ → Head → Type 0
IsHeadAfterSize mark None head = MayBeNull mark × (Ends ≡ head)
IsHeadAfterSize mark (Some n) head = IsSized mark n head

-- it is not of 2 ^ 63 replies or more
abbrev pub IsCountInRange : Head → Type 0
IsCountInRange (Replies n) = n < 2 ^ 63
IsCountInRange head = ⊤

-- the line after the first byte of a reply, by its meaning
abbrev pub HeadLineText : Mark → Text ℕ Head
HeadLineText (marks.Line mark) head line =
    (head ≡ Ends) × ((reply : resp.Replies ⊤) × LineContents Any mark reply line)
HeadLineText mark head line =
    (size : Option ℕ) × SizeLine size line × IsHeadAfterSize mark size head × IsCountInRange head

-- the first line of a reply, by its meaning
abbrev pub HeadText : Protocol → Text ℕ Head
HeadText protocol = Led (MarkText protocol) (λ mark. WithLineEnd (HeadLineText mark))

-- ---- lines that are rejected

-- the line has the digits of an integer or of a size, however large
abbrev pub HasNumber : Mark → List ℕ → Type 0
HasNumber (marks.Line Colon) line = IsBigNumber line
HasNumber (marks.Line mark) line = ⊥
HasNumber mark line = AreDigits line

-- too large if it has a number, and malformed otherwise
abbrev pub IsReason : Type 0 → Reason → Type 0
IsReason number TooLarge = number
IsReason number Malformed = number → ⊥
IsReason number TooDeep = ⊥

-- why a line after a first byte is rejected
abbrev pub IsRejectedLine : Mark → List ℕ → Reason → Type 0
IsRejectedLine mark line reason =
    ((head : Head) → HeadLineText mark head line → ⊥) × IsReason (HasNumber mark line) reason

-- the tokens start with a line of the protocol that has a number
abbrev pub HasNumberLine : Protocol → List ℕ → Type 0
HasNumberLine protocol [] = ⊥
HasNumberLine protocol (byte ∷ text) =
    (mark : Mark) × (line : List ℕ) × (rest : List ℕ) × IsInProtocol protocol mark
    × (byte ≡ byte_of mark) × EndsLine text line rest × HasNumber mark line

-- No continuation starts with the first line of a reply. The reason is that the line has a number,
-- which is too large; or that it has none, for any continuation.
abbrev pub IsWhy : Protocol → List ℕ → Reason → Type 0
IsWhy protocol tokens TooLarge = HasNumberLine protocol tokens
IsWhy protocol tokens Malformed = (more : List ℕ) → HasNumberLine protocol (tokens ++ more) → ⊥
IsWhy protocol tokens TooDeep = ⊥

pub record IsRejectedFirstLine (protocol : Protocol) (tokens : List ℕ)
    (reason : Reason) : Type 0 where
  pub never : (more : List ℕ) (head : Head) (rest : List ℕ)
      → First (HeadText protocol) (tokens ++ more) head rest → ⊥
  pub why : IsWhy protocol tokens reason

-- ---- the search for a first line

-- The tokens are a first line without its end.
pub record IsLinePrefix (protocol : Protocol) (tokens : List ℕ) : Type 0 where
  pub marked : (byte : ℕ) (text : List ℕ) → tokens ≡ byte ∷ text
      → (mark : Mark) × IsInProtocol protocol mark × (byte ≡ byte_of mark)
  pub begun : IsOpen (drop 1 tokens)

-- The contract of a first line: a complete line; or `Open n`, if it is incomplete and `n` bytes
-- after the first have no byte of a line ending; or `Never`, if no continuation starts with one.
abbrev pub IsStart : Protocol → List ℕ → Start → Type 0
IsStart protocol tokens (Whole head left) = First (HeadText protocol) tokens head left.now
IsStart protocol tokens (Open n) =
    (n ≤ length (drop 1 tokens)) × AllByRecursion IsLineByte (take n (drop 1 tokens))
    × IsLinePrefix protocol tokens
IsStart protocol tokens (Never reason) = IsRejectedFirstLine protocol tokens reason

-- The rest after a first line is shorter than `n` bytes.
abbrev pub IsLessStart : ℕ → Start → Type 0
IsLessStart n (Whole head left) = length left.now < n
IsLessStart n (Open m) = ⊤
IsLessStart n (Never reason) = ⊤
