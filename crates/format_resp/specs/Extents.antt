-- The scanner for the end of a reply: the bytes passed, and the continuation expected after them.
use Rattle.std.specs.Prelude.{◌≡◌, ◌≤◌, ◌+◌, ◌*◌, ◌^◌, ◌<◌, ◌↔◌, ⊤, ℕ}
use Rattle.std.specs.Prelude.{zero, suc}
use Rattle.std.specs.Prelude.{List, ◌∷◌, ◌++◌, length, take, drop, Option, Some, None}
use Rattle.std.specs.Prelude.{Result, Ok, Err}
use Rattle.std.specs.Borrow.{Bor}
use Rattle.std.specs.List.{AllByRecursion}
use Rattle.winnow_grammar.specs.InTurn.{First}
use Rattle.format_resp.specs.Heads.{IsLinePrefix, IsRejectedFirstLine}
use Rattle.format_resp.specs.Resp.{DataText, IsLineByte, Replies, ReplyText, StringText, line_end}
use Rattle.format_resp.specs.declared.extent.Bulk.{Bulk}
use Rattle.format_resp.specs.declared.extent.Extent.{Extent}
use Rattle.format_resp.specs.declared.extent.Invalid.{Invalid}
use Rattle.format_resp.specs.declared.extent.Reason.{Reason}
use Rattle.format_resp.specs.declared.extent.Reason.TheVariants.{Malformed}
use Rattle.format_resp.specs.declared.heads.Head.{Head}
use Rattle.format_resp.specs.declared.heads.Head.TheVariants as heads
use Rattle.format_resp.specs.declared.reply.Protocol.{Protocol}

-- All of the bytes are a reply, with aggregates nested at most `level` deep, whose elements have
-- this allocator.
abbrev pub IsReplyOf : Type 0 → Protocol → ℕ → List ℕ → Type 0
IsReplyOf A protocol level tokens = (reply : Replies A) × ReplyText protocol level reply tokens

-- The allocator does not matter.
abbrev pub IsReplyWithin : Protocol → ℕ → List ℕ → Type 0
IsReplyWithin = IsReplyOf ⊤

-- `IsReply protocol tokens`: they are one, with aggregates nested to some depth.
abbrev pub IsReply : Protocol → List ℕ → Type 0
IsReply protocol tokens = (level : ℕ) × IsReplyWithin protocol level tokens

-- `MatchesAtStart these tokens rest`: `tokens` starts with bytes that satisfy `these`, followed by
-- `rest`.
abbrev pub MatchesAtStart : (List ℕ → Type 0) → List ℕ → List ℕ → Type 0
MatchesAtStart these tokens rest = (front : List ℕ) × these front × (tokens ≡ front ++ rest)

-- `Times step n from to`: `n` steps lead from one to the other.
unfoldable pub Times : (List ℕ → List ℕ → Type 0) → ℕ → List ℕ → List ℕ → Type 0
Times step zero from to = from ≡ to
Times step (suc n) from to = (between : List ℕ) × step from between × Times step n between to

-- The data of a string, if its size was passed, and `n` replies: what remains after them.
abbrev pub IsDue : Protocol → Option Bulk → ℕ → List ℕ → List ℕ → Type 0
IsDue protocol None n tokens rest = Times (MatchesAtStart (IsReply protocol)) n tokens rest
IsDue protocol (Some bulk) n tokens rest =
    (bytes : Bor (List ℕ)) × (between : List ℕ) × First (StringText bulk) tokens bytes between
    × Times (MatchesAtStart (IsReply protocol)) n between rest

-- The extent has passed a prefix of `tokens`, and `rest` remains. For any continuation of the
-- prefix, the whole starts with a reply if and only if the continuation starts with the expected
-- bytes, with the same rest.
pub record Passed (protocol : Protocol) (extent : Extent) (tokens rest : List ℕ) : Type 0 where
  pub front : List ℕ
  pub split : tokens ≡ front ++ rest
  pub count : length front ≡ extent.passed
  pub leads : (xs left : List ℕ)
      → MatchesAtStart (IsReply protocol) (front ++ xs) left
      ↔ IsDue protocol extent.bulk extent.replies xs left
  pub few : extent.replies ≤ 2 ^ 64 * extent.passed + 1
  -- the first `sought` bytes after the next one have no byte of a line ending
  pub within : extent.sought ≤ length (drop 1 rest)
  pub plain : AllByRecursion IsLineByte (take extent.sought (drop 1 rest))

-- The extent is of these bytes, or of some that they begin with.
abbrev pub IsExtentOf : Protocol → Extent → List ℕ → Type 0
IsExtentOf protocol extent tokens = (rest : List ℕ) × Passed protocol extent tokens rest

-- The bytes are a proper prefix of a string's data of `size` bytes.
pub record IsPartOfData (size : ℕ) (tokens : List ℕ) : Type 0 where
  pub bytes : List ℕ
  pub more : List ℕ
  pub enough : length bytes ≡ size
  pub some : 0 < length more
  pub whole : tokens ++ more ≡ bytes ++ line_end

-- no continuation starts with the data of the string
abbrev pub IsNoString : Bulk → List ℕ → Type 0
IsNoString bulk tokens =
    (more : List ℕ) (bytes : Bor (List ℕ)) (left : List ℕ)
    → First (StringText bulk) (tokens ++ more) bytes left → ⊥

-- The expected part is rejected: a first line, or the data of a string, which is malformed.
abbrev pub IsRejectedPart : Protocol → Option Bulk → List ℕ → Reason → Type 0
IsRejectedPart protocol None rest reason = IsRejectedFirstLine protocol rest reason
IsRejectedPart protocol (Some bulk) rest reason = (reason ≡ Malformed) × IsNoString bulk rest

-- The bytes before the offset lead to the part that is rejected there.
pub record IsRejected (protocol : Protocol) (tokens : List ℕ) (invalid : Invalid) : Type 0 where
  pub extent : Extent
  pub rest : List ℕ
  pub here : Passed protocol extent tokens rest
  pub offset : invalid.offset ≡ extent.passed
  pub part : IsRejectedPart protocol extent.bulk rest invalid.reason

-- The contract of a scan: the length of a reply at the start, whose rest is the only one for any
-- continuation; or `None`, if the bytes do not start with a reply; or an error, if no continuation
-- does.
abbrev pub ReplyResult : Protocol → List ℕ → Result (Option ℕ) Invalid → Type 0
ReplyResult protocol tokens (Ok (Some n)) =
    (front : List ℕ) × (rest : List ℕ) × (tokens ≡ front ++ rest) × (length front ≡ n)
    × IsReply protocol front
    × ((more left : List ℕ) → MatchesAtStart (IsReply protocol) (tokens ++ more) left
    → left ≡ rest ++ more)
ReplyResult protocol tokens (Ok None) =
    (left : List ℕ) → MatchesAtStart (IsReply protocol) tokens left → ⊥
ReplyResult protocol tokens (Err invalid) =
    ((more left : List ℕ) → MatchesAtStart (IsReply protocol) (tokens ++ more) left → ⊥)
    × IsRejected protocol tokens invalid

-- The missing bytes after the passed ones: the end of a line, or bytes of a string.
abbrev pub Wants : Protocol → Option Bulk → List ℕ → Type 0
Wants protocol None rest = IsLinePrefix protocol rest
Wants protocol (Some bulk) rest = IsPartOfData bulk.size rest

-- If the result is `None`, the rest of the bytes is an incomplete line or an incomplete string.
abbrev pub IsIncompleteIfNone : Protocol → Extent → List ℕ → Option ℕ → Type 0
IsIncompleteIfNone protocol extent tokens None =
    (rest : List ℕ) × Passed protocol extent tokens rest × Wants protocol extent.bulk rest
IsIncompleteIfNone protocol extent tokens (Some n) = ⊤

-- The length that was found, or the offset of the error, is at most `size`.
abbrev pub StopsWithin : ℕ → Result (Option ℕ) Invalid → Type 0
StopsWithin size (Ok (Some n)) = n ≤ size
StopsWithin size (Ok None) = ⊤
StopsWithin size (Err invalid) = invalid.offset ≤ size

-- ---- one step

-- the continuation after a first line that is followed by `n` other replies
abbrev pub data_after : Head → Option Bulk
data_after heads.Ends = None
data_after (heads.Data bulk) = Some bulk
data_after (heads.Replies k) = None

abbrev pub count_after : Head → ℕ → ℕ
count_after heads.Ends n = n
count_after (heads.Data bulk) n = n
count_after (heads.Replies k) n = n + k

-- the rest after the next part, `None` if it is incomplete, or why it is rejected
abbrev pub PartFound : Type 0
PartFound = Result (Option (Bor (List ℕ))) Reason

-- The bytes start with a line ending, or are a proper prefix of one, or no continuation starts with
-- one.
abbrev pub IsLineEnd : List ℕ → PartFound → Type 0
IsLineEnd tokens (Ok (Some left)) = tokens ≡ line_end ++ left.now
IsLineEnd tokens (Ok None) = (x : ℕ) × (more : List ℕ) × (line_end ≡ tokens ++ (x ∷ more))
IsLineEnd tokens (Err reason) =
    (reason ≡ Malformed) × ((more left : List ℕ) → tokens ++ more ≡ line_end ++ left → ⊥)

-- The bytes start with data and a line ending, or are a proper prefix of these, or no continuation
-- starts with these.
abbrev pub IsDataEnd : ℕ → List ℕ → Result (Option (Bor (List ℕ) × Bor (List ℕ))) Reason → Type 0
IsDataEnd size tokens (Ok (Some (bytes, left))) = First (DataText size) tokens bytes left.now
IsDataEnd size tokens (Ok None) = IsPartOfData size tokens
IsDataEnd size tokens (Err reason) =
    (reason ≡ Malformed) × ((more : List ℕ) (bytes : Bor (List ℕ)) (left : List ℕ)
    → First (DataText size) (tokens ++ more) bytes left → ⊥)

-- The same for the data of a string.
abbrev pub IsStringEnd : Bulk → List ℕ → PartFound → Type 0
IsStringEnd bulk tokens (Ok (Some left)) =
    (bytes : Bor (List ℕ)) × First (StringText bulk) tokens bytes left.now
IsStringEnd bulk tokens (Ok None) = IsPartOfData bulk.size tokens
IsStringEnd bulk tokens (Err reason) = (reason ≡ Malformed) × IsNoString bulk tokens

-- The rest after a part is shorter than `n` bytes.
abbrev pub IsLessPart : {E : Type 0} → ℕ → Result (Option (Bor (List ℕ))) E → Type 0
IsLessPart n (Ok (Some left)) = length left.now < n
IsLessPart n (Ok None) = ⊤
IsLessPart n (Err reason) = ⊤

-- Of `size` bytes, those after the ones that the extent has passed are the rest after a part; the
-- offset of an error is at most `size`.
abbrev pub IsWithin : ℕ → Extent → Result (Option (Bor (List ℕ))) Invalid → Type 0
IsWithin size extent (Ok (Some left)) = extent.passed + length left.now ≡ size
IsWithin size extent (Ok None) = ⊤
IsWithin size extent (Err invalid) = invalid.offset ≤ size

-- One more part is passed; or it is incomplete, and the bytes do not start with a reply; or no
-- continuation does.
abbrev pub IsPart : Protocol → Extent → List ℕ → List ℕ → Result (Option (Bor (List ℕ))) Invalid
    → Type 0
IsPart protocol extent tokens rest (Ok (Some left)) = Passed protocol extent tokens left.now
IsPart protocol extent tokens rest (Ok None) =
    Passed protocol extent tokens rest
    × ((left : List ℕ) → MatchesAtStart (IsReply protocol) tokens left → ⊥)
    × Wants protocol extent.bulk rest
IsPart protocol extent tokens rest (Err invalid) =
    ReplyResult protocol tokens (Err invalid)
