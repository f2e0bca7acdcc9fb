-- The search for the end of a reply with a limited depth.
use Rattle.std.specs.Prelude.{◌≡◌, ◌+◌, ◌<◌, ◌⊎◌, ℕ, zero, suc, List, ◌++◌, length, Option, Some}
use Rattle.std.specs.Prelude.{None, Result, Ok, Err}
use Rattle.std.specs.Borrow.{Bor}
use Rattle.winnow_grammar.specs.InTurn.{First}
use Rattle.format_resp.specs.Extents.{IsNoString, IsPartOfData, IsRejectedPart, IsReplyWithin}
use Rattle.format_resp.specs.Extents.{MatchesAtStart, Times, Wants}
use Rattle.format_resp.specs.Heads.{HeadText}
use Rattle.format_resp.specs.Resp.{StringText}
use Rattle.format_resp.specs.declared.extent.Bulk.{Bulk}
use Rattle.format_resp.specs.declared.extent.Invalid.{Invalid}
use Rattle.format_resp.specs.declared.extent.Reason.{Reason}
use Rattle.format_resp.specs.declared.extent.Reason.TheVariants.{Malformed, TooDeep}
use Rattle.format_resp.specs.declared.heads.Head.TheVariants as heads
use Rattle.format_resp.specs.declared.nodes.Stop.{Stop}
use Rattle.format_resp.specs.declared.reply.Protocol.{Protocol}

-- After `n` replies at the start of `tokens`, with aggregates nested at most `level` deep, `rest`
-- remains.
abbrev pub AreAfter : Protocol → ℕ → ℕ → List ℕ → List ℕ → Type 0
AreAfter protocol level n tokens rest =
    Times (MatchesAtStart (IsReplyWithin protocol level)) n tokens rest

-- `LeadsTo protocol level tokens due below rest`: the bytes of `tokens` before `rest` are the start
-- of a reply with aggregates nested at most `level` deep. Then follow the data of a string, by its
-- size, or a reply with aggregates nested at most `below` deep: this one, or an element of an
-- aggregate after `k` other elements.
abbrev pub LeadsHere : Protocol → ℕ → List ℕ → Option Bulk → ℕ → List ℕ → Type 0
LeadsHere protocol level tokens None below rest = (below ≡ level) × (tokens ≡ rest)
LeadsHere protocol level tokens (Some bulk) below rest =
    First (HeadText protocol) tokens (heads.Data bulk) rest

unfoldable pub LeadsTo : Protocol → ℕ → List ℕ → Option Bulk → ℕ → List ℕ → Type 0
LeadsTo protocol zero tokens due below rest = LeadsHere protocol zero tokens due below rest
LeadsTo protocol (suc level) tokens due below rest =
    LeadsHere protocol (suc level) tokens due below rest
    ⊎ ((count : ℕ) × (k : ℕ) × (left : List ℕ) × (between : List ℕ) × (k < count)
    × First (HeadText protocol) tokens (heads.Replies count) left
    × AreAfter protocol level k left between × LeadsTo protocol level between due below rest)

-- The part that follows is rejected: it is not one at any depth, or it is an aggregate that is
-- nested too deep.
abbrev pub IsRejectedHere : Protocol → Option Bulk → ℕ → List ℕ → Reason → Type 0
IsRejectedHere protocol due below rest reason =
    IsRejectedPart protocol due rest reason
    ⊎ ((reason ≡ TooDeep) × (due ≡ None) × (below ≡ zero) × (count : ℕ) × (left : List ℕ)
    × First (HeadText protocol) rest (heads.Replies count) left)

pub record IsRejectedWithin (protocol : Protocol) (level : ℕ) (tokens : List ℕ)
    (invalid : Invalid) : Type 0 where
  pub due : Option Bulk
  pub below : ℕ
  pub rest : List ℕ
  pub leads : LeadsTo protocol level tokens due below rest
  pub offset : invalid.offset + length rest ≡ length tokens
  pub part : IsRejectedHere protocol due below rest invalid.reason

-- The part that follows is incomplete.
abbrev pub IsWantingWithin : Protocol → ℕ → List ℕ → Type 0
IsWantingWithin protocol level tokens =
    (due : Option Bulk) × (below : ℕ) × (rest : List ℕ)
    × LeadsTo protocol level tokens due below rest × Wants protocol due rest

-- The contract of a search: the length of a reply at the start; or `None`, if the bytes do not
-- start with a reply, as a part is incomplete; or an error, if no continuation does.
abbrev pub BoundedResult : Protocol → ℕ → List ℕ → Result (Option ℕ) Invalid → Type 0
BoundedResult protocol level tokens (Ok (Some n)) =
    (front : List ℕ) × (rest : List ℕ) × (tokens ≡ front ++ rest) × (length front ≡ n)
    × IsReplyWithin protocol level front
BoundedResult protocol level tokens (Ok None) =
    ((left : List ℕ) → MatchesAtStart (IsReplyWithin protocol level) tokens left → ⊥)
    × IsWantingWithin protocol level tokens
BoundedResult protocol level tokens (Err invalid) =
    ((more left : List ℕ) → MatchesAtStart (IsReplyWithin protocol level) (tokens ++ more) left
    → ⊥) × IsRejectedWithin protocol level tokens invalid

-- ---- one step

abbrev pub Stopped : Type 0
Stopped = Result (Option (Bor (List ℕ))) Stop

-- the rest after the data of a string
abbrev pub IsStringPassed : Bulk → List ℕ → Stopped → Type 0
IsStringPassed bulk tokens (Ok (Some left)) =
    (bytes : Bor (List ℕ)) × First (StringText bulk) tokens bytes left.now
IsStringPassed bulk tokens (Ok None) = IsPartOfData bulk.size tokens
IsStringPassed bulk tokens (Err stop) =
    (stop.rest.now ≡ tokens) × (stop.reason ≡ Malformed) × IsNoString bulk tokens

-- the rest after a reply
abbrev pub IsPassed : Protocol → ℕ → List ℕ → Stopped → Type 0
IsPassed protocol level tokens (Ok (Some left)) =
    MatchesAtStart (IsReplyWithin protocol level) tokens left.now
IsPassed protocol level tokens (Ok None) = IsWantingWithin protocol level tokens
IsPassed protocol level tokens (Err stop) =
    (due : Option Bulk) × (below : ℕ) × LeadsTo protocol level tokens due below stop.rest.now
    × IsRejectedHere protocol due below stop.rest.now stop.reason

-- the rest after `n` replies
abbrev pub IsPassedEach : Protocol → ℕ → ℕ → List ℕ → Stopped → Type 0
IsPassedEach protocol level n tokens (Ok (Some left)) =
    AreAfter protocol level n tokens left.now
IsPassedEach protocol level n tokens stopped =
    (k : ℕ) × (between : List ℕ) × (k < n) × AreAfter protocol level k tokens between
    × IsPassed protocol level between stopped
