-- The search for the end of a reply in partial input, over successive calls.
use Rattle.std.specs.Prelude.{◌≡◌, ◌+◌, ◌*◌, ◌++◌, true, false, ℕ, zero, suc, List}
use Rattle.std.specs.Prelude.{None, Ok, Err, Some}
use Rattle.format_resp.specs.Extents.{IsExtentOf, IsIncompleteIfNone, ReplyResult}
use Rattle.format_resp.specs.declared.extent.Extent.{Extent}
use Rattle.format_resp.specs.declared.extent.Reason.TheVariants.{Malformed, TooLarge}
use Rattle.format_resp.specs.declared.reply.Protocol.{Protocol}
use Rattle.exported.specs.Code.{done, incomplete, invalid, out_of_range}
use Rattle.exported.specs.Turns.{CallsFrom}
use Rattle.exported.specs.declared.resp.RespReplyState.{RespReplyState}

-- the extent that a state represents, by the number of the part expected next: 0 in the initial
-- state, 1 for a line, 2 for the bytes of a string, 3 for those of a verbatim string
abbrev pub extent_due : ℕ → RespReplyState → Extent
extent_due zero s = record { passed = 0; sought = 0; bulk = None; replies = 1 }
extent_due (suc zero) s = record {
  passed = s.passed;
  sought = s.sought;
  bulk = None;
  replies = s.low + 18446744073709551616 * s.high;
}
extent_due (suc (suc zero)) s = record {
  passed = s.passed;
  sought = s.sought;
  bulk = Some (record { size = s.bulk; verbatim = false });
  replies = s.low + 18446744073709551616 * s.high;
}
extent_due (suc (suc (suc n))) s = record {
  passed = s.passed;
  sought = s.sought;
  bulk = Some (record { size = s.bulk; verbatim = true });
  replies = s.low + 18446744073709551616 * s.high;
}

-- The extent that a state represents.
abbrev pub extent_of : RespReplyState → Extent
extent_of s = extent_due s.due s

-- the state of zeros
abbrev pub nothing : RespReplyState
nothing = record { due = 0; passed = 0; sought = 0; bulk = 0; low = 0; high = 0 }

-- `TellsEnd protocol bytes code count state`: the result of a call on `bytes`, by `code`. `done`:
-- for any continuation, the first `count` bytes are a reply. `incomplete`: there is no reply yet; a
-- line of it has not ended, or bytes of a string are missing. `invalid` and `out_of_range`: no
-- continuation starts with a reply; the part at `count` is rejected as malformed, or as too large.
-- In the first two cases `state` is a state of `bytes`, for any continuation.
pub record TellsEnd (protocol : Protocol) (bytes : List ℕ) (code count : ℕ)
    (state : RespReplyState) : Type 0 where
  pub ends : code ≡ done → ReplyResult protocol bytes (Ok (Some count))
  pub wants : code ≡ incomplete
      → ReplyResult protocol bytes (Ok None)
      × IsIncompleteIfNone protocol (extent_of state) bytes None
  pub never : code ≡ invalid
      → ReplyResult protocol bytes (Err (record { reason = Malformed; offset = count }))
  pub large : code ≡ out_of_range
      → ReplyResult protocol bytes (Err (record { reason = TooLarge; offset = count }))
  pub kept : (code ≡ invalid → ⊥) → (code ≡ out_of_range → ⊥) → (more : List ℕ)
      → IsExtentOf protocol (extent_of state) (bytes ++ more)

-- Successive calls that all return `incomplete`.
abbrev pub CallsInTurn : Protocol → RespReplyState → List ℕ → List (List ℕ) → RespReplyState
    → Type 0
CallsInTurn protocol state bytes pieces last =
    CallsFrom (λ s. IsExtentOf protocol (extent_of s)) (TellsEnd protocol) state bytes pieces last
