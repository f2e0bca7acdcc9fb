use Rattle.std.proofs.Common.{◌≤◌, ◌+◌, ◌*◌, ℕ, List, drop, vec_capacity}
use Rattle.grammars.specs.Texts.{EachText}
use Rattle.format_resp.proofs.Rooms.{LacksFor}
use Rattle.format_resp.specs.Resp.{WrittenText}
use Rattle.format_resp.specs.Written.{Appends, IsPrefixOf}
use Rattle.format_resp.proofs.write.+write.Given as goal

-- an aggregate calls elements at a smaller depth, and these call replies at theirs
abbrev pub decreases-write_elements : goal.decreases-write_elements
decreases-write_elements g l = 3 * l.level + 3

abbrev pub decreases-write_nested : goal.decreases-write_nested
decreases-write_nested g l = 3 * l.level + 2

abbrev pub decreases-write_list : goal.decreases-write_list
decreases-write_list g l = 3 * l.level + 1

-- what ends the replies from here ends them from the first on, and for what has no room from here
-- there was none from the first on
abbrev pub invariant-write_elements-loop-reply : goal.invariant-write_elements-loop-reply
invariant-write_elements-loop-reply g l = record {
  ends : (after : List ℕ)
      → Appends (EachText (WrittenText l.protocol l.level)) (drop l.reply-index l.replies)
      l.into.items after
      → Appends (EachText (WrittenText l.protocol l.level)) l.replies l.initial.into.items after;
  kept : IsPrefixOf l.initial.into.items l.into.items;
  room : vec_capacity l.initial.into ≤ vec_capacity l.into;
  lacks : LacksFor (EachText (WrittenText l.protocol l.level)) (drop l.reply-index l.replies) l.into
      → LacksFor (EachText (WrittenText l.protocol l.level)) l.replies l.initial.into;
}
