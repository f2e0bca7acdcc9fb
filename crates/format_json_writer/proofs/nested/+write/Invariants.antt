use Rattle.std.proofs.Common.{◌+◌, ◌*◌, ℕ, List, drop, string_bytes}
use Rattle.format_json_writer.specs.Added.{Appends, IsPrefixOf}
use Rattle.format_json_writer.proofs.Built.{CommaPrefixed}
use Rattle.format_json_writer.specs.Layout.{LaidMember, LaidValue}
use Rattle.format_json_writer.proofs.nested.+write.Given as goal

-- Measure: the values of an array or an object have one level less.
abbrev pub decreases-write_items : goal.decreases-write_items
decreases-write_items g l = 4 * l.level + 5

abbrev pub decreases-write_members : goal.decreases-write_members
decreases-write_members g l = 4 * l.level + 5

abbrev pub decreases-write_member : goal.decreases-write_member
decreases-write_member g l = 4 * l.level + 4

abbrev pub decreases-write_nested : goal.decreases-write_nested
decreases-write_nested g l = 4 * l.level + 3

abbrev pub decreases-write_array : goal.decreases-write_array
decreases-write_array g l = 4 * l.level + 2

abbrev pub decreases-write_object : goal.decreases-write_object
decreases-write_object g l = 4 * l.level + 2

-- what ends the values from here ends them from the second on
abbrev pub invariant-write_items-loop-item : goal.invariant-write_items-loop-item
invariant-write_items-loop-item g l = record {
  ends : (after : List ℕ)
      → Appends (CommaPrefixed l.layout (LaidValue l.layout l.level)) (drop l.item-index l.rest)
      (string_bytes l.into) after
      → Appends (CommaPrefixed l.layout (LaidValue l.layout l.level)) l.rest
      (string_bytes l.initial.into) after;
  kept : IsPrefixOf (string_bytes l.initial.into) (string_bytes l.into);
}

-- and so with members
abbrev pub invariant-write_members-loop-member : goal.invariant-write_members-loop-member
invariant-write_members-loop-member g l = record {
  ends : (after : List ℕ)
      → Appends (CommaPrefixed l.layout (LaidMember l.layout (LaidValue l.layout l.level)))
      (drop l.member-index l.rest) (string_bytes l.into) after
      → Appends (CommaPrefixed l.layout (LaidMember l.layout (LaidValue l.layout l.level))) l.rest
      (string_bytes l.initial.into) after;
  kept : IsPrefixOf (string_bytes l.initial.into) (string_bytes l.into);
}
