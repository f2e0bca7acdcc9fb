use Rattle.std.proofs.Common.{◌≡◌, ◌≤◌, ◌++◌, drop, vec_capacity}
use Rattle.format_resp.specs.Written.{IsPrefixOf, bulks_of}
use Rattle.format_resp.proofs.write.write_bulks.Given as goal

-- the parts appended and those that remain are all parts
abbrev pub invariant-loop-part : goal.invariant-loop-part
invariant-loop-part g l = record {
  told : l.into.items ++ bulks_of (drop l.part-index l.parts)
      ≡ l.initial.into.items ++ bulks_of l.parts;
  kept : IsPrefixOf l.initial.into.items l.into.items;
  room : vec_capacity l.initial.into ≤ vec_capacity l.into;
}
