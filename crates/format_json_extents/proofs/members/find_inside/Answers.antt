use Rattle.std.proofs.Common.{arith, false, inl, refl}
use Rattle.format_json_extents.proofs.Scanning.{refuted_by_test}
use Rattle.format_json_extents.proofs.Walks.{name_here, name_less, name_none, next_less, passes_end}
use Rattle.format_json_extents.specs.Members.{passes_none}
use Rattle.format_json_extents.proofs.members.find_inside.Goals as goal

pub members-init : goal.members-init
members-init c = record { passes = passes_none _ _ refl; within = omega (arith) }

pub members-preserved : goal.members-preserved
members-preserved c =
    let name = name_here false c.skip_separator.ensures c.in-Some.ensures c.if-found.false in
    let next = c.in-Some-read_next.ensures.found in
    record {
      passes = passes_end _ _ _ _ _ _ _ c.members.invariant.passes name next;
      within = omega (arith, c.members.invariant.within, name_less name, next_less next);
    }

pub returns-in-None-clause-search : goal.returns-in-None-clause-search
returns-in-None-clause-search c = (
  c.members.invariant.passes,
  refuted_by_test c.is_end.ensures c.if-is_end.false,
  inl (name_none c.skip_separator.ensures c.in-None.ensures),
)
