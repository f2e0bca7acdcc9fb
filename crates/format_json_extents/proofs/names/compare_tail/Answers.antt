use Rattle.std.proofs.Common.{refl, rules}
use Rattle.format_json_extents.proofs.Naming.{compared_escape, compared_nothing, compared_run}
use Rattle.format_json_extents.proofs.Naming.{tail_compared}
use Rattle.format_json_extents.proofs.Scalars.{tail_escape, tail_escape_none, tail_stops}
use Rattle.format_json_extents.proofs.Scanning.{same_matches_refl}
use Rattle.format_json_extents.proofs.names.compare_tail.Goals as goal

pub pieces-init : goal.pieces-init
pieces-init c = record { leads = same_matches_refl; compared = compared_nothing _ _ _ }

pub pieces-preserved : goal.pieces-preserved
pieces-preserved c = record {
  leads = tail_escape c.pieces.invariant.leads c.skip_unescaped-ahead.ensures
      c.in_ok-escape-in-None.ensures c.in_ok-rest-in-None.ensures;
  compared = compared_escape
      (compared_run c.pieces.invariant.compared c.skip_unescaped-ahead.ensures refl
      c.strip-plain.ensures) c.in_ok-escape-in-None.ensures c.in_ok-rest-in-None.ensures refl
      c.strip_escape-after.ensures;
}

pub returns-in-Some : goal.returns-in-Some
returns-in-Some c =
    tail_compared (compared_run c.pieces.invariant.compared c.skip_unescaped-ahead.ensures refl
    c.strip-plain.ensures) c.in-Some.ensures c.is_whole.ensures

pub returns-in_err-escape-in-None : goal.returns-in_err-escape-in-None
returns-in_err-escape-in-None c =
    let none = tail_stops c.pieces.invariant.leads c.skip_unescaped-ahead.ensures
    c.in_err-escape-in-None.ensures c.in-None.ensures in
    search rules

pub returns-in_err-rest-in-None : goal.returns-in_err-rest-in-None
returns-in_err-rest-in-None c =
    let none = tail_escape_none c.pieces.invariant.leads c.skip_unescaped-ahead.ensures
    c.in_ok-escape-in-None.ensures c.in_err-rest-in-None.ensures c.in-None.ensures in
    search rules
