use Rattle.std.proofs.Common.{refl, rules}
use Rattle.format_json_extents.proofs.Scalars.{tail_escape, tail_escape_none, tail_stops}
use Rattle.format_json_extents.proofs.Scanning.{same_matches_refl}
use Rattle.format_json_extents.proofs.Unescaping.{tail_written, wrote_escape, wrote_nothing}
use Rattle.format_json_extents.proofs.Unescaping.{wrote_run}
use Rattle.format_json_extents.proofs.unescape.write_tail.Goals as goal

pub pieces-init : goal.pieces-init
pieces-init c = record { leads = same_matches_refl; wrote = wrote_nothing }

pub pieces-preserved : goal.pieces-preserved
pieces-preserved c = record {
  leads = tail_escape c.pieces.invariant.leads c.skip_unescaped-ahead.ensures
      c.in_ok-escape-in-None.ensures c.in_ok-rest-in-None.ensures;
  wrote = wrote_escape
      (wrote_run c.pieces.invariant.wrote c.skip_unescaped-ahead.ensures refl c.put.ensures)
      c.in_ok-escape-in-None.ensures c.in_ok-rest-in-None.ensures refl c.put_escape-count.ensures;
}

pub returns-in-Some : goal.returns-in-Some
returns-in-Some c =
    tail_written
    (wrote_run c.pieces.invariant.wrote c.skip_unescaped-ahead.ensures refl c.put.ensures)
    c.in-Some.ensures

pub returns-in_err-escape-in-None : goal.returns-in_err-escape-in-None
returns-in_err-escape-in-None c =
    let none = tail_stops c.pieces.invariant.leads c.skip_unescaped-ahead.ensures
    c.in_err-escape-in-None.ensures c.in-None.ensures in
    search rules

pub returns-in_err-rest-in-None : goal.returns-in_err-rest-in-None
returns-in_err-rest-in-None c =
    let none = tail_escape_none c.pieces.invariant.leads c.skip_unescaped-ahead.ensures
    c.in_ok-escape-in-None.ensures c.in_err-rest-in-None.ensures c.in-None.ensures in
    search rules
