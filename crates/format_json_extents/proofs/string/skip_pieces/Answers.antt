use Rattle.std.proofs.Common.{rules}
use Rattle.format_json_extents.proofs.Scalars.{escape_less, tail_ahead, tail_ends, tail_escape}
use Rattle.format_json_extents.proofs.Scalars.{tail_escape_none, tail_stops}
use Rattle.format_json_extents.proofs.Scanning.{same_matches_refl, same_matches_rest}
use Rattle.format_json_extents.proofs.string.skip_pieces.Goals as goal

pub pieces-init : goal.pieces-init
pieces-init c = same_matches_refl

pub pieces-preserved : goal.pieces-preserved
pieces-preserved c =
    tail_escape c.pieces.invariant c.skip_unescaped-ahead.ensures c.in_ok-escape-in-None.ensures
    c.in_ok-rest-in-None.ensures

pub pieces-smaller : goal.pieces-smaller
pieces-smaller c =
    escape_less c.skip_unescaped-ahead.ensures c.in_ok-escape-in-None.ensures
    c.in_ok-rest-in-None.ensures

pub returns-in-Some : goal.returns-in-Some
returns-in-Some c =
    same_matches_rest (tail_ahead c.pieces.invariant c.skip_unescaped-ahead.ensures)
    (tail_ends c.in-Some.ensures)

pub returns-in_err-escape-in-None : goal.returns-in_err-escape-in-None
returns-in_err-escape-in-None c =
    let none = tail_stops c.pieces.invariant c.skip_unescaped-ahead.ensures
    c.in_err-escape-in-None.ensures c.in-None.ensures in
    search rules

pub returns-in_err-rest-in-None : goal.returns-in_err-rest-in-None
returns-in_err-rest-in-None c =
    let none = tail_escape_none c.pieces.invariant c.skip_unescaped-ahead.ensures
    c.in_ok-escape-in-None.ensures c.in_err-rest-in-None.ensures c.in-None.ensures in
    search rules
