use Rattle.std.proofs.Common.{◌-◌, ◌≤◌, ◌<◌, drop, length}
use Rattle.std.specs.List.{All}
use Rattle.format_http.specs.Heads.Bytes.{IsWhite}
use Rattle.format_http_places.proofs.runs.bare.Given as goal

abbrev pub invariant-loop-end : goal.invariant-loop-end
invariant-loop-end l = record {
  least : l.offset ≤ l.end;
  most : l.end ≤ length l.text;
  some : l.offset < length l.text → l.offset < l.end;
  white : All IsWhite (drop l.end l.text);
}

abbrev pub decreases-loop-end : goal.decreases-loop-end
decreases-loop-end l = l.end - l.offset
