use Rattle.std.proofs.Common.{◌≡◌, ◌++◌, take}
use Rattle.format_http_places.proofs.stop.read_text.Given as goal

abbrev pub invariant-loop-byte : goal.invariant-loop-byte
invariant-loop-byte l = l.bytes ≡ take l.byte-index l.text ++ l.rest
