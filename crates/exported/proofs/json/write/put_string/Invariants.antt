-- Loop invariant: the bytes so far are written.
use Rattle.std.proofs.Common.{◌∷◌, take}
use Rattle.exported.specs.JsonWrite.{content_of}
use Rattle.exported.specs.Output.{Puts}
use Rattle.exported.proofs.json.write.put_string.Given as goal

abbrev pub invariant-loop-place : goal.invariant-loop-place
invariant-loop-place l = Puts (34 ∷ content_of (take l.place l.bytes)) 0 l.fn.buffer l.end l.buffer
