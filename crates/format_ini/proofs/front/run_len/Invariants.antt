use Rattle.std.proofs.Common.{take}
use Rattle.std.specs.List.{All}
use Rattle.format_ini.specs.Front.{IsStop}
use Rattle.format_ini.proofs.front.run_len.Given as goal

abbrev pub invariant-loop-place : goal.invariant-loop-place
invariant-loop-place l = All (λ b. IsStop l.stop b → ⊥) (take l.place l.bytes)
