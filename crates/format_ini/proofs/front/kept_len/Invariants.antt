use Rattle.std.proofs.Common.{◌≡◌, take, true, false}
use Rattle.format_ini.specs.Front.{MayStartComment, NoComment}
use Rattle.format_ini.proofs.front.kept_len.Given as goal

abbrev pub invariant-loop-place : goal.invariant-loop-place
invariant-loop-place l = record {
  none : NoComment l.marks (take l.place l.line);
  opened : l.may_open ≡ true → MayStartComment (take l.place l.line);
  closed : l.may_open ≡ false → MayStartComment (take l.place l.line) → ⊥;
}
