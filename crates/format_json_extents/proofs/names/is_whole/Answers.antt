use Rattle.std.proofs.Common.{sym}
use Rattle.std.proofs.lemmas.Bool.{true≢false}
use Rattle.format_json_extents.proofs.Naming.{is_over, not_over, not_same}
use Rattle.format_json_extents.proofs.names.is_whole.Goals as goal

pub returns-in-Some : goal.returns-in-Some
returns-in-Some c = λ whole meant from. (
  λ e. absurd (true≢false (sym e)),
  λ e is. not_over _ c.args.same c.in-Some.ensures from is,
)

pub returns-in-None : goal.returns-in-None
returns-in-None c = λ whole meant from.
    (λ e. is_over from c.in-None.ensures e, λ e is. not_same from e is)
