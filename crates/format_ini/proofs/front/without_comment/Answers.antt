use Rattle.std.proofs.Common.{sym, subst, arith, ℕ, List}
use Rattle.format_ini.specs.Front.{IsWithoutComment}
use Rattle.format_ini.proofs.Runs.{kept_part}
use Rattle.format_ini.proofs.front.without_comment.Goals as goal

pub returns-then-size-line : goal.returns-then-size-line
returns-then-size-line c =
    let P : List ℕ → Type 0 = λ l. IsWithoutComment c.args.marks c.args.line.now l in
    let h = rw c.as_bytes.ensures.value at c.kept_len-size.ensures in
    subst P (sym c.around.ensures.before) (kept_part _ _ _ h (omega arith))
