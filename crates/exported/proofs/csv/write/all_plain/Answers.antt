use Rattle.std.proofs.Common.{List, arith, subst, ℕ}
use Rattle.std.proofs.lemmas.List.{take_all}
use Rattle.std.specs.List.{All}
use Rattle.format_csv_records.specs.Dialects.{IsPlain}
use Rattle.exported.proofs.csv.write.all_plain.Goals as goal

pub returns : goal.returns
returns c =
    let P : List ℕ → Type 0 = λ l. All (IsPlain c.args.dialect) l in
    subst P (take_all _ _ (omega (arith, c.loop-place-test.false))) c.loop-place.invariant
