use Rattle.std.proofs.Common.{arith, refl}
use Rattle.exported.proofs.Replies.{elements_count}
use Rattle.exported.proofs.resp.places.list_at.Goals as goal

pub returns-clause-list : goal.returns-clause-list
returns-clause-list c elements rest (line, none, e) left =
    let behind = c.skip_line-behind.ensures.behind line _ none e in (
      record { is_kind = refl; is_number = refl; count = refl },
      c.first_of.ensures elements rest behind (omega (
        arith,
        elements_count elements rest _ c.args.left behind left,
        c.saturating_sub.ensures,
      )),
    )
