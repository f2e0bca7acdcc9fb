use Rattle.std.proofs.Common.{arith, ap, length, List, ℕ}
use Rattle.format_http_chunked.proofs.Taking.{field_more}
use Rattle.format_http_chunked.proofs.fields.pass_fields.Goals as goal

pub bytes-preserved : goal.bytes-preserved
bytes-preserved c =
    let (spent, (fields, e, passed)) = c.bytes.invariant in (
      omega (
        arith,
        spent,
        ap (λ (l : List ℕ). length l) c.in-Some.ensures.cases.0,
        c.in-Some-Some.ensures',
      ),
      field_more _ _ _ _ _ _ _ _ e passed c.in-Some.ensures.cases.0 c.in-Some-Some.ensures.some
          c.in-Some-Some.ensures.begins,
    )
