use Rattle.std.proofs.Common.{IsTrue, false, inl, inr}
use Rattle.format_http_places.proofs.Trimmed.{bare_is}
use Rattle.format_http_places.proofs.runs.bare.Goals as goal
use Rattle.format_http_places.proofs.runs.bare.Goals.{else-loop-end-test}
use Rattle.format_http_places.proofs.runs.bare.Goals.{then-loop-end-test+else-is_white}

pub returns : goal.returns
returns c =
    let it = c.loop-end.invariant in
    bare_is c.args.text.now c.white_len-offset.result c.loop-end.end c.white_len-offset.ensures
    it.least it.most it.some it.white (elim c.loop-end-test.branch [
      | then-loop-end-test+else-is_white w ↦ inr (λ is.
          let never : IsTrue false = w.if-is_white.ensures.1 is in cc)
      | else-loop-end-test w ↦ inl w.loop-end-test.false
    ])
