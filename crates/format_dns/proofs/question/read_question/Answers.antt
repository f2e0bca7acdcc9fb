use Rattle.std.proofs.Common.{inr}
use Rattle.format_dns.proofs.PartLaws.{no_question, part_err}
use Rattle.format_dns.specs.Questions.{HasNoQuestion, IsQuestion}
use Rattle.format_dns.proofs.question.read_question.Goals as goal

pub returns-in_err-asked : goal.returns-in_err-asked
returns-in_err-asked g c =
    let fails = inr (
      c.in_ok-name.name.labels.items,
      c.in_ok-name.name.behind,
      c.in_ok-name.ensures,
      c.in_err-asked.ensures.0,
      c.in_err-asked.ensures.1,
    ) in
    part_err (IsQuestion c.args.message.now c.args.pointers c.args.place)
    (HasNoQuestion c.args.message.now c.args.pointers c.args.place)
    c.from_residual-in_err-asked.result c.from_residual-in_err-asked.ensures.1
    (inr (
      fails,
      λ question. no_question c.args.message.now c.args.pointers c.args.place _ question
          fails,
    ))
