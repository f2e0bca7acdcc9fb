use Rattle.std.proofs.Common.{inl, inr}
use Rattle.format_dns.proofs.PartLaws.{fail_questions}
use Rattle.format_dns.proofs.question.read_questions.Goals as goal

pub returns-in-Err : goal.returns-in-Err
returns-in-Err g c = elim c.in-Err.ensures.1 [
  | inl (parts, place, rows, size, few, memory) ↦ inl memory
  | inr (lacks, none) ↦ inr (
    fail_questions c.args.message.now c.args.pointers c.args.place
        c.args.count _ _ lacks,
    none,
  )
]
