use Rattle.std.proofs.Common.{refl, sym, inl, inr, arith, ◌∙◌, ◌∷◌, []}
use Rattle.std.proofs.Common.{length-append}
use Rattle.format_dns.proofs.Laws.{pushed_is_append}
use Rattle.format_dns.proofs.PartLaws.{lacking_is_no_questions, rows_push}
use Rattle.format_dns.specs.Questions.{IsQuestion, QuestionsLack}
use Rattle.format_dns.proofs.question.questions_in.Goals as goal

pub loop-alloc-init : goal.loop-alloc-init
loop-alloc-init g c = rw (c.new-list.ensures.items) (refl, omega arith)

pub returns-in-Err : goal.returns-in-Err
returns-in-Err g c = elim c.in-Err.ensures [
  | inl memory ↦ (
    refl,
    inl (
      c.loop-alloc.list.items,
      c.loop-alloc.behind,
      c.loop-alloc.invariant.0,
      omega (arith, c.len-entry.ensures),
      omega (arith, c.loop-alloc-test.true, c.len.ensures, c.len-entry.ensures, c.from.ensures),
      memory,
    ),
  )
  | inr (fails, none) ↦
      let all : QuestionsLack c.args.message.now c.args.pointers g.row.A.Denot c.args.place
      c.args.count c.len-entry.result c.in-Err.why = (
        c.loop-alloc.list.items,
        c.loop-alloc.behind,
        c.loop-alloc.invariant.0,
        omega (arith, c.len-entry.ensures),
        omega (arith, c.loop-alloc-test.true, c.len.ensures, c.len-entry.ensures, c.from.ensures),
        fails,
      ) in (
        refl,
        inr (
          all,
          λ questions. lacking_is_no_questions c.args.message.now c.args.pointers c.args.place
              c.args.count
              c.len-entry.result c.in-Err.why questions all,
        ),
      )
]

pub returns-then-is_err : goal.returns-then-is_err
returns-then-is_err g c = (
  refl,
  inl (
    c.loop-alloc.list.items,
    c.loop-alloc.behind,
    c.loop-alloc.invariant.0,
    omega (arith, c.len-entry.ensures),
    omega (arith, c.loop-alloc-test.true, c.len.ensures, c.len-entry.ensures, c.from.ensures),
    refl,
  ),
)

pub loop-alloc-preserved : goal.loop-alloc-preserved
loop-alloc-preserved g c =
    let put = pushed_is_append c.loop-alloc.list.items (c.in-Ok.question ∷ []) c.push.result
    c.push.ensures.items (sym c.is_err.ensures.value ∙ c.if-is_err.false) in
    rw (put) (
      rows_push (λ place question. IsQuestion c.args.message.now c.args.pointers place question)
          (λ question. question.behind) c.loop-alloc.list.items c.args.place c.loop-alloc.behind
          c.in-Ok.question c.loop-alloc.invariant.0 c.in-Ok.ensures,
      omega (
        arith,
        length-append c.loop-alloc.list.items (c.in-Ok.question ∷ []),
        c.loop-alloc-test.true,
        c.len.ensures,
        c.from.ensures,
      ),
    )

pub returns : goal.returns
returns g c = (
  c.loop-alloc.invariant.0,
  omega (
    arith,
    c.loop-alloc.invariant.1,
    c.loop-alloc-test.false,
    c.len.ensures,
    c.from.ensures,
  ),
)
