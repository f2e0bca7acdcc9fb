use Rattle.std.proofs.Common.{arith, refl}
use Rattle.std.proofs.lemmas.Result.{err_from_is_err_and}
use Rattle.streams.specs.Input.{is_end_of_trans}
use Rattle.format_dns.proofs.HeaderRuns.{lacks_after}
use Rattle.format_dns.proofs.header.counts.Goals as goal

pub returns-in_err-question_count-clause-ends : goal.returns-in_err-question_count-clause-ends
returns-in_err-question_count-clause-ends g c =
    c.in_err-question_count.ensures.ends

pub returns-in_err-question_count-clause-fails : goal.returns-in_err-question_count-clause-fails
returns-in_err-question_count-clause-fails g c =
    let (error, at, is) = err_from_is_err_and c.from_residual.result c.from_residual.ensures.1 in
    rw (at, is) (
      0,
      omega arith,
      lacks_after 0 0 0 refl (omega arith) c.in_err-question_count.ensures.fails,
    )

pub returns-in_err-answer_count-clause-ends : goal.returns-in_err-answer_count-clause-ends
returns-in_err-answer_count-clause-ends g c =
    is_end_of_trans c.in_err-answer_count.ensures.ends c.in_ok-question_count.ensures.ends

pub returns-in_err-answer_count-clause-fails : goal.returns-in_err-answer_count-clause-fails
returns-in_err-answer_count-clause-fails g c =
    let (error, at, is) =
    err_from_is_err_and c.from_residual-in_err-answer_count.result
    c.from_residual-in_err-answer_count.ensures.1 in
    rw (at, is) (
      1,
      omega arith,
      lacks_after 2 0 2 refl (omega (arith, c.in_ok-question_count.ensures.left))
          c.in_err-answer_count.ensures.fails,
    )

pub returns-in_err-authority_count-clause-ends : goal.returns-in_err-authority_count-clause-ends
returns-in_err-authority_count-clause-ends g c =
    is_end_of_trans (is_end_of_trans c.in_err-authority_count.ensures.ends
    c.in_ok-answer_count.ensures.ends) c.in_ok-question_count.ensures.ends

pub returns-in_err-authority_count-clause-fails : goal.returns-in_err-authority_count-clause-fails
returns-in_err-authority_count-clause-fails g c =
    let (error, at, is) =
    err_from_is_err_and c.from_residual-in_err-authority_count.result
    c.from_residual-in_err-authority_count.ensures.1 in
    rw (at, is) (
      2,
      omega arith,
      lacks_after 4 0 4 refl
          (omega (
            arith,
            c.in_ok-question_count.ensures.left,
            c.in_ok-answer_count.ensures.left,
          )) c.in_err-authority_count.ensures.fails,
    )

pub returns-in_err-additional_count-clause-ends : goal.returns-in_err-additional_count-clause-ends
returns-in_err-additional_count-clause-ends g c =
    is_end_of_trans (is_end_of_trans
    (is_end_of_trans c.in_err-additional_count.ensures.ends
    c.in_ok-authority_count.ensures.ends) c.in_ok-answer_count.ensures.ends)
    c.in_ok-question_count.ensures.ends

pub returns-in_err-additional_count-clause-fails : goal.returns-in_err-additional_count-clause-fails
returns-in_err-additional_count-clause-fails g c =
    let (error, at, is) =
    err_from_is_err_and c.from_residual-in_err-additional_count.result
    c.from_residual-in_err-additional_count.ensures.1 in
    rw (at, is) (
      3,
      omega arith,
      lacks_after 6 0 6 refl
          (omega (
            arith,
            c.in_ok-question_count.ensures.left,
            c.in_ok-answer_count.ensures.left,
            c.in_ok-authority_count.ensures.left,
          ))
          c.in_err-additional_count.ensures.fails,
    )

pub returns-clause-ends : goal.returns-clause-ends
returns-clause-ends g c =
    is_end_of_trans (is_end_of_trans
    (is_end_of_trans c.in_ok-additional_count.ensures.ends
    c.in_ok-authority_count.ensures.ends) c.in_ok-answer_count.ensures.ends)
    c.in_ok-question_count.ensures.ends
