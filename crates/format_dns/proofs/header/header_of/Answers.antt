use Rattle.std.proofs.Common.{◌+◌, ◌*◌, arith, inl, inr, refl}
use Rattle.std.proofs.lemmas.Result.{err_from_is_err_and}
use Rattle.streams.specs.Input.{is_end_of_trans}
use Rattle.format_dns.proofs.HeaderRuns.{lacks_after, many_after}
use Rattle.format_dns.proofs.header.header_of.Goals as goal

pub returns-in_err-id-clause-ends : goal.returns-in_err-id-clause-ends
returns-in_err-id-clause-ends g c =
    c.in_err-id.ensures.ends

pub returns-in_err-id-clause-fails : goal.returns-in_err-id-clause-fails
returns-in_err-id-clause-fails g c =
    let (error, at, is) = err_from_is_err_and c.from_residual.result c.from_residual.ensures.1 in
    rw (at, is) (inl (0, 2, inr (refl, inl refl), c.in_err-id.ensures.fails))

pub returns-in_err-high-clause-ends : goal.returns-in_err-high-clause-ends
returns-in_err-high-clause-ends g c =
    is_end_of_trans c.in_err-high.ensures.ends c.in_ok-id.ensures.ends

pub returns-in_err-high-clause-fails : goal.returns-in_err-high-clause-fails
returns-in_err-high-clause-fails g c =
    let (error, at, is) =
    err_from_is_err_and c.from_residual-in_err-high.result
    c.from_residual-in_err-high.ensures.1 in
    rw (at, is) (elim c.in_err-high.ensures.fails [
      | inl lacks ↦ inl (
        2,
        1,
        inl (refl, inl refl),
        lacks_after 2 0 2 refl (omega (arith, c.in_ok-id.ensures.left)) lacks,
      )
      | inr many ↦ inr (
        2,
        inl (refl, inl refl),
        many_after 2 (omega (arith, c.in_ok-id.ensures.left)) many,
      )
    ])

pub returns-in_err-low-clause-ends : goal.returns-in_err-low-clause-ends
returns-in_err-low-clause-ends g c =
    is_end_of_trans (is_end_of_trans c.in_err-low.ensures.ends c.in_ok-high.ensures.ends)
    c.in_ok-id.ensures.ends

pub returns-in_err-low-clause-fails : goal.returns-in_err-low-clause-fails
returns-in_err-low-clause-fails g c =
    let (error, at, is) =
    err_from_is_err_and c.from_residual-in_err-low.result
    c.from_residual-in_err-low.ensures.1 in
    rw (at, is) (elim c.in_err-low.ensures.fails [
      | inl lacks ↦ inl (
        3,
        1,
        inl (refl, inr refl),
        lacks_after 3 0 3 refl
            (omega (arith, c.in_ok-id.ensures.left, c.in_ok-high.ensures.left)) lacks,
      )
      | inr many ↦ inr (
        3,
        inl (refl, inr refl),
        many_after 3 (omega (arith, c.in_ok-id.ensures.left, c.in_ok-high.ensures.left))
            many,
      )
    ])

pub returns-in_err-counts-clause-ends : goal.returns-in_err-counts-clause-ends
returns-in_err-counts-clause-ends g c =
    is_end_of_trans (is_end_of_trans
    (is_end_of_trans c.in_err-counts.ensures.ends c.in_ok-low.ensures.ends)
    c.in_ok-high.ensures.ends) c.in_ok-id.ensures.ends

pub returns-in_err-counts-clause-fails : goal.returns-in_err-counts-clause-fails
returns-in_err-counts-clause-fails g c =
    let (half, small, lacks) = c.in_err-counts.ensures.fails in
    let (error, at, is) =
    err_from_is_err_and c.from_residual-in_err-counts.result
    c.from_residual-in_err-counts.ensures.1 in
    rw (at, is) (inl (
      4 + 2 * half,
      2,
      inr (refl, inr (half, refl, small)),
      lacks_after 4 (2 * half) (4 + 2 * half) refl
          (omega (
            arith,
            c.in_ok-id.ensures.left,
            c.in_ok-high.ensures.left,
            c.in_ok-low.ensures.left,
          )) lacks,
    ))

pub returns-clause-ends : goal.returns-clause-ends
returns-clause-ends g c =
    is_end_of_trans (is_end_of_trans
    (is_end_of_trans c.in_ok-counts.ensures.ends c.in_ok-low.ensures.ends)
    c.in_ok-high.ensures.ends) c.in_ok-id.ensures.ends
