use Rattle.std.proofs.Common.{arith, inl, inr, refl}
use Rattle.format_json_pieces.proofs.Passing.{none_begun}
use Rattle.format_json_pieces.proofs.Read.{final_read, final_stands, none_in_gap, none_whole}
use Rattle.format_json_pieces.proofs.Read.{open_number}
use Rattle.format_json_pieces.proofs.value.value_in.Goals as goal
use Rattle.format_json_pieces.proofs.value.value_in.Goals.{then-not-cut-via-then-not-cut}
use Rattle.format_json_pieces.proofs.value.value_in.Goals.{
  then-not-cut-via-else-not-cut+then-has_gap,
}

pub returns-in-Ok-clause-value : goal.returns-in-Ok-clause-value
returns-in-Ok-clause-value g c =
    final_stands c.args.alloc c.args.level c.args.cut _ _ _ c.in-Some.ensures.found (omega arith)
    c.in-Ok.value _ (c.in-Ok.ensures.grammar.stands refl)

pub returns-in-Err-clause-none : goal.returns-in-Err-clause-none
returns-in-Err-clause-none g c =
    elim (c.in-Err.ensures.grammar.none refl) [
      | inl wants ↦ inl wants
      | inr (backtracks, none) ↦
          absurd (final_read c.args.alloc c.args.level c.args.cut _ _ _ c.in-Some.ensures.found
          (omega arith) none)
    ]

pub returns-then-not-cut-clause-none : goal.returns-then-not-cut-clause-none
returns-then-not-cut-clause-none g c =
    inr (inr (
      c.from_input.ensures,
      elim c.then-not-cut.branch [
        | then-not-cut-via-then-not-cut w ↦
            none_whole c.args.alloc c.args.level c.args.cut c.args.bytes.now w.if-not-cut.true
            c.in-None.ensures.none
        | then-not-cut-via-else-not-cut+then-has_gap w ↦ (λ more allowed.
            none_in_gap c.args.alloc c.args.level c.args.bytes.now
            (w.has_gap.ensures.0 w.if-has_gap.true) more)
      ],
    ))

pub returns-else-has_gap-clause-none : goal.returns-else-has_gap-clause-none
returns-else-has_gap-clause-none g c =
    elim c.lacking.ensures [
      | inl wants ↦ inl wants
      | inr (inl (asks, begun)) ↦ inr (inl (asks, c.if-not-cut.false))
      | inr (inr (backtracks, not)) ↦ inr (inr (
        backtracks,
        λ more allowed. none_begun c.args.level c.args.bytes.now not more,
      ))
    ]

pub returns-else-has_gap-clause-asks : goal.returns-else-has_gap-clause-asks
returns-else-has_gap-clause-asks g c asks v rest it =
    let (partial, nothing, are) =
    open_number c.args.alloc c.args.level c.args.bytes.now v rest it c.args.cut
    c.in-None.ensures.none in
    (nothing, are)
