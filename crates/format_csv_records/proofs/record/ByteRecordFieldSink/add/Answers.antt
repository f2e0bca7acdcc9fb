use Rattle.std.proofs.Common.{arith, inl, inr, refl}
use Rattle.std.proofs.Common.{length-append}
use Rattle.std.proofs.lemmas.Bool.{cases_Bool}
use Rattle.std.specs.Result.{is_ok}
use Rattle.format_csv_records.proofs.Cuts.{begun_more, cut_ignores_more_bytes, rises_last}
use Rattle.format_csv_records.proofs.Cuts.{rises_more}
use Rattle.format_csv_records.proofs.record.ByteRecordFieldSink.add.Goals as goal

pub returns-clause-fields : goal.returns-clause-fields
returns-clause-fields g c = elim (cases_Bool (is_ok c.extend_from_slice.result)) [
  | inl good ↦ rw (← c.self.view_is, rw good at c.extend_from_slice.ensures.items)
      (cut_ignores_more_bytes _ _ _ _ c.self.invariant)
  | inr bad ↦ rw (← c.self.view_is, rw bad at c.extend_from_slice.ensures.items) refl
]

pub returns-clause-begun : goal.returns-clause-begun
returns-clause-begun g c = rw (← c.self.view_is) (begun_more _ _ _ _ _
    c.extend_from_slice.ensures.items (rises_last _ _ _ c.self.invariant))

pub invariant_of-self : goal.invariant_of-self
invariant_of-self g c = elim (cases_Bool (is_ok c.extend_from_slice.result)) [
  | inl good ↦ rw (rw good at c.extend_from_slice.ensures.items)
      (rises_more _ _ _ _ c.self.invariant (omega (
        arith,
        length-append c.self.inside.bytes.items
            c.args.bytes.now,
      )))
  | inr bad ↦ rw (rw bad at c.extend_from_slice.ensures.items) c.self.invariant
]
