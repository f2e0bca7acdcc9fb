use Rattle.std.proofs.Common.{◌≡◌, ◌++◌, ◌∷◌, [], length, ◌∙◌, arith, inl, inr}
use Rattle.std.proofs.lemmas.List.{drop_all}
use Rattle.std.proofs.lemmas.Bool.{cases_Bool}
use Rattle.std.specs.Result.{is_ok}
use Rattle.format_csv_records.proofs.Cuts.{cut_with_last_field, last_append, rises_end}
use Rattle.format_csv_records.proofs.record.ByteRecordFieldSink.end_field.Goals as goal
use Rattle.format_csv_records.proofs.record.ByteRecordFieldSink.end_field.Goals.{in-Ok, in-Err}

pub returns-clause-fields : goal.returns-clause-fields
returns-clause-fields g c = elim c.match-push.branch [
  | in-Ok w ↦
      let size : c.len-end.result ≡ length c.self.inside.bytes.items =
      c.len-end.ensures ∙ c.self.inside.bytes.ok.0 in
      let e : c.push.new.self.items
      ≡ c.self.inside.ends.items ++ (length c.self.inside.bytes.items ∷ []) =
      rw size at w.in-Ok.ensures.items in
      rw (w.result-is, ← c.self.view_is, e) (cut_with_last_field _ _ _ c.self.invariant)
  | in-Err w ↦ rw w.result-is tt
]

pub returns-clause-begun : goal.returns-clause-begun
returns-clause-begun g c = elim c.match-push.branch [
  | in-Ok w ↦
      let size : c.len-end.result ≡ length c.self.inside.bytes.items =
      c.len-end.ensures ∙ c.self.inside.bytes.ok.0 in
      let e : c.push.new.self.items
      ≡ c.self.inside.ends.items ++ (length c.self.inside.bytes.items ∷ []) =
      rw size at w.in-Ok.ensures.items in
      rw (w.result-is, e, last_append _ _ _) (drop_all _ c.self.inside.bytes.items (omega arith))
  | in-Err w ↦ rw w.result-is tt
]

pub invariant_of-self : goal.invariant_of-self
invariant_of-self g c = elim (cases_Bool (is_ok c.push.result)) [
  | inl good ↦
      let size : c.len-end.result ≡ length c.self.inside.bytes.items =
      c.len-end.ensures ∙ c.self.inside.bytes.ok.0 in
      let e : c.push.new.self.items
      ≡ c.self.inside.ends.items ++ (length c.self.inside.bytes.items ∷ []) =
      rw (good, size) at c.push.ensures.items in
      rw e (rises_end _ _ _ c.self.invariant)
  | inr bad ↦ rw (rw bad at c.push.ensures.items) c.self.invariant
]
