use Rattle.std.proofs.Common.{◌∙◌, inl, inr, sym}
use Rattle.std.proofs.lemmas.Bool.{true≢false}
use Rattle.exported.proofs.JsonDiagnostics.{not_depth, not_done}
use Rattle.exported.proofs.json.diagnostic.exported_json_diagnose.Goals as goal

pub returns-clause-standard : goal.returns-clause-standard
returns-clause-standard c small = (
  λ is. absurd (not_done _ c.write_error.ensures.codes is),
  λ text. absurd (true≢false (sym (c.is_text.ensures.1 text) ∙ c.if-is_text.false)),
)

pub returns-clause-error : goal.returns-clause-error
returns-clause-error c =
    inr (inr (record {
      error = c.error_of.result;
      is_error = c.error_of.ensures;
      is_code = c.write_error.ensures.code;
      is_shown = c.write_error.ensures.shown;
    }))

pub returns-clause-none : goal.returns-clause-none
returns-clause-none c it = elim it [
  | inl is ↦ absurd (not_done _ c.write_error.ensures.codes is)
  | inr (inl is) ↦ absurd (not_depth _ c.write_error.ensures.codes is)
  | inr (inr is) ↦ c.write_error.ensures.none is
]
