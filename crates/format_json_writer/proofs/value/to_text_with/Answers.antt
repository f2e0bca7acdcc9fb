use Rattle.format_json_writer.proofs.Built.{added_alone}
use Rattle.format_json_writer.proofs.Refusals.{err_satisfies}
use Rattle.format_json_writer.proofs.value.to_text_with.Goals as goal

pub returns-clause-written : goal.returns-clause-written
returns-clause-written g c =
    added_alone c.as_str-written.ensures.value c.as_str-written.utf8 c.new-text.ensures.bytes
    c.in_ok-write_value_with.ensures.written

pub returns-clause-text : goal.returns-clause-text
returns-clause-text g c =
    added_alone c.as_str-written.ensures.value c.as_str-written.utf8 c.new-text.ensures.bytes
    c.in_ok-write_value_with.ensures.text

pub returns-in_err-write_value_with-clause-refused :
    goal.returns-in_err-write_value_with-clause-refused
returns-in_err-write_value_with-clause-refused g c =
    err_satisfies _ c.from_residual.result _ c.from_residual.ensures.1
    c.in_err-write_value_with.ensures.refused

pub returns-in_err-write_value_with-clause-none : goal.returns-in_err-write_value_with-clause-none
returns-in_err-write_value_with-clause-none g c =
    err_satisfies _ c.from_residual.result _ c.from_residual.ensures.1
    c.in_err-write_value_with.ensures.none
