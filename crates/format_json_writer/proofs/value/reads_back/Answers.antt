use Rattle.std.proofs.Common.{sym, ◌∙◌}
use Rattle.streams.specs.Equal.{true_is_false}
use Rattle.format_json_writer.proofs.Back.{read_alike, read_wants}
use Rattle.format_json_writer.proofs.Refusals.{err_satisfies}
use Rattle.format_json_writer.proofs.value.reads_back.Goals as goal

pub returns-clause-alike : goal.returns-clause-alike
returns-clause-alike g c =
    read_alike c.args.level c.args.value.now _ c.as_str.ensures.value c.in_ok-text.ensures.text
    c.in-Ok.ensures.text

pub unreachable-requires : goal.unreachable-requires
unreachable-requires g c =
    let want = read_wants c.args.level c.args.value.now _ c.as_str.ensures.value
    c.in_ok-text.ensures.text c.in-Err.ensures.text in
    true_is_false (sym (c.is_out_of_memory.ensures.0 want) ∙ c.if-is_out_of_memory.false)

pub returns-in_err-text-clause-refused : goal.returns-in_err-text-clause-refused
returns-in_err-text-clause-refused g c =
    err_satisfies _ c.from_residual.result _ c.from_residual.ensures.1 c.in_err-text.ensures.refused
