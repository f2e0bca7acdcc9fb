use Rattle.std.proofs.lemmas.Result.{IfErr-weaker, on_ok_weaker}
use Rattle.format_json_writer.proofs.Built.{adds_as}
use Rattle.format_json_writer.proofs.Laid.{value_within}
use Rattle.format_json_writer.proofs.Refusals.{refused_text}
use Rattle.format_json_writer.proofs.value.write_value_with.Goals as goal

pub returns-clause-text : goal.returns-clause-text
returns-clause-text g c =
    on_ok_weaker c.write_nested.result (adds_as (value_within c.args.layout c.args.level))
    c.write_nested.ensures.written

pub returns-clause-none : goal.returns-clause-none
returns-clause-none g c =
    IfErr-weaker c.write_nested.result _ _ (refused_text c.args.level c.args.value.now)
    c.write_nested.ensures.refused
