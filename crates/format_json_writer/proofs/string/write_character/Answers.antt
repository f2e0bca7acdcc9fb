use Rattle.std.proofs.Common.{arith}
use Rattle.std.proofs.lemmas.Result.{on_ok_weaker}
use Rattle.format_json_writer.proofs.Pushed.{escape_pushed, plain_pushed, where_ok}
use Rattle.format_json_writer.proofs.string.write_character.Goals as goal

pub returns-in-Some-clause-written : goal.returns-in-Some-clause-written
returns-in-Some-clause-written g c =
    on_ok_weaker c.push-in-Some.result
    (escape_pushed c.args.c c.in-Some.escape c.in-Some.ensures c.in_ok-push.ensures.bytes)
    (where_ok _ _ _ c.push-in-Some.result c.push-in-Some.ensures.bytes)

pub returns-clause-written : goal.returns-clause-written
returns-clause-written g c =
    on_ok_weaker c.push-2.result
    (plain_pushed c.args.c c.if-c-lt32.false (omega (arith, c.ranges.c)) c.in_default.ensures)
    (where_ok _ _ _ c.push-2.result c.push-2.ensures.bytes)
