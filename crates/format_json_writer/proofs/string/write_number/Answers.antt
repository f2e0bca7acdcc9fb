use Rattle.std.proofs.lemmas.Result.{on_ok_weaker}
use Rattle.format_json_writer.proofs.Pushed.{number_pushed, where_ok}
use Rattle.format_json_writer.proofs.string.write_number.Goals as goal

pub returns-clause-written : goal.returns-clause-written
returns-clause-written g c =
    on_ok_weaker c.push-2.result
    (number_pushed c.args.c c.hex_digit.result c.hex_digit-2.result c.requires.control
    c.requires.bare c.hex_digit.ensures c.hex_digit-2.ensures c.in_ok-push_str.ensures.bytes
    c.in_ok-push.ensures.bytes) (where_ok _ _ _ c.push-2.result c.push-2.ensures.bytes)
