use Rattle.std.proofs.Common.{rules}
use Rattle.std.proofs.lemmas.Result.{on_ok_weaker}
use Rattle.format_json_writer.proofs.Built.{false_word, null_word, true_word}
use Rattle.format_json_writer.proofs.nested.write_word.Goals as goal

pub returns-in-None-clause-written : goal.returns-in-None-clause-written
returns-in-None-clause-written g c =
    on_ok_weaker c.put.result (null_word c.in-None.is) c.put.ensures.written

pub returns-in-Some-true-clause-written : goal.returns-in-Some-true-clause-written
returns-in-Some-true-clause-written g c =
    on_ok_weaker c.put-in-Some-true.result (true_word (search rules))
    c.put-in-Some-true.ensures.written

pub returns-in-Some-false-clause-written : goal.returns-in-Some-false-clause-written
returns-in-Some-false-clause-written g c =
    on_ok_weaker c.put-in-Some-false.result (false_word (search rules))
    c.put-in-Some-false.ensures.written
